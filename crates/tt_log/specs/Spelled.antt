-- What is said has a spelling: each field of a message is in the range that its row gives. So the packet that is sent spells
-- the message, who reads the packet reads the message again, and the packet is a small one.
use Rattle.std.specs.Prelude.{◌≡◌, ◌≤◌, List, length, Some}
use Rattle.std.specs.List.{AllByRecursion}
use Rattle.tt_game.specs.Apart as games
use Rattle.tt_game.specs.Messages as games_rows
use Rattle.tt_admin.specs.Apart as admins
use Rattle.tt_admin.specs.Messages as admin_rows
use Rattle.tt_log.specs.Deed.{Said, game, admin, spelled}
use Rattle.tt_log.specs.Desk.{read_admin}
use Rattle.tt_log.specs.Events.{read_msg}

-- what is sent of it spells it
abbrev pub IsSpelled : Said → Type 0
IsSpelled (game m) = games_rows.Spells m (games.kind_of m) (games.body_bytes m)
IsSpelled (admin m) = admin_rows.Spells m (admins.kind_of m) (admins.body_bytes m)

abbrev pub AreSpelled : List Said → Type 0
AreSpelled said = AllByRecursion IsSpelled said

-- who reads it reads the same message
abbrev pub IsReadAgain : Said → Type 0
IsReadAgain (game m) = read_msg (games.kind_of m) (games.body_bytes m) ≡ Some m
IsReadAgain (admin m) = read_admin (admins.kind_of m) (admins.body_bytes m) ≡ Some m

-- its packet has at most 1,460 bytes
abbrev pub IsSmall : Said → Type 0
IsSmall said = length (spelled said) ≤ 1460
