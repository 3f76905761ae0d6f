-- What a plan tells, and how the book of a game says it: the book names each connection, a plan speaks of those that watch.
use Rattle.std.specs.Prelude.{ℕ, List, [], ◌∷◌, ◌++◌, map, filter}
use Rattle.tt_game.specs.declared.message.GameMsg.{GameMsg}
use Rattle.tt_admin.specs.declared.message.AdminMsg.{AdminMsg}
use Rattle.tt_world.specs.declared.command.Entry.{Entry}
use Rattle.tt_log.specs.declared.deed.What.{What}
use Rattle.tt_log.specs.declared.deed.What.TheVariants.{Msg, ToAdmin, Stamp}
use Rattle.tt_log.specs.declared.report.Report.TheVariants.{Message}
use Rattle.tt_log.specs.declared.deed.Step as book
use Rattle.tt_log.specs.Admin.{Admin, is_automatic}
use Rattle.tt_members.specs.declared.step.Audience.{Audience}
use Rattle.tt_members.specs.declared.step.Audience.TheVariants.{One, Several, Watching}
use Rattle.tt_members.specs.declared.step.Step.{Step}

-- the admins that are told a type of updates at once
abbrev pub watching : ℕ → List Admin → List ℕ
watching kind admins = map (λ a. a.conn) (filter (is_automatic kind) admins)

-- the connections of an audience, where these admins are there
abbrev pub conns_of : List Admin → Audience → List ℕ
conns_of admins (One conn) = conn ∷ []
conns_of admins (Several conns) = conns
conns_of admins (Watching kind) = watching kind admins

abbrev pub step_in : List Admin → Step → book.Step
step_in admins s = record { to = conns_of admins s.to; what = s.what }

-- what a plan tells, as the book of a game says it
abbrev pub steps_in : List Admin → List Step → List book.Step
steps_in admins steps = map (step_in admins) steps

-- ---- words for steps

abbrev pub says : Audience → What → Step
says to what = record { to = to; what = what }

abbrev pub says_one : ℕ → GameMsg → Step
says_one conn m = says (One conn) (Msg m)

abbrev pub says_several : List ℕ → GameMsg → Step
says_several conns m = says (Several conns) (Msg m)

-- the admins that watch a type of updates are told a message
abbrev pub shows : ℕ → AdminMsg → Step
shows kind m = says (Watching kind) (ToAdmin (Message m))

-- ---- the entries that a plan stamps

abbrev pub stamp_of : What → List Entry
stamp_of (Stamp e) = e ∷ []
stamp_of other = []

abbrev pub stamped_in : List Step → List Entry
stamped_in [] = []
stamped_in (s ∷ steps) = stamp_of s.what ++ stamped_in steps
