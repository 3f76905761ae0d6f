-- The words in which games of admins are told, beside those of players.
use Rattle.std.specs.Prelude.{ℕ, ◌-◌, false, List, [], ◌∷◌, ◌++◌, codes, replicate}
use Rattle.std.specs.Int.{w16, w32, to_le_bytes}
use Rattle.tt_edge.specs.declared.event.Door.TheVariants.{Side}
use Rattle.tt_edge.specs.declared.event.Event.{Event}
use Rattle.tt_edge.specs.declared.event.Event.TheVariants.{Open, Packet, Tick}
use Rattle.tt_world.specs.Setup.{plain}
use Rattle.tt_log.specs.Origin.{Origin}
use Rattle.tt_rows.specs.Words.{acknowledges, asks_for_map, founded_from, has_loaded, hex, made_from, with_companies, world}

-- ---- games

-- a game in which admins join by the password pw
abbrev pub admin_game : Origin
admin_game = made_from (record plain { admin_password = codes "pw" })

-- the same, from a world with so many companies
abbrev pub admin_game_with : ℕ → Origin
admin_game_with k = with_companies k (record plain { admin_password = codes "pw" })

-- the same, and the next tick begins this day
abbrev pub before_day : ℕ → ℕ → Origin
before_day day k = record {
  setup = record plain { admin_password = codes "pw" };
  start = world (0, 0) (day - 1) 73 false (founded_from 0 k) [];
}

-- ---- events of players

-- from the welcome into the game, in which the frame is this one by then
abbrev pub enters : ℕ → ℕ → List Event
enters conn frame = asks_for_map conn ∷ Tick ∷ has_loaded conn ∷ acknowledges conn frame ∷ []

-- a digest of 32 zeros
abbrev pub zeros : List ℕ
zeros = replicate 32 48

-- ---- events of admins

-- a connection opens at the side door
abbrev pub opens_aside : Event
opens_aside = Open Side (record { host = 0 ∷ 0 ∷ 0 ∷ 0 ∷ []; port = 0 })

-- JOIN: a password, an application and its version
abbrev pub admin_joins_as : ℕ → List ℕ → List ℕ → List ℕ → Event
admin_joins_as conn password application version = Packet conn 0 (password ++ 0 ∷ application ++ 0 ∷ version ++ 0 ∷ [])

-- JOIN as it is allowed
abbrev pub admin_joins : ℕ → Event
admin_joins conn = admin_joins_as conn (codes "pw") (codes "cli") (codes "1")

-- an admin comes in
abbrev pub comes_aside : ℕ → List Event
comes_aside conn = opens_aside ∷ admin_joins conn ∷ []

-- QUIT
abbrev pub admin_quits : ℕ → Event
admin_quits conn = Packet conn 1 []

-- UPDATE_FREQUENCY: a type, and its bits
abbrev pub wants_updates : ℕ → ℕ → ℕ → Event
wants_updates conn kind bits = Packet conn 2 (to_le_bytes w16 kind ++ to_le_bytes w16 bits)

-- POLL: a type, and whom or what it is asked of
abbrev pub polls : ℕ → ℕ → ℕ → Event
polls conn kind id = Packet conn 3 (kind ∷ to_le_bytes w32 id)

-- POLL of all
abbrev pub polls_all : ℕ → ℕ → Event
polls_all conn kind = polls conn kind 4294967295

-- CHAT: to all (0), to a company (1) or to a client (2)
abbrev pub admin_chats : ℕ → ℕ → ℕ → List ℕ → Event
admin_chats conn scope to text = Packet conn 4 (scope ∷ to_le_bytes w32 to ++ text ++ 0 ∷ [])

-- RCON: a line for the console
abbrev pub gives_line : ℕ → List ℕ → Event
gives_line conn text = Packet conn 5 (text ++ 0 ∷ [])

-- GAMESCRIPT
abbrev pub tells_script : ℕ → List ℕ → Event
tells_script conn text = Packet conn 6 (text ++ 0 ∷ [])

-- PING
abbrev pub pings : ℕ → ℕ → Event
pings conn id = Packet conn 7 (to_le_bytes w32 id)

-- EXTERNAL_CHAT: where it comes from, its colour, who said it, and what
abbrev pub brings_chat : ℕ → Event
brings_chat conn = Packet conn 8 (codes "irc" ++ 0 ∷ 0 ∷ 0 ∷ codes "Eve" ++ 0 ∷ codes "hi" ++ 0 ∷ [])

-- ---- what is told

-- PROTOCOL and WELCOME, of a plain game on a day
abbrev pub greeted_on : ℕ → List ℕ
greeted_on day =
    hex (codes "370067030100003f00010100410001020041000103003d000104003d000105004000010600400001070001000108004000010900")
    ++ hex (codes "4000001c006847616d650031332e340001000000000000") ++ to_le_bytes w32 day ++ hex (codes "00010001")

-- the same, of a game at its start
abbrev pub greeted : List ℕ
greeted = greeted_on 0

-- what client 2 is told that comes first to a world without companies: Ann, who enters as a spectator at frame 1
abbrev pub ann_came : List ℕ
ann_came =
    hex (codes "0e000c020000000000000074740007000f00000000070010410000004400114f54544e0002000047414d4500000006000000")
    ++ hex (codes "00000052414e44000000080000000000000000434d505900000001005349474e000000020000454e4443000000000300120c")
    ++ hex (codes "001d02000000ff416e6e000c00150100000001000000ff")
