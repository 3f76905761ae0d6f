-- The report of a game: its text.
use Rattle.std.specs.Prelude.{ℕ, zero, suc, Bool, true, false, List, [], ◌++◌, codes, Option, None, Some}
use Rattle.std.specs.Fmt.{decimal}
use Rattle.tt_lines.specs.Digits.{bytes_text}
use Rattle.tt_edge.specs.declared.event.Door.{Door}
use Rattle.tt_edge.specs.declared.event.Door.TheVariants.{Main, Side}
use Rattle.tt_edge.specs.declared.event.Event.{Event}
use Rattle.tt_edge.specs.Event.{opens}
use Rattle.tt_client.specs.Held.{Held}
use Rattle.tt_log.specs.Contents.{Contents}
use Rattle.tt_log.specs.Doors.{door_of}
use Rattle.tt_log.specs.History.{table_of, journal_of, world_behind}
use Rattle.tt_log.specs.Origin.{Origin}
use Rattle.tt_log.specs.Told.{sent}
use Rattle.tt_report.specs.Clients.{lines_of_client}
use Rattle.tt_report.specs.Entries.{entry_lines}
use Rattle.tt_report.specs.Summary.{refused_if_any}
use Rattle.tt_report.specs.Worlds.{server_line, holding_lines}
use Rattle.tt_playing.specs.Attached.{client_in}
use Rattle.tt_playing.specs.Begun.{origin_in}
use Rattle.tt_playing.specs.Played.{Played, is_live, played}

-- ---- a connection

abbrev pub life_text : Bool → List ℕ
life_text true = codes "live"
life_text false = codes "ended"

-- the main door is the game's, the side door the admins'
abbrev pub door_text : Door → List ℕ
door_text Main = codes "game"
door_text Side = codes "admin"

-- the door of a connection that was opened
abbrev pub place_text : Option Door → List ℕ
place_text None = []
place_text (Some door) = door_text door

-- a connection's line: its number, its door, whether it is live, and all that it was told
abbrev pub conn_line : Origin → List Event → ℕ → List ℕ
conn_line o events conn =
    codes "conn " ++ decimal conn ++ codes " " ++ place_text (door_of events conn) ++ codes " " ++ life_text (is_live o events conn)
    ++ codes " " ++ bytes_text (sent o events conn) ++ codes "\n"

-- the lines of the connections up to a number
abbrev pub conn_lines : Origin → List Event → ℕ → List ℕ
conn_lines o events zero = []
conn_lines o events (suc conn) = conn_lines o events conn ++ conn_line o events (suc conn)

-- ---- attached clients

-- those of the client of a connection, where one is attached
abbrev pub lines_on : ℕ → Option Held → List ℕ
lines_on conn None = []
lines_on conn (Some h) = lines_of_client conn h

-- the lines of the clients of the connections up to a number, by which client each has
abbrev pub clients_upto : (ℕ → Option Held) → ℕ → List ℕ
clients_upto client zero = []
clients_upto client (suc conn) = clients_upto client conn ++ lines_on (suc conn) (client (suc conn))

-- ---- the whole

-- the server's line, behind some events
abbrev pub standing_line : Origin → List Event → List ℕ
standing_line o events = let table = table_of o events in server_line table.frame table.top (world_behind o events)

-- the report of a game that was made from this: the connections, the journal, the attached clients, the server and its world, and
-- how many lines were refused
abbrev pub report_of : Origin → Played → List ℕ
report_of o p =
    conn_lines o p.events (opens p.events) ++ entry_lines (journal_of o p.events)
    ++ clients_upto (λ conn. client_in (p.clients conn)) (opens p.events) ++ standing_line o p.events
    ++ holding_lines (world_behind o p.events) ++ refused_if_any p.refused

-- the report of a script
abbrev pub report : Contents → List ℕ
report script = report_of (origin_in script) (played (origin_in script) script.lines)
