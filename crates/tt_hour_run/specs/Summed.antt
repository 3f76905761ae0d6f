-- What the hour's game comes to, in numbers.
use Rattle.std.specs.Prelude.{ℕ, zero, suc, ◌+◌, ◌==◌, Bool, false, ◌&&◌, List, ◌++◌, length, Option, None, Some, if◌then◌else◌}
use Rattle.tt_client.specs.Held.{Held, frame_of}
use Rattle.tt_client.specs.State.{state_of, is_running}
use Rattle.tt_edge.specs.Event.{opens}
use Rattle.tt_edge.specs.declared.event.Event.{Event}
use Rattle.tt_hour.specs.Hour.{hour_script}
use Rattle.tt_log.specs.Contents.{Contents}
use Rattle.tt_log.specs.History.{table_of, journal_of, world_behind}
use Rattle.tt_log.specs.Origin.{Origin}
use Rattle.tt_log.specs.Told.{sent}
use Rattle.tt_playing.specs.Attached.{client_in}
use Rattle.tt_playing.specs.Begun.{origin_in}
use Rattle.tt_playing.specs.Played.{Played, played}
use Rattle.tt_report.specs.Summary.{summary, refused_line, running_line}

-- whether it is this frame
abbrev pub is_frame : ℕ → Option ℕ → Bool
is_frame frame None = false
is_frame frame (Some own) = own == frame

-- whether a client is attached that runs, and stands at this frame
abbrev pub runs_at : ℕ → Option Held → Bool
runs_at frame None = false
runs_at frame (Some h) = is_running (state_of h.player) && is_frame frame (frame_of h.player)

-- how many of the connections up to a number have such a client, by which client each has
abbrev pub running_upto : ℕ → (ℕ → Option Held) → ℕ → ℕ
running_upto frame client zero = 0
running_upto frame client (suc conn) = running_upto frame client conn + (if runs_at frame (client (suc conn)) then 1 else 0)

-- the summary of the game that was made from this and has taken these events
abbrev pub game_summary : Origin → List Event → List ℕ
game_summary o events =
    summary (opens events) (table_of o events).frame (length (journal_of o events)) (world_behind o events).words
    (λ conn. length (sent o events conn))

-- and behind it how many lines were refused, and how many clients run at the server's frame
abbrev pub summary_of : Origin → Played → List ℕ
summary_of o p =
    game_summary o p.events ++ refused_line p.refused
    ++ running_line (running_upto (table_of o p.events).frame (λ conn. client_in (p.clients conn)) (opens p.events))

-- the summary of a script
abbrev pub script_summary : Contents → List ℕ
script_summary script = summary_of (origin_in script) (played (origin_in script) script.lines)

-- the summary of the hour script of a number
abbrev pub hour_summary : ℕ → List ℕ
hour_summary n = script_summary (hour_script n)
