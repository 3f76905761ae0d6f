-- The summary of a game.
use Rattle.std.specs.Prelude.{ℕ, List, ◌++◌, length}
use Rattle.tt_edge.specs.declared.event.Event.{Event}
use Rattle.tt_edge.specs.Event.{opens}
use Rattle.tt_log.specs.History.{table_of}
use Rattle.tt_log.specs.Origin.{Origin}
use Rattle.tt_log.specs.Table.{world_of}
use Rattle.tt_log.specs.Told.{sent}
use Rattle.tt_report.specs.Summary as report
use Rattle.tt_hub.specs.Hub.{HubState, origin}

-- The summary of a game that was made from this, and of its events: how many connections were opened, the frame, the length of the
-- journal, the two random words, and how many bytes each connection was told.
abbrev pub summary_of : Origin → List Event → List ℕ
summary_of o events =
    let table = table_of o events in
    report.summary (opens events) table.frame (length table.journal) (world_of o table).words (λ conn. length (sent o events conn))

-- the lines in front, before those of the connections
abbrev pub head_of : Origin → List Event → List ℕ
head_of o events =
    let table = table_of o events in
    report.connections_line (opens events) ++ report.frame_line table.frame ++ report.entries_line (length table.journal)
    ++ report.words_line (world_of o table).words

-- that of a game as it stands
abbrev pub game_summary : HubState → List ℕ
game_summary hub = summary_of (origin hub) hub.events
