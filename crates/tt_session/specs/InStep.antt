-- What a player prints whose link gave what a server sent: the worlds of the server's journal.
use Rattle.std.specs.Prelude.{◌≡◌, ◌≢◌, ℕ, List, ◌++◌}
use Rattle.std.specs.List.{flat_map}
use Rattle.tt_edge.specs.declared.event.Event.{Event}
use Rattle.tt_client.specs.InStep.{IsSent}
use Rattle.tt_log.specs.Origin.{Origin, world_at}
use Rattle.tt_log.specs.History.{journal_of}
use Rattle.tt_session.specs.Acting.{Action, Standing, pieces}
use Rattle.tt_session.specs.declared.end.PlayEnd.{PlayEnd}
use Rattle.tt_session.specs.declared.end.PlayEnd.TheVariants as end
use Rattle.tt_report.specs.Clients.{running_lines}

-- the lines of a client that runs at a frame, over the world of the journal at that frame
abbrev pub journal_lines : Origin → List Event → ℕ → List ℕ
journal_lines o events frame = running_lines 1 frame (world_at o (journal_of o events) frame)

-- a text is such lines, of some frames
abbrev pub IsOfJournal : Origin → List Event → List ℕ → Type 0
IsOfJournal o events text = (frames : List ℕ) × (text ≡ flat_map (journal_lines o events) frames)

-- a run that ended so: its link gave these bytes, and more
abbrev pub RunsInStep : Origin → List Event → ℕ → List Action → List ℕ → Standing → PlayEnd → Type 0
RunsInStep o events conn actions lost last e = IsSent o events conn (pieces actions ++ lost)
    → IsOfJournal o events last.printed × (e ≢ end.Desync) × (e ≢ end.Wrong)
