-- The report of a script, against the journal that it tells.
use Rattle.std.specs.Prelude.{◌≡◌, ℕ, false, List, ◌++◌, Some}
use Rattle.tt_log.specs.Contents.{Contents}
use Rattle.tt_log.specs.History.{journal_of}
use Rattle.tt_log.specs.Origin.{Origin}
use Rattle.tt_log.specs.Printing.{IsScript}
use Rattle.tt_log.specs.Shown.{items_in}
use Rattle.tt_report.specs.Clients.{lines_of_client}
use Rattle.tt_report.specs.Entries.{entry_lines}
use Rattle.tt_playing.specs.Attached.{Attached, client_of}
use Rattle.tt_playing.specs.Begun.{origin_in}
use Rattle.tt_playing.specs.InStep.{AreInStep, behind, handed_of}
use Rattle.tt_playing.specs.Played.{Played}
use Rattle.tt_replay.specs.Report.{report}

-- a text stands in another, behind so much and before so much
abbrev pub StandsIn : List ℕ → List ℕ → Type 0
StandsIn part text = (before : List ℕ) × (after : List ℕ) × (text ≡ before ++ part ++ after)

-- A report tells the journal and the client of a connection; and where nothing was forged to that client, its lines are in step with
-- that journal, from the start of the game on.
pub record TellsInStep (script : Contents) (o : Origin) (p : Played) (conn : ℕ) (a : Attached) : Type 0 where
  pub journal : StandsIn (entry_lines (journal_of o p.events)) (report script)
  pub client : StandsIn (lines_of_client conn (client_of a)) (report script)
  pub in_step : a.forged ≡ false
      → AreInStep o (journal_of o p.events) (items_in (handed_of o p conn a)) conn (lines_of_client conn (client_of a))

-- so the report of each script tells each client of it
abbrev pub ReportInStep : Type 0
ReportInStep = (script : Contents) (conn : ℕ) (a : Attached) → IsScript script → (behind script).clients conn ≡ Some a
    → TellsInStep script (origin_in script) (behind script) conn a
