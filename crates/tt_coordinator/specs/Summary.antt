-- The summary of a coordinator.
use Rattle.std.specs.Prelude.{ℕ, List, length}
use Rattle.tt_edge.specs.declared.event.Event.{Event}
use Rattle.tt_edge.specs.Event.{opens}
use Rattle.tt_gc_table.specs.declared.setup.GcSetup.{GcSetup}
use Rattle.tt_gc_table.specs.Told.{sent}
use Rattle.tt_gc.specs.Running.{CoordinatorState}
use Rattle.tt_report.specs.Summary as report

-- The summary of a coordinator that was made from this, and of its events: how many connections were opened, and how many bytes each
-- of them was told.
abbrev pub summary_of : GcSetup → List Event → List ℕ
summary_of setup events = report.short_summary (opens events) (λ conn. length (sent setup events conn))

-- that of a coordinator as it stands
abbrev pub gc_summary : CoordinatorState → List ℕ
gc_summary gc = summary_of gc.setup gc.events
