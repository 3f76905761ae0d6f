use Rattle.std.proofs.Common.{ap, ◌∙◌}
use Rattle.tt_edge.specs.Event.{opens}
use Rattle.tt_gc_table.specs.Table.{Table}
use Rattle.tt_gc_table.specs.Laws.{openings_of}
use Rattle.tt_gc.specs.Running.{CoordinatorState}
use Rattle.tt_gc.proofs.coordinator.Coordinator.connections.Goals as goal

pub returns : goal.returns
returns c = record {
  connections = c.openings.ensures ∙ ap (λ (t : Table). t.openings) c.self.invariant.0.table_is
      ∙ openings_of c.self.inside.rules c.self.inside.history.events ∙ ap (λ (st : CoordinatorState). opens st.events) c.self.view_is;
}
