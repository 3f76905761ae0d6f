use Rattle.std.proofs.Common.{subst}
use Rattle.tt_gc_table.specs.Table.{Table, NoneTwice}
use Rattle.tt_gc_table.specs.Events.{table_of}
use Rattle.tt_gc.specs.Running.{CoordinatorState}
use Rattle.tt_gc.proofs.coordinator.Coordinator.codes.Goals as goal

pub returns-clause-none_twice : goal.returns-clause-none_twice
returns-clause-none_twice c =
    subst (λ (st : CoordinatorState). NoneTwice (table_of st.setup st.events).drawn) c.self.view_is (subst (λ (t : Table).
    NoneTwice t.drawn) c.self.invariant.0.table_is c.drawn_count.ensures.none_twice)
