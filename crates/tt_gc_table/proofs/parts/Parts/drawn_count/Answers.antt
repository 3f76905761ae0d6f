use Rattle.std.proofs.Common.{subst}
use Rattle.tt_gc_table.specs.Table.{Table, NoneTwice}
use Rattle.tt_gc_table.proofs.parts.Parts.drawn_count.Goals as goal

pub returns-clause-none_twice : goal.returns-clause-none_twice
returns-clause-none_twice c = subst (λ (t : Table). NoneTwice t.drawn) c.self.view_is c.drawn_count.ensures.none_twice
