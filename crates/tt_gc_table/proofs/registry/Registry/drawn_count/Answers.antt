use Rattle.std.proofs.Common.{subst}
use Rattle.tt_gc_table.specs.Table.{NoneTwice}
use Rattle.tt_gc_table.specs.Registry.{RegistryState, drawn_of}
use Rattle.tt_gc_table.proofs.DrawnLaws.{none_twice}
use Rattle.tt_gc_table.proofs.registry.Registry.drawn_count.Goals as goal

pub returns-clause-none_twice : goal.returns-clause-none_twice
returns-clause-none_twice c =
    subst (λ (r : RegistryState). NoneTwice (drawn_of r)) c.self.view_is (none_twice c.self.inside.drawn.entries c.len.ensures.unique)
