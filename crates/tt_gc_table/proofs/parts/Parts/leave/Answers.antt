use Rattle.tt_gc_table.proofs.parts.Parts.leave.Goals as goal

pub invariant_of-self : goal.invariant_of-self
invariant_of-self c = (c.self.invariant.0, c.leave.ensures.begun c.self.inside.begun c.self.invariant.1, c.self.invariant.2)
