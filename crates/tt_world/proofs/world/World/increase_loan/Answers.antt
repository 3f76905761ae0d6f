use Rattle.tt_world.specs.World.{company_of}
use Rattle.tt_world.specs.Holding.{held}
use Rattle.tt_world.specs.Commands.{increased, increase_refusal}
use Rattle.tt_world.proofs.CommandLaws.{IsSound-written, IsSound-increased, live}
use Rattle.tt_world.proofs.world.World.increase_loan.Goals as goal

pub invariant_of-self : goal.invariant_of-self
invariant_of-self c = (
  IsSound-written (held c.self.inside) c.args.self.now c.from.result c.args.company (increased c.args.number) c.increase_loan.new.place
      c.index-self-from.result
      c.self.view_is c.from.ensures c.increase_loan.ensures (live (company_of c.args.self.now c.args.company)
      (increase_refusal c.args.number) c.requires)
      (IsSound-increased c.args.self.now c.args.company c.args.number c.requires) c.self.invariant.0,
  c.self.invariant.1,
)
