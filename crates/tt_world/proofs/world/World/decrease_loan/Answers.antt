use Rattle.tt_world.specs.World.{company_of}
use Rattle.tt_world.specs.Holding.{held}
use Rattle.tt_world.specs.Commands.{decreased, decrease_refusal}
use Rattle.tt_world.proofs.CommandLaws.{IsSound-written, IsSound-decreased, live}
use Rattle.tt_world.proofs.world.World.decrease_loan.Goals as goal

pub invariant_of-self : goal.invariant_of-self
invariant_of-self c = (
  IsSound-written (held c.self.inside) c.args.self.now c.from.result c.args.company (decreased c.args.number) c.decrease_loan.new.place
      c.index-self-from.result
      c.self.view_is c.from.ensures c.decrease_loan.ensures (live (company_of c.args.self.now c.args.company)
      (decrease_refusal c.args.number) c.requires)
      (IsSound-decreased c.args.self.now c.args.company c.args.number c.requires) c.self.invariant.0,
  c.self.invariant.1,
)
