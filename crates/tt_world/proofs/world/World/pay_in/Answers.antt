use Rattle.tt_world.specs.Holding.{held}
use Rattle.tt_world.specs.Commands.{richer}
use Rattle.tt_world.proofs.CommandLaws.{IsSound-written, IsSound-richer}
use Rattle.tt_world.proofs.world.World.pay_in.Goals as goal

pub invariant_of-self : goal.invariant_of-self
invariant_of-self c = (
  IsSound-written (held c.self.inside) c.args.self.now c.from.result c.args.company (richer c.args.number) c.add_money.new.place
      c.index-self-from.result
      c.self.view_is c.from.ensures c.add_money.ensures c.requires.live
      (IsSound-richer c.args.self.now c.args.company c.args.number c.requires.room) c.self.invariant.0,
  c.self.invariant.1,
)
