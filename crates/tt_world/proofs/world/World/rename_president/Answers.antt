use Rattle.tt_world.specs.Holding.{held}
use Rattle.tt_world.specs.Commands.{president_renamed}
use Rattle.tt_world.proofs.CommandLaws.{IsSound-written, IsSound-president}
use Rattle.tt_world.proofs.world.World.rename_president.Goals as goal

pub invariant_of-self : goal.invariant_of-self
invariant_of-self c = (
  IsSound-written (held c.self.inside) c.args.self.now c.from.result c.args.company (president_renamed c.args.name)
      c.rename_president.new.place c.index-self-from.result
      c.self.view_is c.from.ensures c.rename_president.ensures c.requires.live
      (IsSound-president c.args.self.now c.args.company c.args.name c.requires.name) c.self.invariant.0,
  c.self.invariant.1,
)
