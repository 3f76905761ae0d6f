use Rattle.tt_world.specs.Holding.{held}
use Rattle.tt_world.specs.Commands.{renamed}
use Rattle.tt_world.proofs.CommandLaws.{IsSound-written, IsSound-renamed}
use Rattle.tt_world.proofs.world.World.rename_company.Goals as goal

pub invariant_of-self : goal.invariant_of-self
invariant_of-self c = (
  IsSound-written (held c.self.inside) c.args.self.now c.from.result c.args.company (renamed c.args.name) c.rename.new.place
      c.index-self-from.result
      c.self.view_is c.from.ensures c.rename.ensures c.requires.live
      (IsSound-renamed c.args.self.now c.args.company c.args.name c.requires.name c.requires.free) c.self.invariant.0,
  c.self.invariant.1,
)
