use Rattle.tt_table.proofs.Playing.{seen}
use Rattle.tt_table.proofs.game.Game.world.Goals as goal

pub returns : goal.returns
returns c = record { world = (seen _ _ _ _ _ _ c.self.invariant.0 c.self.view_is).game.held.world }
