use Rattle.tt_table.proofs.Playing.{seen}
use Rattle.tt_table.proofs.game.Game.top.Goals as goal

pub returns : goal.returns
returns c = record { top = (seen _ _ _ _ _ _ c.self.invariant.0 c.self.view_is).game.held.top }
