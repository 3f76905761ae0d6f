use Rattle.std.proofs.Common.{◌∙◌}
use Rattle.tt_table.proofs.Playing.{seen}
use Rattle.tt_table.proofs.game.Game.journal.Goals as goal

pub returns : goal.returns
returns c = record { journal = c.as_slice.ensures.value ∙ (seen _ _ _ _ _ _ c.self.invariant.0 c.self.view_is).game.held.journal }
