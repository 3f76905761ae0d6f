use Rattle.std.proofs.Common.{◌∙◌}
use Rattle.tt_log.proofs.Counting.{is-counted}
use Rattle.tt_table.proofs.Playing.{seen}
use Rattle.tt_table.proofs.game.Game.openings.Goals as goal

pub returns : goal.returns
returns c =
    let s = (seen _ _ _ _ _ _ c.self.invariant.0 c.self.view_is) in
    record {
      openings = s.game.held.openings;
      opens = s.game.held.openings ∙ (is-counted c.args.self.now.origin c.args.self.now.events s.game.taken).openings;
    }
