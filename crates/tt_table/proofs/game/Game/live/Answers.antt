use Rattle.std.proofs.Common.{ap, sym, ◌∙◌}
use Rattle.std.specs.Prelude.{not}
use Rattle.tt_table.proofs.Playing.{over_not_live, seen}
use Rattle.tt_table.proofs.game.Game.live.Goals as goal

pub returns-else-not-self : goal.returns-else-not-self
returns-else-not-self c =
    let s = (seen _ _ _ _ _ _ c.self.invariant.0 c.self.view_is) in
    record {
      live = ap not c.if-not-self.false
          ∙ sym (over_not_live c.args.self.now c.args.conn (sym s.game.held.over ∙ c.if-not-self.false));
    }
