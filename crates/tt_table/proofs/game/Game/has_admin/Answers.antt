use Rattle.tt_table.proofs.Playing.{admin_there, seen}
use Rattle.tt_table.proofs.game.Game.has_admin.Goals as goal

pub returns : goal.returns
returns c = record {
  has = admin_there c.args.self.now _ c.args.conn c.all.result.now c.is_admin.result
      (seen _ _ _ _ _ _ c.self.invariant.0 c.self.view_is) c.requires.going c.all.ensures.all
      c.is_admin.ensures.is;
}
