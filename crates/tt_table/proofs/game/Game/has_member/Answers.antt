use Rattle.tt_table.proofs.Playing.{held_rise, member_there, seen}
use Rattle.tt_table.proofs.game.Game.has_member.Goals as goal

pub is_member-requires : goal.is_member-requires
is_member-requires c = record {
  rise = held_rise c.args.self.now _ c.all.result.now
      (seen _ _ _ _ _ _ c.self.invariant.0 c.self.view_is) c.requires.going c.all.ensures.all;
}

pub returns : goal.returns
returns c = record {
  has = member_there c.args.self.now _ c.args.conn c.all.result.now c.is_member.result
      (seen _ _ _ _ _ _ c.self.invariant.0 c.self.view_is) c.requires.going c.all.ensures.all
      c.is_member.ensures.is;
}
