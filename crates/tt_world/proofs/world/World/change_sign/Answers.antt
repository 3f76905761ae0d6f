use Rattle.std.proofs.Common.{take, drop, ◌++◌, length}
use Rattle.tt_world.specs.Holding.{held}
use Rattle.tt_world.specs.Commands.{with_text}
use Rattle.tt_world.proofs.SignLaws.{IsSound-at_signs, IsSound-text, changed_is}
use Rattle.tt_world.proofs.world.World.change_sign.Goals as goal

pub invariant_of-self : goal.invariant_of-self
invariant_of-self c =
    let items = (held c.self.inside).signs in (
      IsSound-at_signs (held c.self.inside) (take c.self.inside.signs.len (c.change.new.signs ++ drop (length c.change.new.signs) items))
          (with_text c.args.id c.args.owner c.args.text items)
          (changed_is c.args.id c.args.owner c.self.inside.signs.len c.args.text items c.as_mut_slice.result.now c.change.new.signs
          c.change.ensures c.as_mut_slice.ensures.value c.as_mut_slice.ensures.len)
          (IsSound-text (held c.self.inside) c.args.id c.args.owner c.args.text c.requires c.self.invariant.0),
      c.self.invariant.1,
    )
