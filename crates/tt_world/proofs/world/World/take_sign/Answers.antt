use Rattle.std.proofs.Common.{◌≡◌, ap, List, arith}
use Rattle.tt_world.specs.declared.sign.Sign.{Sign}
use Rattle.tt_world.specs.World.{WorldState}
use Rattle.tt_world.specs.Holding.{held}
use Rattle.tt_world.specs.Commands.{without_sign}
use Rattle.tt_world.proofs.SignLaws.{IsSound-at_signs, IsSound-without, taken_is}
use Rattle.tt_world.proofs.world.World.take_sign.Goals as goal

pub invariant_of-self : goal.invariant_of-self
invariant_of-self c =
    let e : c.remove.new.self.items ≡ without_sign c.args.id c.args.owner (held c.self.inside).signs
    = taken_is c.args.id c.args.owner (held c.self.inside).signs c.as_slice.result.now c.remove.new.self.items c.args.self.now.signs
    c.place_of-place.result
    c.remove.ensures.items c.place_of-place.ensures.place c.as_slice.ensures.value (ap (λ (x : WorldState). x.signs) c.self.view_is)
    c.self.invariant.0.rising c.requires in (
      IsSound-at_signs (held c.self.inside) c.remove.new.self.items (without_sign c.args.id c.args.owner (held c.self.inside).signs) e
          (IsSound-without (held c.self.inside) c.args.id c.args.owner c.self.invariant.0),
      omega (arith, c.remove.ensures.capacity, c.self.invariant.1),
    )

pub returns : goal.returns
returns c =
    let e : c.remove.new.self.items ≡ without_sign c.args.id c.args.owner (held c.self.inside).signs
    = taken_is c.args.id c.args.owner (held c.self.inside).signs c.as_slice.result.now c.remove.new.self.items c.args.self.now.signs
    c.place_of-place.result
    c.remove.ensures.items c.place_of-place.ensures.place c.as_slice.ensures.value (ap (λ (x : WorldState). x.signs) c.self.view_is)
    c.self.invariant.0.rising c.requires in
    rw (← c.self.view_is) (ap (λ (x : List Sign). record (held c.self.inside) { signs = x }) e)
