use Rattle.std.proofs.Common.{◌≡◌, ◌∙◌, ◌<◌, ap, sym, subst, length, arith}
use Rattle.std.specs.Prelude.{IsSome}
use Rattle.tt_world.specs.World.{WorldState, company_of}
use Rattle.tt_world.specs.Holding.{held}
use Rattle.tt_world.specs.Gap.{gap_from}
use Rattle.tt_world.specs.Commands.{placed}
use Rattle.tt_world.proofs.SignLaws.{IsSound-at_signs, IsSound-placed, placed_is, held_placed}
use Rattle.tt_world.proofs.world.World.place_sign.Goals as goal

pub invariant_of-self : goal.invariant_of-self
invariant_of-self c =
    let w = held c.self.inside in
    let e : c.insert.new.self.items ≡ placed c.args.owner c.args.tile c.args.text w.signs
    = c.in-Ok.ensures.items ∙ placed_is w.signs c.first_gap-id.result c.args.owner c.args.tile c.args.text
    (c.first_gap-id.ensures.gap ∙ ap (gap_from 0) c.as_slice.ensures.value) c.self.invariant.0.rising c.self.invariant.0.few in
    let live : IsSome (company_of w c.args.owner) =
    subst (λ (x : WorldState). IsSome (company_of x c.args.owner)) (sym c.self.view_is) c.requires.live in
    let room : length w.signs < 1000 = subst (λ (x : WorldState). length x.signs < 1000) (sym c.self.view_is) c.requires.room in (
      IsSound-at_signs w c.insert.new.self.items (placed c.args.owner c.args.tile c.args.text w.signs) e
          (IsSound-placed w c.args.owner c.args.tile c.args.text live c.requires.tile c.requires.name room c.self.invariant.0),
      omega (arith, c.insert.ensures.capacity, c.self.invariant.1),
    )

pub returns : goal.returns
returns c =
    let w = held c.self.inside in
    let e : c.insert.new.self.items ≡ placed c.args.owner c.args.tile c.args.text w.signs
    = c.in-Ok.ensures.items ∙ placed_is w.signs c.first_gap-id.result c.args.owner c.args.tile c.args.text
    (c.first_gap-id.ensures.gap ∙ ap (gap_from 0) c.as_slice.ensures.value) c.self.invariant.0.rising c.self.invariant.0.few in
    held_placed w c.args.self.now c.args.owner c.args.tile c.args.text c.insert.new.self.items c.self.view_is e
