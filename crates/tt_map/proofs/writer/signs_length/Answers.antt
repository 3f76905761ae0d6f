use Rattle.std.proofs.Common.{List, ap, length, arith}
use Rattle.std.specs.List.{flat_map}
use Rattle.std.proofs.lemmas.List.{take_all}
use Rattle.tt_world.specs.declared.sign.Sign.{Sign}
use Rattle.tt_map.specs.Layout.{sign_bytes}
use Rattle.tt_map.proofs.WritingLaws.{signs_fit}
use Rattle.tt_map.proofs.writer.signs_length.Goals as goal

pub returns-clause-fits : goal.returns-clause-fits
returns-clause-fits c =
    let all = take_all c.loop-sign.sign-index c.args.world.now.signs (omega (arith, ap length c.signs-sign-items.ensures.signs)) in
    omega (
      arith,
      signs_fit c.args.world.now c.signs-sign-items.ensures.sound,
      c.loop-sign.invariant.same,
      ap (λ (l : List Sign). length (flat_map sign_bytes l)) all,
    )
