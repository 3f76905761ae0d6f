use Rattle.std.proofs.Common.{◌≡◌, true, take, arith, ap, ◌∙◌, false, sym}
use Rattle.tt_rules.specs.Companies.{is_living}
use Rattle.tt_log.specs.Table.{count_living}
use Rattle.tt_join.proofs.Counted.{living-more}
use Rattle.tt_join.proofs.joining.count_living.Goals as goal
use Rattle.tt_join.proofs.joining.count_living.Goals.{then-has, else-has}

pub returns : goal.returns
returns c =
    let end : c.loop-n.n ≡ 15 = omega arith in
    record { count = c.loop-n.invariant.counted ∙ ap (λ n. count_living (take n c.args.live.now)) end }

pub loop-n-preserved : goal.loop-n-preserved
loop-n-preserved c =
    let more = living-more c.args.live.now c.loop-n.n in
    elim c.if-has.branch [
      | then-has w ↦
          let lives : is_living c.args.live.now c.loop-n.n ≡ true = sym c.has.ensures.lives ∙ w.if-has.true in
          let one = rw lives at more in
          record { most = omega arith; counted = omega (arith, one) }
      | else-has w ↦
          let lives : is_living c.args.live.now c.loop-n.n ≡ false = sym c.has.ensures.lives ∙ w.if-has.false in
          let none = rw lives at more in
          record { most = omega arith; counted = omega (arith, none) }
    ]
