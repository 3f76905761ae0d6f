use Rattle.std.proofs.Common.{refl, sym, subst, arith, ◌+◌, Bool, slice_set}
use Rattle.tt_rules.proofs.Places.{IsCopied, copied-more, copied-whole}
use Rattle.tt_rules.proofs.live.Live.of.Goals as goal

-- src/live.rt:47:9
pub loop-n-init : goal.loop-n-init
loop-n-init c = record { many = refl; first = λ k none. absurd (omega (arith, none)) }

-- src/live.rt:47:9
pub loop-n-preserved : goal.loop-n-preserved
loop-n-preserved c = subst (λ (b : Bool). IsCopied c.args.world.now (c.loop-n.n + 1) (slice_set c.loop-n.places c.loop-n.n b))
    (sym c.is_some.ensures)
    (copied-more c.args.world.now c.loop-n.places c.loop-n.n c.company.result
    c.loop-n-test.true c.company.ensures.company c.loop-n.invariant)

-- src/live.rt:40:5
pub returns-clause-living : goal.returns-clause-living
returns-clause-living c = copied-whole c.args.world.now c.loop-n.places c.loop-n.n
    c.signs-signs.ensures.sound.places c.loop-n-test.false c.loop-n.invariant

-- src/live.rt:40:5
pub returns-clause-fifteen : goal.returns-clause-fifteen
returns-clause-fifteen c = c.loop-n.invariant.many
