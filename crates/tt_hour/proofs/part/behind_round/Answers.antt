use Rattle.std.proofs.Common.{◌-◌, suc, ◌+◌, arith}
use Rattle.tt_hour.proofs.PartLaws.{IsDrawn, to_round, to_late, to_idle}
use Rattle.tt_hour.proofs.part.behind_round.Goals as goal

pub returns-then-round-ge-LAST : goal.returns-then-round-ge-LAST
returns-then-round-ge-LAST c =
    to_idle (1999 - c.args.round) (suc c.args.round) c.args.random.now c.args.random.now (omega (arith, c.if-round-ge-LAST.true))

pub returns-then-next-eq-LATE : goal.returns-then-next-eq-LATE
returns-then-next-eq-LATE c =
    to_late (1999 - c.args.round) (suc c.args.round) c.args.random.now (omega (arith, c.if-next-eq-LATE.true))
    (omega (arith, c.if-next-eq-LATE.true))

pub returns : goal.returns
returns c =
    let drawn : IsDrawn c.draw.result c.args.random.now c.draw.new.random =
    record { client = c.draw.ensures.client; order = c.draw.ensures.order; rest = c.draw.ensures.words } in
    to_round (1999 - c.args.round) (suc c.args.round) (c.args.round + 1) c.draw.result c.args.random.now c.draw.new.random
    (omega (arith, c.if-round-ge-LAST.false)) (omega (arith, c.if-round-ge-LAST.false)) (omega arith) c.if-next-eq-LATE.false drawn
