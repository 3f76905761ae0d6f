use Rattle.std.proofs.Common.{arith}
use Rattle.tt_frame.proofs.ZeroSearch.{found, too_long, one_more, at_end}
use Rattle.tt_frame.proofs.fields.zero_place.Goals as goal

pub returns-then-byte-eq0 : goal.returns-then-byte-eq0
returns-then-byte-eq0 c =
    (found c.args.max c.loop-i.i c.args.bytes.now (omega arith) c.if-byte-eq0.true c.loop-i.invariant.same, omega arith)

pub returns-then-i-max : goal.returns-then-i-max
returns-then-i-max c =
    too_long c.args.max c.loop-i.i c.args.bytes.now (omega arith) c.if-byte-eq0.false (omega arith) c.loop-i.invariant.same

pub loop-i-preserved : goal.loop-i-preserved
loop-i-preserved c = record {
  within = omega arith;
  same = one_more c.args.max c.loop-i.i c.args.bytes.now (omega arith) c.if-byte-eq0.false (omega arith) c.loop-i.invariant.same;
}

pub returns : goal.returns
returns c = at_end c.args.max c.loop-i.i c.args.bytes.now (omega arith) c.loop-i.invariant.same
