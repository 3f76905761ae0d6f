use Rattle.std.proofs.Common.{arith, rules, ap, ◌∙◌}
use Rattle.tt_lines.specs.Lines.{HasNo, lines_of}
use Rattle.tt_lines.proofs.Breaks.{cut_at, has_no-take}
use Rattle.tt_lines.proofs.LineLaws.{lines-within, lines-none}
use Rattle.tt_lines.proofs.cutting.first_line.Goals as goal

pub returns-then-byte-eq10-clause-line : goal.returns-then-byte-eq10-clause-line
returns-then-byte-eq10-clause-line c =
    let one = has_no-take 10 c.args.bytes.now c.loop-i.i (omega (arith, c.loop-i-test.true)) c.loop-i.invariant in
    ap lines_of (cut_at 10 c.args.bytes.now c.loop-i.i c.loop-i-test.true c.if-byte-eq10.true) ∙ lines-within _ _ one

pub returns-clause-line : goal.returns-clause-line
returns-clause-line c =
    let one : HasNo 10 c.args.bytes.now = search rules in
    lines-none c.args.bytes.now c.requires one
