use Rattle.std.proofs.Common.{rules, sym}
use Rattle.tt_lines.specs.Lines.{HasNo}
use Rattle.tt_log.proofs.WordLaws.{front_at, front_none}
use Rattle.tt_admin_desk.proofs.LineLaws.{left_at}
use Rattle.tt_admin_desk.proofs.commands.parted.Goals as goal

pub returns-then-byte-eq32-clause-word : goal.returns-then-byte-eq32-clause-word
returns-then-byte-eq32-clause-word c =
    sym (front_at c.args.text.now c.loop-i.i c.loop-i-test.true c.loop-i.invariant c.if-byte-eq32.true).0

pub returns-then-byte-eq32-clause-left : goal.returns-then-byte-eq32-clause-left
returns-then-byte-eq32-clause-left c = left_at c.args.text.now c.loop-i.i c.loop-i-test.true c.loop-i.invariant c.if-byte-eq32.true

pub returns-clause-word : goal.returns-clause-word
returns-clause-word c =
    let one : HasNo 32 c.args.text.now = search rules in
    sym (front_none c.args.text.now one).0

pub returns-clause-left : goal.returns-clause-left
returns-clause-left c =
    let one : HasNo 32 c.args.text.now = search rules in
    sym (front_none c.args.text.now one).1
