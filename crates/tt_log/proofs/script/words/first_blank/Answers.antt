use Rattle.std.proofs.Common.{rules, add-one}
use Rattle.tt_lines.specs.Lines.{HasNo}
use Rattle.tt_log.proofs.WordLaws.{front_at, front_none}
use Rattle.tt_log.proofs.script.words.first_blank.Goals as goal

pub returns-then-byte-eq32-clause-front : goal.returns-then-byte-eq32-clause-front
returns-then-byte-eq32-clause-front c = (front_at c.args.text.now c.loop-i.i c.loop-i-test.true c.loop-i.invariant c.if-byte-eq32.true).0

pub returns-then-byte-eq32-clause-behind : goal.returns-then-byte-eq32-clause-behind
returns-then-byte-eq32-clause-behind c =
    rw add-one (front_at c.args.text.now c.loop-i.i c.loop-i-test.true c.loop-i.invariant c.if-byte-eq32.true).1

pub returns-clause-front : goal.returns-clause-front
returns-clause-front c =
    let one : HasNo 32 c.args.text.now = search rules in
    (front_none c.args.text.now one).0

pub returns-clause-behind : goal.returns-clause-behind
returns-clause-behind c =
    let one : HasNo 32 c.args.text.now = search rules in
    (front_none c.args.text.now one).1
