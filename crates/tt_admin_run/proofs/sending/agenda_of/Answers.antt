use Rattle.std.proofs.Common.{refl, sym, ◌∙◌}
use Rattle.tt_admin_run.proofs.SendingLaws.{at_line, agenda_more, agenda_quit}
use Rattle.tt_admin_run.proofs.sending.agenda_of.Goals as goal

pub returns-then-is_quit : goal.returns-then-is_quit
returns-then-is_quit c = agenda_quit c.args.join.now c.args.lines.now _ c.line-item.result c.lines.sum c.lines.agenda c.put.new.self _
    (at_line c.args.join.now c.args.lines.now c.lines.line-index c.line-item.result c.lines.sum c.lines.agenda c.lines-test.true
    c.line-item.is c.lines.invariant) c.in_ok-put.ensures (sym c.is_quit.ensures ∙ c.if-is_quit.true) refl

pub lines-preserved : goal.lines-preserved
lines-preserved c =
    let sum = c.in-Some.ensures in
    let wait = c.wait_of.ensures in
    agenda_more c.args.join.now c.args.lines.now _ c.line-item.result c.lines.sum c.in-Some.more c.lines.agenda c.put.new.self
    (at_line c.args.join.now c.args.lines.now c.lines.line-index c.line-item.result c.lines.sum c.lines.agenda c.lines-test.true
    c.line-item.is c.lines.invariant) c.in_ok-put.ensures (sym c.is_quit.ensures ∙ c.if-is_quit.false) (rw (sym wait) sum.1)
