use Rattle.std.proofs.Common.{sym, ◌∙◌}
use Rattle.tt_admin_run.proofs.SendingLaws.{due_ends, due_all, due_until}
use Rattle.tt_admin_run.proofs.sending.Agenda.due.Goals as goal

pub returns-then-mark-ticks : goal.returns-then-mark-ticks
returns-then-mark-ticks c =
    let a = c.args.self.now in
    let end = sym c.loop-mark.invariant ∙ due_ends c.args.ticks c.loop-mark.end c.loop-mark.mark-index c.deref-mark-items.result.now
    a.marks.items _ c.deref-mark-items.ensures.value c.loop-mark-test.true c.if-mark-ticks.true in
    record {
      within = λ join lines is. (due_until join lines a c.args.ticks c.loop-mark.end end is).0;
      due = λ join lines is. rw c.if-not-welcome.false (due_until join lines a c.args.ticks c.loop-mark.end end is).1;
    }

pub returns : goal.returns
returns c =
    let a = c.args.self.now in
    let end = sym c.loop-mark.invariant ∙ due_all c.args.ticks c.loop-mark.end c.loop-mark.mark-index c.deref-mark-items.result.now
    a.marks.items c.deref-mark-items.ensures.value c.loop-mark-test.false in
    record {
      within = λ join lines is. (due_until join lines a c.args.ticks c.loop-mark.end end is).0;
      due = λ join lines is. rw c.if-not-welcome.false (due_until join lines a c.args.ticks c.loop-mark.end end is).1;
    }
