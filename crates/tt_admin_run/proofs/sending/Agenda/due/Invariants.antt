use Rattle.std.proofs.Common.{◌≡◌, drop}
use Rattle.tt_admin_run.proofs.SendingLaws.{due_from}
use Rattle.tt_admin_run.proofs.sending.Agenda.due.Given as goal

-- the marks so far are due, and end here
abbrev pub invariant-loop-mark : goal.invariant-loop-mark
invariant-loop-mark l = due_from l.ticks l.end (drop l.mark-index l.self.marks.items) ≡ due_from l.ticks l.self.join l.self.marks.items
