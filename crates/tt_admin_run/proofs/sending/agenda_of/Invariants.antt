use Rattle.std.proofs.Common.{drop}
use Rattle.tt_admin_run.proofs.SendingLaws.{SoFar}
use Rattle.tt_admin_run.proofs.sending.agenda_of.Given as goal

-- the lines so far
abbrev pub invariant-lines : goal.invariant-lines
invariant-lines l = SoFar l.join l.fn.lines (drop l.line-index l.fn.lines) l.sum l.agenda
