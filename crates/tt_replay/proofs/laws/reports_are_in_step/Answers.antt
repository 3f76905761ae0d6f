use Rattle.tt_replay.proofs.ReportLines.{tells}
use Rattle.tt_replay.proofs.laws.reports_are_in_step.Goals as goal

pub returns : goal.returns
returns c = record {
  tells = λ script conn a is there. tells c.lines_in_step.ensures.lines script conn a is there
      (c.attached_in_step.ensures.door script conn a is there);
}
