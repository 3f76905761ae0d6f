use Rattle.tt_playing.proofs.InSteps.{lines-in-step}
use Rattle.tt_playing.proofs.laws.lines_in_step.Goals as goal

pub returns : goal.returns
returns c = record { lines = λ script conn a is there plain. lines-in-step c.attached_in_step.ensures.in_step script conn a is there plain }
