use Rattle.tt_playing.proofs.InSteps.{events-are, in-step, on-main}
use Rattle.tt_playing.proofs.laws.attached_in_step.Goals as goal

pub returns-clause-events : goal.returns-clause-events
returns-clause-events c script is = events-are script is

pub returns-clause-door : goal.returns-clause-door
returns-clause-door c script conn a is there = on-main script conn a is there

pub returns-clause-in_step : goal.returns-clause-in_step
returns-clause-in_step c script conn a is there plain = in-step c.clients_are_in_step.ensures.sent script conn a is there plain
