use Rattle.tt_in_step.proofs.Computed.{late-told, wrong}
use Rattle.tt_in_step.proofs.a_late_start_goes_wrong.Goals as goal

pub returns-clause-told : goal.returns-clause-told
returns-clause-told c = late-told

pub returns-clause-wrong : goal.returns-clause-wrong
returns-clause-wrong c = wrong
