use Rattle.std.proofs.Common.{[], ◌∙◌, sym}
use Rattle.tt_client.specs.Calls.{steps_behind}
use Rattle.tt_client.proofs.InSteps.{in_steps}
use Rattle.tt_client.proofs.Same.{same_run}
use Rattle.tt_client.proofs.laws.in_steps.Goals as goal

pub returns : goal.returns
returns c = record { same = λ login calls fits. in_steps login calls fits ∙ sym (same_run login (steps_behind [] calls)) }
