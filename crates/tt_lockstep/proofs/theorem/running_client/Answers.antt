use Rattle.tt_lockstep.proofs.Runners.{runner_is, runner_carries, runner_in_step}
use Rattle.tt_lockstep.proofs.theorem.running_client.Goals as goal

pub returns-clause-same : goal.returns-clause-same
returns-clause-same g c = λ game calls. runner_is game calls

pub returns-clause-in_step : goal.returns-clause-in_step
returns-clause-in_step g c = λ game steps calls later e. runner_in_step game steps calls later e

pub returns-clause-carries : goal.returns-clause-carries
returns-clause-carries g c = λ game journal calls h. runner_carries game journal calls h
