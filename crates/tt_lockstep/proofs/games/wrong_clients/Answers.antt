use Rattle.std.proofs.Common.{refl}
use Rattle.tt_lockstep.proofs.games.wrong_clients.Goals as goal

pub returns-clause-true_client : goal.returns-clause-true_client
returns-clause-true_client c = refl

pub returns-clause-runs_past_permitted : goal.returns-clause-runs_past_permitted
returns-clause-runs_past_permitted c = refl

pub returns-clause-applies_at_once : goal.returns-clause-applies_at_once
returns-clause-applies_at_once c = refl
