use Rattle.tt_lockstep.proofs.Clients.{IsInStep-run}
use Rattle.tt_lockstep.proofs.Followers.{follows_is, within_is}
use Rattle.tt_lockstep.proofs.laws.client_facts.Goals as goal

pub returns-clause-follows : goal.returns-clause-follows
returns-clause-follows g c = λ game calls h f is. follows_is game calls h f is

pub returns-clause-within : goal.returns-clause-within
returns-clause-within g c = λ game calls v f is. within_is game calls v f is

pub returns-clause-agreeing : goal.returns-clause-agreeing
returns-clause-agreeing g c = λ game journal permitted calls agrees. IsInStep-run game journal permitted calls agrees
