use Rattle.tt_in_step.proofs.Computed.{ann, ann-ahead, bob, bob-ahead}
use Rattle.tt_in_step.proofs.two_games_are_in_step.Goals as goal

pub returns-clause-first : goal.returns-clause-first
returns-clause-first c = ann

pub returns-clause-second : goal.returns-clause-second
returns-clause-second c = bob

pub returns-clause-first_ahead : goal.returns-clause-first_ahead
returns-clause-first_ahead c = ann-ahead

pub returns-clause-second_ahead : goal.returns-clause-second_ahead
returns-clause-second_ahead c = bob-ahead
