use Rattle.tt_attempts.proofs.EndLaws.{connected_silent, failed_silent}
use Rattle.tt_attempts.proofs.laws.silent_at_the_end.Goals as goal

pub returns-clause-connected : goal.returns-clause-connected
returns-clause-connected c = connected_silent

pub returns-clause-failed : goal.returns-clause-failed
returns-clause-failed c = failed_silent
