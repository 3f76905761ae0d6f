use Rattle.tt_log.proofs.Waiting.{queue-members, queue-others, queue-once}
use Rattle.tt_log.proofs.laws.queue_is_of_those_that_load.Goals as goal

pub returns-clause-members : goal.returns-clause-members
returns-clause-members c o es conn m is = queue-members o es conn m is

pub returns-clause-others : goal.returns-clause-others
returns-clause-others c o es conn gone = queue-others o es conn gone

pub returns-clause-once : goal.returns-clause-once
returns-clause-once c o es conn = queue-once o es conn
