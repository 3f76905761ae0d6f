use Rattle.tt_log.proofs.Senders.{entries-of-senders, known}
use Rattle.tt_log.proofs.Spelling.{journal-spelled}
use Rattle.tt_log.proofs.facts.entries_are_of_senders.Goals as goal

pub returns-clause-senders : goal.returns-clause-senders
returns-clause-senders c o es = entries-of-senders o es

pub returns-clause-known : goal.returns-clause-known
returns-clause-known c command = known command

pub returns-clause-spelled : goal.returns-clause-spelled
returns-clause-spelled c o es ok are = journal-spelled o es ok are
