use Rattle.tt_log.proofs.Queueing.{is-queue}
use Rattle.tt_log.proofs.facts.first_in_queue_downloads.Goals as goal

pub returns : goal.returns
returns c o es = is-queue o es
