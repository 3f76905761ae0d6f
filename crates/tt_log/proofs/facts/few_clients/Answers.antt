use Rattle.tt_log.proofs.Numbers.{is-paid}
use Rattle.tt_log.proofs.facts.few_clients.Goals as goal

pub returns : goal.returns
returns c o es ok = (is-paid o es ok).few
