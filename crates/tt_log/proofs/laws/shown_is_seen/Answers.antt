use Rattle.tt_log.proofs.ShownLaws.{is-seen}
use Rattle.tt_log.proofs.laws.shown_is_seen.Goals as goal

pub returns : goal.returns
returns c o bytes = is-seen o bytes
