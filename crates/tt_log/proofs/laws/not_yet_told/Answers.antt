use Rattle.tt_log.proofs.Ended.{not-yet}
use Rattle.tt_log.proofs.laws.not_yet_told.Goals as goal

pub returns : goal.returns
returns c o es conn m is idle = not-yet o es conn m is idle
