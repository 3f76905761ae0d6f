use Rattle.tt_log.proofs.Clock.{is-near}
use Rattle.tt_log.proofs.laws.frame_and_top.Goals as goal

pub returns-clause-ahead : goal.returns-clause-ahead
returns-clause-ahead c o es = (is-near o es).ahead

pub returns-clause-near : goal.returns-clause-near
returns-clause-near c o es = (is-near o es).near
