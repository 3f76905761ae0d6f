use Rattle.tt_log.proofs.Beginnings.{new-game}
use Rattle.tt_in_step.proofs.Promises.{saved-game}
use Rattle.tt_in_step.proofs.every_game_may_begin.Goals as goal

pub returns-clause-anew : goal.returns-clause-anew
returns-clause-anew c setup may = new-game setup may.0 may.1 may.2 may.3 may.4

pub returns-clause-saved : goal.returns-clause-saved
returns-clause-saved c setup bytes saved may = saved-game setup bytes saved may.0 may.1 may.2 may.3 may.4
