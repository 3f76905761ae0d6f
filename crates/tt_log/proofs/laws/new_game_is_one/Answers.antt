use Rattle.tt_log.proofs.Beginnings.{new-game}
use Rattle.tt_log.proofs.laws.new_game_is_one.Goals as goal

pub returns : goal.returns
returns c setup fits seed name revision id = new-game setup fits seed name revision id
