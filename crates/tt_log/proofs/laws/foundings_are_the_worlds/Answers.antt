use Rattle.tt_log.proofs.Founders.{foundings-are}
use Rattle.tt_log.proofs.laws.foundings_are_the_worlds.Goals as goal

pub returns : goal.returns
returns c w entries = foundings-are w entries
