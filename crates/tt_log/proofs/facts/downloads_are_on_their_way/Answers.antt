use Rattle.tt_log.proofs.Loading.{are-mapped}
use Rattle.tt_log.proofs.facts.downloads_are_on_their_way.Goals as goal

pub returns : goal.returns
returns c o es = are-mapped o es
