use Rattle.tt_log.proofs.Marking.{are-marked}
use Rattle.tt_log.proofs.laws.members_are_marked.Goals as goal

pub returns : goal.returns
returns c o es = are-marked o es
