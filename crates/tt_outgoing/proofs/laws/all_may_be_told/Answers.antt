use Rattle.tt_outgoing.proofs.Tellable.{may-all-be-told}
use Rattle.tt_outgoing.proofs.laws.all_may_be_told.Goals as goal

pub returns : goal.returns
returns c = may-all-be-told
