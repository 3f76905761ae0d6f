use Rattle.tt_outgoing.proofs.Packets.{packets_for}
use Rattle.tt_outgoing.proofs.laws.packets_may_be_told.Goals as goal

pub returns : goal.returns
returns c = packets_for
