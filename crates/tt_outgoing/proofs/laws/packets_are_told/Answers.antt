use Rattle.tt_outgoing.proofs.Packets.{packets_told}
use Rattle.tt_outgoing.proofs.laws.packets_are_told.Goals as goal

pub returns : goal.returns
returns c = packets_told
