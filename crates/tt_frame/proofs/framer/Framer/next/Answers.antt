use Rattle.std.proofs.Common.{refl, arith}
use Rattle.tt_frame.proofs.PacketLaws.{gives_first}
use Rattle.tt_frame.proofs.framer.Framer.next.Goals as goal

pub returns-in-Packet : goal.returns-in-Packet
returns-in-Packet c =
    let first = rw c.deref.ensures.value at c.in-Packet.ensures in
    let given = gives_first c.self.inside.limit c.self.inside.buffer.items c.self.inside.start c.self.inside.end c.self.inside.broken _
    first.0 (omega arith) (omega arith) first.1 in
    ((refl, λ _. tt, rw (← c.self.view_is, c.in-Packet.is) given), record { after = tt })
