use Rattle.std.proofs.Common.{◌∙◌, arith}
use Rattle.tt_frame.proofs.PacketLaws.{begins_with_packet}
use Rattle.tt_frame.proofs.framer.first_of.Goals as goal

pub returns : goal.returns
returns c = (
  _,
  begins_with_packet c.args.bytes.now c.args.limit c.from-end.result (λ i. omega (arith, c.type_inv.bytes i))
      (c.from-end.ensures ∙ c.from_le_bytes-size.ensures) (omega arith) (omega arith) (omega arith),
)
