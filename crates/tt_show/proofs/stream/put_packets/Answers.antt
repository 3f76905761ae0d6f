use Rattle.std.proofs.Common.{Err, ap, arith}
use Rattle.tt_frame.specs.declared.bad.Bad.{Bad}
use Rattle.std.proofs.lemmas.List.{take_rest}
use Rattle.std.proofs.lemmas.Result.{on_ok_weaker}
use Rattle.tt_show.proofs.StreamTexts.{packet_within, packet_appended, packet_bad, partial_appended, bad_size_appended, all_appended}
use Rattle.tt_show.proofs.stream.put_packets.Goals as goal

pub returns-in-Err-Malformed : goal.returns-in-Err-Malformed
returns-in-Err-Malformed c =
    let first = rw take_rest at c.in-Packet.ensures in
    let nothing = c.in-Err-Malformed.ensures.nothing c.in-Err-Malformed.field-0-0 (ap (λ (e : Bad). Err e) c.in-Err-Malformed.field-0-is) in
    record {
      text = on_ok_weaker c.put_bad.result
          (λ put. packet_bad c.args.family c.args.bytes.now c.packets.text.items c.show_packet.new.text.items c.put_bad.new.text.items _
          c.packets.place c.in-Packet.kind c.in-Packet.body.now first.0
          (λ i. omega (arith, c.type_inv.bytes i)) first.1 nothing c.in-Err-Malformed.ensures.same put c.packets.invariant.text)
          c.put_bad.ensures.text;
    }

pub packets-preserved : goal.packets-preserved
packets-preserved c =
    let first = rw take_rest at c.in-Packet.ensures in
    record {
      within = packet_within c.args.bytes.now c.packets.place c.in-Packet.kind c.in-Packet.body.now first.0 c.packets.invariant.within
          first.1;
      text = packet_appended c.args.family c.args.bytes.now c.packets.text.items c.show_packet.new.text.items _ c.packets.place
          c.in-Packet.kind c.in-Packet.body.now first.0
          (λ i. omega (arith, c.type_inv.bytes i)) first.1 c.in-Ok.ensures.shown c.packets.invariant.text;
    }

pub returns-in-Partial : goal.returns-in-Partial
returns-in-Partial c = record {
  text = on_ok_weaker c.put_partial.result
      (λ put. partial_appended c.args.family c.args.bytes.now c.packets.text.items c.put_partial.new.text.items _ c.packets.place
      (λ i. omega (arith, c.type_inv.bytes i)) (rw take_rest at c.in-Partial.ensures) (rw take_rest at put) c.packets.invariant.text)
      c.put_partial.ensures.text;
}

pub returns-in-BadSize : goal.returns-in-BadSize
returns-in-BadSize c = record {
  text = on_ok_weaker c.put_bad-in-BadSize.result
      (λ put. bad_size_appended c.args.family c.args.bytes.now c.packets.text.items c.put_bad-in-BadSize.new.text.items _ c.packets.place
      c.in-BadSize.field-0 (λ i. omega (arith, c.type_inv.bytes i)) (rw take_rest at c.in-BadSize.ensures) put c.packets.invariant.text)
      c.put_bad-in-BadSize.ensures.text;
}

pub returns : goal.returns
returns c = record {
  text = all_appended c.args.family c.args.bytes.now c.packets.text.items _ c.packets.place
      (omega (arith, c.packets-test.false)) c.packets.invariant.text;
}
