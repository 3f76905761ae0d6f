use Rattle.std.proofs.Common.{Err, ap, refl, arith}
use Rattle.tt_frame.specs.declared.bad.Bad.{Bad}
use Rattle.std.proofs.lemmas.List.{take_rest}
use Rattle.tt_admin_run.proofs.HearingLaws.{so_far_packet, answer_partial, answer_all, answer_nothing, answer_bad_size}
use Rattle.tt_admin_run.proofs.hearing.hear.Goals as goal

pub returns-in-Err-Malformed : goal.returns-in-Err-Malformed
returns-in-Err-Malformed c =
    let first = rw take_rest at c.in-Packet.ensures in
    let none = c.in-Err-Malformed.ensures.nothing c.in-Err-Malformed.field-0-0 (ap (λ (e : Bad). Err e) c.in-Err-Malformed.field-0-is) in
    answer_nothing c.args.notes.now c.packets.notes c.break_off.new.self c.args.bytes.now c.packets.at c.args.text.now.items
    c.packets.text.items c.show_packet.new.text.items c.break_off.new.text.items
    (record { kind = c.in-Packet.kind; body = c.in-Packet.body.now }) first.0
    (λ i. omega (arith, c.type_inv.bytes i)) c.packets.invariant first.1 none c.in-Err-Malformed.ensures.same
    c.in_ok-break_off-in-Err-Malformed.ensures.text c.in_ok-break_off-in-Err-Malformed.ensures.broken

pub packets-preserved : goal.packets-preserved
packets-preserved c =
    let first = rw take_rest at c.in-Packet.ensures in
    so_far_packet c.args.notes.now c.packets.notes c.note.new.self c.args.bytes.now c.packets.at _ c.args.text.now.items
    c.packets.text.items c.show_packet.new.text.items (record { kind = c.in-Packet.kind; body = c.in-Packet.body.now }) first.0
    (λ i. omega (arith, c.type_inv.bytes i)) c.packets.invariant first.1 c.in-Ok.ensures.shown (record {
      place = c.note.ensures.place;
      broken = c.note.ensures.broken;
      welcome = c.note.ensures.welcome;
      refused = c.note.ensures.refused;
      shutdown = c.note.ensures.shutdown;
    }) refl

pub returns-in-Partial : goal.returns-in-Partial
returns-in-Partial c = answer_partial c.args.notes.now c.packets.notes c.args.bytes.now c.packets.at c.args.text.now.items
    c.packets.text.items (λ i. omega (arith, c.type_inv.bytes i)) c.packets.invariant (rw take_rest at c.in-Partial.ensures)

pub returns-in-BadSize : goal.returns-in-BadSize
returns-in-BadSize c = answer_bad_size c.args.notes.now c.packets.notes c.break_off-in-BadSize.new.self c.args.bytes.now c.packets.at
    c.in-BadSize.field-0 c.args.text.now.items c.packets.text.items c.break_off-in-BadSize.new.text.items
    (λ i. omega (arith, c.type_inv.bytes i)) c.packets.invariant (rw take_rest at c.in-BadSize.ensures)
    c.in_ok-break_off-in-BadSize.ensures.text c.in_ok-break_off-in-BadSize.ensures.broken

pub returns : goal.returns
returns c = answer_all c.args.notes.now c.packets.notes c.args.bytes.now c.packets.at c.args.text.now.items c.packets.text.items
    (λ i. omega (arith, c.type_inv.bytes i)) c.packets.invariant (omega (arith, c.packets-test.false))
