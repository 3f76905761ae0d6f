use Rattle.std.proofs.Common.{◌≡◌, ◌+◌, ◌∙◌, refl, ap, arith, length, drop, Option}
use Rattle.std.specs.Prelude.{[], ◌∷◌}
use Rattle.std.proofs.lemmas.List.{take_rest, drop_all}
use Rattle.tt_game.specs.declared.message.GameMsg.{GameMsg}
use Rattle.tt_log.specs.Events.{read_msg}
use Rattle.tt_log.specs.Shown.{Item}
use Rattle.tt_client.specs.Cutting.{Cut, cut_at, with_items}
use Rattle.tt_client.specs.Player.{heard, heard_all}
use Rattle.tt_client.specs.Runs.{running}
use Rattle.tt_client.specs.Planned.{played}
use Rattle.tt_client.proofs.Cutting.{packet_within, packet_cut, partial_cut, bad_size_cut, all_cut, read_to}
use Rattle.tt_client.proofs.Seated.{P}
use Rattle.tt_client.proofs.play.Play.hear_bytes.Goals as goal

pub packets-preserved : goal.packets-preserved
packets-preserved c =
    let first = rw take_rest at c.in-Packet.ensures in
    let body = c.in-Packet.body.now in
    let bytes = c.args.bytes.now in
    let place = c.packets.place in
    let end = c.packets.end + (length body + 3) in
    let here : Cut = cut_at place (drop c.packets.end bytes) in
    let next : Cut = cut_at c.saturating_add-place.result (drop end bytes) in
    let item : Item = record { at = place; msg = read_msg c.in-Packet.kind body } in
    let step : with_items (item ∷ []) next ≡ here =
    packet_cut here bytes [] c.packets.end place c.in-Packet.kind c.saturating_add-place.result body first.0
    (λ i. omega (arith, c.type_inv.bytes i)) first.1 c.saturating_add-place.ensures refl in
    record {
      within = packet_within bytes c.packets.end c.in-Packet.kind body first.0 c.packets.invariant.within first.1;
      place = c.saturating_add-place.type_inv;
      rest = ap (λ (d : Cut). d.rest) step ∙ c.packets.invariant.rest;
      at = ap (λ (d : Cut). d.at) step ∙ c.packets.invariant.at;
      heard = λ login saying acked.
          let was : P = played c.args.base.now c.packets.self saying acked in
          ap (λ (p : P). heard_all running login next.items p) (c.in_ok-hear-in-Packet.ensures.heard login saying acked)
          ∙ ap (λ (m : Option GameMsg). let i : Item = record { at = place; msg = m } in heard_all running login next.items (heard running
          login i was)) c.in_ok-msg-in-Packet.ensures.message
          ∙ ap (λ (d : Cut). heard_all running login d.items was) step
          ∙ c.packets.invariant.heard login saying acked;
      sound = c.in_ok-hear-in-Packet.ensures.sound c.packets.invariant.sound;
      stands = c.in_ok-hear-in-Packet.ensures.stands;
    }

pub returns-in-Partial-clause-heard : goal.returns-in-Partial-clause-heard
returns-in-Partial-clause-heard c = λ login saying acked.
    let bytes = c.args.bytes.now in
    let place = c.packets.place in
    let here : Cut = cut_at place (drop c.packets.end bytes) in
    let done = partial_cut here bytes [] c.packets.end place (λ i. omega (arith, c.type_inv.bytes i)) (rw take_rest at
    c.in-Partial.ensures) refl in
    ap (λ (d : Cut). heard_all running login d.items (played c.args.base.now c.packets.self saying acked)) done
    ∙ c.packets.invariant.heard login saying acked

pub returns-in-Partial-clause-read : goal.returns-in-Partial-clause-read
returns-in-Partial-clause-read c =
    let bytes = c.args.bytes.now in
    let place = c.packets.place in
    let here : Cut = cut_at place (drop c.packets.end bytes) in
    let done = partial_cut here bytes [] c.packets.end place (λ i. omega (arith, c.type_inv.bytes i)) (rw take_rest at
    c.in-Partial.ensures) refl in
    read_to (cut_at c.args.at bytes) here (drop c.packets.end bytes) place (ap (λ (d : Cut). d.rest) done) (ap (λ (d : Cut). d.at) done)
    c.packets.invariant.rest c.packets.invariant.at

pub returns-in-BadSize-clause-heard : goal.returns-in-BadSize-clause-heard
returns-in-BadSize-clause-heard c = λ login saying acked.
    let bytes = c.args.bytes.now in
    let place = c.packets.place in
    let here : Cut = cut_at place (drop c.packets.end bytes) in
    let done = bad_size_cut here bytes [] c.packets.end place c.in-BadSize.field-0 (λ i. omega (arith, c.type_inv.bytes i)) (rw take_rest at
    c.in-BadSize.ensures) refl in
    c.in_ok-hear-in-BadSize.ensures.heard login saying acked
    ∙ ap (λ (d : Cut). heard_all running login d.items (played c.args.base.now c.packets.self saying acked)) done
    ∙ c.packets.invariant.heard login saying acked

pub returns-in-BadSize-clause-read : goal.returns-in-BadSize-clause-read
returns-in-BadSize-clause-read c =
    let bytes = c.args.bytes.now in
    let place = c.packets.place in
    let here : Cut = cut_at place (drop c.packets.end bytes) in
    let done = bad_size_cut here bytes [] c.packets.end place c.in-BadSize.field-0 (λ i. omega (arith, c.type_inv.bytes i)) (rw take_rest at
    c.in-BadSize.ensures) refl in
    read_to (cut_at c.args.at bytes) here (drop (length bytes) bytes) place
    (drop_all (length bytes) bytes (omega arith) ∙ ap (λ (d : Cut). d.rest) done) (ap (λ (d : Cut). d.at) done)
    c.packets.invariant.rest c.packets.invariant.at

pub returns-clause-heard : goal.returns-clause-heard
returns-clause-heard c = λ login saying acked.
    let bytes = c.args.bytes.now in
    let place = c.packets.place in
    let here : Cut = cut_at place (drop c.packets.end bytes) in
    let done = all_cut here bytes [] c.packets.end place (omega (arith, c.packets-test.false)) refl in
    ap (λ (d : Cut). heard_all running login d.items (played c.args.base.now c.packets.self saying acked)) done
    ∙ c.packets.invariant.heard login saying acked

pub returns-clause-read : goal.returns-clause-read
returns-clause-read c =
    let bytes = c.args.bytes.now in
    let place = c.packets.place in
    let here : Cut = cut_at place (drop c.packets.end bytes) in
    let done = all_cut here bytes [] c.packets.end place (omega (arith, c.packets-test.false)) refl in
    read_to (cut_at c.args.at bytes) here (drop c.packets.end bytes) place (ap (λ (d : Cut). d.rest) done) (ap (λ (d : Cut). d.at) done)
    c.packets.invariant.rest c.packets.invariant.at
