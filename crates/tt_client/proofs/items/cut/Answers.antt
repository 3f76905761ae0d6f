use Rattle.std.proofs.Common.{◌≡◌, ℕ, List, ◌+◌, ◌∙◌, ap, ap₂, arith, length, drop}
use Rattle.std.specs.Prelude.{[], ◌∷◌, ◌++◌}
use Rattle.std.proofs.lemmas.List.{take_rest, drop_all}
use Rattle.tt_log.specs.Shown.{Item}
use Rattle.tt_client.specs.Cutting.{Cut, cut_at, with_items}
use Rattle.tt_client.proofs.Cutting.{packet_within, packet_cut, partial_cut, bad_size_cut, all_cut}
use Rattle.tt_client.proofs.items.cut.Goals as goal

pub packets-preserved : goal.packets-preserved
packets-preserved c =
    let first = rw take_rest at c.in-Packet.ensures in
    let body = c.in-Packet.body.now in
    let bytes = c.args.bytes.now in
    let end = c.packets.end + (length body + 3) in
    let items : c.push.new.self.items ≡ c.packets.items.items ++ record { at = c.packets.place; msg = c.in_ok-msg-in-Packet.msg } ∷ [] =
    c.in_ok-push-in-Packet.ensures.items in
    record {
      within = packet_within bytes c.packets.end c.in-Packet.kind body first.0 c.packets.invariant.within first.1;
      place = c.saturating_add-place.type_inv;
      cut = ap (λ (xs : List Item). with_items xs (cut_at c.saturating_add-place.result (drop end bytes)))
          (items ∙ ap (λ m. let i : Item = record { at = c.packets.place; msg = m } in c.packets.items.items ++ i ∷ [])
          c.in_ok-msg-in-Packet.ensures.message)
          ∙ packet_cut (cut_at c.args.at bytes) bytes c.packets.items.items c.packets.end c.packets.place c.in-Packet.kind
          c.saturating_add-place.result body first.0 (λ i. omega (arith, c.type_inv.bytes i)) first.1 c.saturating_add-place.ensures
          c.packets.invariant.cut;
    }

pub returns-in-Partial : goal.returns-in-Partial
returns-in-Partial c = record {
  cut = partial_cut (cut_at c.args.at c.args.bytes.now) c.args.bytes.now c.packets.items.items c.packets.end c.packets.place
      (λ i. omega (arith, c.type_inv.bytes i)) (rw take_rest at c.in-Partial.ensures) c.packets.invariant.cut;
  within = c.packets.invariant.within;
}

pub returns-in-BadSize : goal.returns-in-BadSize
returns-in-BadSize c =
    let bytes = c.args.bytes.now in
    record {
      cut = ap₂ (λ (xs : List Item) (ys : List ℕ). let d : Cut = record { items = xs; rest = ys; at = c.packets.place } in d)
          c.in_ok-push-in-BadSize.ensures.items (drop_all (length bytes) bytes (omega arith))
          ∙ bad_size_cut (cut_at c.args.at bytes) bytes c.packets.items.items c.packets.end c.packets.place c.in-BadSize.field-0
          (λ i. omega (arith, c.type_inv.bytes i)) (rw take_rest at c.in-BadSize.ensures) c.packets.invariant.cut;
      within = omega arith;
    }

pub returns : goal.returns
returns c = record {
  cut = all_cut (cut_at c.args.at c.args.bytes.now) c.args.bytes.now c.packets.items.items c.packets.end c.packets.place
      (omega (arith, c.packets-test.false)) c.packets.invariant.cut;
  within = c.packets.invariant.within;
}

pub invariant_of-push : goal.invariant_of-push
invariant_of-push c = omega (arith, c.packets.invariant.place)

pub invariant_of-push-in-BadSize : goal.invariant_of-push-in-BadSize
invariant_of-push-in-BadSize c = omega (arith, c.packets.invariant.place)
