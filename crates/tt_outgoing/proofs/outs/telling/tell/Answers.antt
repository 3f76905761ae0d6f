use Rattle.std.proofs.Common.{◌≡◌, ◌∙◌, ◌++◌, ◌∷◌, [], List, ap, sym, subst, ◌+◌, ◌-◌, arith, inl, inr, ◌⊎◌, length}
use Rattle.tt_outgoing.specs.declared.outs.log.Part.{Part}
use Rattle.tt_outgoing.specs.declared.outs.seat.Seat.{Seat}
use Rattle.tt_outgoing.specs.Outgoing.{plain, part_bytes, number_of, end_of, seat_of, IsHeld, IsWithin}
use Rattle.tt_outgoing.proofs.OutsParts.{piece_length}
use Rattle.tt_outgoing.proofs.OutsLogs.{sound_put}
use Rattle.tt_outgoing.proofs.OutsSeats.{held_linked, held_put}
use Rattle.tt_outgoing.proofs.outs.telling.tell.Goals as goal
use Rattle.tt_outgoing.proofs.outs.telling.tell.Goals.{then-had-eq0, else-had-eq0}

pub returns-clause-held : goal.returns-clause-held
returns-clause-held c =
    let t = plain c.args.log.now in
    let u = plain c.link_last.new.log in
    let seats = c.args.seats.now.items in
    let conn = c.args.conn in
    let start = c.args.start in
    let had = c.seat_of-had.result in
    let is_had : had ≡ seat_of seats conn = c.seat_of-had.ensures ∙ ap (λ (l : List Seat). seat_of l conn) c.as_slice.ensures.value in
    let l = c.link_last.ensures in
    let tail : u.tail ≡ t.tail = ap (λ v. v.items) l.tail in
    let held = held_linked t u seats l.sound l.base tail l.gone l.length l.conns l.waits l.waits_before c.requires.held in
    let size = ap length c.as_slice-2.ensures.value in
    let ending : c.args.log.now.base + length c.as_slice-2.result.now ≡ end_of u = omega (arith, size, l.base, ap length tail) in
    let number : c.args.log.now.gone + c.len.result ≡ number_of u = omega (arith, c.len.ensures, l.gone, l.length) in
    let ends = c.args.log.now.base + length c.as_slice-2.result.now in
    let after = c.args.log.now.gone + c.len.result + 1 in
    let q : Part = record { conn = conn; start = start; from = start; to = ends; next = after } in
    let now : Seat = record { first = c.if-had-eq0.first; behind = after; left = had.left + (ends - start) } in
    let within : IsWithin u.base (u.base + length u.tail) q = record {
      low = omega (arith, c.requires.start.0, l.base);
      start = omega arith;
      from = omega (
        arith,
        c.requires.start.1,
        size,
      );
      to = omega (arith, ending);
    } in
    let piece = piece_length u.base u.tail q within in
    let sound = sound_put u q l.sound (omega (arith, c.requires.parts, number, c.len.ensures)) (omega (arith, number))
    (l.before start c.requires.before)
    within.low within.start within.from within.to in
    let first : (now.first ≡ (seat_of seats conn).first) ⊎ (((seat_of seats conn).left ≡ 0) × (now.first ≡ number_of u)) =
    elim c.if-had-eq0.branch [
      | then-had-eq0 w ↦ inr (ap (λ (s : Seat). s.left) (sym is_had) ∙ w.if-had-eq0.true, w.first-is ∙ number)
      | else-had-eq0 w ↦ inl (w.first-is ∙ ap (λ (s : Seat). s.first) is_had)
    ] in
    let left : now.left ≡ (seat_of seats conn).left + length (part_bytes u.base u.tail q) = omega (
      arith,
      piece,
      ap (λ (s : Seat). s.left) is_had,
    ) in
    let put = held_put u seats q now held c.requires.opened.0 c.requires.opened.1 sound (first, omega (arith, number), left)
    (omega (arith, left, piece, c.requires.fits, ending, c.requires.start.1, size)) in
    subst (λ (ps : List Part). IsHeld (record u { parts = ps }) c.set_seat.new.seats.items) (sym c.put_part.ensures.items)
    (subst (λ (s : List Seat). IsHeld (record u { parts = u.parts ++ q ∷ [] }) s) (sym c.set_seat.ensures) put)
