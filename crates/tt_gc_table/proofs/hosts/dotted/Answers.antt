use Rattle.std.proofs.Common.{◌≡◌, ℕ, ◌≤◌, ◌∷◌, [], List, true, length, sym, arith, subst}
use Rattle.std.specs.Fmt.{decimal}
use Rattle.std.proofs.lemmas.Bool.{false≢true}
use Rattle.tt_frame.specs.Text.{is_plain}
use Rattle.tt_gc_table.proofs.Plain.{IsPart, part_more, part_number, part_none, part_dot}
use Rattle.tt_gc_table.proofs.hosts.dotted.Goals as goal

-- it is a text of at most 15 bytes
pub unreachable-requires : goal.unreachable-requires
unreachable-requires c =
    let p0 : IsPart 0 c.new-bytes.result.items = part_none c.new-bytes.result.items c.new-bytes.ensures.items in
    let p1 : IsPart 3 c.put_number.new.text.items =
    part_more 0 3 c.new-bytes.result.items (decimal c.args.first) c.put_number.new.text.items c.in_ok-put_number.ensures.text p0
    (part_number c.args.first (omega (arith, c.ranges.first.fits))) in
    let p2 : IsPart 4 c.put.new.text.items =
    part_more 3 1 c.put_number.new.text.items (46 ∷ []) c.put.new.text.items c.in_ok-put.ensures.text p1 part_dot in
    let p3 : IsPart 7 c.put_number-2.new.text.items =
    part_more 4 3 c.put.new.text.items (decimal c.args.second) c.put_number-2.new.text.items c.in_ok-put_number-2.ensures.text p2
    (part_number c.args.second (omega (arith, c.ranges.second.fits))) in
    let p4 : IsPart 8 c.put-2.new.text.items =
    part_more 7 1 c.put_number-2.new.text.items (46 ∷ []) c.put-2.new.text.items c.in_ok-put-2.ensures.text p3 part_dot in
    let p5 : IsPart 11 c.put_number-3.new.text.items =
    part_more 8 3 c.put-2.new.text.items (decimal c.args.third) c.put_number-3.new.text.items c.in_ok-put_number-3.ensures.text p4
    (part_number c.args.third (omega (arith, c.ranges.third.fits))) in
    let p6 : IsPart 12 c.put-3.new.text.items =
    part_more 11 1 c.put_number-3.new.text.items (46 ∷ []) c.put-3.new.text.items c.in_ok-put-3.ensures.text p5 part_dot in
    let p7 : IsPart 15 c.put_number-4.new.text.items =
    part_more 12 3 c.put-3.new.text.items (decimal c.args.fourth) c.put_number-4.new.text.items c.in_ok-put_number-4.ensures.text p6
    (part_number c.args.fourth (omega (arith, c.ranges.fourth.fits))) in
    false≢true (c.in-None.ensures.plain (subst (λ (xs : List ℕ). is_plain xs ≡ true) (sym c.as_slice.ensures.value) p7.plain)
    (subst (λ (xs : List ℕ). length xs ≤ 31) (sym c.as_slice.ensures.value) (omega (arith, p7.fits))))
