use Rattle.std.proofs.Common.{◌+◌, ◌∙◌, List, ℕ, ap, sym, subst, length, take, drop, ◌-◌, arith}
use Rattle.std.proofs.lemmas.List.{take_rest, length-drop}
use Rattle.tt_map.specs.declared.place.Place.{Place}
use Rattle.tt_map.proofs.WriterLaws.{IsWriting, one_more, one_over, filled_up}
use Rattle.tt_map.proofs.writer.write_on.Goals as goal

pub returns-then-n-rest-clause-bytes : goal.returns-then-n-rest-clause-bytes
returns-then-n-rest-clause-bytes c =
    let at = c.loop-piece.cursor in
    let held = c.as_slice.result.now in
    let rest = take (length held - at.within) (drop at.within held) in
    let piece = take_rest held at.within ∙ ap (λ (l : List ℕ). drop at.within l) (c.as_slice.ensures.value ∙ c.piece-piece.ensures) in
    let more =
    one_more c.args.world.now c.signs-signs.ensures.sound c.args.cursor.now.written c.args.out.now at.written at.place at.within
    c.loop-piece.out c.loop-piece.filled
    rest c.put_at-n.new.out c.put_at-n.result c.loop-piece.invariant piece c.put_at-n.ensures.count c.put_at-n.ensures.bytes in
    more.bytes

pub returns-then-n-rest-clause-at : goal.returns-then-n-rest-clause-at
returns-then-n-rest-clause-at c =
    let at = c.loop-piece.cursor in
    let held = c.as_slice.result.now in
    let rest = take (length held - at.within) (drop at.within held) in
    let piece = take_rest held at.within ∙ ap (λ (l : List ℕ). drop at.within l) (c.as_slice.ensures.value ∙ c.piece-piece.ensures) in
    let more =
    one_more c.args.world.now c.signs-signs.ensures.sound c.args.cursor.now.written c.args.out.now at.written at.place at.within
    c.loop-piece.out c.loop-piece.filled
    rest c.put_at-n.new.out c.put_at-n.result c.loop-piece.invariant piece c.put_at-n.ensures.count c.put_at-n.ensures.bytes in
    more.at

pub returns-then-n-rest-clause-count : goal.returns-then-n-rest-clause-count
returns-then-n-rest-clause-count c =
    let at = c.loop-piece.cursor in
    let held = c.as_slice.result.now in
    let rest = take (length held - at.within) (drop at.within held) in
    let piece = take_rest held at.within ∙ ap (λ (l : List ℕ). drop at.within l) (c.as_slice.ensures.value ∙ c.piece-piece.ensures) in
    let more =
    one_more c.args.world.now c.signs-signs.ensures.sound c.args.cursor.now.written c.args.out.now at.written at.place at.within
    c.loop-piece.out c.loop-piece.filled
    rest c.put_at-n.new.out c.put_at-n.result c.loop-piece.invariant piece c.put_at-n.ensures.count c.put_at-n.ensures.bytes in
    filled_up c.args.world.now c.args.cursor.now.written c.args.out.now (at.written + c.put_at-n.result) at.place (at.within
    + c.put_at-n.result) c.put_at-n.new.out (c.loop-piece.filled + c.put_at-n.result)
    more (omega (
      arith,
      ap length (take_rest held at.within),
      c.loop-piece.invariant.fits,
      c.loop-piece.invariant.size,
      c.put_at-n.ensures.count,
      c.if-n-rest.true,
    ))

pub loop-piece-preserved : goal.loop-piece-preserved
loop-piece-preserved c =
    let w = c.args.world.now in
    let at = c.loop-piece.cursor in
    let n = c.put_at-n.result in
    let held = c.as_slice.result.now in
    let rest = take (length held - at.within) (drop at.within held) in
    let piece = take_rest held at.within ∙ ap (λ (l : List ℕ). drop at.within l) (c.as_slice.ensures.value ∙ c.piece-piece.ensures) in
    let more =
    one_more w c.signs-signs.ensures.sound c.args.cursor.now.written c.args.out.now at.written at.place at.within c.loop-piece.out
    c.loop-piece.filled
    rest c.put_at-n.new.out n c.loop-piece.invariant piece c.put_at-n.ensures.count c.put_at-n.ensures.bytes in
    let over = one_over w c.signs-signs.ensures.sound c.args.cursor.now.written c.args.out.now (at.written + n) at.place (at.within + n)
    c.put_at-n.new.out (c.loop-piece.filled + n) more
    (omega (
      arith,
      ap length (take_rest held at.within),
      length-drop at.within held,
      c.loop-piece.invariant.at.inside,
      ap length (c.as_slice.ensures.value ∙ c.piece-piece.ensures),
      c.put_at-n.ensures.count,
      c.if-n-rest.false,
    )) in
    subst (λ (p : Place). IsWriting w c.args.cursor.now.written c.args.out.now (at.written + n) p 0 c.put_at-n.new.out (c.loop-piece.filled
    + n)) (sym c.next-cursor.ensures) over

pub overflow_add-cursor : goal.overflow_add-cursor
overflow_add-cursor c =
    let at = c.loop-piece.cursor in
    let held = c.as_slice.result.now in
    let rest = take (length held - at.within) (drop at.within held) in
    let piece = take_rest held at.within ∙ ap (λ (l : List ℕ). drop at.within l) (c.as_slice.ensures.value ∙ c.piece-piece.ensures) in
    let more =
    one_more c.args.world.now c.signs-signs.ensures.sound c.args.cursor.now.written c.args.out.now at.written at.place at.within
    c.loop-piece.out c.loop-piece.filled
    rest c.put_at-n.new.out c.put_at-n.result c.loop-piece.invariant piece c.put_at-n.ensures.count c.put_at-n.ensures.bytes in
    omega (arith, more.at.few, c.requires.fits)
