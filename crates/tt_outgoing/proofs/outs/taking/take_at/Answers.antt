use Rattle.std.proofs.Common.{◌≡◌, ◌∙◌, List, ℕ, ap, sym, subst, ◌+◌, ◌-◌, arith, min, length}
use Rattle.tt_outgoing.specs.declared.outs.log.Part.{Part}
use Rattle.tt_outgoing.specs.Outgoing.{plain, part_at, part_bytes, end_of, IsWithin}
use Rattle.tt_outgoing.proofs.OutsParts.{rising_at, piece_length}
use Rattle.tt_outgoing.proofs.OutsTakes.{other_from, other_before, keeps_all, goes_on}
use Rattle.tt_outgoing.proofs.outs.taking.take_at.Goals as goal

-- ---- a part of another connection

pub returns-then-part-conn-clause-rest : goal.returns-then-part-conn-clause-rest
returns-then-part-conn-clause-rest c =
    let t = plain c.args.log.now in
    other_from t c.args.conn c.args.i
    (λ own. absurd (omega (arith, c.if-part-conn.true, ap (λ (p : Part). p.conn) c.part_at-part.ensures, own)))

pub returns-then-part-conn-clause-passed : goal.returns-then-part-conn-clause-passed
returns-then-part-conn-clause-passed c none =
    let t = plain c.args.log.now in
    other_before t c.args.conn c.args.i
    (λ own. absurd (omega (arith, c.if-part-conn.true, ap (λ (p : Part). p.conn) c.part_at-part.ensures, own))) ∙ none

pub returns-then-part-conn-clause-keeps : goal.returns-then-part-conn-clause-keeps
returns-then-part-conn-clause-keeps c = keeps_all c.args.conn (plain c.args.log.now) c.requires.sound

-- ---- a part of the connection

pub part_bytes-requires : goal.part_bytes-requires
part_bytes-requires c =
    let t = plain c.args.log.now in
    let w = rising_at t.base (end_of t) t.parts c.args.i c.requires.sound.rising c.requires.place in
    record {
      within = subst (λ (l : List ℕ). IsWithin t.base (t.base + length l) c.part_at-part.result) (sym c.as_slice.ensures.value)
          (subst (λ (p : Part). IsWithin t.base (end_of t) p) (sym c.part_at-part.ensures) w);
    }

pub pass-next-requires-clause-few : goal.pass-next-requires-clause-few
pass-next-requires-clause-few c =
    let t = plain c.args.log.now in
    let w = rising_at t.base (end_of t) t.parts c.args.i c.requires.sound.rising c.requires.place in
    let piece =
    ap length c.part_bytes.ensures
    ∙ ap (λ (l : List ℕ). length (part_bytes t.base l c.part_at-part.result)) c.as_slice.ensures.value
    ∙ ap (λ (p : Part). length (part_bytes t.base t.tail p)) c.part_at-part.ensures
    ∙ piece_length t.base t.tail (part_at t.parts c.args.i) w in
    omega (arith, piece, c.put_at-n.ensures.count, w.from)

pub returns-clause-goes_on : goal.returns-clause-goes_on
returns-clause-goes_on c =
    let t = plain c.args.log.now in
    let p = part_at t.parts c.args.i in
    let w = rising_at t.base (end_of t) t.parts c.args.i c.requires.sound.rising c.requires.place in
    let piece : length c.part_bytes.result.now ≡ p.to - p.from =
    ap length c.part_bytes.ensures
    ∙ ap (λ (l : List ℕ). length (part_bytes t.base l c.part_at-part.result)) c.as_slice.ensures.value
    ∙ ap (λ (q : Part). length (part_bytes t.base t.tail q)) c.part_at-part.ensures
    ∙ piece_length t.base t.tail p w in
    let count : c.put_at-n.result ≡ min (p.to - p.from) (length c.args.out.now - c.args.filled) = omega (
      arith,
      c.put_at-n.ensures.count,
      piece,
    ) in
    goes_on c.args.i c.pass-next.result c.put_at-n.result p.from p.to (length c.args.out.now - c.args.filled) c.pass-next.ensures.behind
    c.pass-next.ensures.place.0 count (omega (arith, c.requires.filled)) (omega (arith, count, w.from))
