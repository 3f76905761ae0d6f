use Rattle.std.proofs.Common.{◌≡◌, ◌∙◌, List, ap, sym, subst, refl, ◌+◌, ◌-◌, arith, max, inl, inr, drop, length}
use Rattle.std.specs.Prelude.{slice_set}
use Rattle.std.proofs.lemmas.List.{length-set}
use Rattle.tt_outgoing.specs.declared.outs.log.Part.{Part}
use Rattle.tt_outgoing.specs.Outgoing.{plain, part_at, bytes_of, waits_before, Keeps}
use Rattle.tt_outgoing.proofs.OutsTakes.{part_keeps, less, less_sound, less_rest, gone_part, gone_sound, gone_rest, gone_few}
use Rattle.tt_outgoing.proofs.OutsTakes.{gone_passed, before_stays}
use Rattle.tt_outgoing.proofs.outs.taking.pass.Goals as goal

-- ---- a part of which some bytes are taken

pub returns-then-from-part-clause-rest : goal.returns-then-from-part-clause-rest
returns-then-from-part-clause-rest c =
    let t = plain c.args.log.now in
    let p = part_at t.parts c.args.i in
    let is = ap (λ (q : Part). slice_set t.parts c.args.i (less q c.args.n)) c.part_at-part.ensures in
    ap (λ (l : List Part). bytes_of p.conn t.base t.tail (drop c.args.i l)) (c.set_part.ensures.items ∙ is)
    ∙ less_rest t c.args.i c.args.n c.requires.sound c.requires.place c.requires.few

pub returns-then-from-part-clause-passed : goal.returns-then-from-part-clause-passed
returns-then-from-part-clause-passed c none =
    let t = plain c.args.log.now in
    let p = part_at t.parts c.args.i in
    let is = ap (λ (q : Part). slice_set t.parts c.args.i (less q c.args.n)) c.part_at-part.ensures in
    ap (λ (l : List Part). waits_before (record t { parts = l }) p.conn c.args.i) (c.set_part.ensures.items ∙ is)
    ∙ before_stays t c.args.i (less p c.args.n) p.conn
    ∙ none

pub returns-then-from-part-clause-keeps : goal.returns-then-from-part-clause-keeps
returns-then-from-part-clause-keeps c =
    let t = plain c.args.log.now in
    let p = part_at t.parts c.args.i in
    let is = ap (λ (q : Part). slice_set t.parts c.args.i (less q c.args.n)) c.part_at-part.ensures in
    let sound = less_sound t c.args.i c.args.n c.requires.sound c.requires.place c.requires.few in
    subst (λ (l : List Part). Keeps p.conn t (record t { parts = l })) (sym (c.set_part.ensures.items ∙ is))
    (part_keeps t c.args.i (less p c.args.n) (inl refl) c.requires.place sound)

-- ---- a part that is taken whole

pub returns-clause-keeps : goal.returns-clause-keeps
returns-clause-keeps c =
    let t = plain c.args.log.now in
    let p = part_at t.parts c.args.i in
    let is = ap (λ (r : Part). slice_set t.parts c.args.i (gone_part r)) c.part_at-part.ensures in
    subst (λ (l : List Part). Keeps p.conn t (record t { parts = l })) (sym (c.set_part-2.ensures.items ∙ is))
    (part_keeps t c.args.i (gone_part p) (inr refl) c.requires.place (gone_sound t c.args.i c.requires.sound c.requires.place))

pub returns-clause-rest : goal.returns-clause-rest
returns-clause-rest c =
    let t = plain c.args.log.now in
    let p = part_at t.parts c.args.i in
    let q = c.part_at-part.result in
    let same = c.part_at-part.ensures in
    let is = ap (λ (r : Part). slice_set t.parts c.args.i (gone_part r)) same in
    let place : c.max.result ≡ max (p.next - t.gone) (c.args.i + 1) = omega (
      arith,
      c.max.ensures,
      c.saturating_sub.ensures,
      ap (λ (r : Part). r.next) same,
    ) in
    let all : p.from + c.args.n ≡ p.to = omega (
      arith,
      c.if-from-part.false,
      c.requires.few,
      ap (λ (r : Part). r.from) same,
      ap (λ (r : Part). r.to) same,
    ) in
    ap (λ (l : List Part). bytes_of p.conn t.base t.tail (drop c.max.result l)) (c.set_part-2.ensures.items ∙ is)
    ∙ gone_rest t c.args.i c.max.result c.args.n c.requires.sound c.requires.place c.requires.live place all

pub returns-clause-passed : goal.returns-clause-passed
returns-clause-passed c none =
    let t = plain c.args.log.now in
    let p = part_at t.parts c.args.i in
    let same = c.part_at-part.ensures in
    let is = ap (λ (r : Part). slice_set t.parts c.args.i (gone_part r)) same in
    let place : c.max.result ≡ max (p.next - t.gone) (c.args.i + 1) = omega (
      arith,
      c.max.ensures,
      c.saturating_sub.ensures,
      ap (λ (r : Part). r.next) same,
    ) in
    ap (λ (l : List Part). waits_before (record t { parts = l }) p.conn c.max.result) (c.set_part-2.ensures.items ∙ is)
    ∙ gone_passed t c.args.i c.max.result c.requires.sound c.requires.place c.requires.live place none

pub returns-clause-place : goal.returns-clause-place
returns-clause-place c =
    let t = plain c.args.log.now in
    let p = part_at t.parts c.args.i in
    let same = c.part_at-part.ensures in
    let place : c.max.result ≡ max (p.next - t.gone) (c.args.i + 1) = omega (
      arith,
      c.max.ensures,
      c.saturating_sub.ensures,
      ap (λ (r : Part). r.next) same,
    ) in
    let few = gone_few t c.args.i c.max.result c.requires.sound c.requires.place c.requires.live place in (
      omega (arith, few.0),
      omega (arith, few.1, ap length c.set_part-2.ensures.items, length-set t.parts c.args.i (gone_part c.part_at-part.result)),
    )
