use Rattle.std.proofs.Common.{◌≡◌, ◌∙◌, List, ℕ, ap, sym, subst, refl, ◌<◌, ◌+◌, ◌-◌, arith, inl, length}
use Rattle.std.specs.Prelude.{slice_set}
use Rattle.tt_outgoing.specs.declared.outs.log.Part.{Part}
use Rattle.tt_outgoing.specs.Outgoing.{plain, part_at, bytes_of, waits_before, IsSound, end_of, NoneOf}
use Rattle.tt_outgoing.proofs.OutsParts.{rising_at, set_same, set_same_before}
use Rattle.tt_outgoing.proofs.OutsLogs.{sound_set}
use Rattle.tt_outgoing.proofs.outs.telling.link_last.Goals as goal

-- the part that says another next one
abbrev linked : Part → ℕ → Part
linked p number = record p { next = number }

pub returns-clause-sound : goal.returns-clause-sound
returns-clause-sound c =
    let t = plain c.args.log.now in
    let i = c.saturating_sub-i.result in
    let p = part_at t.parts (i - 1) in
    let q = linked p c.args.number in
    let lt : i - 1 < length t.parts = omega (arith, c.if-i-eq0.false, c.if-i-len.false, c.len.ensures) in
    let w = rising_at t.base (end_of t) t.parts (i - 1) c.requires.sound.rising lt in
    let own : p.conn ≡ c.args.conn = omega (arith, ap (λ (r : Part). r.conn) c.part_at-part.ensures, c.if-part-conn.false) in
    let none : NoneOf q.conn t.parts (i - 1 + 1) (q.next - t.gone) =
    λ k low high le e. c.requires.behind k (omega (arith, low, c.if-i-eq0.false, c.saturating_sub-i.ensures)) le le (e ∙ own) in
    let is = ap (λ (r : Part). slice_set t.parts (i - 1) (linked r c.args.number)) c.part_at-part.ensures in
    subst (λ (l : List Part). IsSound (record t { parts = l })) (sym (c.set_part.ensures.items ∙ is))
    (sound_set t (i - 1) q c.requires.sound lt (inl refl) (λ live. (omega (arith, c.requires.number), none)) refl w.start w.from w.to)

pub returns-clause-waits : goal.returns-clause-waits
returns-clause-waits c d =
    let t = plain c.args.log.now in
    let i = c.saturating_sub-i.result in
    let is = ap (λ (r : Part). slice_set t.parts (i - 1) (linked r c.args.number)) c.part_at-part.ensures in
    ap (λ (l : List Part). bytes_of d t.base t.tail l) (c.set_part.ensures.items ∙ is)
    ∙ set_same d t.base t.tail t.parts (i - 1) (linked (part_at t.parts (i - 1)) c.args.number) refl

pub returns-clause-waits_before : goal.returns-clause-waits_before
returns-clause-waits_before c d k =
    let t = plain c.args.log.now in
    let i = c.saturating_sub-i.result in
    let is = ap (λ (r : Part). slice_set t.parts (i - 1) (linked r c.args.number)) c.part_at-part.ensures in
    ap (λ (l : List Part). waits_before (record t { parts = l }) d k) (c.set_part.ensures.items ∙ is)
    ∙ set_same_before d t.base t.tail t.parts (i - 1) k (linked (part_at t.parts (i - 1)) c.args.number) refl
