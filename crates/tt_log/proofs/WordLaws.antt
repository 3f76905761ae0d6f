-- Words parted by blanks: the first one, and what is left behind it.
use Rattle.std.proofs.Common.{◌≡◌, ℕ, zero, suc, ◌<◌, List, [], ◌∷◌, length, get_or, take, drop, true, false, refl, ap, arith}
use Rattle.std.specs.Prelude.{◌==◌}
use Rattle.std.proofs.lemmas.Bool.{ne_eqb, eq-eqb}
use Rattle.tt_log.specs.Rows.{front_word, behind_word}
use Rattle.tt_lines.proofs.Breaks.{has_no-rest}
use Rattle.tt_lines.specs.Lines.{HasNo}

-- the place of the first blank cuts the text there
pub front_at : (text : List ℕ) (i : ℕ) → i < length text → ((k : ℕ) → k < i → get_or text k 0 ≡ 32 → ⊥) → get_or text i 0 ≡ 32
    → (front_word text ≡ take i text) × (behind_word text ≡ 32 ∷ drop (suc i) text)
front_at [] i lt none is = absurd (omega (arith, lt))
front_at (b ∷ text) zero lt none is =
    let blank : b ≡ 32 = is in
    let e : (b == 32) ≡ true = eq-eqb b 32 blank in
    rw e (refl, ap (λ (x : ℕ). x ∷ text) blank)
front_at (b ∷ text) (suc i) lt none is =
    let other : (b == 32) ≡ false = ne_eqb b 32 (none 0 (omega arith)) in
    let rec = front_at text i (omega arith) (λ k less. none (suc k) (omega arith)) is in
    rw other (ap (λ (t : List ℕ). b ∷ t) rec.0, rec.1)

-- without a blank all of it is one word
pub front_none : (text : List ℕ) → HasNo 32 text → (front_word text ≡ text) × (behind_word text ≡ [])
front_none [] none = (refl, refl)
front_none (b ∷ text) none =
    let other : (b == 32) ≡ false = ne_eqb b 32 (none 0 (omega arith)) in
    let rec = front_none text (has_no-rest 32 b text none) in
    rw other (ap (λ (t : List ℕ). b ∷ t) rec.0, rec.1)
