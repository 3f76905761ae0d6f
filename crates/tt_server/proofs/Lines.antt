-- The lines of connections, one after another.
use Rattle.std.proofs.Common.{◌≡◌, ℕ, zero, suc, ◌+◌, ◌<◌, ◌≤◌, List, [], ◌++◌, Option, sym, ap, ◌∙◌, subst, inl, inr}
use Rattle.std.proofs.Common.{append_assoc, add-one, arith}
use Rattle.std.proofs.lemmas.List.{append-nil}
use Rattle.std.proofs.Math.Nat.{eq-or-lt_of_le}
use Rattle.tt_report.specs.Summary.{count_line, count_lines}
use Rattle.tt_serving.specs.Page.{count_text, Puts, Loses}
use Rattle.tt_serving.proofs.Pages.{puts-then, loses-then, loses-more}

-- one line more
pub lines-more : (a b c : Option (List ℕ)) (w w1 w2 : List ℕ) (count : ℕ → ℕ) (n conn told : ℕ) → conn ≡ n + 1 → told ≡ count conn
    → Puts a b w w1 (count_lines count n) → Puts b c w1 w2 (count_text conn told) → Puts a c w w2 (count_lines count (n + 1))
lines-more a b c w w1 w2 count n conn told e f p q =
    let named : Puts b c w1 w2 (count_text conn (count conn)) = subst (λ (k : ℕ). Puts b c w1 w2 (count_text conn k)) f q in
    let next : Puts b c w1 w2 (count_text (suc n) (count (suc n))) =
    subst (λ (m : ℕ). Puts b c w1 w2 (count_text m (count m))) (e ∙ add-one n) named in
    subst (λ (m : ℕ). Puts a c w w2 (count_lines count m)) (sym (add-one n))
    (puts-then a b c w w1 w2 (count_lines count n) (count_text (suc n) (count (suc n))) p next)

-- fewer lines stand in front of more
lines-front : (count : ℕ → ℕ) (n total : ℕ) → n ≤ total → (rest : List ℕ) × (count_lines count n ++ rest ≡ count_lines count total)
lines-front count n zero less =
    let none : n ≡ 0 = omega (arith, less) in ([], append-nil (count_lines count n) ∙ ap (count_lines count) none)
lines-front count n (suc t) less =
    elim (eq-or-lt_of_le less) [
      | inl e ↦ ([], append-nil (count_lines count n) ∙ ap (count_lines count) e)
      | inr below ↦ longer (lines-front count n t (omega (arith, below)))
    ]
  where
    longer : (rest : List ℕ) × (count_lines count n ++ rest ≡ count_lines count t)
        → (rest : List ℕ) × (count_lines count n ++ rest ≡ count_lines count (suc t))
    longer r =
        let line = count_line (suc t) (count (suc t)) in
        (r.0 ++ line, sym (append_assoc (count_lines count n) r.0 line) ∙ ap (λ (x : List ℕ). x ++ line) r.1)

-- one line that is lost in part
pub lines-lost : (a b c : Option (List ℕ)) (w w1 : List ℕ) (count : ℕ → ℕ) (n conn told end total : ℕ) → conn ≡ n + 1 → told ≡ count conn
    → n < end → end ≡ total → Puts a b w w1 (count_lines count n) → Loses b c w1 (count_text conn told) → Loses a c w
    (count_lines count total)
lines-lost a b c w w1 count n conn told end total e f less is p q =
    let named : Loses b c w1 (count_text conn (count conn)) = subst (λ (k : ℕ). Loses b c w1 (count_text conn k)) f q in
    let next : Loses b c w1 (count_text (suc n) (count (suc n))) =
    subst (λ (m : ℕ). Loses b c w1 (count_text m (count m))) (e ∙ add-one n) named in
    let front = lines-front count (suc n) total (omega (arith, less, is)) in
    subst (λ (t : List ℕ). Loses a c w t) front.1
    (loses-more a c w (count_lines count (suc n)) front.0
    (loses-then a b c w w1 (count_lines count n) (count_text (suc n) (count (suc n))) p next))
