-- Queues, one of which changes.
use Rattle.std.proofs.Common.{◌≡◌, ◌≢◌, ℕ, zero, suc, ◌+◌, ◌-◌, ◌<◌, Bool, true, false, cond, List, [], ◌∷◌, ◌++◌, length, refl, sym, ap}
use Rattle.std.proofs.Common.{ap₂}
use Rattle.std.proofs.Common.{◌∙◌, arith, get_or-set_same, get_or-set_other, eq-eqb}
use Rattle.std.specs.Prelude.{eqb, slice_index_or, slice_set}
use Rattle.std.proofs.lemmas.Bool.{eqb-true, ne_eqb, false≢true}
use Rattle.std.proofs.lemmas.List.{append-nil}
use Rattle.tt_gc.specs.Queues.{Queue, none, queue_of, longer}

less_one : (k : ℕ) → suc k - 1 ≡ k
less_one k = omega arith

-- one that is there is set
pub set_queue : (qs : List Queue) (at conn : ℕ) (q : Queue) → at + 1 ≡ conn → at < length qs → (c : ℕ)
    → queue_of (slice_set qs at q) c ≡ cond (eqb conn c) q (queue_of qs c)
set_queue qs at conn q is within zero =
    sym (ap (λ (b : Bool). cond b q none) (ne_eqb conn 0 (λ same. absurd (omega (arith, is, same)))))
set_queue qs at conn q is within (suc j) = by (eqb conn (suc j)) refl
  where
    by : (b : Bool) → eqb conn (suc j) ≡ b → slice_index_or (slice_set qs at q) j none ≡ cond b q (slice_index_or qs j none)
    by true same =
        let here : j ≡ at = omega (arith, is, eqb-true conn (suc j) same) in
        ap (λ (k : ℕ). slice_index_or (slice_set qs at q) k none) here ∙ get_or-set_same qs at q none within
    by false other =
        let apart : j ≢ at = λ same. false≢true (sym other ∙ eq-eqb conn (suc j) (omega (arith, is, same))) in
        get_or-set_other qs at j q none apart

pub pushed_queue : (qs : List Queue) (c : ℕ) → queue_of (qs ++ none ∷ []) c ≡ queue_of qs c
pushed_queue qs zero = refl
pushed_queue qs (suc k) = by qs k
  where
    by : (qs : List Queue) (k : ℕ) → slice_index_or (qs ++ none ∷ []) k none ≡ slice_index_or qs k none
    by [] zero = refl
    by [] (suc k) = refl
    by (q ∷ qs) zero = refl
    by (q ∷ qs) (suc k) = by qs k

pub nothing_told : (q : Queue) → longer [] q ≡ q
nothing_told q = ap₂ (λ (l : List ℕ) (n : ℕ). record q { left = l; spare = n }) (append-nil q.left) (omega arith)
