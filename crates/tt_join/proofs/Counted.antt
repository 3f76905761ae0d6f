-- Counting one after another.
use Rattle.std.proofs.Common.{◌≡◌, ℕ, ◌+◌, Bool, false, List, length, take, arith, inl, inr}
use Rattle.std.specs.Prelude.{cond, filter}
use Rattle.std.proofs.Math.ListN.{get_or-eq_default}
use Rattle.std.proofs.lemmas.Bool.{cases_lt}
use Rattle.std.proofs.lemmas.List.{take_all}
use Rattle.std.proofs.lemmas.List.Filters.{length-filter_more}
use Rattle.tt_rules.specs.Companies.{is_living}

-- how many of the first companies live, one company more
pub living-more : (live : List Bool) (n : ℕ) → length (filter (λ (lives : Bool). lives) (take (n + 1) live))
    ≡ length (filter (λ (lives : Bool). lives) (take n live)) + cond (is_living live n) 1 0
living-more live n = elim (cases_lt n (length live)) [
  | inl within ↦ length-filter_more (λ (lives : Bool). lives) live n false within
  | inr past ↦
      let none : is_living live n ≡ false = get_or-eq_default live false past in
      let all : take n live ≡ live = take_all n live past in
      let more : take (n + 1) live ≡ live = take_all (n + 1) live (omega (arith, past)) in
      rw (none, all, more) (omega arith)
]
