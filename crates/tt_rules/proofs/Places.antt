-- Truths that are told of places, one after the other.
use Rattle.std.proofs.Common.{◌≡◌, ◌⊎◌, inl, inr, ℕ, ◌+◌, ◌<◌, ◌≤◌, Bool, false, List, [], ◌∷◌}
use Rattle.std.proofs.Common.{length, zero, suc, refl, sym, ap, ◌∙◌, arith, Bor}
use Rattle.std.specs.Prelude.{is_some, map, slice_index_or, slice_set, Option, Some, None}
use Rattle.std.specs.Option.{option_copied}
use Rattle.std.proofs.Math.Nat.{eq-or-lt_of_le}
use Rattle.std.proofs.lemmas.Grind.{get_or-set_at}
use Rattle.std.proofs.lemmas.List.{ext_get_or, get_or-set_other, length-map, length-set}
use Rattle.tt_world.specs.declared.company.Company.{Company}
use Rattle.tt_world.specs.World.{WorldState, company_of}
use Rattle.tt_rules.specs.Companies.{living}

-- the first n of fifteen places tell which companies live
pub record IsCopied (w : WorldState) (n : ℕ) (places : List Bool) : Type 0 where
  pub many : length places ≡ 15
  pub first : (k : ℕ) → k < n → slice_index_or places k false ≡ is_some (company_of w k)

is_some-at : (cs : List (Option Company)) (k : ℕ) → slice_index_or (map is_some cs) k false ≡ is_some (slice_index_or cs k None)
is_some-at [] zero = refl
is_some-at [] (suc k) = refl
is_some-at (c ∷ cs) zero = refl
is_some-at (c ∷ cs) (suc k) = is_some-at cs k

pub copied-whole : (w : WorldState) (places : List Bool) (n : ℕ) → length w.companies ≡ 15 → 15 ≤ n → IsCopied w n places
    → places ≡ living w
copied-whole w places n many all c = ext_get_or false places (living w) (omega (arith, c.many, many, length-map w.companies is_some))
    (λ k less. c.first k (omega (arith, less, c.many, all)) ∙ sym (is_some-at w.companies k))

copied-copy : {A : Type 0} (b : Option (Bor A)) → is_some (option_copied b) ≡ is_some b
copied-copy None = refl
copied-copy (Some b) = refl

pub copied-more : (w : WorldState) (places : List Bool) (n : ℕ) (found : Option (Bor Company)) → n < 15
    → option_copied found ≡ company_of w n → IsCopied w n places → IsCopied w (n + 1) (slice_set places n (is_some found))
copied-more w places n found less is c = record {
  many = length-set places n (is_some found) ∙ c.many;
  first = λ k before. at k (eq-or-lt_of_le {n = k} {m = n} (omega (arith, before)));
}
  where
    at : (k : ℕ) → (k ≡ n) ⊎ (k < n) → slice_index_or (slice_set places n (is_some found)) k false ≡ is_some (company_of w k)
    at k (inl same) = get_or-set_at places n k (is_some found) false same (omega (arith, c.many, less)) ∙ sym (copied-copy found)
        ∙ ap (λ (x : Option Company). is_some x) is ∙ ap (λ (i : ℕ). is_some (company_of w i)) (sym same)
    at k (inr before) = get_or-set_other places n k (is_some found) false (λ same. omega (arith, same, before)) ∙ c.first k before
