-- The names of new companies: they are names, no two are the same, and of fifteen one is free where a company is not live.
use Rattle.std.proofs.Common.{
  ◌≡◌,
  ℕ,
  zero,
  suc,
  ◌+◌,
  ◌^◌,
  ◌<◌,
  ◌≤◌,
  Bool,
  true,
  false,
  List,
  [],
  ◌∷◌,
  ◌++◌,
  length,
  refl,
  sym,
  ◌∙◌,
  ap,
  subst,
  arith,
  inl,
  inr,
  ◌⊎◌,
}
use Rattle.std.specs.Prelude.{Option, Some, None, ◌&&◌, nat_le, is_none, bytes_eq, codes, decimal}
use Rattle.std.specs.List.{list_any, IsDistinct, AllByRecursion}
use Rattle.std.specs.Set.{is_member}
use Rattle.std.specs.Cmp.{IsEquivalence}
use Rattle.std.proofs.lemmas.Bool.{or_right}
use Rattle.std.specs.Fmt.{digits}
use Rattle.std.proofs.lemmas.Fmt.{decimal_digit, decimal_injective}
use Rattle.std.proofs.lemmas.Slice.Eq.{bytes_eq-Decides}
use Rattle.std.proofs.lemmas.Map.Made.{length-le_from_is_member}
use Rattle.tt_frame.specs.Text.{is_plain, IsName}
use Rattle.tt_frame.proofs.TestLaws.{and_both, or_either, true_or_false, le_of_test}
use Rattle.tt_frame.proofs.TextLaws.{IsText-from_is_plain}
use Rattle.tt_world.specs.declared.company.Company.{Company}
use Rattle.tt_world.specs.Commands.{has_name, numbered_name, least_name, new_name}

-- ---- a test of each number up to a bound

abbrev all_to : (ℕ → Bool) → ℕ → Bool
all_to p zero = p 0
all_to p (suc n) = p (suc n) && all_to p n

holds_to : (p : ℕ → Bool) (n m : ℕ) → all_to p n ≡ true → m ≤ n → p m ≡ true
holds_to p zero m e le = let z : m ≡ 0 = omega arith in rw z e
holds_to p (suc n) zero e le = holds_to p n zero (and_both (p (suc n)) (all_to p n) e).1 (omega arith)
holds_to p (suc n) (suc m) e le =
    let parts = and_both (p (suc n)) (all_to p n) e in
    let split : (m ≡ n) ⊎ (suc m ≤ n) = grind arith in
    elim split [ inl same ↦ rw same parts.0 | inr less ↦ holds_to p n (suc m) parts.1 less ]

abbrev is_fine : ℕ → Bool
is_fine m = is_plain (numbered_name m) && (nat_le 1 (length (numbered_name m)) && nat_le (length (numbered_name m)) 31)

pub IsName-numbered : (m : ℕ) → m ≤ 15 → IsName (numbered_name m)
unfolding digits
IsName-numbered m le =
    let fine = holds_to is_fine 15 m refl le in
    let parts = and_both (is_plain (numbered_name m)) (nat_le 1 (length (numbered_name m)) && nat_le (length (numbered_name m)) 31) fine in
    let sizes = and_both (nat_le 1 (length (numbered_name m))) (nat_le (length (numbered_name m)) 31) parts.1 in
    record {
      text = IsText-from_is_plain (numbered_name m) parts.0;
      some = le_of_test 1 (length (numbered_name m)) sizes.0;
      fits =
          le_of_test (length (numbered_name m)) 31 sizes.1;
    }

pub one_digit : (m : ℕ) → m < 10 → (67 ∷ 111 ∷ 109 ∷ 112 ∷ 97 ∷ 110 ∷ 121 ∷ 32 ∷ (48 + m) ∷ []) ≡ numbered_name m
one_digit m lt = ap (λ d. codes "Company " ++ d) (sym (decimal_digit m lt))

abbrev is_two : ℕ → Bool
is_two m = bytes_eq (67 ∷ 111 ∷ 109 ∷ 112 ∷ 97 ∷ 110 ∷ 121 ∷ 32 ∷ 49 ∷ (48 + m) ∷ []) (numbered_name (10 + m))

pub two_digits : (m : ℕ) → m ≤ 5 → (67 ∷ 111 ∷ 109 ∷ 112 ∷ 97 ∷ 110 ∷ 121 ∷ 32 ∷ 49 ∷ (48 + m) ∷ []) ≡ numbered_name (10 + m)
unfolding digits
two_digits m le = (bytes_eq-Decides (67 ∷ 111 ∷ 109 ∷ 112 ∷ 97 ∷ 110 ∷ 121 ∷ 32 ∷ 49 ∷ (48 + m) ∷ []) (numbered_name (10 + m))).0
    (holds_to is_two 5 m refl le)

-- ---- the least name

pub step_taken : (places : List (Option Company)) (m n : ℕ) → list_any (has_name (numbered_name m)) places ≡ true
    → least_name places m (suc n) ≡ least_name places (m + 1) n
step_taken places m n e = rw (e, least_name) refl

pub step_free : (places : List (Option Company)) (m n : ℕ) → list_any (has_name (numbered_name m)) places ≡ false
    → least_name places m (suc n) ≡ numbered_name m
step_free places m n e = rw (e, least_name) refl

-- each name that the search may come to has what all fifteen have
least_name_is : (P : List ℕ → Type 0) (places : List (Option Company)) (i n : ℕ) → ((m : ℕ) → i ≤ m → m ≤ i + n → P (numbered_name m))
    → P (least_name places i n)
least_name_is P places i zero all = all i (omega arith) (omega arith)
least_name_is P places i (suc n) all =
    elim (true_or_false (list_any (has_name (numbered_name i)) places)) [
      | inl e ↦ subst P (sym (step_taken places i n e)) (least_name_is P places (i + 1) n (λ m low high. all m (omega arith) (omega arith)))
      | inr e ↦ subst P (sym (step_free places i n e)) (all i (omega arith) (omega arith))
    ]

pub IsName-new : (places : List (Option Company)) → IsName (new_name places)
unfolding new_name
IsName-new places = least_name_is IsName places 1 14 (λ m low high. IsName-numbered m (omega arith))

-- ---- of fifteen names one is free

AllTaken : List (Option Company) → ℕ → ℕ → Type 0
AllTaken places i zero = Unit {0}
AllTaken places i (suc n) = (list_any (has_name (numbered_name i)) places ≡ true) × AllTaken places (i + 1) n

free_or_taken : (places : List (Option Company)) (i n : ℕ) → (list_any (has_name (least_name places i n)) places ≡ false)
    ⊎ AllTaken places i (suc n)
unfolding AllTaken
free_or_taken places i zero =
    elim (true_or_false (list_any (has_name (numbered_name i)) places)) [ inl e ↦ inr (e, tt) | inr e ↦ inl e ]
free_or_taken places i (suc n) =
    elim (true_or_false (list_any (has_name (numbered_name i)) places)) [
      | inl e ↦ elim (free_or_taken places (i + 1) n) [
        | inl f ↦ inl (subst (λ name. list_any (has_name name) places ≡ false) (sym (step_taken places i n e)) f)
        | inr f ↦ inr (e, f)
      ]
      | inr e ↦ inl (subst (λ name. list_any (has_name name) places ≡ false) (sym (step_free places i n e)) e)
    ]

names_from : ℕ → ℕ → List (List ℕ)
names_from i zero = []
names_from i (suc n) = numbered_name i ∷ names_from (i + 1) n

names_of : List (Option Company) → List (List ℕ)
names_of [] = []
names_of (None ∷ places) = names_of places
names_of (Some c ∷ places) = c.name ∷ names_of places

length-names_from : (i n : ℕ) → length (names_from i n) ≡ n
unfolding names_from
length-names_from i zero = refl
length-names_from i (suc n) = ap suc (length-names_from (i + 1) n)

few_names : (places : List (Option Company)) → length (names_of places) ≤ length places
unfolding names_of
few_names [] = omega arith
few_names (None ∷ places) = let h = few_names places in omega arith
few_names (Some c ∷ places) = let h = few_names places in omega arith

fewer_names : (places : List (Option Company)) → list_any is_none places ≡ true → length (names_of places) < length places
unfolding names_of
fewer_names [] e = absurd cc
fewer_names (None ∷ places) e = let h = few_names places in omega arith
fewer_names (Some c ∷ places) e = let h = fewer_names places e in omega arith

same_number : (m n : ℕ) → m < 2 ^ 64 → n < 2 ^ 64 → numbered_name m ≡ numbered_name n → m ≡ n
same_number m n a b e = let d : decimal m ≡ decimal n = cc in decimal_injective m n a b d

not_same : (m n : ℕ) → m < n → n < 100 → bytes_eq (numbered_name m) (numbered_name n) ≡ false
not_same m n lt small =
    elim (true_or_false (bytes_eq (numbered_name m) (numbered_name n))) [
      | inl e ↦ absurd (let same = same_number m n (omega arith) (omega arith) ((bytes_eq-Decides (numbered_name m) (numbered_name n)).0 e)
          in omega arith)
      | inr e ↦ e
    ]

apart_from : (m i n : ℕ) → m < i → i + n < 100 → AllByRecursion (λ y. bytes_eq (numbered_name m) y ≡ false) (names_from i n)
unfolding names_from
apart_from m i zero lt small = tt
apart_from m i (suc n) lt small = (not_same m i lt (omega arith), apart_from m (i + 1) n (omega arith) (omega arith))

distinct_from : (i n : ℕ) → i + n < 100 → IsDistinct bytes_eq (names_from i n)
unfolding names_from IsDistinct
distinct_from i zero small = tt
distinct_from i (suc n) small = (apart_from i (i + 1) n (omega arith) (omega arith), distinct_from (i + 1) n (omega arith))

bytes_same : (a : List ℕ) → bytes_eq a a ≡ true
bytes_same a = (bytes_eq-Decides a a).1 refl

from_bytes : (a b : List ℕ) → bytes_eq a b ≡ true → a ≡ b
from_bytes a b e = (bytes_eq-Decides a b).0 e

bytes_swap : (a b : List ℕ) → bytes_eq a b ≡ bytes_eq b a
bytes_swap a b =
    elim (true_or_false (bytes_eq a b)) [
      | inl e ↦ e ∙ sym ((bytes_eq-Decides b a).1 (sym (from_bytes a b e)))
      | inr e ↦ elim (true_or_false (bytes_eq b a)) [
        | inl f ↦ absurd (let g : bytes_eq a b ≡ true = (bytes_eq-Decides a b).1 (sym (from_bytes b a f)) in cc)
        | inr f ↦ e ∙ sym f
      ]
    ]

bytes_laws : IsEquivalence bytes_eq
bytes_laws = record {
  refl = bytes_same;
  symm = bytes_swap;
  congr = λ x y z e. ap (λ k. bytes_eq k z) (from_bytes x y e);
}

taken_is_member : (name : List ℕ) (places : List (Option Company)) → list_any (has_name name) places ≡ true
    → is_member bytes_eq (names_of places) name ≡ true
unfolding names_of
taken_is_member name [] e = absurd cc
taken_is_member name (None ∷ places) e = taken_is_member name places e
taken_is_member name (Some c ∷ places) e =
    elim (or_either (bytes_eq c.name name) (list_any (has_name name) places) e) [
      | inl f ↦ rw (bytes_swap name c.name, f) refl
      | inr f ↦ or_right (bytes_eq name c.name) (is_member bytes_eq (names_of places) name) (taken_is_member name places f)
    ]

members_taken : (places : List (Option Company)) (i n : ℕ) → AllTaken places i n → (q : List ℕ)
    → is_member bytes_eq (names_from i n) q ≡ true → is_member bytes_eq (names_of places) q ≡ true
unfolding names_from AllTaken
members_taken places i zero all q e = absurd cc
members_taken places i (suc n) all q e =
    elim (or_either (bytes_eq q (numbered_name i)) (is_member bytes_eq (names_from (i + 1) n) q) e) [
      | inl f ↦ subst (λ name. is_member bytes_eq (names_of places) name ≡ true) (sym (from_bytes q (numbered_name i) f))
          (taken_is_member (numbered_name i) places all.0)
      | inr f ↦ members_taken places (i + 1) n all.1 q f
    ]

pub new_name_is_free : (places : List (Option Company)) → length places ≡ 15 → list_any is_none places ≡ true
    → list_any (has_name (new_name places)) places ≡ false
unfolding new_name
new_name_is_free places fifteen room =
    elim (free_or_taken places 1 14) [
      | inl e ↦ e
      | inr all ↦ absurd (
          let enough = length-le_from_is_member bytes_laws (names_from 1 15) (names_of places) (distinct_from 1 15 (omega arith))
          (members_taken places 1 15 all) in
          let fifteen_names = length-names_from 1 15 in
          let fewer = fewer_names places room in omega arith)
    ]
