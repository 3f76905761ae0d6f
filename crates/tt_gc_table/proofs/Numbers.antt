-- Of open attempts at most one has a number, and of servers at most one has a code; and a token stands for one number.
use Rattle.std.proofs.Common.{◌≡◌, ◌≢◌, ℕ, ◌<◌, ◌^◌, Bool, true, false, List, [], ◌∷◌, Option, None, refl, sym, ap, ◌∙◌, arith}
use Rattle.std.specs.Prelude.{drop, find, cond}
use Rattle.std.specs.Ordering.{nat_cmp, eq_by_cmp}
use Rattle.std.specs.Str.{bytes_eq}
use Rattle.std.specs.Fmt.{decimal}
use Rattle.std.specs.List.{IsDistinct}
use Rattle.std.specs.List.Sorted.{IsStrictlySortedBy}
use Rattle.std.specs.Map.{lookup, keys_of}
use Rattle.std.specs.Cmp.{IsEquivalence}
use Rattle.std.proofs.lemmas.Map.{lookup-remove_entry}
use Rattle.std.proofs.lemmas.Map.Keys.{IsDistinct-from_sorted}
use Rattle.std.proofs.lemmas.Cmp.{nat_cmp_total, eq_by_cmp_equiv, nat_list_eq_equiv}
use Rattle.std.proofs.lemmas.Fmt.{decimal_injective}
use Rattle.std.proofs.lemmas.Slice.Eq.{bytes_eq-Decides}
use Rattle.tt_gc_table.specs.Table.{Meeting, is_for}
use Rattle.tt_gc_table.specs.OpenAttempts.{meetings_of, IsNumbered}
use Rattle.tt_gc_table.proofs.Keyed.{AtMostOne, Within}

-- ---- at most one

one_by : {K V : Type 0} {eq : K → K → Bool} (laws : IsEquivalence eq) (k : K) (es : List (K × V)) → IsDistinct eq (keys_of es)
    → AtMostOne (eq k) es
one_by {K = K} {V = V} {eq = eq} laws k es apart =
    lookup-remove_entry laws (eq k) (λ x y is. laws.congr k x y is) k es apart
    ∙ ap (λ (b : Bool). cond b None (lookup (eq k) es)) (laws.refl k)

pub one_number : {V : Type 0} (n : ℕ) (es : List (ℕ × V)) → IsStrictlySortedBy nat_cmp (keys_of es) → AtMostOne (eq_by_cmp nat_cmp n) es
one_number n es sorted = one_by (eq_by_cmp_equiv nat_cmp_total) n es (IsDistinct-from_sorted nat_cmp (keys_of es) sorted)

pub one_apart : {V : Type 0} (n : ℕ) (es : List (ℕ × V)) → IsDistinct (eq_by_cmp nat_cmp) (keys_of es) → AtMostOne (eq_by_cmp nat_cmp n) es
one_apart n es apart = one_by (eq_by_cmp_equiv nat_cmp_total) n es apart

pub one_code : {V : Type 0} (code : List ℕ) (es : List (List ℕ × V)) → IsDistinct bytes_eq (keys_of es) → AtMostOne (bytes_eq code) es
one_code code es apart = one_by nat_list_eq_equiv code es apart

-- ---- tokens

-- an open attempt with this token has the number that stands in it
pub within : (token : List ℕ) (n : ℕ) → n < 2 ^ 32 → drop 8 token ≡ decimal n → (es : List (ℕ × Meeting)) → IsNumbered es
    → Within (λ (e : ℕ × Meeting). e.1) (eq_by_cmp nat_cmp n) (is_for token) es
within token n small digits [] numbered = numbered
within token n small digits (e ∷ es) numbered = (own, within token n small digits es numbered.1)
  where
    own : is_for token e.1 ≡ true → eq_by_cmp nat_cmp n e.0 ≡ true
    own is =
        let same : token ≡ e.1.token = (bytes_eq-Decides token e.1.token).0 is in
        let number : n ≡ e.0 = decimal_injective n e.0 (omega (arith, small)) (omega (arith, numbered.0.small)) (sym digits
        ∙ ap (drop 8) same ∙ numbered.0.digits) in
        ap (eq_by_cmp nat_cmp n) (sym number) ∙ (eq_by_cmp_equiv nat_cmp_total).refl n

-- where no number stands in it none has it
pub nowhere : (token : List ℕ) → ((n : ℕ) → n < 2 ^ 32 → drop 8 token ≢ decimal n) → (es : List (ℕ × Meeting)) → IsNumbered es
    → find (is_for token) (meetings_of es) ≡ None
nowhere token none [] numbered = refl
nowhere token none (e ∷ es) numbered =
    ap (λ (b : Bool). cond b (Option.Some e.1) (find (is_for token) (meetings_of es))) (other (is_for token e.1) refl)
    ∙ nowhere token none es numbered.1
  where
    other : (b : Bool) → is_for token e.1 ≡ b → b ≡ false
    other true is = absurd (none e.0 numbered.0.small (ap (drop 8) ((bytes_eq-Decides token e.1.token).0 is) ∙ numbered.0.digits))
    other false is = refl

-- ---- codes

pub within_code : {V B : Type 0} (at : List ℕ × V → B) (code : List ℕ) (p : B → Bool)
    → ((e : List ℕ × V) → p (at e) ≡ bytes_eq code e.0) → (es : List (List ℕ × V)) → Within at (bytes_eq code) p es
within_code at code p own [] = tt
within_code at code p own (e ∷ es) = (λ is. sym (own e) ∙ is, within_code at code p own es)
