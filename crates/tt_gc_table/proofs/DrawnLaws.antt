-- No code that is kept was drawn twice, and counting on from a code gives codes.
use Rattle.std.proofs.Common.{◌≡◌, ℕ, suc, ◌+◌, ◌≤◌, Bool, true, false, ◌||◌, cond, length, List, [], ◌∷◌, ◌++◌, map, reverse, Option, Some}
use Rattle.std.proofs.Common.{None, refl, ap, ◌∙◌, arith, eq-eqb, take, ◌&&◌}
use Rattle.std.proofs.lemmas.Bool.{false≢true, and_parts}
use Rattle.std.proofs.lemmas.List.{length-reverse, reverse-append, append-nil, take_all, drop_all}
use borrow.Rule.Slice.PartMut.{put_mid}
use Rattle.std.proofs.lemmas.List.Folds.{list_all-append}
use Rattle.std.specs.Prelude.{count_by, eqb, find, is_some, drop}
use Rattle.std.specs.Str.{bytes_eq}
use Rattle.std.specs.List.{IsDistinct, list_all, list_any}
use Rattle.std.specs.Map.{keys_of}
use Rattle.tt_attempts.specs.Codes.{alphabet, is_character, IsCode}
use Rattle.tt_gc_table.specs.Table.{Drawn, NoneTwice}
use Rattle.tt_gc_table.specs.Codes.{follower, carried, counted_on, next_code}
use Rattle.tt_gc_table.specs.Registry.{drawn_at}
use Rattle.tt_gc_table.proofs.Keyed.{AtMostOne, behind, beside, none_found}
use Rattle.tt_gc_table.proofs.Numbers.{one_code, within_code}
use Rattle.tt_gc_table.proofs.CodesLaws.{count_cons, none_counted}

abbrev has_code : List ℕ → Drawn → Bool
has_code code d = bytes_eq code d.code

one_counted : (code : List ℕ) (es : List (List ℕ × List ℕ)) → AtMostOne (bytes_eq code) es
    → count_by (has_code code) (map drawn_at es) ≤ 1
one_counted code [] one = omega arith
one_counted code (e ∷ es) one = by (bytes_eq code e.0) refl (one_counted code es)
  where
    rest : ℕ
    rest = count_by (has_code code) (map drawn_at es)

    by : (b : Bool) → bytes_eq code e.0 ≡ b → (AtMostOne (bytes_eq code) es → rest ≤ 1)
        → count_by (has_code code) (map drawn_at (e ∷ es)) ≤ 1
    by true at more =
        let none : find (has_code code) (map drawn_at es) ≡ None =
        none_found drawn_at (bytes_eq code) (has_code code) es (within_code drawn_at code (has_code code) (λ e. refl) es)
        (behind (bytes_eq code) e es at one) in
        let zero : rest ≡ 0 = none_counted (has_code code) (map drawn_at es) (ap is_some none) in
        let all : count_by (has_code code) (map drawn_at (e ∷ es)) ≡ 1 + rest =
        count_cons (has_code code) (drawn_at e) (map drawn_at es) ∙ ap (λ (b : Bool). cond b 1 0 + rest) at in
        omega (arith, all, zero)
    by false at more =
        let all : count_by (has_code code) (map drawn_at (e ∷ es)) ≡ 0 + rest =
        count_cons (has_code code) (drawn_at e) (map drawn_at es) ∙ ap (λ (b : Bool). cond b 1 0 + rest) at in
        omega (arith, all, more (beside (bytes_eq code) e es at one))

pub none_twice : (es : List (List ℕ × List ℕ)) → IsDistinct bytes_eq (keys_of es) → NoneTwice (map drawn_at es)
none_twice es apart code = one_counted code es (one_code code es apart)

-- ---- counting on

follower_there : (xs : List ℕ) (c n : ℕ) → follower xs c ≡ Some n → list_any (λ x. eqb x n) xs ≡ true
follower_there [] c n is = absurd (false≢true (ap is_some is))
follower_there (x ∷ []) c n is = absurd (false≢true (ap is_some is))
follower_there (x ∷ y ∷ more) c n is = by (eqb x c) (eqb x n) is (follower_there (y ∷ more) c n)
  where
    own : ℕ → Option ℕ → ℕ
    own d None = d
    own d (Some k) = k

    by : (a b : Bool) → cond a (Some y) (follower (y ∷ more) c) ≡ Some n
        → (follower (y ∷ more) c ≡ Some n → list_any (λ x. eqb x n) (y ∷ more) ≡ true) → b || list_any (λ x. eqb x n) (y ∷ more) ≡ true
    by a true at rest = refl
    by true false at rest = ap (λ (b : Bool). b || list_any (λ x. eqb x n) more) (eq-eqb y n (ap (own n) at))
    by false false at rest = rest at

counted_characters : (xs : List ℕ) → list_all is_character xs ≡ true → list_all is_character (counted_on xs) ≡ true
counted_characters [] all = refl
counted_characters (c ∷ cs) all =
    by (follower alphabet c) refl (and_parts (is_character c) (list_all is_character cs) all).1
    (counted_characters cs (and_parts (is_character c) (list_all is_character cs) all).1)
  where
    by : (o : Option ℕ) → follower alphabet c ≡ o → list_all is_character cs ≡ true → list_all is_character (counted_on cs) ≡ true
        → list_all is_character (carried o cs (counted_on cs)) ≡ true
    by (Some next) is kept more = ap (λ (b : Bool). b && list_all is_character cs) (follower_there alphabet c next is) ∙ kept
    by None is kept more = more

counted_length : (xs : List ℕ) → length (counted_on xs) ≡ length xs
counted_length [] = refl
counted_length (c ∷ cs) = by (follower alphabet c) (counted_length cs)
  where
    by : (o : Option ℕ) → length (counted_on cs) ≡ length cs → length (carried o cs (counted_on cs)) ≡ suc (length cs)
    by (Some next) more = refl
    by None more = ap suc more

pub pass_back : (p : ℕ → Bool) (xs : List ℕ) → list_all p xs ≡ true → list_all p (reverse xs) ≡ true
pass_back p [] all = refl
pass_back p (x ∷ xs) all =
    let parts = and_parts (p x) (list_all p xs) all in
    ap (list_all p) (reverse-append (x ∷ []) xs) ∙ list_all-append p (reverse xs) (x ∷ [])
    ∙ ap (λ (b : Bool). b && list_all p (x ∷ [])) (pass_back p xs parts.1) ∙ ap (λ (b : Bool). b && true) parts.0

pub code_next : (code : List ℕ) → IsCode code → IsCode (next_code code)
code_next [] is = absurd (omega (arith, is.long))
code_next (x ∷ xs) is = record {
  long = omega (arith, is.long, counted_length (reverse xs), length-reverse (counted_on (reverse xs)), length-reverse xs);
  plus = refl;
  each = pass_back is_character (counted_on (reverse xs)) (counted_characters (reverse xs) (pass_back is_character xs is.each));
}

-- the six characters are written in their place
pub put_next : (code ys : List ℕ) → IsCode code → ys ≡ reverse (counted_on (reverse (take 6 (drop 1 code))))
    → put_mid 1 6 code ys ≡ next_code code
put_next [] ys is at = absurd (omega (arith, is.long))
put_next (x ∷ xs) ys is at =
    ap (λ (zs : List ℕ). x ∷ (ys ++ zs)) (drop_all 6 xs (omega (arith, is.long)))
    ∙ ap (λ (zs : List ℕ). x ∷ zs) (append-nil ys ∙ at
    ∙ ap (λ (zs : List ℕ). reverse (counted_on (reverse zs))) (take_all 6 xs (omega (arith, is.long))))
    ∙ ap (λ (n : ℕ). n ∷ reverse (counted_on (reverse xs))) is.plus
