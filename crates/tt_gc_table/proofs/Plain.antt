-- Drawn characters and digits are printable ASCII.
use Rattle.std.proofs.Common.{◌≡◌, ℕ, suc, ◌+◌, ◌<◌, ◌≤◌, ◌^◌, Bool, true, false, ◌&&◌, ◌||◌, List, [], ◌∷◌, ◌++◌, length, refl, sym}
use Rattle.std.proofs.Common.{ap}
use Rattle.std.proofs.Common.{◌∙◌, arith, subst}
use Rattle.std.specs.Prelude.{nat_le, eqb, slice_index_or}
use Rattle.std.specs.List.{list_all, list_any}
use Rattle.std.specs.Fmt.{decimal}
use Rattle.std.proofs.lemmas.Bool.{eqb-true, and_parts, false≢true}
use Rattle.std.proofs.lemmas.Fmt.{digits_decimal, length-decimal-le}
use Rattle.std.proofs.lemmas.List.{length-append}
use Rattle.std.proofs.lemmas.Str.Parse.{digit_at}
use Rattle.std.proofs.lemmas.List.Folds.{list_all-append}
use Rattle.tt_lines.proofs.Decimals.{own}
use Rattle.tt_frame.specs.Text.{is_plain}
use Rattle.tt_attempts.specs.Codes.{alphabet, is_character, IsCode}

-- what is true of each is true of the one that is found
any_all : (q : ℕ → Bool) (c : ℕ) (xs : List ℕ) → list_any (λ x. eqb x c) xs ≡ true → list_all q xs ≡ true → q c ≡ true
any_all q c [] any all = absurd (false≢true any)
any_all q c (x ∷ xs) any all = by (eqb x c) refl any (λ more. any_all q c xs more (and_parts (q x) (list_all q xs) all).1)
  where
    by : (b : Bool) → eqb x c ≡ b → b || list_any (λ x. eqb x c) xs ≡ true → (list_any (λ x. eqb x c) xs ≡ true → q c ≡ true)
        → q c ≡ true
    by true same is rest = ap q (sym (eqb-true x c same)) ∙ (and_parts (q x) (list_all q xs) all).0
    by false differ is rest = rest is

all_of : (q p : ℕ → Bool) → ((c : ℕ) → p c ≡ true → q c ≡ true) → (xs : List ℕ) → list_all p xs ≡ true → list_all q xs ≡ true
all_of q p so [] all = refl
all_of q p so (x ∷ xs) all =
    let parts = and_parts (p x) (list_all p xs) all in
    ap (λ (b : Bool). b && list_all q xs) (so x parts.0) ∙ all_of q p so xs parts.1

pub plain_characters : (xs : List ℕ) → list_all is_character xs ≡ true → is_plain xs ≡ true
plain_characters xs all =
    all_of (λ (byte : ℕ). nat_le 32 byte && nat_le byte 126) is_character (λ c is. any_all (λ (byte : ℕ). nat_le 32 byte && nat_le byte 126)
    c alphabet is refl) xs all

-- a code is plain
pub plain_code : (bytes : List ℕ) → IsCode bytes → is_plain bytes ≡ true
plain_code [] code = absurd (omega (arith, code.long))
plain_code (x ∷ xs) code =
    ap (λ (n : ℕ). (nat_le 32 n && nat_le n 126) && is_plain xs) code.plus ∙ plain_characters xs code.each

all_by : (q : ℕ → Bool) (xs : List ℕ) → ((i : ℕ) → i < length xs → q (slice_index_or xs i 0) ≡ true) → list_all q xs ≡ true
all_by q [] each = refl
all_by q (x ∷ xs) each =
    ap (λ (b : Bool). b && list_all q xs) (each 0 (omega arith)) ∙ all_by q xs (λ i within. each (suc i) (omega (arith, within)))

within_plain : (b : ℕ) → 48 ≤ b → b ≤ 57 → nat_le 32 b && nat_le b 126 ≡ true
within_plain b low high = grind (arith, low, high)

pub plain_decimal : (n : ℕ) → n < 2 ^ 32 → is_plain (decimal n) ≡ true
plain_decimal n small =
    all_by (λ (byte : ℕ). nat_le 32 byte && nat_le byte 126) (decimal n) (λ i within.
    let range = digit_at (decimal n) i (digits_decimal own n (omega (arith, small))) within in
    within_plain (slice_index_or (decimal n) i 0) (omega (arith, range)) (omega (arith, range)))

pub plain_both : (xs ys : List ℕ) → is_plain xs ≡ true → is_plain ys ≡ true → is_plain (xs ++ ys) ≡ true
plain_both xs ys one two =
    list_all-append (λ (byte : ℕ). nat_le 32 byte && nat_le byte 126) xs ys ∙ ap (λ (b : Bool). b && is_plain ys) one ∙ two

-- ---- parts of a text

-- bytes that are printable ASCII, and at most so many
pub record IsPart (most : ℕ) (xs : List ℕ) : Type 0 where
  pub plain : is_plain xs ≡ true
  pub fits : length xs ≤ most

pub part_more : (a b : ℕ) (xs ys zs : List ℕ) → zs ≡ xs ++ ys → IsPart a xs → IsPart b ys → IsPart (a + b) zs
part_more a b xs ys zs is one two =
    subst (IsPart (a + b)) (sym is) (record {
      plain = plain_both xs ys one.plain two.plain;
      fits = omega (arith, length-append xs ys, one.fits, two.fits);
    })

pub part_number : (n : ℕ) → n < 256 → IsPart 3 (decimal n)
part_number n small = record {
  plain = plain_decimal n (omega (arith, small));
  fits = length-decimal-le 3 n (omega arith) (omega (arith, small)) (omega (arith, small));
}

pub part_none : (xs : List ℕ) → xs ≡ [] → IsPart 0 xs
part_none xs is = subst (IsPart 0) (sym is) (record { plain = refl; fits = omega arith })

pub part_dot : IsPart 1 (46 ∷ [])
part_dot = record { plain = refl; fits = omega arith }
