-- Texts that a byte does not stand in: a line feed, or a blank.
use Rattle.std.proofs.Common.{
  ◌≡◌,
  ◌≢◌,
  ℕ,
  zero,
  suc,
  ◌+◌,
  ◌-◌,
  ◌<◌,
  ◌≤◌,
  ◌^◌,
  List,
  [],
  ◌∷◌,
  ◌++◌,
  length,
  get_or,
  take,
  drop,
  true,
  not,
  refl,
  sym,
  ap,
  ◌∙◌,
  arith,
}
use Rattle.std.specs.Prelude.{◌==◌}
use Rattle.std.specs.List.{list_all}
use Rattle.std.specs.Fmt.{decimal}
use Rattle.std.proofs.lemmas.Bool.{and_parts, eqb-false, not-true}
use Rattle.std.proofs.lemmas.Fmt.{digits_decimal}
use Rattle.std.proofs.lemmas.Str.Parse.{digit_at}
use Rattle.std.proofs.lemmas.List.{take_rest, take-append-drop, drop_more, get_or-take, length-take-le}
use Rattle.tt_lines.specs.Lines.{HasNo}
use Rattle.tt_lines.proofs.Decimals.{own}

pub has_no-rest : (byte b : ℕ) (text : List ℕ) → HasNo byte (b ∷ text) → HasNo byte text
has_no-rest byte b text none i lt = none (suc i) (omega (arith, lt))

pub has_no-cons : (byte b : ℕ) (text : List ℕ) → b ≢ byte → HasNo byte text → HasNo byte (b ∷ text)
has_no-cons byte b text other none zero lt = other
has_no-cons byte b text other none (suc i) lt = none i (omega (arith, lt))

pub has_no-append : (byte : ℕ) (a b : List ℕ) → HasNo byte a → HasNo byte b → HasNo byte (a ++ b)
has_no-append byte [] b one other = other
has_no-append byte (x ∷ a) b one other =
    has_no-cons byte x (a ++ b) (one 0 (omega arith)) (has_no-append byte a b (has_no-rest byte x a one) other)

-- a text whose bytes are tested one by one
pub has_no-test : (byte : ℕ) (text : List ℕ) → list_all (λ b. not (b == byte)) text ≡ true → HasNo byte text
has_no-test byte [] e = λ i lt. absurd (omega (arith, lt))
has_no-test byte (b ∷ text) e =
    let parts = and_parts (not (b == byte)) (list_all (λ b. not (b == byte)) text) e in
    has_no-cons byte b text (λ is. eqb-false b byte (not-true (b == byte) parts.0) is) (has_no-test byte text parts.1)

-- what stands before the first such byte is one thing
pub first_is : (byte : ℕ) (a b x y : List ℕ) → HasNo byte a → HasNo byte b → a ++ byte ∷ x ≡ b ++ byte ∷ y → (a ≡ b) × (x ≡ y)
first_is byte [] [] x y na nb e = (refl, cc)
first_is byte [] (c ∷ b) x y na nb e = let h : c ≡ byte = cc in absurd (nb 0 (omega arith) h)
first_is byte (c ∷ a) [] x y na nb e = let h : c ≡ byte = cc in absurd (na 0 (omega arith) h)
first_is byte (c ∷ a) (d ∷ b) x y na nb e =
    let rest : a ++ byte ∷ x ≡ b ++ byte ∷ y = cc in
    let same = first_is byte a b x y (has_no-rest byte c a na) (has_no-rest byte d b nb) rest in
    let head : c ≡ d = cc in
    (let tail = same.0 in cc, same.1)

-- digits have none that is below a digit
pub decimal_one : (byte n : ℕ) → byte < 48 → n < 2 ^ 64 → HasNo byte (decimal n)
decimal_one byte n low lt i within e = let range = digit_at (decimal n) i (digits_decimal own n lt) within in omega (arith, range, e, low)

-- a text at such a byte
pub cut_at : (byte : ℕ) (text : List ℕ) (i : ℕ) → i < length text → get_or text i 0 ≡ byte → text ≡ take i text
    ++ byte ∷ take (length text - (i + 1)) (drop (i + 1) text)
cut_at byte text i within is =
    let rest : drop i text ≡ byte ∷ drop (i + 1) text = drop_more text i 0 within ∙ ap (λ (b : ℕ). b ∷ drop (i + 1) text) is in
    rw take_rest (sym (take-append-drop i text) ∙ ap (λ (t : List ℕ). take i text ++ t) rest)

within_text : (byte : ℕ) (a x : List ℕ) → HasNo byte (a ++ byte ∷ x) → ⊥
within_text byte [] x one = one 0 (omega arith) refl
within_text byte (b ∷ a) x one = within_text byte a x (has_no-rest byte b (a ++ byte ∷ x) one)

-- a text without such a byte has no such two sides
pub no_sides : (byte : ℕ) (text a x : List ℕ) → HasNo byte text → text ≢ a ++ byte ∷ x
no_sides byte text a x one e = within_text byte a x (rw e at one)

-- what stands before a place, where such a byte stood at none so far
pub has_no-take : (byte : ℕ) (text : List ℕ) (i : ℕ) → i ≤ length text → ((k : ℕ) → k < i → get_or text k 0 ≡ byte → ⊥)
    → HasNo byte (take i text)
has_no-take byte text i within none k lt is =
    let less : k < i = omega (arith, lt, length-take-le i text within) in
    none k less (sym (get_or-take i text k 0 less) ∙ is)
