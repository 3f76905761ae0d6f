-- Bytes in hexadecimal digits: what spells some spells no others.
use Rattle.std.proofs.Common.{
  ◌≡◌,
  ◌≢◌,
  ℕ,
  zero,
  suc,
  ◌+◌,
  ◌-◌,
  ◌*◌,
  ◌/◌,
  ◌%◌,
  ◌<◌,
  ◌≤◌,
  ◌⊎◌,
  inl,
  inr,
  List,
  [],
  ◌∷◌,
  length,
  Bool,
  true,
  false,
  ◌&&◌,
  Result,
  Ok,
  Err,
  Option,
  Some,
  None,
  refl,
  sym,
  ap,
  ◌∙◌,
  arith,
}
use Rattle.std.specs.Prelude.{slice_index, nat_le, ◌==◌}
use Rattle.std.specs.List.{list_all}
use Rattle.std.proofs.lemmas.Bool.{and_parts, cases_lt, eqb-true}
use Rattle.hex.specs.Hex.{
  encode_lower,
  encode_with,
  lower_digits,
  decode_of,
  decode_pairs,
  hex_digit_value,
  digit_or_error,
  value_at,
  pair_value,
  ◌>>=◌,
}
use Rattle.hex.specs.declared.error.FromHexError.{FromHexError}
use Rattle.hex.specs.declared.error.FromHexError.TheVariants.{OutOfMemory}
use Rattle.hex.proofs.HexLemmas.{decode_of-encode_lower, decode_of-same, decode_of-even, decode_of-ok, length-encode_with}
use Rattle.tt_frame.specs.Packet.{IsBytes}
use Rattle.tt_frame.specs.Text.{is_hex_digit}
use Rattle.tt_lines.specs.Lines.{HasNo}
use Rattle.tt_lines.specs.Digits.{IsPiece}
use Rattle.tt_lines.proofs.Breaks.{has_no-cons}

-- a test that holds of each number below another
abbrev all_below : (ℕ → Bool) → ℕ → Bool
all_below p zero = true
all_below p (suc n) = p n && all_below p n

all_below-at : (p : ℕ → Bool) (n k : ℕ) → all_below p n ≡ true → k < n → p k ≡ true
all_below-at p zero k e lt = absurd (omega (arith, lt))
all_below-at p (suc n) k e lt =
    let parts = and_parts (p n) (all_below p n) e in
    elim (cases_lt k n) [
      | inl less ↦ all_below-at p n k parts.1 less
      | inr most ↦ let same : k ≡ n = omega (arith, lt, most)
          in rw same parts.0
    ]

-- each digit of the table is a digit
digit_in_table : (i : ℕ) → i < 16 → is_hex_digit (slice_index lower_digits i) ≡ true
digit_in_table i lt = all_below-at (λ k. is_hex_digit (slice_index lower_digits k)) 16 i refl lt

-- a digit is no byte below a digit
digit_one : (byte b : ℕ) → byte < 48 → is_hex_digit b ≡ true → b ≢ byte
digit_one byte b low digit e = grind arith

-- digits have none that is below a digit
pub lower_one : (byte : ℕ) (piece : List ℕ) → byte < 48 → IsBytes piece → HasNo byte (encode_lower piece)
unfolding encode_with
lower_one byte [] low bytes = λ i lt. absurd (omega (arith, lt))
lower_one byte (b ∷ piece) low bytes =
    let fits : b < 256 = bytes 0 in
    let high = slice_index lower_digits (b / 16) in
    let low_digit = slice_index lower_digits (b % 16) in
    has_no-cons byte high (low_digit ∷ encode_lower piece) (digit_one byte high low (digit_in_table (b / 16) (omega arith)))
    (has_no-cons byte low_digit (encode_lower piece) (digit_one byte low_digit low (digit_in_table (b % 16) (omega arith)))
    (lower_one byte piece low (λ i. bytes (suc i))))

-- the digits of bytes are digits
pub lower_digits_all : (piece : List ℕ) → IsBytes piece → list_all is_hex_digit (encode_lower piece) ≡ true
unfolding encode_with
lower_digits_all [] bytes = refl
lower_digits_all (b ∷ piece) bytes =
    let fits : b < 256 = bytes 0 in
    rw (digit_in_table (b / 16) (omega arith), digit_in_table (b % 16) (omega arith)) (lower_digits_all piece (λ i. bytes (suc i)))

-- bytes are spelled in one way
pub lower_injective : (a b : List ℕ) → IsBytes a → IsBytes b → encode_lower a ≡ encode_lower b → a ≡ b
lower_injective a b fits other e =
    decode_of-same (encode_lower a) a b (decode_of-encode_lower a fits) (ap decode_of e ∙ decode_of-encode_lower b other)

-- ---- digits, decoded

-- what a step that went well gave
bind_ok : {A B : Type 0} (r : Result A FromHexError) (f : A → Result B FromHexError) (y : B) → r >>= f ≡ Ok y → (x : A) × (r ≡ Ok x)
    × (f x ≡ Ok y)
bind_ok (Ok x) f y e = (x, refl, e)
bind_ok (Err error) f y e = absurd cc

digit_read : (c i v : ℕ) (o : Option ℕ) → digit_or_error c i o ≡ Ok v → o ≡ Some v
digit_read c i v (Some w) e = let same : w ≡ v = cc in ap Some same
digit_read c i v None e = absurd cc

low_digit : (v : ℕ) → v < 10 → slice_index lower_digits v ≡ v + 48
low_digit v lt = eqb-true (slice_index lower_digits v) (v + 48) (all_below-at (λ k. slice_index lower_digits k == k + 48) 10 v refl lt)

high_digit : (v : ℕ) → v < 6 → slice_index lower_digits (v + 10) ≡ v + 97
high_digit v lt =
    eqb-true (slice_index lower_digits (v + 10)) (v + 97) (all_below-at (λ k. slice_index lower_digits (k + 10) == k + 97) 6 v refl lt)

-- a digit is one of the ten, or one of the six letters
digit_kinds : (c : ℕ) → is_hex_digit c ≡ true → ((48 ≤ c) × (c ≤ 57)) ⊎ ((97 ≤ c) × (c ≤ 102))
digit_kinds c e = elim (cases_lt c 58) [
  | inl low ↦ elim (cases_lt c 48) [
    | inl less ↦ let a : nat_le 48 c ≡ false = grind arith in let b : nat_le 97 c ≡ false = grind arith in let bad =
        rw (a, b) at e in absurd cc
    | inr most ↦ inl (most, omega (arith, low))
  ]
  | inr mid ↦
      let a : nat_le c 57 ≡ false = grind arith in
      elim (cases_lt c 97) [
        | inl less ↦ let b : nat_le 97 c ≡ false = grind arith in let d : nat_le 48 c ≡ true = grind arith in let bad =
            rw (a, b, d) at e in absurd cc
        | inr letter ↦ elim (cases_lt c 103) [
          | inl most ↦ inr (letter, omega (arith, most))
          | inr over ↦ let b : nat_le c 102 ≡ false = grind arith in let d : nat_le 48 c ≡ true =
              grind arith in let f : nat_le 97 c ≡ true = grind arith in let bad = rw (a, b, d, f) at e in absurd cc
        ]
      ]
]

digit_value : (c : ℕ) → 48 ≤ c → c ≤ 57 → hex_digit_value c ≡ Some (c - 48)
digit_value c low high =
    let a : nat_le 65 c ≡ false = grind arith in
    let b : nat_le 97 c ≡ false = grind arith in
    let d : nat_le 48 c ≡ true = grind arith in
    let f : nat_le c 57 ≡ true = grind arith in
    rw (a, b, d, f) refl

letter_value : (c : ℕ) → 97 ≤ c → c ≤ 102 → hex_digit_value c ≡ Some (c - 87)
letter_value c low high =
    let a : nat_le 65 c ≡ true = grind arith in
    let g : nat_le c 70 ≡ false = grind arith in
    let b : nat_le 97 c ≡ true = grind arith in
    let d : nat_le c 102 ≡ true = grind arith in
    rw (a, g, b, d) refl

some_is : (a b : ℕ) → Some a ≡ Some b → a ≡ b
some_is a b e = cc

-- a digit's value, and the digit at that place of the table
value_of_digit : (c i v : ℕ) → is_hex_digit c ≡ true → digit_or_error c i (hex_digit_value c) ≡ Ok v → (v < 16)
    × (slice_index lower_digits v ≡ c)
value_of_digit c i v digit e =
    let read = digit_read c i v (hex_digit_value c) e in
    elim (digit_kinds c digit) [
      | inl low ↦
          let is : c - 48 ≡ v = some_is (c - 48) v (sym (digit_value c low.0 low.1) ∙ read) in
          let c_is : v + 48 ≡ c = omega (arith, is, low.0) in
          (omega (arith, is, low.1), low_digit v (omega (arith, is, low.1)) ∙ c_is)
      | inr high ↦
          let is : c - 87 ≡ v = some_is (c - 87) v (sym (letter_value c high.0 high.1) ∙ read) in
          let place : v ≡ (c - 97) + 10 = omega (arith, is, high.0) in
          let c_is : (c - 97) + 97 ≡ c = omega (arith, high.0) in
          (omega (arith, is, high.1), ap (slice_index lower_digits) place ∙ high_digit (c - 97) (omega (arith, high.1)) ∙ c_is)
    ]

ok_is : (a b : List ℕ) → ◌≡◌ {A = Result (List ℕ) FromHexError} (Ok a) (Ok b) → a ≡ b
ok_is a b e = cc

ok_number : (a b : ℕ) → ◌≡◌ {A = Result ℕ FromHexError} (Ok a) (Ok b) → a ≡ b
ok_number a b e = cc

-- digits that decode to bytes are their spelling
pub spelled_by_digits : (i : ℕ) (digits bytes : List ℕ) → list_all is_hex_digit digits ≡ true → decode_pairs i digits ≡ Ok bytes
    → digits ≡ encode_lower bytes
unfolding decode_pairs encode_with
spelled_by_digits i [] bytes all e = let same : [] ≡ bytes = ok_is [] bytes e in rw (← same) refl
spelled_by_digits i (a ∷ []) bytes all e = absurd cc
spelled_by_digits i (a ∷ b ∷ rest) bytes all e =
    let first = and_parts (is_hex_digit a) (is_hex_digit b && list_all is_hex_digit rest) all in
    let second = and_parts (is_hex_digit b) (list_all is_hex_digit rest) first.1 in
    let pair = bind_ok (pair_value a b i) _ bytes e in
    let high = bind_ok (value_at a i) _ pair.0 pair.1 in
    let low = bind_ok (value_at b (i + 1)) _ pair.0 high.2 in
    let later = bind_ok (decode_pairs (i + 2) rest) _ bytes pair.2 in
    let high_is = value_of_digit a i high.0 first.0 high.1 in
    let low_is = value_of_digit b (i + 1) low.0 second.0 low.1 in
    let byte : high.0 * 16 + low.0 ≡ pair.0 = ok_number (high.0 * 16 + low.0) pair.0 low.2 in
    let upper : pair.0 / 16 ≡ high.0 = omega (arith, byte, low_is.0) in
    let under : pair.0 % 16 ≡ low.0 = omega (arith, byte, low_is.0) in
    let whole : pair.0 ∷ later.0 ≡ bytes = ok_is (pair.0 ∷ later.0) bytes later.2 in
    let tail : rest ≡ encode_lower later.0 = spelled_by_digits (i + 2) rest later.0 second.1 later.1 in
    let digit : slice_index lower_digits (pair.0 / 16) ≡ a = ap (slice_index lower_digits) upper ∙ high_is.1 in
    let other : slice_index lower_digits (pair.0 % 16) ≡ b = ap (slice_index lower_digits) under ∙ low_is.1 in
    rw (← whole, digit, other, ← tail) refl

-- ---- digits that spell no piece

pub no_digits_none : (digits : List ℕ) → length digits ≡ 0 → (piece : List ℕ) → IsPiece piece → digits ≢ encode_lower piece
no_digits_none digits none piece is e = omega (arith, none, is.some, ap length e, length-encode_with lower_digits piece)

pub other_digits_none : (digits : List ℕ) → list_all is_hex_digit digits ≡ false → (piece : List ℕ) → IsPiece piece
    → digits ≢ encode_lower piece
other_digits_none digits bad piece is e = let good = lower_digits_all piece is.bytes in let also = ap (list_all is_hex_digit) e in absurd cc

pub undecoded_none : (digits : List ℕ) (error : FromHexError) → decode_of digits ≡ Err error → (piece : List ℕ) → IsPiece piece
    → digits ≢ encode_lower piece
undecoded_none digits error bad piece is e = let good = ap decode_of e ∙ decode_of-encode_lower piece is.bytes in absurd cc

-- what decoding refuses, and not for memory
pub refused_none : (digits : List ℕ) (error : FromHexError) → error ≢ OutOfMemory → (error ≡ OutOfMemory) ⊎ (decode_of digits ≡ Err error)
    → (piece : List ℕ) → IsPiece piece → digits ≢ encode_lower piece
refused_none digits error other (inl memory) = absurd (other memory)
refused_none digits error other (inr bad) = undecoded_none digits error bad

-- what was decoded is a piece, and the digits are its spelling
pub decoded : (digits bytes : List ℕ) → 0 < length digits → list_all is_hex_digit digits ≡ true → decode_of digits ≡ Ok bytes
    → IsPiece bytes × (digits ≡ encode_lower bytes)
decoded digits bytes some all e =
    let ok = decode_of-ok digits bytes e in
    (record { bytes = ok.3; some = omega (arith, some, ok.2) }, spelled_by_digits 0 digits bytes all (sym (decode_of-even digits ok.0) ∙ e))
