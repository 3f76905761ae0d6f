-- The value that a word spells: each form is read from its spelling, and from nothing else.
use Rattle.std.proofs.Common.{◌≡◌, ◌≢◌, ℕ, ◌^◌, ◌<◌, ◌≤◌, List, [], ◌∷◌, length, Bool, true, false, ◌&&◌, cond, Result, Ok, Err, Option}
use Rattle.std.proofs.Common.{Some, None, refl, sym, ap, ◌∙◌, arith}
use Rattle.std.specs.Prelude.{nat_le, nat_lt, IfSome, IfNone, codes}
use Rattle.std.specs.Str.{bytes_eq}
use Rattle.std.specs.Str.Parse.{digits_value}
use Rattle.std.specs.Fmt.{decimal}
use Rattle.std.proofs.lemmas.Fmt.{digits_value-decimal}
use Rattle.std.proofs.lemmas.Bool.{and_parts}
use Rattle.std.proofs.lemmas.Slice.Eq.{bytes_eq-Decides}
use Rattle.hex.specs.Hex.{encode_lower, decode_of, lower_digits}
use Rattle.hex.specs.declared.error.FromHexError.{FromHexError}
use Rattle.hex.proofs.HexLemmas.{decode_of-encode_lower, decode_of-ok, length-encode_with}
use Rattle.tt_frame.proofs.TestLaws.{both_and, le_of_test, test_of_le, lt_of_test, test_of_lt}
use Rattle.tt_frame.specs.Packet.{IsBytes}
use Rattle.tt_frame.specs.Text.{is_text}
use Rattle.tt_log.specs.Forms.{IsTextFrom, text_spelled}
use Rattle.tt_lines.specs.Digits.{IsPiece}
use Rattle.tt_log.specs.Rows.{number_in, within, spelled_so, hex_in, text_in, text_within}
use Rattle.tt_lines.proofs.Decimals.{own}

-- what stands behind a test
pub if_some : {A : Type 0} (t : Bool) (x y : A) → cond t (Some x) None ≡ Some y → (t ≡ true) × (x ≡ y)
if_some true x y e = (refl, cc)
if_some false x y e = absurd cc

pub if_none : {A : Type 0} (t : Bool) (x : A) → (t ≡ true → ⊥) → cond t (Some x) None ≡ None
if_none true x never = absurd (never refl)
if_none false x never = refl

same_bytes : (w : List ℕ) → bytes_eq w w ≡ true
same_bytes w = (bytes_eq-Decides w w).1 refl

-- ---- numbers

pub number_found : (w : List ℕ) (n : ℕ) → w ≡ decimal n → n < 2 ^ 32 → number_in w ≡ Some n
unfolding number_in
number_found w n is lt =
    let value : digits_value 10 (decimal n) ≡ n = digits_value-decimal own n (omega (arith, lt)) in
    let test : (bytes_eq (decimal n) (decimal n) && nat_lt n (2 ^ 32)) ≡ true =
    both_and _ _ (same_bytes (decimal n)) (test_of_lt n (2 ^ 32) lt) in
    rw (is, value, test) refl

pub number_back : (w : List ℕ) (n : ℕ) → number_in w ≡ Some n → (w ≡ decimal n) × (n < 2 ^ 32)
unfolding number_in
number_back w n e =
    let v = digits_value 10 w in
    let got = if_some (bytes_eq (decimal v) w && nat_lt v (2 ^ 32)) v n e in
    let parts = and_parts (bytes_eq (decimal v) w) (nat_lt v (2 ^ 32)) got.0 in
    let is : decimal v ≡ w = (bytes_eq-Decides (decimal v) w).0 parts.0 in
    let lt : v < 2 ^ 32 = lt_of_test v (2 ^ 32) parts.1 in
    (sym is ∙ ap decimal got.1, omega (arith, lt, got.1))

some_or_none : (o : Option ℕ) → ((n : ℕ) → o ≡ Some n → ⊥) → o ≡ None
some_or_none None never = refl
some_or_none (Some n) never = absurd (never n refl)

pub number_is : (w : List ℕ) (r : Option ℕ) → IfSome r (λ n. w ≡ decimal n) → IfSome r (λ n. n < 2 ^ 32) → IfNone r ((n : ℕ) → n < 2 ^ 32
    → w ≢ decimal n) → r ≡ number_in w
number_is w (Some n) found small none = sym (number_found w n found small)
number_is w None found small none = sym (some_or_none (number_in w) (λ n e. let back = number_back w n e in none n back.1 back.0))

pub within_found : (least most n : ℕ) → least ≤ n → n ≤ most → within least most n ≡ Some n
within_found least most n low high = rw (test_of_le least n low, test_of_le n most high) refl

pub within_back : (least most n m : ℕ) → within least most n ≡ Some m → (n ≡ m) × (least ≤ n) × (n ≤ most)
within_back least most n m e =
    let got = if_some (nat_le least n && nat_le n most) n m e in
    let parts = and_parts (nat_le least n) (nat_le n most) got.0 in
    (got.1, le_of_test least n parts.0, le_of_test n most parts.1)

pub too_low : (least most n : ℕ) → n < least → within least most n ≡ None
too_low least most n low = if_none (nat_le least n && nat_le n most) n (λ e. let parts = and_parts (nat_le least n) (nat_le n most) e
    in let no = le_of_test least n parts.0 in omega (arith, no, low))

pub too_high : (least most n : ℕ) → most < n → within least most n ≡ None
too_high least most n high = if_none (nat_le least n && nat_le n most) n (λ e. let parts = and_parts (nat_le least n) (nat_le n most) e
    in let no = le_of_test n most parts.1 in omega (arith, no, high))

-- ---- digits

ok_list : (a b : List ℕ) → ◌≡◌ {A = Result (List ℕ) FromHexError} (Ok a) (Ok b) → a ≡ b
ok_list a b e = cc

pub hex_found : (w piece : List ℕ) → IsPiece piece → w ≡ encode_lower piece → hex_in w ≡ Some piece
unfolding hex_in
hex_found w piece fits is =
    let test : (nat_lt 0 (length piece) && bytes_eq (encode_lower piece) (encode_lower piece)) ≡ true =
    both_and _ _ (test_of_lt 0 (length piece) fits.some) (same_bytes (encode_lower piece)) in
    rw (is, decode_of-encode_lower piece fits.bytes, test) refl

so_back : (w piece : List ℕ) (r : Result (List ℕ) FromHexError) → decode_of w ≡ r → spelled_so w r ≡ Some piece → IsPiece piece
    × (w ≡ encode_lower piece)
so_back w piece (Err error) decoded e = absurd cc
so_back w piece (Ok content) decoded e =
    let got = if_some (nat_lt 0 (length content) && bytes_eq (encode_lower content) w) content piece e in
    let parts = and_parts (nat_lt 0 (length content)) (bytes_eq (encode_lower content) w) got.0 in
    let is : encode_lower content ≡ w = (bytes_eq-Decides (encode_lower content) w).0 parts.1 in
    let some : 0 < length content = lt_of_test 0 (length content) parts.0 in
    let fits : IsPiece content = record { bytes = (decode_of-ok w content decoded).3; some = some } in
    rw (← got.1) (fits, sym is)

pub hex_back : (w piece : List ℕ) → hex_in w ≡ Some piece → IsPiece piece × (w ≡ encode_lower piece)
unfolding hex_in
hex_back w piece e = so_back w piece (decode_of w) refl e

no_bytes : (o : Option (List ℕ)) → ((piece : List ℕ) → o ≡ Some piece → ⊥) → o ≡ None
no_bytes None never = refl
no_bytes (Some piece) never = absurd (never piece refl)

pub hex_lost : (w : List ℕ) → ((piece : List ℕ) → IsPiece piece → w ≢ encode_lower piece) → hex_in w ≡ None
hex_lost w none = no_bytes (hex_in w) (λ piece e. let back = hex_back w piece e in none piece back.0 back.1)

-- ---- texts

not_dash : (b : ℕ) (content : List ℕ) → bytes_eq (encode_lower (b ∷ content)) (codes "-") ≡ false
not_dash b content =
    elim (bytes_eq (encode_lower (b ∷ content)) (codes "-")) as (λ t. bytes_eq (encode_lower (b ∷ content)) (codes "-") ≡ t → t ≡ false) [
      | true ↦ λ e. let is = (bytes_eq-Decides (encode_lower (b ∷ content)) (codes "-")).0 e in let long =
          ap length is in absurd (omega (arith, long, length-encode_with lower_digits (b ∷ content)))
      | false ↦ λ e. refl
    ] refl

pub text_found : (w content : List ℕ) → IsBytes content → w ≡ text_spelled content → text_in w ≡ Some content
unfolding text_in
text_found w [] bytes is = rw is refl
text_found w (b ∷ content) bytes is =
    let piece : IsPiece (b ∷ content) = record { bytes = bytes; some = omega arith } in
    rw (is, not_dash b content) (hex_found (encode_lower (b ∷ content)) (b ∷ content) piece refl)

spelled_piece : (w content : List ℕ) → IsPiece content → w ≡ encode_lower content → w ≡ text_spelled content
spelled_piece w [] piece is = absurd (omega (arith, piece.some))
spelled_piece w (b ∷ content) piece is = is

text_by : (w content : List ℕ) (t : Bool) → bytes_eq w (codes "-") ≡ t → cond t (Some []) (hex_in w) ≡ Some content → IsBytes content
    × (w ≡ text_spelled content)
text_by w content true dash e =
    let empty : [] ≡ content = (if_some true [] content e).1 in
    let is = (bytes_eq-Decides w (codes "-")).0 dash in
    rw (← empty) ((λ i. omega arith), is)
text_by w content false dash e =
    let back = hex_back w content e in
    (back.0.bytes, spelled_piece w content back.0 back.1)

pub text_back : (w content : List ℕ) → text_in w ≡ Some content → IsBytes content × (w ≡ text_spelled content)
unfolding text_in
text_back w content e = text_by w content (bytes_eq w (codes "-")) refl e

pub text_within_found : (least most : ℕ) (content : List ℕ) → IsTextFrom least most content → text_within least most content ≡ Some content
text_within_found least most content fits = rw (test_of_le least (length content) fits.some, fits.text) refl

pub text_within_back : (least most : ℕ) (content kept : List ℕ) → text_within least most content ≡ Some kept → (content ≡ kept)
    × (least ≤ length content) × (is_text most content ≡ true)
text_within_back least most content kept e =
    let got = if_some (nat_le least (length content) && is_text most content) content kept e in
    let parts = and_parts (nat_le least (length content)) (is_text most content) got.0 in
    (got.1, le_of_test least (length content) parts.0, parts.1)
