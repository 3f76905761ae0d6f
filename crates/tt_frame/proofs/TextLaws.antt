-- The test of a text is true exactly of the texts.
use Rattle.std.proofs.Common.{◌≡◌, ℕ, ◌≤◌, ◌<◌, ◌↔◌, List, length, Bool, true, false, refl, arith, inl, inr}
use Rattle.std.specs.Prelude.{◌&&◌, ◌==◌, nat_le}
use Rattle.std.specs.List.{list_all}
use Rattle.std.specs.Str.{IsUtf8, is_utf8}
use Rattle.std.proofs.lemmas.Bool.{lt-leb}
use Rattle.std.proofs.lemmas.Str.{IsUtf8-from_is_utf8, IsUtf8-from_ascii, is_utf8-from_IsUtf8}
use Rattle.std.proofs.lemmas.Str.Ascii.{IsAscii-from_all}
use Rattle.std.proofs.lemmas.List.Elements.{All-weaker}
use Rattle.std.proofs.lemmas.List.Sums.{AllPass-from_list_all, list_all-from_AllPass}
use Rattle.tt_frame.proofs.TestLaws.{and_both, both_and, or_either, le_of_test, test_of_le, eq_of_test}
use Rattle.tt_frame.specs.Text.{IsText, is_text, is_shown, is_plain, is_digest, is_hex_digit}

-- the three parts of the test
parts_of : (max : ℕ) (bytes : List ℕ) → is_text max bytes ≡ true → (length bytes ≤ max) × (list_all is_shown bytes ≡ true)
    × (is_utf8 bytes ≡ true)
unfolding is_text
parts_of max bytes e =
    let all = and_both (nat_le (length bytes) max && list_all is_shown bytes) (is_utf8 bytes) e in
    let front = and_both (nat_le (length bytes) max) (list_all is_shown bytes) all.0 in
    (le_of_test (length bytes) max front.0, front.1, all.1)

pub length_of_text : (max : ℕ) (bytes : List ℕ) → is_text max bytes ≡ true → length bytes ≤ max
length_of_text max bytes e = (parts_of max bytes e).0

pub IsText-from_is_text : (max : ℕ) (bytes : List ℕ) → is_text max bytes ≡ true → IsText bytes
IsText-from_is_text max bytes e =
    let parts = parts_of max bytes e in
    record {
      utf8 = IsUtf8-from_is_utf8 bytes parts.2;
      shown = All-weaker (λ b. is_shown b ≡ true) (λ b. 32 ≤ b) (λ b. le_of_test 32 b) bytes (AllPass-from_list_all is_shown bytes parts.1);
    }

pub is_text-from_IsText : (max : ℕ) (bytes : List ℕ) → IsText bytes → length bytes ≤ max → is_text max bytes ≡ true
unfolding is_text
is_text-from_IsText max bytes t le =
    both_and (nat_le (length bytes) max && list_all is_shown bytes) (is_utf8 bytes)
    (both_and (nat_le (length bytes) max) (list_all is_shown bytes) (test_of_le (length bytes) max le)
    (list_all-from_AllPass is_shown bytes (All-weaker (λ b. 32 ≤ b) (λ b. is_shown b ≡ true) (λ b. test_of_le 32 b) bytes t.shown)))
    (is_utf8-from_IsUtf8 bytes t.utf8)

pub text_test_is : (max : ℕ) (bytes : List ℕ) → (is_text max bytes ≡ true) ↔ (IsText bytes × (length bytes ≤ max))
text_test_is max bytes =
    ((λ e. (IsText-from_is_text max bytes e, length_of_text max bytes e)), (λ t. is_text-from_IsText max bytes t.0 t.1))

-- where the test is false there is no such text
pub no_text : (max : ℕ) (bytes : List ℕ) → is_text max bytes ≡ false → IsText bytes × (length bytes ≤ max) → ⊥
no_text max bytes e t = let yes = is_text-from_IsText max bytes t.0 t.1 in cc

by_cases : (b : Bool) → (b ≡ true → ⊥) → b ≡ false
by_cases true h = absurd (h refl)
by_cases false h = refl

pub not_utf8 : (bytes : List ℕ) → (IsUtf8 bytes → ⊥) → is_utf8 bytes ≡ false
not_utf8 bytes h = by_cases (is_utf8 bytes) (λ e. h (IsUtf8-from_is_utf8 bytes e))

plain_byte : (b : ℕ) → nat_le 32 b && nat_le b 126 ≡ true → (32 ≤ b) × (b ≤ 126)
plain_byte b e = let both = and_both (nat_le 32 b) (nat_le b 126) e in (le_of_test 32 b both.0, le_of_test b 126 both.1)

pub IsText-from_is_plain : (bytes : List ℕ) → is_plain bytes ≡ true → IsText bytes
IsText-from_is_plain bytes e =
    let each = AllPass-from_list_all (λ b. nat_le 32 b && nat_le b 126) bytes e in
    record {
      utf8 = IsUtf8-from_ascii bytes (IsAscii-from_all bytes (All-weaker (λ b. nat_le 32 b && nat_le b 126 ≡ true) (λ b. b < 128)
          (λ b p. let le = (plain_byte b p).1 in omega arith) bytes each));
      shown = All-weaker (λ b. nat_le 32 b && nat_le b 126 ≡ true) (λ b. 32 ≤ b) (λ b p. (plain_byte b p).0) bytes each;
    }

pub length_of_digest : (bytes : List ℕ) → is_digest bytes ≡ true → length bytes ≡ 32
unfolding is_digest
length_of_digest bytes e = eq_of_test (length bytes) 32 (and_both (length bytes == 32) (list_all is_hex_digit bytes) e).0

-- a hexadecimal digit is a printable character
plain_digit : (b : ℕ) → is_hex_digit b ≡ true → nat_le 32 b && nat_le b 126 ≡ true
plain_digit b e = elim (or_either (nat_le 48 b && nat_le b 57) (nat_le 97 b && nat_le b 102) e) [
  | inl low ↦ let both = and_both (nat_le 48 b) (nat_le b 57) low in both_and (nat_le 32 b) (nat_le b 126) (test_of_le 32 b (let le =
      le_of_test 48 b both.0 in omega arith)) (test_of_le b 126 (let le = le_of_test b 57 both.1 in omega arith))
  | inr high ↦ let both = and_both (nat_le 97 b) (nat_le b 102) high in both_and (nat_le 32 b) (nat_le b 126) (test_of_le 32 b (let le =
      le_of_test 97 b both.0 in omega arith)) (test_of_le b 126 (let le = le_of_test b 102 both.1 in omega arith))
]

digits_of : (bytes : List ℕ) → is_digest bytes ≡ true → list_all is_hex_digit bytes ≡ true
unfolding is_digest
digits_of bytes e = (and_both (length bytes == 32) (list_all is_hex_digit bytes) e).1

-- a digest is a text
pub IsText-from_is_digest : (bytes : List ℕ) → is_digest bytes ≡ true → IsText bytes
IsText-from_is_digest bytes e = IsText-from_is_plain bytes (list_all-from_AllPass (λ b. nat_le 32 b && nat_le b 126) bytes
    (All-weaker (λ b. is_hex_digit b ≡ true) (λ b. nat_le 32 b && nat_le b 126 ≡ true) plain_digit bytes (AllPass-from_list_all
    is_hex_digit bytes (digits_of bytes e))))

-- of bytes that are few enough only the test of a text of any length is left
pub is_text-short : (max : ℕ) (bytes : List ℕ) → length bytes ≤ max → is_text max bytes ≡ (list_all is_shown bytes && is_utf8 bytes)
unfolding is_text
is_text-short max bytes le = rw (test_of_le (length bytes) max le) refl

-- bytes that are too many are no text
pub is_text-long : (max : ℕ) (bytes : List ℕ) → max < length bytes → is_text max bytes ≡ false
unfolding is_text
is_text-long max bytes lt = let no : nat_le (length bytes) max ≡ false = lt-leb (length bytes) max lt in rw no refl
