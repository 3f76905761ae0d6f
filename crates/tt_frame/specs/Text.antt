-- What a text is: first as a fact, for readers, and then as a test, for the functions that read lists of bytes.
use Rattle.std.specs.Prelude.{ℕ, ◌≤◌, List, [], ◌∷◌, ◌++◌, length, All, Bool, ◌&&◌, ◌||◌, ◌==◌, nat_le}
use Rattle.std.specs.List.{list_all}
use Rattle.std.specs.Str.{IsUtf8, is_utf8}

-- valid UTF-8 with no byte below 32
pub record IsText (bytes : List ℕ) : Type 0 where
  pub utf8 : IsUtf8 bytes
  pub shown : All (λ byte. 32 ≤ byte) bytes

-- a text of at most 31 bytes
pub record IsShort (bytes : List ℕ) : Type 0 where
  pub text : IsText bytes
  pub fits : length bytes ≤ 31

-- a text of 1 to 31 bytes
pub record IsName (bytes : List ℕ) : Type 0 where
  pub text : IsText bytes
  pub some : 1 ≤ length bytes
  pub fits : length bytes ≤ 31

-- whether a byte is none of the 32 control bytes
abbrev pub is_shown : ℕ → Bool
is_shown byte = nat_le 32 byte

-- whether the bytes are a text of at most `max` bytes; `text_test` of this crate says that it is the test of `IsText`
unfoldable pub is_text : ℕ → List ℕ → Bool
is_text max bytes = nat_le (length bytes) max && list_all is_shown bytes && is_utf8 bytes

-- whether each byte is a printable ASCII character; a literal's bytes compute to true, and such bytes are a text
abbrev pub is_plain : List ℕ → Bool
is_plain bytes = list_all (λ byte. nat_le 32 byte && nat_le byte 126) bytes

-- a text on the wire: its bytes, and one zero byte
abbrev pub text_bytes : List ℕ → List ℕ
text_bytes bytes = bytes ++ 0 ∷ []

-- whether a byte is a lower-case hexadecimal digit
abbrev pub is_hex_digit : ℕ → Bool
is_hex_digit byte = (nat_le 48 byte && nat_le byte 57) || (nat_le 97 byte && nat_le byte 102)

-- whether the bytes are 32 lower-case hexadecimal digits
unfoldable pub is_digest : List ℕ → Bool
is_digest bytes = (length bytes == 32) && list_all is_hex_digit bytes
