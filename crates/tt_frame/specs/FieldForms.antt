-- The forms of a field of a message: what its value is, what it is spelled as, which values it has, and how it is read.
use Rattle.std.specs.Prelude.{◌≡◌, ℕ, ◌^◌, ◌<◌, ◌≤◌, Bool, true, false, List, [], length, Option, Some, None, Result}
use Prim.Native.String.{String}
use Rattle.std.specs.Int.{Width, w8, w16, w32, w64, to_le_bytes}
use Rattle.tt_frame.specs.Text.{is_text, is_digest, text_bytes}
use Rattle.tt_frame.specs.Unread.{Unread}
use Rattle.tt_frame.specs.Reading.{number_at, within_at, truth_at, text_at, digest_at, optional_digest_at, raw_at}

-- how wide a number in a range is, and a count: one byte, or two
pub data CountWidth : Type 0 where
  byte word : CountWidth

-- the same as a width of numbers
abbrev pub count_width : CountWidth → Width
count_width byte = w8
count_width word = w16

-- the numbers of that width are below this
abbrev pub count_limit : CountWidth → ℕ
count_limit byte = 2 ^ 8
count_limit word = 2 ^ 16

-- a field's form
pub data Field : Type 0 where
  -- a number of 1, 2, 4 or 8 bytes
  u8 u16 u32 u64 : Field
  -- a number of that width from 0 to max
  within : (w : CountWidth) (max : ℕ) → Field
  -- 0 or 1
  truth : Field
  -- a text of at most max bytes
  text : (max : ℕ) → Field
  -- 32 lower-case hexadecimal digits, as a text
  digest : Field
  -- a digest, or the empty text
  optional_digest : Field
  -- n bytes as they are
  raw : (n : ℕ) → Field

-- a field as it stands in a row or in an item: its name, and its form
pub record Named : Type 0 where
  pub name : String
  pub field : Field

-- how it is written in a table: "token" ⦂ text 31
infix 70 ◌⦂◌
abbrev pub ◌⦂◌ : String → Field → Named
name ⦂ field = record { name = name; field = field }

-- a byte from 0 to max
abbrev pub up_to : ℕ → Field
up_to max = within byte max

-- what a field's value is
abbrev pub Value : Field → Type 0
Value u8 = ℕ
Value u16 = ℕ
Value u32 = ℕ
Value u64 = ℕ
Value (within w max) = ℕ
Value truth = Bool
Value (text max) = List ℕ
Value digest = List ℕ
Value optional_digest = Option (List ℕ)
Value (raw n) = List ℕ

-- the digest, or the empty text for none
abbrev pub optional_bytes : Option (List ℕ) → List ℕ
optional_bytes None = []
optional_bytes (Some d) = d

-- the byte of a truth value
abbrev pub truth_number : Bool → ℕ
truth_number true = 1
truth_number false = 0

-- its bytes: numbers with the low byte first, texts with a zero behind them
abbrev pub spelled : (f : Field) → Value f → List ℕ
spelled u8 n = to_le_bytes w8 n
spelled u16 n = to_le_bytes w16 n
spelled u32 n = to_le_bytes w32 n
spelled u64 n = to_le_bytes w64 n
spelled (within w max) n = to_le_bytes (count_width w) n
spelled truth b = to_le_bytes w8 (truth_number b)
spelled (text max) s = text_bytes s
spelled digest d = text_bytes d
spelled optional_digest o = text_bytes (optional_bytes o)
spelled (raw n) s = s

-- what is there is a digest
abbrev pub IsOptionalDigest : Option (List ℕ) → Type 0
IsOptionalDigest None = Unit {0}
IsOptionalDigest (Some d) = is_digest d ≡ true

-- the values that it has
abbrev pub Fits : (f : Field) → Value f → Type 0
Fits u8 n = n < 2 ^ 8
Fits u16 n = n < 2 ^ 16
Fits u32 n = n < 2 ^ 32
Fits u64 n = n < 2 ^ 64
Fits (within w max) n = (n ≤ max) × (n < count_limit w)
Fits truth b = Unit {0}
Fits (text max) s = is_text max s ≡ true
Fits digest d = is_digest d ≡ true
Fits optional_digest o = IsOptionalDigest o
Fits (raw n) s = length s ≡ n

-- its value and what is left behind it, or the place where it isn't there
abbrev pub field_at : (f : Field) → Unread → Result (Value f × Unread) ℕ
field_at u8 s = number_at w8 s
field_at u16 s = number_at w16 s
field_at u32 s = number_at w32 s
field_at u64 s = number_at w64 s
field_at (within w max) s = within_at (count_width w) max s
field_at truth s = truth_at s
field_at (text max) s = text_at max s
field_at digest s = digest_at s
field_at optional_digest s = optional_digest_at s
field_at (raw n) s = raw_at n s
