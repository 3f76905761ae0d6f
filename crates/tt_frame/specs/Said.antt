-- What a message tells of itself: its head, and then a part for each field, mark and count of its row, in order. Whoever
-- writes messages says what is written for one part; what is written for a message follows.
use Rattle.std.specs.Prelude.{ℕ, Bool, List, [], ◌∷◌, ◌++◌, length}
use Rattle.std.specs.Int.{Width, w8, w16, w32, w64, to_le_bytes}
use Rattle.tt_frame.specs.Text.{text_bytes}
use Rattle.tt_frame.specs.FieldForms.{count_width, Field, Named, u8, u16, u32, u64, within, truth, text, digest, optional_digest, raw}
use Rattle.tt_frame.specs.FieldForms.{Value, optional_bytes, truth_number}
use Rattle.tt_frame.specs.ItemForms.{Item}
use Rattle.tt_frame.specs.Rows.{Row, unknown, end, rest, ◌▸◌, fixed, counted, marked}
use Rattle.tt_frame.specs.Apart.{Values}

-- a part
pub data Said : Type 0 where
  -- the number of the message, which stands first
  head : (kind : ℕ) → Said
  -- a number of that width
  number : Width → ℕ → Said
  -- 0 or 1
  truth_of : Bool → Said
  -- a text
  words : List ℕ → Said
  -- bytes as they are
  bytes : List ℕ → Said
  -- a byte that is always this one
  always : ℕ → Said
  -- how many items follow, in a number of that width
  count : Width → ℕ → Said
  -- 1 before an item, 0 behind the last
  mark : ℕ → Said

-- the part of a field
abbrev pub field_said : (f : Field) → Value f → Said
field_said u8 n = number w8 n
field_said u16 n = number w16 n
field_said u32 n = number w32 n
field_said u64 n = number w64 n
field_said (within w max) n = number (count_width w) n
field_said truth b = truth_of b
field_said (text max) s = words s
field_said digest d = words d
field_said optional_digest o = words (optional_bytes o)
field_said (raw n) s = bytes s

-- the parts of an item
abbrev pub item_said : (fs : List Named) → Item fs → List Said
item_said [] x = []
item_said (f ∷ fs) x = field_said f.field x.0 ∷ item_said fs x.1

-- of items one behind the other
abbrev pub items_said : (fs : List Named) → List (Item fs) → List Said
items_said fs [] = []
items_said fs (x ∷ xs) = item_said fs x ++ items_said fs xs

-- of items behind marks
abbrev pub marks_said : (fs : List Named) → List (Item fs) → List Said
marks_said fs [] = []
marks_said fs (x ∷ xs) = (mark 1 ∷ item_said fs x) ++ marks_said fs xs

-- and of the mark behind the last
abbrev pub marked_said : (fs : List Named) → List (Item fs) → List Said
marked_said fs xs = marks_said fs xs ++ mark 0 ∷ []

-- the parts of a row
abbrev pub row_said : (r : Row) → Values r → List Said
row_said unknown v = absurd v
row_said end v = []
row_said (rest low high) v = bytes v ∷ []
row_said (f ▸ r) v = field_said f.field v.0 ∷ row_said r v.1
row_said (fixed b r) v = always b ∷ row_said r v
row_said (counted w max fs r) v = count (count_width w) (length v.0) ∷ (items_said fs v.0 ++ row_said r v.1)
row_said (marked max fs r) v = marked_said fs v.0 ++ row_said r v.1

-- what is written for parts, one behind the other
abbrev pub each_said : (Said → List ℕ) → List Said → List ℕ
each_said word [] = []
each_said word (x ∷ xs) = word x ++ each_said word xs

-- the bytes of a packet, where zeros stand for its size
abbrev pub said_bytes : Said → List ℕ
said_bytes (head kind) = 0 ∷ 0 ∷ kind ∷ []
said_bytes (number w n) = to_le_bytes w n
said_bytes (truth_of b) = to_le_bytes w8 (truth_number b)
said_bytes (words s) = text_bytes s
said_bytes (bytes s) = s
said_bytes (always b) = b ∷ []
said_bytes (count w n) = to_le_bytes w n
said_bytes (mark b) = b ∷ []
