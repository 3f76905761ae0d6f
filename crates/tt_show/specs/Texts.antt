-- The text of a message's values: a word for each, in the order of its row.
use Rattle.std.specs.Prelude.{ℕ, List, [], ◌∷◌, ◌++◌, length}
use Rattle.std.specs.Fmt.{decimal}
use Rattle.tt_frame.specs.FieldForms.{Named, Field, u8, u16, u32, u64, within, truth, text, digest, optional_digest, raw, Value}
use Rattle.tt_frame.specs.FieldForms.{optional_bytes, truth_number}
use Rattle.tt_frame.specs.ItemForms.{Item}
use Rattle.tt_frame.specs.Rows.{Row, unknown, end, rest, ◌▸◌, fixed, counted, marked}
use Rattle.tt_frame.specs.Apart.{Values}
use Rattle.tt_lines.specs.Digits.{bytes_text}
use Rattle.tt_show.specs.Words.{word}

-- Numbers are written in decimal and truths as 0 or 1. Texts and bytes are written in hexadecimal digits, or as a dash
-- where they are empty; a digest is the text of its 32 digits, and a dash where there is none.
abbrev pub field_text : (f : Field) → Value f → List ℕ
field_text u8 n = decimal n
field_text u16 n = decimal n
field_text u32 n = decimal n
field_text u64 n = decimal n
field_text (within w max) n = decimal n
field_text truth b = decimal (truth_number b)
field_text (text max) s = bytes_text s
field_text digest d = bytes_text d
field_text optional_digest o = bytes_text (optional_bytes o)
field_text (raw n) s = bytes_text s

-- the fields of an item
abbrev pub item_text : (fs : List Named) → Item fs → List ℕ
item_text [] x = []
item_text (f ∷ fs) x = word (field_text f.field x.0) ++ item_text fs x.1

-- the items, one behind the other
abbrev pub items_text : (fs : List Named) → List (Item fs) → List ℕ
items_text fs [] = []
items_text fs (x ∷ xs) = item_text fs x ++ items_text fs xs

-- The values of a row. A byte that is always the same is written as its number; a count stands before its items; and of
-- items behind marks neither the marks nor a count are written.
abbrev pub row_text : (r : Row) → Values r → List ℕ
row_text unknown v = absurd v
row_text end v = []
row_text (rest low high) v = word (bytes_text v)
row_text (f ▸ r) v = word (field_text f.field v.0) ++ row_text r v.1
row_text (fixed byte r) v = word (decimal byte) ++ row_text r v
row_text (counted w max fs r) v = (word (decimal (length v.0)) ++ items_text fs v.0) ++ row_text r v.1
row_text (marked max fs r) v = items_text fs v.0 ++ row_text r v.1
