-- Text on its way to a sink, by a page: what of it was written, and what waits on the page.
use Rattle.std.specs.Prelude.{◌≡◌, ℕ, ◌<◌, List, [], ◌++◌, length, codes, Option}
use Rattle.std.specs.List.{flat_map}
use Rattle.std.specs.Int.{w32, to_be_bytes}
use Rattle.std.specs.Fmt.{decimal}
use Rattle.std.specs.Io.KnownBytes.{Appends}
use Rattle.hex.specs.Hex.{encode_lower}
use Rattle.tt_serving.specs.declared.page.Label.{Label}
use Rattle.tt_serving.specs.declared.page.Label.TheVariants as label
use Rattle.tt_serving.specs.declared.page.Part.{Part}
use Rattle.tt_serving.specs.declared.page.Part.TheVariants.{Words, Number, Word}

-- the fixed words of a summary
abbrev pub label_text : Label → List ℕ
label_text label.Connections = codes "connections "
label_text label.Frame = codes "frame "
label_text label.Entries = codes "entries "
label_text label.Random = codes "words "
label_text label.Conn = codes "conn "
label_text label.Blank = codes " "
label_text label.End = codes "\n"

-- a part of a line: fixed words, a number in decimal, a word of 32 bits in eight hexadecimal digits
abbrev pub part_text : Part → List ℕ
part_text (Words label) = label_text label
part_text (Number number) = decimal number
part_text (Word word) = encode_lower (to_be_bytes w32 word)

-- parts, one behind the other
abbrev pub parts_text : List Part → List ℕ
parts_text parts = flat_map part_text parts

-- the line of a connection: its number, and how many bytes it was told
abbrev pub count_text : ℕ → ℕ → List ℕ
count_text conn count = codes "conn " ++ decimal conn ++ codes " " ++ decimal count ++ codes "\n"

-- Text was put: a front of what waited and of the text behind it was written, and the rest waits.
pub record Puts (held held' : Option (List ℕ)) (waiting waiting' text : List ℕ) : Type 0 where
  pub out : List ℕ
  pub written : Appends held held' out
  pub all : out ++ waiting' ≡ waiting ++ text

-- The sink failed: a front of what waited and of the text behind it was written, and the rest is lost.
pub record Loses (held held' : Option (List ℕ)) (waiting text : List ℕ) : Type 0 where
  pub out : List ℕ
  pub lost : List ℕ
  pub some : 0 < length lost
  pub written : Appends held held' out
  pub all : out ++ lost ≡ waiting ++ text
