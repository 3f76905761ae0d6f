-- What a list of packets is, as tools are given it, and its text.
use Rattle.std.specs.Prelude.{◌≡◌, ℕ, List, ◌++◌, map, codes}
use Rattle.std.specs.List.{flat_map, AllByRecursion}
use Rattle.hex.specs.Hex.{encode_lower}
use Rattle.tt_lines.specs.Digits.{IsPiece}
use Rattle.tt_lines.specs.Lines.{lines_of}
use Rattle.tt_show.specs.ListLines.{ListLine}
use Rattle.tt_show.specs.Packets.{family_word}
use Rattle.tt_show.specs.Streams.{bytes_shown}

-- a line without its line feed: the family's word, one blank, and the bytes as pairs of lower-case hexadecimal digits
abbrev pub line_text : ListLine → List ℕ
line_text line = family_word line.family ++ codes " " ++ encode_lower line.bytes

-- it has at least one byte
abbrev pub IsLine : ListLine → Type 0
IsLine line = IsPiece line.bytes

-- the texts are these lines
pub record Spells (lines : List ListLine) (texts : List (List ℕ)) : Type 0 where
  pub each : AllByRecursion IsLine lines
  pub text : texts ≡ map line_text lines

-- the lines of an input are a list
abbrev pub IsList : List (List ℕ) → Type 0
IsList texts = (lines : List ListLine) × Spells lines texts

-- the text that is written for a line
abbrev pub line_shown : ListLine → List ℕ
line_shown line = bytes_shown line.family line.bytes

-- the text that is written for a list
abbrev pub list_shown : List ListLine → List ℕ
list_shown lines = flat_map line_shown lines

-- the input is a list, and this is its text
pub record IsShown (input text : List ℕ) : Type 0 where
  pub lines : List ListLine
  pub spelled : Spells lines (lines_of input)
  pub shown : text ≡ list_shown lines
