-- The forms of a word of a line: what its value is, which values it has, and how they are spelled.
use Rattle.std.specs.Prelude.{◌≡◌, ℕ, ◌^◌, ◌≤◌, ◌<◌, true, List, [], ◌∷◌, ◌++◌, codes, length}
use Rattle.std.specs.Fmt.{decimal}
use Rattle.hex.specs.Hex.{encode_lower}
use Rattle.tt_frame.specs.Packet.{IsBytes}
use Rattle.tt_frame.specs.Text.{is_text}
use Rattle.tt_lines.specs.Lines.{HasNo}
use Rattle.tt_lines.specs.Digits.{IsPiece}
use Rattle.tt_log.specs.Saved.{IsSaved}

pub data Form : Type 0 where
  -- a number in decimal, from least to most
  number : (least most : ℕ) → Form
  -- a text of least to most bytes as pairs of hexadecimal digits, or a dash for the empty one
  text : (least most : ℕ) → Form
  -- bytes as pairs of hexadecimal digits, at least one
  hex : Form
  -- the map of a saved game, as pairs of hexadecimal digits
  saved : Form
  -- a word that says what the line is
  key : Form

-- what a word's value is
abbrev pub Value : Form → Type 0
Value (number least most) = ℕ
Value (text least most) = List ℕ
Value hex = List ℕ
Value saved = List ℕ
Value key = List ℕ

-- a text in digits, or the dash
abbrev pub text_spelled : List ℕ → List ℕ
text_spelled [] = codes "-"
text_spelled (b ∷ bytes) = encode_lower (b ∷ bytes)

-- the word: numbers without sign or leading zero, digits in lower case
abbrev pub spelled : (f : Form) → Value f → List ℕ
spelled (number least most) n = decimal n
spelled (text least most) bytes = text_spelled bytes
spelled hex bytes = encode_lower bytes
spelled saved bytes = encode_lower bytes
spelled key word = word

-- a text of least to most bytes
pub record IsTextFrom (least most : ℕ) (content : List ℕ) : Type 0 where
  pub bytes : IsBytes content
  pub some : least ≤ length content
  pub text : is_text most content ≡ true

-- a text within one word
abbrev pub HasNoBlank : List ℕ → Type 0
HasNoBlank word = HasNo 32 word

-- the values that a word has
abbrev pub Fits : (f : Form) → Value f → Type 0
Fits (number least most) n = (least ≤ n) × (n ≤ most) × (n < 2 ^ 32)
Fits (text least most) bytes = IsTextFrom least most bytes
Fits hex bytes = IsPiece bytes
Fits saved bytes = IsPiece bytes × IsSaved bytes
Fits key word = HasNoBlank word

-- a word of a line, with its value
pub data Word : Type 0 where
  -- a word that says what the line is
  named : List ℕ → Word
  -- a word of that form
  word : (f : Form) → Value f → Word
  -- all that is left of the line, blanks and all
  rest : List ℕ → Word

-- the bytes of a word
abbrev pub word_text : Word → List ℕ
word_text (named w) = w
word_text (word f x) = spelled f x
word_text (rest bytes) = bytes

-- a word whose value is in its range
abbrev pub WordFits : Word → Type 0
WordFits (named w) = Unit {0}
WordFits (word f x) = Fits f x
WordFits (rest bytes) = HasNo 10 bytes

-- words, each behind one blank
abbrev pub behind_blanks : List Word → List ℕ
behind_blanks [] = []
behind_blanks (w ∷ words) = 32 ∷ word_text w ++ behind_blanks words

-- words parted by one blank
abbrev pub parted : List Word → List ℕ
parted [] = []
parted (w ∷ words) = word_text w ++ behind_blanks words
