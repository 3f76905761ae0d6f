-- How a line is read, word by word: its value, or nothing where a word isn't there. That this reading is the inverse of
-- the tables, the laws of the crate say.
use Rattle.std.specs.Prelude.{◌≡◌, ℕ, ◌^◌, List, [], ◌∷◌, codes, length, cond, Bool, false, ◌&&◌, ◌==◌, nat_le, nat_lt, if◌then◌else◌}
use Rattle.std.specs.Prelude.{Option, Some, None, Result, Ok, Err}
use Rattle.std.specs.Str.{bytes_eq}
use Rattle.std.specs.Str.Parse.{digits_value}
use Rattle.std.specs.Fmt.{decimal}
use Rattle.hex.specs.Hex.{encode_lower, decode_of}
use Rattle.hex.specs.declared.error.FromHexError.{FromHexError}
use Rattle.tt_frame.specs.Text.{is_text}
use Rattle.tt_log.specs.Forms.{Form, number, text, hex, saved, key, Value}
use Rattle.tt_log.specs.Saved.{most_saved, last_start_day}
use Rattle.tt_world.specs.World.{WorldState}
use Rattle.tt_map.specs.Reading.{map_in}
use Rattle.tt_map.specs.declared.bad.MapBad.{MapBad}
use Rattle.tt_log.specs.declared.script.bad.NoLine.{NoLine}
use Rattle.tt_log.specs.declared.script.bad.NoLine.TheVariants.{Bad, Memory}

-- one step of reading behind the other
infixl 10 ◌>>=◌
abbrev pub ◌>>=◌ : {A B : Type 0} → Option A → (A → Option B) → Option B
None >>= f = None
(Some x) >>= f = f x

-- the bytes before the first blank
abbrev pub front_word : List ℕ → List ℕ
front_word [] = []
front_word (b ∷ bytes) = cond (b == 32) [] (b ∷ front_word bytes)

-- the first blank and what stands behind it
abbrev pub behind_word : List ℕ → List ℕ
behind_word [] = []
behind_word (b ∷ bytes) = cond (b == 32) (b ∷ bytes) (behind_word bytes)

-- what is left of a line is nothing, or a blank and the next words: the first of these, and what is left then
unfoldable pub word_at : List ℕ → Option (List ℕ × List ℕ)
word_at [] = None
word_at (b ∷ bytes) = if b == 32 then Some (front_word bytes, behind_word bytes) else None

-- all that stands behind the blank
unfoldable pub rest_at : List ℕ → Option (List ℕ)
rest_at [] = None
rest_at (b ∷ bytes) = if b == 32 then Some bytes else None

-- the number below 2 ^ 32 that is spelled so
unfoldable pub number_in : List ℕ → Option ℕ
number_in w = if bytes_eq (decimal (digits_value 10 w)) w && nat_lt (digits_value 10 w) (2 ^ 32) then Some (digits_value 10 w) else None

-- a number in its range
abbrev pub within : ℕ → ℕ → ℕ → Option ℕ
within least most n = if nat_le least n && nat_le n most then Some n else None

-- the bytes, where they are some and are spelled so
abbrev pub spelled_so : List ℕ → Result (List ℕ) FromHexError → Option (List ℕ)
spelled_so w (Err error) = None
spelled_so w (Ok bytes) = if nat_lt 0 (length bytes) && bytes_eq (encode_lower bytes) w then Some bytes else None

unfoldable pub hex_in : List ℕ → Option (List ℕ)
hex_in w = spelled_so w (decode_of w)

-- a text of least to most bytes
abbrev pub text_within : ℕ → ℕ → List ℕ → Option (List ℕ)
text_within least most bytes = if nat_le least (length bytes) && is_text most bytes then Some bytes else None

-- the bytes of a text: none for the dash
unfoldable pub text_in : List ℕ → Option (List ℕ)
text_in w = if bytes_eq w (codes "-") then Some [] else hex_in w

-- a word's value and what is left behind it
unfoldable pub number_at : ℕ → ℕ → List ℕ → Option (ℕ × List ℕ)
number_at least most left = word_at left >>= λ w. number_in w.0 >>= λ n. within least most n >>= λ m. Some (m, w.1)

unfoldable pub hex_at : List ℕ → Option (List ℕ × List ℕ)
hex_at left = word_at left >>= λ w. hex_in w.0 >>= λ bytes. Some (bytes, w.1)

unfoldable pub text_at : ℕ → ℕ → List ℕ → Option (List ℕ × List ℕ)
text_at least most left = word_at left >>= λ w. text_in w.0 >>= λ bytes. text_within least most bytes >>= λ text. Some (text, w.1)

-- whether what the bytes of a map tell is a game that may start again
abbrev pub may_start : Result WorldState MapBad → Bool
may_start (Ok w) = nat_le w.day last_start_day
may_start (Err bad) = false

-- the map of a saved game
abbrev pub saved_within : List ℕ → Option (List ℕ)
saved_within bytes = if nat_le (length bytes) most_saved && may_start (map_in bytes) then Some bytes else None

unfoldable pub saved_at : List ℕ → Option (List ℕ × List ℕ)
saved_at left = hex_at left >>= λ read. saved_within read.0 >>= λ map. Some (map, read.1)

abbrev pub value_at : (f : Form) → List ℕ → Option (Value f × List ℕ)
value_at (number least most) left = number_at least most left
value_at (text least most) left = text_at least most left
value_at hex left = hex_at left
value_at saved left = saved_at left
value_at key left = word_at left

-- The words of a line that gives an M: what stands behind the words so far.
infixr 6 ◌▸◌
pub data Row (M : Type 0) : Type 0 where
  -- no such line
  none : Row M
  -- nothing more
  end : M → Row M
  -- all bytes that are left of the line
  all : (List ℕ → M) → Row M
  -- a word of that form, and then what goes with its value
  ◌▸◌ : (f : Form) → (Value f → Row M) → Row M

-- what a row gives where nothing is left
abbrev pub ended_at : {M : Type 0} → M → List ℕ → Option M
ended_at m [] = Some m
ended_at m (b ∷ left) = None

-- what a row gives
abbrev pub row_at : {M : Type 0} → Row M → List ℕ → Option M
row_at none left = None
row_at (end m) left = ended_at m left
row_at (all make) left = rest_at left >>= λ bytes. Some (make bytes)
row_at (f ▸ more) left = value_at f left >>= λ x. row_at (more x.0) x.1

-- a line of a table: the word that it is known by, and what stands behind
pub record Branch (M : Type 0) : Type 0 where
  pub word : List ℕ
  pub row : Row M

abbrev pub row : {M : Type 0} → List ℕ → Row M → Branch M
row w r = record { word = w; row = r }

-- the row of that word
abbrev pub pick : {M : Type 0} → List (Branch M) → List ℕ → Row M
pick [] w = none
pick (b ∷ bs) w = if bytes_eq w b.word then b.row else pick bs w

-- What a function that reads a word answered is what reading gives, unless memory ran out.
abbrev pub WordRead : {X Y : Type 0} → (X → Y) → Result X NoLine → List ℕ → Option (Y × List ℕ) → Type 0
WordRead view (Ok x) new reading = reading ≡ Some (view x, new)
WordRead view (Err Memory) new reading = Unit {0}
WordRead view (Err Bad) new reading = reading ≡ None

-- The same of a function that reads all that is left.
abbrev pub LineRead : {M : Type 0} → Result M NoLine → Option M → Type 0
LineRead (Ok m) reading = reading ≡ Some m
LineRead (Err Memory) reading = Unit {0}
LineRead (Err Bad) reading = reading ≡ None

-- The same of a function that is handed the word.
abbrev pub BytesRead : Result (List ℕ) NoLine → Option (List ℕ) → Type 0
BytesRead (Ok bytes) reading = reading ≡ Some bytes
BytesRead (Err Memory) reading = Unit {0}
BytesRead (Err Bad) reading = reading ≡ None
