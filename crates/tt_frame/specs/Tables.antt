-- A table of messages: one line for each, with its number, its name, its row, and the constructor that its values are
-- handed to.
use Prim.Native.String.{String}
use Rattle.std.specs.Prelude.{◌≡◌, ℕ, List, [], ◌∷◌, codes, Result, Ok, Err, ◌==◌, if◌then◌else◌}
use Rattle.tt_frame.specs.Unread.{Unread, whole}
use Rattle.tt_frame.specs.Rows.{Row, unknown, Maker, RowSpells, row_at, ended_at}
use Rattle.tt_frame.specs.Stops.{RowStops}
use Rattle.tt_frame.specs.declared.bad.Bad.{Bad}
use Rattle.tt_frame.specs.declared.bad.Bad.TheVariants.{Memory, Malformed}

-- a line of a table of messages of the type M
pub record Rule (M : Type 0) : Type 0 where
  pub kind : ℕ
  pub name : String
  pub fields : Row
  pub make : Maker fields M

-- how a line is written in a table
abbrev pub row : {M : Type 0} → ℕ → String → (r : Row) → Maker r M → Rule M
row kind name r make = record { kind = kind; name = name; fields = r; make = make }

-- the line of a number that no message has
abbrev pub no_rule : {M : Type 0} → Rule M
no_rule = record { kind = 0; name = ""; fields = unknown; make = tt }

-- the line of that number, or one that spells nothing
abbrev pub rule_of : {M : Type 0} → List (Rule M) → ℕ → Rule M
rule_of [] kind = no_rule
rule_of (l ∷ ls) kind = if kind == l.kind then l else rule_of ls kind

-- the name that stands beside a number, and no letters where no message has it
abbrev pub name_by : {M : Type 0} → List (Rule M) → ℕ → List ℕ
name_by [] kind = []
name_by (l ∷ ls) kind = if kind == l.kind then codes l.name else name_by ls kind

-- a body of that number spells the message
abbrev pub SpelledBy : {M : Type 0} → List (Rule M) → M → ℕ → List ℕ → Type 0
SpelledBy table m kind body = let l = rule_of table kind in RowSpells l.fields l.make m body

-- the place where a body of that number stops
abbrev pub StopsBy : {M : Type 0} → List (Rule M) → ℕ → List ℕ → ℕ → Type 0
StopsBy table kind body at = RowStops (rule_of table kind).fields (whole body) at

-- the message that is read, or that place
abbrev pub read_by : {M : Type 0} → List (Rule M) → ℕ → Unread → Result M ℕ
read_by [] kind s = Err s.at
read_by (l ∷ ls) kind s = if kind == l.kind then row_at l.fields l.make s else read_by ls kind s

-- What a function of a decoder answered is what reading gives.
abbrev pub MessageRead : {M : Type 0} → Result M Bad → Result M ℕ → Type 0
MessageRead (Ok m) reading = reading ≡ Ok m
MessageRead (Err Memory) reading = ⊥
MessageRead (Err (Malformed at)) reading = reading ≡ Err at

-- the same of a function that takes memory: what reading gives, unless memory ran out
abbrev pub MessageReadOrMemory : {M : Type 0} → Result M Bad → Result M ℕ → Type 0
MessageReadOrMemory (Ok m) reading = reading ≡ Ok m
MessageReadOrMemory (Err Memory) reading = Unit {0}
MessageReadOrMemory (Err (Malformed at)) reading = reading ≡ Err at

-- What a function answered that reads the fields of a message and leaves its end alone: with that message, reading goes on
-- at what it left, where nothing more may stand.
abbrev pub FieldsRead : {M : Type 0} → Result M Bad → Unread → Result M ℕ → Type 0
FieldsRead (Ok m) left reading = reading ≡ ended_at m left
FieldsRead (Err Memory) left reading = ⊥
FieldsRead (Err (Malformed at)) left reading = reading ≡ Err at

-- the same of a function that takes memory
abbrev pub FieldsReadOrMemory : {M : Type 0} → Result M Bad → Unread → Result M ℕ → Type 0
FieldsReadOrMemory (Ok m) left reading = reading ≡ ended_at m left
FieldsReadOrMemory (Err Memory) left reading = Unit {0}
FieldsReadOrMemory (Err (Malformed at)) left reading = reading ≡ Err at

-- These say the same of one number, and stay shut where a message is handed on.
unfoldable pub Reads : {M : Type 0} → List (Rule M) → ℕ → Result M Bad → Unread → Unread → Type 0
Reads table kind result s left = FieldsRead result left (read_by table kind s)

unfoldable pub ReadsOrMemory : {M : Type 0} → List (Rule M) → ℕ → Result M Bad → Unread → Unread → Type 0
ReadsOrMemory table kind result s left = FieldsReadOrMemory result left (read_by table kind s)
