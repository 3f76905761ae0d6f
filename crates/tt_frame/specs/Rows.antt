-- A row of a table of messages: which fields stand in a body, in order; what such a body spells, and how it is read.
use Rattle.std.specs.Prelude.{◌≡◌, ℕ, ◌≤◌, List, [], ◌∷◌, ◌++◌, length, Result, Ok, Err, nat_lt, ◌==◌, ◌||◌, if◌then◌else◌}
use Rattle.tt_frame.specs.Unread.{Unread}
use Rattle.tt_frame.specs.Reading.{◌>>=◌, fixed_at}
use Rattle.tt_frame.specs.FieldForms.{CountWidth, Named, within, Value, spelled, Fits, field_at}
use Rattle.tt_frame.specs.ItemForms.{Item, items_spelled, ItemsFit, items_at, marked_spelled, marked_at}

infixr 6 ◌▸◌
pub data Row : Type 0 where
  -- no message has this number
  unknown : Row
  -- nothing more
  end : Row
  -- all bytes up to the end, at least low and at most high of them
  rest : (low high : ℕ) → Row
  -- a field with its name, and the rest of the row
  ◌▸◌ : Named → Row → Row
  -- a byte that is always this one and that the message does not keep, and the rest of the row
  fixed : (byte : ℕ) → Row → Row
  -- a count of that width, at most max, then as many items, and the rest of the row
  counted : (w : CountWidth) (max : ℕ) → List Named → Row → Row
  -- at most max items, each behind a 1, then a 0, and the rest of the row
  marked : (max : ℕ) → List Named → Row → Row

-- what makes a message of the values of a row
abbrev pub Maker : Row → Type 0 → Type 0
Maker unknown M = Unit {0}
Maker end M = M
Maker (rest low high) M = List ℕ → M
Maker (f ▸ r) M = Value f.field → Maker r M
Maker (fixed byte r) M = Maker r M
Maker (counted w max fs r) M = List (Item fs) → Maker r M
Maker (marked max fs r) M = List (Item fs) → Maker r M

-- The body spells the message: its fields in order, each in its range, and nothing behind. This has no reader in it.
abbrev pub RowSpells : {M : Type 0} → (r : Row) → Maker r M → M → List ℕ → Type 0
RowSpells unknown make m body = ⊥
RowSpells end make m body = (m ≡ make) × (body ≡ [])
RowSpells (rest low high) make m body = (m ≡ make body) × (low ≤ length body) × (length body ≤ high)
RowSpells (f ▸ r) make m body =
    (x : Value f.field) × ((after : List ℕ) × (Fits f.field x × (body ≡ spelled f.field x ++ after) × RowSpells r (make x) m after))
RowSpells (fixed byte r) make m body =
    (after : List ℕ) × ((body ≡ byte ∷ after) × RowSpells r make m after)
RowSpells (counted w max fs r) make m body =
    (xs : List (Item fs)) × ((after : List ℕ) × (
    Fits (within w max) (length xs)
    × ItemsFit fs xs
    × (body ≡ spelled (within w max) (length xs) ++ items_spelled fs xs ++ after)
    × RowSpells r (make xs) m after
    ))
RowSpells (marked max fs r) make m body =
    (xs : List (Item fs)) × ((after : List ℕ) × (
    (length xs ≤ max)
    × ItemsFit fs xs
    × (body ≡ marked_spelled fs xs ++ after)
    × RowSpells r (make xs) m after
    ))

-- the message, where nothing is left
abbrev pub ended_at : {M : Type 0} → M → Unread → Result M ℕ
ended_at m s = if length s.rest == 0 then Ok m else Err s.at

-- the message of all that is left
abbrev pub rest_at : {M : Type 0} → ℕ → ℕ → (List ℕ → M) → Unread → Result M ℕ
rest_at low high make s = if nat_lt (length s.rest) low || nat_lt high (length s.rest) then Err s.at else Ok (make s.rest)

-- the message, or the place of the first field that isn't there, or of the first byte behind the last
abbrev pub row_at : {M : Type 0} → (r : Row) → Maker r M → Unread → Result M ℕ
row_at unknown make s = Err s.at
row_at end make s = ended_at make s
row_at (rest low high) make s = rest_at low high make s
row_at (f ▸ r) make s = field_at f.field s >>= λ x. row_at r (make x.0) x.1
row_at (fixed byte r) make s = fixed_at byte s >>= λ t. row_at r make t
row_at (counted w max fs r) make s = field_at (within w max) s >>= λ n. items_at fs n.0 n.1 >>= λ xs. row_at r (make xs.0) xs.1
row_at (marked max fs r) make s = marked_at fs max s >>= λ xs. row_at r (make xs.0) xs.1
