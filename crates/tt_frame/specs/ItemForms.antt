-- Items of several fields each, one behind the other: a known number of them, or each behind a mark.
use Rattle.std.specs.Prelude.{ℕ, zero, suc, List, [], ◌∷◌, ◌++◌, Option, Some, None, Result, Ok, ◌==◌, if◌then◌else◌}
use Rattle.std.specs.Int.{w8}
use Rattle.tt_frame.specs.Unread.{Unread}
use Rattle.tt_frame.specs.Reading.{◌>>=◌, within_at}
use Rattle.tt_frame.specs.FieldForms.{Named, Value, spelled, Fits, field_at}

-- the values of an item of these fields, in order
abbrev pub Item : List Named → Type 0
Item [] = Unit {0}
Item (f ∷ fs) = Value f.field × Item fs

-- its fields one behind the other
abbrev pub item_spelled : (fs : List Named) → Item fs → List ℕ
item_spelled [] x = []
item_spelled (f ∷ fs) x = spelled f.field x.0 ++ item_spelled fs x.1

-- each value is in its range
abbrev pub ItemFits : (fs : List Named) → Item fs → Type 0
ItemFits [] x = Unit {0}
ItemFits (f ∷ fs) x = Fits f.field x.0 × ItemFits fs x.1

-- an item and what is left behind it, or the place of the first of its fields that isn't there
abbrev pub item_at : (fs : List Named) → Unread → Result (Item fs × Unread) ℕ
item_at [] s = Ok (tt, s)
item_at (f ∷ fs) s = field_at f.field s >>= λ x. item_at fs x.1 >>= λ y. Ok ((x.0, y.0), y.1)

-- one item behind the other
abbrev pub items_spelled : (fs : List Named) → List (Item fs) → List ℕ
items_spelled fs [] = []
items_spelled fs (x ∷ xs) = item_spelled fs x ++ items_spelled fs xs

-- each item's values are in their ranges
abbrev pub ItemsFit : (fs : List Named) → List (Item fs) → Type 0
ItemsFit fs [] = Unit {0}
ItemsFit fs (x ∷ xs) = ItemFits fs x × ItemsFit fs xs

-- n items
unfoldable pub items_at : (fs : List Named) → ℕ → Unread → Result (List (Item fs) × Unread) ℕ
items_at fs zero s = Ok ([], s)
items_at fs (suc n) s = item_at fs s >>= λ x. items_at fs n x.1 >>= λ xs. Ok (x.0 ∷ xs.0, xs.1)

-- a 1 before each item, and a 0 behind the last
abbrev pub marked_spelled : (fs : List Named) → List (Item fs) → List ℕ
marked_spelled fs [] = 0 ∷ []
marked_spelled fs (x ∷ xs) = 1 ∷ item_spelled fs x ++ marked_spelled fs xs

-- at most n items, each behind a 1, and then a 0
unfoldable pub marked_at : (fs : List Named) → ℕ → Unread → Result (List (Item fs) × Unread) ℕ
marked_at fs zero s = within_at w8 0 s >>= λ m. Ok ([], m.1)
marked_at fs (suc n) s =
    within_at w8 1 s >>= λ m.
    if m.0 == 0 then Ok ([], m.1) else (item_at fs m.1 >>= λ x. marked_at fs n x.1 >>= λ xs. Ok (x.0 ∷ xs.0, xs.1))

-- what stands at a mark: behind a 1 the item, behind a 0 none, or the place of the mark or of the field that isn't there
abbrev pub marked_item_at : (fs : List Named) → Unread → Result (Option (Item fs) × Unread) ℕ
marked_item_at fs s =
    within_at w8 1 s >>= λ m.
    if m.0 == 0 then Ok (None, m.1) else (item_at fs m.1 >>= λ x. Ok (Some x.0, x.1))
