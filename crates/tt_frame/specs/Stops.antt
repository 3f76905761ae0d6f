-- Where a body that spells nothing stops: at the first field that isn't there, or at the first byte behind the last one.
-- This has no reader in it: it speaks of fields that stand there, and of one that does not.
use Rattle.std.specs.Prelude.{◌≡◌, ℕ, zero, suc, ◌<◌, ◌⊎◌, List, [], ◌∷◌, ◌++◌, length}
use Rattle.tt_frame.specs.Unread.{Unread, GoesOver}
use Rattle.tt_frame.specs.FieldForms.{Named, Field, within, up_to, Value, spelled, Fits}
use Rattle.tt_frame.specs.ItemForms.{Item, item_spelled, ItemFits, items_spelled, ItemsFit, marked_spelled}
use Rattle.tt_frame.specs.Rows.{Row, unknown, end, rest, ◌▸◌, fixed, counted, marked}

-- no value of the field stands here
abbrev pub IsNotAt : Field → Unread → Type 0
IsNotAt f s = (x : Value f) → (after : List ℕ) → Fits f x → s.rest ≡ spelled f x ++ after → ⊥

-- reading a field stops here
abbrev pub FieldStops : Field → Unread → ℕ → Type 0
FieldStops f s at = (at ≡ s.at) × IsNotAt f s

-- another byte stands here, or none
abbrev pub FixedStops : ℕ → Unread → ℕ → Type 0
FixedStops byte s at = (at ≡ s.at) × ((after : List ℕ) → s.rest ≡ byte ∷ after → ⊥)

-- an item stops at the first of its fields that isn't there
abbrev pub ItemStops : List Named → Unread → ℕ → Type 0
ItemStops [] s at = ⊥
ItemStops (f ∷ fs) s at =
    FieldStops f.field s at
    ⊎ ((x : Value f.field) × ((t : Unread) × (Fits f.field x × GoesOver s (spelled f.field x) t × ItemStops fs t at)))

-- n items stop where the first of them does that isn't there
abbrev pub ItemsStop : List Named → ℕ → Unread → ℕ → Type 0
ItemsStop fs zero s at = ⊥
ItemsStop fs (suc n) s at =
    ItemStops fs s at
    ⊎ ((x : Item fs) × ((t : Unread) × (ItemFits fs x × GoesOver s (item_spelled fs x) t × ItemsStop fs n t at)))

-- at most n items, each behind a 1, stop at a mark that isn't there, or in an item
abbrev pub MarkedStops : List Named → ℕ → Unread → ℕ → Type 0
MarkedStops fs zero s at = FieldStops (up_to 0) s at
MarkedStops fs (suc n) s at =
    FieldStops (up_to 1) s at
    ⊎ ((t : Unread) × (GoesOver s (1 ∷ []) t × (
    ItemStops fs t at
    ⊎ ((x : Item fs) × ((u : Unread) × (ItemFits fs x × GoesOver t (item_spelled fs x) u × MarkedStops fs n u at)))
    )))

-- a row stops at the first of its fields that isn't there, or at the first byte behind the last
abbrev pub RowStops : Row → Unread → ℕ → Type 0
RowStops unknown s at = at ≡ s.at
RowStops end s at = (at ≡ s.at) × (0 < length s.rest)
RowStops (rest low high) s at = (at ≡ s.at) × ((length s.rest < low) ⊎ (high < length s.rest))
RowStops (f ▸ r) s at =
    FieldStops f.field s at
    ⊎ ((x : Value f.field) × ((t : Unread) × (Fits f.field x × GoesOver s (spelled f.field x) t × RowStops r t at)))
RowStops (fixed byte r) s at =
    FixedStops byte s at
    ⊎ ((t : Unread) × (GoesOver s (byte ∷ []) t × RowStops r t at))
RowStops (counted w max fs r) s at =
    FieldStops (within w max) s at
    ⊎ ((n : ℕ) × ((t : Unread) × (Fits (within w max) n × GoesOver s (spelled (within w max) n) t × (
    ItemsStop fs n t at
    ⊎ ((xs : List (Item fs)) × ((u : Unread) × (ItemsFit fs xs × GoesOver t (items_spelled fs xs) u × RowStops r u at)))
    ))))
RowStops (marked max fs r) s at =
    MarkedStops fs max s at
    ⊎ ((xs : List (Item fs)) × ((t : Unread) × (ItemsFit fs xs × GoesOver s (marked_spelled fs xs) t × RowStops r t at)))
