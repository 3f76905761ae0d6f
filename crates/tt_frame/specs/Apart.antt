-- The other way: a message taken apart into the values of its row, and the body that they are spelled as.
use Rattle.std.specs.Prelude.{ℕ, ◌≤◌, List, [], ◌∷◌, ◌++◌, length}
use Rattle.tt_frame.specs.FieldForms.{within, Value, spelled, Fits}
use Rattle.tt_frame.specs.ItemForms.{Item, items_spelled, ItemsFit, marked_spelled}
use Rattle.tt_frame.specs.Rows.{Row, unknown, end, rest, ◌▸◌, fixed, counted, marked, Maker}
use Rattle.tt_frame.specs.Tables.{Rule, rule_of}

-- the values of a row, in order
abbrev pub Values : Row → Type 0
Values unknown = ⊥
Values end = Unit {0}
Values (rest low high) = List ℕ
Values (f ▸ r) = Value f.field × Values r
Values (fixed byte r) = Values r
Values (counted w max fs r) = List (Item fs) × Values r
Values (marked max fs r) = List (Item fs) × Values r

-- the body that they are spelled as
abbrev pub body_of : (r : Row) → Values r → List ℕ
body_of unknown v = absurd v
body_of end v = []
body_of (rest low high) v = v
body_of (f ▸ r) v = spelled f.field v.0 ++ body_of r v.1
body_of (fixed byte r) v = byte ∷ body_of r v
body_of (counted w max fs r) v = (spelled (within w max) (length v.0) ++ items_spelled fs v.0) ++ body_of r v.1
body_of (marked max fs r) v = marked_spelled fs v.0 ++ body_of r v.1

-- each is in its range
abbrev pub ValuesFit : (r : Row) → Values r → Type 0
ValuesFit unknown v = ⊥
ValuesFit end v = Unit {0}
ValuesFit (rest low high) v = (low ≤ length v) × (length v ≤ high)
ValuesFit (f ▸ r) v = Fits f.field v.0 × ValuesFit r v.1
ValuesFit (fixed byte r) v = ValuesFit r v
ValuesFit (counted w max fs r) v = Fits (within w max) (length v.0) × ItemsFit fs v.0 × ValuesFit r v.1
ValuesFit (marked max fs r) v = (length v.0 ≤ max) × ItemsFit fs v.0 × ValuesFit r v.1

-- the message that is made of them
abbrev pub made_of : {M : Type 0} → (r : Row) → Maker r M → Values r → M
made_of unknown make v = absurd v
made_of end make v = make
made_of (rest low high) make v = make v
made_of (f ▸ r) make v = made_of r (make v.0) v.1
made_of (fixed byte r) make v = made_of r make v
made_of (counted w max fs r) make v = made_of r (make v.0) v.1
made_of (marked max fs r) make v = made_of r (make v.0) v.1

-- a message taken apart: its number, and the values of its row
pub record Parted {M : Type 0} (table : List (Rule M)) : Type 0 where
  pub kind : ℕ
  pub values : Values (rule_of table kind).fields

-- how it is written
abbrev pub part : {M : Type 0} → (table : List (Rule M)) → (kind : ℕ) → Values (rule_of table kind).fields → Parted table
part table kind values = record { kind = kind; values = values }

-- the body that its values are spelled as
abbrev pub parted_body : {M : Type 0} → (table : List (Rule M)) → Parted table → List ℕ
parted_body table p = body_of (rule_of table p.kind).fields p.values

-- its values are in their ranges
abbrev pub PartedFits : {M : Type 0} → (table : List (Rule M)) → Parted table → Type 0
PartedFits table p = ValuesFit (rule_of table p.kind).fields p.values
