-- The parts that the code tells, and the size that is written last.
use Rattle.std.specs.Prelude.{ℕ, ◌+◌, ◌-◌, List, [], ◌∷◌, length, slice_set, slice_index}
use Rattle.std.specs.Int.{w8, w16, w32, w64, to_le_bytes}
use Rattle.tt_frame.specs.Text.{IsText}
use Rattle.tt_frame.specs.Said.{Said, head, number, truth_of, words, bytes, always, count, mark}
use Rattle.tt_frame.specs.FieldForms.{truth_number}
use Rattle.tt_frame.specs.declared.parts.Part.{Part}
use Rattle.tt_frame.specs.declared.parts.Part.TheVariants.{Head, U8, U16, U32, U64, Truth, Words, Raw, Always, Count8, Count16, Mark}

-- what a part says
abbrev pub said_by : Part → Said
said_by (Head kind) = head kind
said_by (U8 n) = number w8 n
said_by (U16 n) = number w16 n
said_by (U32 n) = number w32 n
said_by (U64 n) = number w64 n
said_by (Truth b) = truth_of b
said_by (Words s) = words s.now
said_by (Raw s) = bytes s.now
said_by (Always b) = always b
said_by (Count8 n) = count w8 n
said_by (Count16 n) = count w16 n
said_by (Mark b) = mark (truth_number b)

abbrev pub all_said_by : List Part → List Said
all_said_by [] = []
all_said_by (p ∷ ps) = said_by p ∷ all_said_by ps

-- what stands in a part for a text is one
abbrev pub PartFits : Part → Type 0
PartFits (Head kind) = Unit {0}
PartFits (U8 n) = Unit {0}
PartFits (U16 n) = Unit {0}
PartFits (U32 n) = Unit {0}
PartFits (U64 n) = Unit {0}
PartFits (Truth b) = Unit {0}
PartFits (Words s) = IsText s.now
PartFits (Raw s) = Unit {0}
PartFits (Always b) = Unit {0}
PartFits (Count8 n) = Unit {0}
PartFits (Count16 n) = Unit {0}
PartFits (Mark b) = Unit {0}

-- in each of them
abbrev pub PartsFit : List Part → Type 0
PartsFit [] = Unit {0}
PartsFit (p ∷ ps) = PartFits p × PartsFit ps

-- the size of what stands from start on, written over its first two bytes
unfoldable pub sealed : ℕ → List ℕ → List ℕ
sealed start written =
    let size = to_le_bytes w16 (length written - start) in
    slice_set (slice_set written start (slice_index size 0)) (start + 1) (slice_index size 1)
