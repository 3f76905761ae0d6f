-- The items of the messages that have several of them.
use Rattle.std.specs.Prelude.{List, [], ◌∷◌}
use Rattle.tt_frame.specs.FieldForms.{Named, ◌⦂◌, u8, u32, truth, text, raw}

-- a server that is listed: its code, and its game
abbrev pub listed : List Named
listed =
    "code" ⦂ text 31
    ∷ "name" ⦂ text 31
    ∷ "revision" ⦂ text 31
    ∷ "clients" ⦂ u8
    ∷ "max" ⦂ u8
    ∷ "companies" ⦂ u8
    ∷ "password" ⦂ truth
    ∷ "frame" ⦂ u32
    ∷ []

-- a file that is looked up; the sum is over its content
abbrev pub file : List Named
file = "index" ⦂ u32 ∷ "id" ⦂ u32 ∷ "sum" ⦂ raw 16 ∷ "name" ⦂ text 31 ∷ []
