-- The items of a message that has several of them.
use Rattle.std.specs.Prelude.{List, [], ◌∷◌}
use Rattle.tt_frame.specs.FieldForms.{Named, ◌⦂◌, u32, raw}

-- a file of a game: its number, and the 16 bytes of the sum over its content
abbrev pub file : List Named
file = "id" ⦂ u32 ∷ "sum" ⦂ raw 16 ∷ []
