-- The items of the messages that have several of them.
use Rattle.std.specs.Prelude.{List, [], ◌∷◌}
use Rattle.tt_frame.specs.FieldForms.{Named, ◌⦂◌, u16, text}

-- a type that an admin may ask for: its number, and the bits of what may be asked
abbrev pub update_type : List Named
update_type = "kind" ⦂ u16 ∷ "bits" ⦂ u16 ∷ []

-- a command of a game: its code and its name
abbrev pub command_name : List Named
command_name = "code" ⦂ u16 ∷ "name" ⦂ text 31 ∷ []
