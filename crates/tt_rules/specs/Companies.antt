-- Which companies live, as fifteen truths by number.
use Rattle.std.specs.Prelude.{ℕ, Bool, true, false, not, List, map, replicate, slice_index_or, slice_set, Option, is_some}
use Rattle.std.specs.List.{position}
use Rattle.tt_world.specs.World.{WorldState}

abbrev pub nobody : List Bool
nobody = replicate 15 false

abbrev pub is_living : List Bool → ℕ → Bool
is_living live n = slice_index_or live n false

-- the least number that doesn't live, where there is one
abbrev pub least_free : List Bool → Option ℕ
least_free live = position not live

-- the company lives from now on
abbrev pub founded : ℕ → List Bool → List Bool
founded n live = slice_set live n true

-- those that live in a world
abbrev pub living : WorldState → List Bool
living w = map is_some w.companies
