-- The map of a saved game, from which a game may start.
use Rattle.std.specs.Prelude.{ℕ, ◌≤◌, List, length}
use Rattle.tt_world.specs.World.{WorldState}
use Rattle.tt_map.specs.Maps.{IsMap}

-- the greatest map of a saved game
abbrev pub most_saved : ℕ
most_saved = 65536

-- the last day on which a game may start; none that starts by then comes to a day that no map tells
abbrev pub last_start_day : ℕ
last_start_day = 900000000

-- the bytes are the map of a game that may start again
pub record IsSaved (bytes : List ℕ) : Type 0 where
  pub few : length bytes ≤ most_saved
  pub world : WorldState
  pub is : IsMap bytes world
  pub day : world.day ≤ last_start_day
