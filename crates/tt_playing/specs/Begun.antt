-- What the game of a script starts from.
use Rattle.std.specs.Prelude.{◌≡◌, ◌⊎◌, ℕ, List, [], Result, Ok, Err}
use Rattle.tt_log.specs.Contents.{Contents}
use Rattle.tt_log.specs.Origin.{Origin}
use Rattle.tt_log.specs.Saved.{IsSaved}
use Rattle.tt_log.specs.Script.{Spells}
use Rattle.tt_world.specs.World.{WorldState, start}
use Rattle.tt_world.specs.declared.setup.Setup.{Setup}
use Rattle.tt_map.specs.Reading.{map_in}
use Rattle.tt_map.specs.declared.bad.MapBad.{MapBad}

-- the world that was read, or another one where none was
abbrev pub world_or : Result WorldState MapBad → WorldState → WorldState
world_or (Ok w) own = w
world_or (Err bad) own = own

-- the world that a game starts from: the one that the bytes of a map tell, or the setup's own, where there are none
abbrev pub world_from : Setup → List ℕ → WorldState
world_from setup saved = world_or (map_in saved) (start setup)

-- what a game with this setup is made from, where it starts from these bytes of a map
abbrev pub origin_from : Setup → List ℕ → Origin
origin_from setup saved = record { setup = setup; start = world_from setup saved }

-- what the game of a script is made from
abbrev pub origin_in : Contents → Origin
origin_in script = origin_from script.setup script.saved

-- bytes that a game may start from: none, or the map of a saved game
abbrev pub MayStart : List ℕ → Type 0
MayStart saved = (saved ≡ []) ⊎ IsSaved saved

-- the lines of an input spell a script of a game with this setup, from these bytes of a map
pub record IsScriptOf (setup : Setup) (saved : List ℕ) (texts : List (List ℕ)) : Type 0 where
  pub script : Contents
  pub spelled : Spells script texts
  pub made : setup ≡ script.setup
  pub told : saved ≡ script.saved
