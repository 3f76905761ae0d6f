-- The saved map that a game may start from.
use Rattle.std.specs.Prelude.{◌≡◌, ℕ, ◌≤◌, List, length, IfSome, Option, None, Some}
use Rattle.tt_world.specs.declared.setup.Setup.{Setup}
use Rattle.tt_world.specs.World as world
use Rattle.tt_world.specs.World.{WorldState}
use Rattle.tt_map.specs.Maps.{IsMap}
use Rattle.tt_log.specs.Saved.{most_saved, last_start_day, IsSaved}

-- a saved map was handed in, and this holds of it
abbrev pub OfSaved : {S : Type 0} → Option S → (S → Type 0) → Type 0
OfSaved None P = ⊥
OfSaved (Some source) P = P source

-- the bytes are the map of this world, from which a game may start
pub record IsSavedWorld (bytes : List ℕ) (w : WorldState) : Type 0 where
  pub few : length bytes ≤ most_saved
  pub is : IsMap bytes w
  pub day : w.day ≤ last_start_day

-- bytes that were read to their end and are no such map
pub record IsNoSaved (bytes : List ℕ) : Type 0 where
  pub few : length bytes ≤ most_saved
  pub none : IsSaved bytes → ⊥

-- Where a game starts: from the saved world where a map was handed in, else from the world of the setup. `left` tells the bytes of a
-- map where they are told.
abbrev pub StartsFrom : {S : Type 0} → (S → Option (List ℕ)) → Option S → Setup → WorldState → Type 0
StartsFrom left None setup start = start ≡ world.start setup
StartsFrom left (Some source) setup start = IfSome (left source) (λ bytes. IsSavedWorld bytes start)
