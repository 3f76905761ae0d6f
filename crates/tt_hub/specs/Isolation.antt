-- What an event sends to a connection, as what it says.
use Rattle.std.specs.Prelude.{◌≡◌, ℕ, Bool, true, List, [], ◌∷◌, ◌++◌, flat_map}
use Rattle.std.specs.List.{AllByRecursion}
use Rattle.tt_edge.specs.declared.event.Event.{Event}
use Rattle.tt_world.specs.declared.setup.Setup.{Setup}
use Rattle.tt_world.specs.World.{WorldState}
use Rattle.tt_log.specs.Deed.{Said, spelled}
use Rattle.tt_log.specs.Doors.{IsShutdown}
use Rattle.tt_hub.specs.Hub.{sent}

-- the bytes that an event sends to a connection spell messages, and each is one of these
pub record SendsMore (made : Setup × WorldState) (es : List Event) (e : Event) (conn : ℕ) (IsOne : Said → Type 0) : Type 0 where
  pub said : List Said
  pub bytes : sent made (es ++ e ∷ []) conn ≡ sent made es conn ++ flat_map spelled said
  pub each : AllByRecursion IsOne said

-- that the game is over, where it is
abbrev pub IsLast : Bool → Said → Type 0
IsLast over said = (over ≡ true) × IsShutdown said
