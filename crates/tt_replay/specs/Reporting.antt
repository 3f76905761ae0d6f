-- What is still to be told of connections, when a report is written.
use Rattle.std.specs.Prelude.{◌≡◌, ◌+◌, ◌<◌, ℕ, List, Some, length, take, slice_index_or}
use Rattle.tt_hub.specs.Hub.{HubState, origin, taken}
use Rattle.tt_log.specs.Doors.{door_of}
use Rattle.tt_log.specs.Told.{sent}
use Rattle.tt_playing.specs.declared.play.Connection.{Connection}

-- a connection of a hub: its door, and what was taken of it, which is kept
pub record IsToBeTold (hub : HubState) (conn : ℕ) (c : Connection) : Type 0 where
  pub door : door_of hub.events conn ≡ Some c.door
  pub told : c.told.items ≡ take (taken hub conn) (sent (origin hub) hub.events conn)

-- that of number 1 stands first
abbrev pub AreToBeTold : HubState → List Connection → Type 0
AreToBeTold hub connections = (place : ℕ) (other : Connection) → place < length connections
    → IsToBeTold hub (place + 1) (slice_index_or connections place other)
