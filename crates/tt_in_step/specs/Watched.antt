-- The server as one connection sees it, and what the connection is told, as messages.
use Rattle.std.specs.Prelude.{ℕ, nat_le, Bool, if◌then◌else◌, ◌==◌, cond, List, [], ◌∷◌, Option, Some, None}
use Rattle.tt_edge.specs.declared.event.Event.{Event}
use Rattle.tt_lockstep.specs.Told.{Told, Command}
use Rattle.tt_lockstep.specs.Dialog.{things}
use Rattle.tt_lockstep.specs.Server.{Server, Stage, BeforeMap, Loading, Loaded, Playing, Gone}
use Rattle.tt_game.specs.declared.message.GameMsg.{GameMsg}
use Rattle.tt_world.specs.declared.command.Entry.{Entry}
use Rattle.tt_world.specs.World.{WorldState}
use Rattle.tt_rules.specs.declared.status.Status.{Status}
use Rattle.tt_rules.specs.declared.status.Status.TheVariants.{Inactive, NewgrfsCheck, AuthGame, AuthCompany, Authorized, MapWait, Map}
use Rattle.tt_rules.specs.declared.status.Status.TheVariants.{DoneMap, PreActive, Active}
use Rattle.tt_log.specs.Member.{Member}
use Rattle.tt_log.specs.Table.{Table}
use Rattle.tt_log.specs.Deed.{Said, game, admin}
use Rattle.tt_log.specs.Origin.{Origin}
use Rattle.tt_log.specs.Told.{heard}
use Rattle.tt_log.specs.Shown.{Asking, dialog}

-- what lockstep cares of a member: how far it has come, of its map the frame, and how many pieces were told
pub data Seat : Type 0 where
  AtDoor : Seat
  Welcome : Seat
  InQueue : Seat
  Loads : (map_frame pieces : ℕ) → Seat
  HasMap : (map_frame : ℕ) → Seat
  Plays : (map_frame : ℕ) → Seat

-- the seat of each of the ten statuses
abbrev pub seat_at : Status → ℕ → ℕ → Seat
seat_at Inactive s k = AtDoor
seat_at NewgrfsCheck s k = AtDoor
seat_at AuthGame s k = AtDoor
seat_at AuthCompany s k = AtDoor
seat_at Authorized s k = Welcome
seat_at MapWait s k = InQueue
seat_at Map s k = Loads s k
seat_at DoneMap s k = HasMap s
seat_at PreActive s k = Plays s
seat_at Active s k = Plays s

abbrev pub seat_of : Member → Seat
seat_of m = seat_at m.status m.map_frame m.pieces

-- the seat of a connection; none, where no member is on it
abbrev pub seat : ℕ → List Member → Option Seat
seat c [] = None
seat c (m ∷ ms) = cond (m.conn == c) (Some (seat_of m)) (seat c ms)

-- the stage of the abstract server at each seat
abbrev pub stage_at : Seat → Stage
stage_at AtDoor = BeforeMap
stage_at Welcome = BeforeMap
stage_at InQueue = BeforeMap
stage_at (Loads s k) = Loading s
stage_at (HasMap s) = Loaded s
stage_at (Plays s) = Playing s

-- a connection without a seat was opened, and has ended, or is still to be opened
abbrev pub stage_of : Bool → Option Seat → Stage
stage_of was_opened None = if was_opened then Gone else BeforeMap
stage_of was_opened (Some x) = stage_at x

-- the server as a connection sees it
abbrev pub watched : ℕ → Table → Server Entry
watched c t = record { frame = t.frame; permitted = t.top; journal = t.journal; stage = stage_of (nat_le c t.openings) (seat c t.members) }

-- the messages of the game in what was said
abbrev pub game_messages : List Said → List GameMsg
game_messages [] = []
game_messages (game m ∷ said) = m ∷ game_messages said
game_messages (admin m ∷ said) = game_messages said

-- what a connection is told, as lockstep sees it: one thing for each message
abbrev pub things_told : Origin → List Event → ℕ → List (Told WorldState Entry)
things_told o events conn = things dialog Asking (game_messages (heard o events conn))

-- the entries among things
abbrev pub entries_in : List (Told WorldState Entry) → List Entry
entries_in [] = []
entries_in (Command e ∷ ts) = e ∷ entries_in ts
entries_in (t ∷ ts) = entries_in ts
