-- A client that was fed the bytes that a server of the game sent: it is in step.
use Rattle.std.specs.Prelude.{◌≡◌, ℕ, List, [], ◌∷◌, ◌++◌, Some}
use Rattle.tt_lockstep.specs.Wire.{PieceCall, FeedPiece, AdvanceBy}
use Rattle.tt_lockstep.specs.Runner.{Runner}
use Rattle.tt_edge.specs.declared.event.Event.{Event}
use Rattle.tt_frame.specs.Packet.{IsBytes}
use Rattle.tt_world.specs.declared.command.Entry.{Entry}
use Rattle.tt_world.specs.World.{WorldState}
use Rattle.tt_log.specs.Origin.{IsOrigin, Origin, world_at}
use Rattle.tt_log.specs.History.{AreEvents, journal_of}
use Rattle.tt_log.specs.Told.{sent}
use Rattle.tt_log.specs.Shown.{Item, items_in}
use Rattle.tt_in_step.specs.Ends.{SomeItem, TellsCode, TellsShutdown}
use Rattle.tt_in_step.specs.Fed.{IsPlayer}
use Rattle.tt_client.specs.declared.state.State.{State}
use Rattle.tt_client.specs.declared.state.State.TheVariants as state
use Rattle.tt_client.specs.Calls.{Call, Feed, Advance, Submit, Take, fed}
use Rattle.tt_client.specs.declared.login.Login.{Login}
use Rattle.tt_client.specs.Held.{Held, frame_of, held, world_of}
use Rattle.tt_client.specs.Player.{Player}
use Rattle.tt_client.specs.State.{state_of}

-- the calls that feed it and run it
abbrev pub pieces : List Call → List PieceCall
pieces [] = []
pieces (Feed piece ∷ calls) = FeedPiece piece ∷ pieces calls
pieces (Advance n ∷ calls) = AdvanceBy n ∷ pieces calls
pieces (Submit company command ∷ calls) = pieces calls
pieces (Take room ∷ calls) = pieces calls

-- these bytes are a front of what the server sent to a player
pub record IsSent (o : Origin) (events : List Event) (conn : ℕ) (bytes : List ℕ) : Type 0 where
  pub origin : IsOrigin o
  pub are_events : AreEvents events
  pub player : IsPlayer events conn
  pub are_bytes : IsBytes bytes
  pub later : List ℕ
  pub front : sent o events conn ≡ bytes ++ later

-- it joins, plays, or was ended by an end that stands there: by an error with its code, because the server is full, or because the
-- game is over. It is neither out of step, nor told what is not permitted
abbrev pub IsRight : State → List Item → Type 0
IsRight state.Joining items = Unit
IsRight state.Running items = Unit
IsRight (state.Ended code) items = SomeItem (TellsCode code) items
IsRight state.Shutdown items = SomeItem TellsShutdown items
IsRight other items = ⊥

-- once it has its map, its world is that of the journal at its frame; and it stands rightly, by what began in its stream
pub record IsInStep (o : Origin) (events : List Event) (items : List Item) (p : Player (Runner WorldState Entry)) : Type 0 where
  pub world : (w : WorldState) (f : ℕ) → world_of p ≡ Some w → frame_of p ≡ Some f → w ≡ world_at o (journal_of o events) f
  pub right : IsRight (state_of p) items

-- a piece of what a server sent leaves a client in step
abbrev pub FeedsInStep : Held → List ℕ → Held → Type 0
FeedsInStep old piece new = (o : Origin) (events : List Event) (conn : ℕ) (login : Login) (calls : List Call) → old ≡ held login calls
    → IsSent o events conn (fed (calls ++ Feed piece ∷ [])) → IsInStep o events (items_in (fed (calls ++ Feed piece ∷ []))) new.player

-- and so do frames that it runs
abbrev pub AdvancesInStep : Held → Held → Type 0
AdvancesInStep old new = (o : Origin) (events : List Event) (conn : ℕ) (login : Login) (calls : List Call) → old ≡ held login calls
    → IsSent o events conn (fed calls) → IsInStep o events (items_in (fed calls)) new.player
