-- Two worked games of two clients each: the second one joins in mid-stream.
use Rattle.std.specs.Prelude.{ℕ, List, [], ◌∷◌, codes, length, Option, Some, None}
use Rattle.tt_edge.specs.declared.event.Event.{Event}
use Rattle.tt_edge.specs.declared.event.Event.TheVariants.{Tick}
use Rattle.tt_lockstep.specs.Client.{Client, Following, run, unfed}
use Rattle.tt_lockstep.specs.Shown.{Running, world_of}
use Rattle.tt_lockstep.specs.Wire.{FeedPiece, AdvanceBy}
use Rattle.tt_game.specs.declared.message.GameMsg.TheVariants.{ClientJoin, ClientGetmap, ClientMapOk, ClientAck}
use Rattle.tt_world.specs.Setup.{plain}
use Rattle.tt_world.specs.declared.command.Entry.{Entry}
use Rattle.tt_world.specs.World.{WorldState}
use Rattle.tt_log.specs.Origin.{Origin, origin_of, game_of, world_at}
use Rattle.tt_log.specs.Told.{sent}
use Rattle.tt_log.specs.History.{table_of, journal_of}
use Rattle.tt_in_step.specs.Fed.{calls_of}
use Rattle.tt_in_step.specs.Late.{opens, packet_of}

-- the plain setup; and where the permitted frame runs ahead by three
abbrev pub at_once : Origin
at_once = origin_of plain

abbrev pub ahead : Origin
ahead = origin_of (record plain { frame_freq = 3 })

-- Ann joins and founds a company; Bob joins while the game runs, as a spectator
abbrev pub two_clients : List Event
two_clients =
    opens ∷ packet_of 1 (ClientJoin plain.revision 13 (codes "Ann") 254) ∷ packet_of 1 ClientGetmap ∷ Tick ∷ packet_of 1 ClientMapOk ∷ Tick
    ∷ packet_of 1 (ClientAck 1 0) ∷ opens ∷ packet_of 2 (ClientJoin plain.revision 13 (codes "Bob") 255) ∷ packet_of 2 ClientGetmap ∷ Tick
    ∷ Tick ∷ packet_of 2 ClientMapOk ∷ Tick ∷ Tick ∷ []

-- a client that was fed all its bytes, and ran as far as it may
abbrev pub client_of : Origin → List Event → ℕ → Client WorldState Entry
client_of o events conn = run (game_of o) unfed (calls_of (FeedPiece (sent o events conn) ∷ AdvanceBy 9 ∷ []))

-- the frame at which a client that plays stands, the word of its world there, and how many entries it was told
abbrev pub stands_at : Origin → Client WorldState Entry → Option (ℕ × (ℕ × ℕ))
stands_at o (Following (Running v) f) = Some (f, ((world_of (game_of o) v f).words.0, length v.entries))
stands_at o other = None

-- what it stands at where it is in step: the permitted frame, and the word of the journal's world there
abbrev pub in_step_at : Origin → List Event → ℕ → Option (ℕ × (ℕ × ℕ))
in_step_at o events entries =
    let top = (table_of o events).top in Some (top, ((world_at o (journal_of o events) top).words.0, entries))
