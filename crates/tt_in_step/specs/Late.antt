-- A game that begins on the last day that a map can tell: why a game may start no later than it may.
use Rattle.std.specs.Prelude.{ℕ, List, [], ◌∷◌, codes}
use Rattle.tt_edge.specs.declared.event.Door.TheVariants.{Main}
use Rattle.tt_edge.specs.declared.event.Event.{Event}
use Rattle.tt_edge.specs.declared.event.Event.TheVariants.{Open, Packet, Tick}
use Rattle.tt_game.specs.declared.message.GameMsg.{GameMsg}
use Rattle.tt_game.specs.declared.message.GameMsg.TheVariants.{ClientJoin, ClientGetmap}
use Rattle.tt_game.specs.Apart.{kind_of, body_bytes}
use Rattle.tt_world.specs.Setup.{plain}
use Rattle.tt_world.specs.World.{start}
use Rattle.tt_log.specs.Origin.{Origin}

-- it begins with the last part of that day
abbrev pub late : Origin
late = record { setup = plain; start = record (start plain) { day = 1000000000; part = 73 } }

-- a connection opens at the main door
abbrev pub opens : Event
opens = Open Main (record { host = 0 ∷ 0 ∷ 0 ∷ 0 ∷ []; port = 0 })

-- a packet of a message
abbrev pub packet_of : ℕ → GameMsg → Event
packet_of conn m = Packet conn (kind_of m) (body_bytes m)

-- a client joins, and asks for its map once a frame was run
abbrev pub late_events : List Event
late_events = opens ∷ packet_of 1 (ClientJoin plain.revision 13 (codes "Ann") 255) ∷ Tick ∷ packet_of 1 ClientGetmap ∷ Tick ∷ []
