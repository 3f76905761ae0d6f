-- What each event does.
use Rattle.std.specs.Prelude.{ℕ, ◌+◌, Bool, true, false, not, ◌&&◌, ◌||◌, ◌==◌, nat_le, List, [], ◌∷◌, ◌++◌, map, fold}
use Rattle.tt_edge.specs.declared.event.Peer.{Peer}
use Rattle.tt_edge.specs.declared.event.Door.{Door}
use Rattle.tt_edge.specs.declared.event.Door.TheVariants.{Main, Side}
use Rattle.tt_edge.specs.declared.event.Event.{Event}
use Rattle.tt_edge.specs.declared.event.Event.TheVariants.{Open, Packet, Broken, Shut, Tick, Stop}
use Rattle.tt_edge.specs.Event.{event_cost}
use Rattle.tt_gc_table.specs.declared.setup.GcSetup.{GcSetup}
use Rattle.tt_gc_table.specs.Table.{Table, Connection, first, connection_of, is_live, live_sides}
use Rattle.tt_gc_table.specs.Deed.{Deed, end, ◌▹◌, where_, either, given, becomes}
use Rattle.tt_gc_table.specs.Ending.{goes, leaves, ends}
use Rattle.tt_gc_table.specs.PacketRules.{read_msg, heard}
use Rattle.tt_gc_table.specs.Desk.{most_sides, read_stun, at_desk}

-- ---- an opening

-- a connection is there, with the number of the last opening
abbrev pub arrives : Bool → Peer → Table → Deed
arrives side peer t = becomes (record t { connections = t.connections ++ record { conn = t.openings; side = side; peer = peer } ∷ [] })

-- where as many side connections are live as may be, a further one ends untold at its opening
abbrev pub opened : Door → Peer → Table → Deed
opened Main peer t = arrives false peer t
opened Side peer t = either (nat_le most_sides (live_sides t)) (goes t.openings) (arrives true peer) t

-- ---- the rule of an event

abbrev pub on_packet : GcSetup → ℕ → List ℕ → Connection → Table → Deed
on_packet s kind body c = either c.side (at_desk c (read_stun kind body)) (heard s c (read_msg kind body))

abbrev pub on_broken : GcSetup → Connection → Table → Deed
on_broken s c = either c.side (goes c.conn) (ends s c.conn 0 [])

abbrev pub on_shut : GcSetup → Connection → Table → Deed
on_shut s c = either c.side (goes c.conn) (leaves s c.conn)

abbrev pub by_event : GcSetup → Event → Table → Deed
by_event s (Open door peer) t = opened door peer t
by_event s (Packet conn kind body) t = given (connection_of t conn) (on_packet s kind body) t
by_event s (Broken conn) t = given (connection_of t conn) (on_broken s) t
by_event s (Shut conn) t = given (connection_of t conn) (on_shut s) t
by_event s Tick t = becomes (record t { ticks = t.ticks + 1 })
by_event s Stop t = becomes t

-- ---- the end of all

abbrev pub charged : Event → Table → Deed
charged e t = becomes (record t { cost = t.cost + event_cost e })

abbrev pub is_stop : Event → Bool
is_stop Stop = true
is_stop other = false

abbrev pub last_tick : ℕ
last_tick = 4000000000

-- every connection that lives ends untold; no attempt is told anything by this
abbrev pub shut_down : Table → Deed
shut_down t =
    record { table = record t { over = true }; told = record { to = map (λ (c : Connection). c.conn) t.connections; what = end } ∷ [] }

-- after a Stop, at the cost, and at the last tick
abbrev pub closed : GcSetup → Event → Table → Deed
closed s e t = where_ (is_stop e || nat_le s.cost t.cost || (t.ticks == last_tick)) shut_down t

-- ---- an event

-- whether an event can be taken where not all is over
abbrev pub names_live : Table → Event → Bool
names_live t (Open door peer) = true
names_live t (Packet conn kind body) = is_live t conn
names_live t (Broken conn) = is_live t conn
names_live t (Shut conn) = is_live t conn
names_live t Tick = true
names_live t Stop = true

abbrev pub takes : Table → Event → Bool
takes t e = not t.over && names_live t e

-- an opening is counted whether it is taken or not, so that each has a number of its own
abbrev pub counted : Event → Table → Table
counted (Open door peer) t = record t { openings = t.openings + 1 }
counted other t = t

-- what an event does; one that can't be taken does nothing
abbrev pub deed : GcSetup → Event → Table → Deed
deed s e t = where_ (takes t e) (λ t. by_event s e t ▹ charged e ▹ closed s e) (counted e t)

abbrev pub stepped : GcSetup → Table → Event → Table
stepped s t e = (deed s e t).table

-- the table after the events, from nobody being there on
abbrev pub table_of : GcSetup → List Event → Table
table_of s events = fold (stepped s) (first s) events
