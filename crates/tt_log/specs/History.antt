-- What a list of events makes of a game.
use Rattle.std.specs.Prelude.{◌≡◌, ◌<◌, ℕ, true, List, [], ◌∷◌, fold}
use Rattle.std.specs.List.{AllByRecursion}
use Rattle.tt_frame.specs.Packet.{IsBytes}
use Rattle.tt_edge.specs.declared.event.Event.{Event}
use Rattle.tt_edge.specs.declared.event.Event.TheVariants.{Packet}
use Rattle.tt_world.specs.declared.command.Entry.{Entry}
use Rattle.tt_world.specs.World.{WorldState}
use Rattle.tt_log.specs.Origin.{Origin}
use Rattle.tt_log.specs.Table.{Table, first, world_of}
use Rattle.tt_log.specs.Events.{takes, stepped}

-- the table behind the events, from nobody being there on
abbrev pub table_of : Origin → List Event → Table
table_of o events = fold (stepped o) (first o) events

-- the journal behind the events, and the world
abbrev pub journal_of : Origin → List Event → List Entry
journal_of o events = (table_of o events).journal

-- numbers that rise, from above one on
abbrev pub AreRising : ℕ → List ℕ → Type 0
AreRising n [] = Unit {0}
AreRising n (x ∷ xs) = (n < x) × AreRising x xs

-- each of these entries is for this frame
abbrev pub AreFor : ℕ → List Entry → Type 0
AreFor frame entries = AllByRecursion (λ (e : Entry). e.frame ≡ frame) entries

abbrev pub world_behind : Origin → List Event → WorldState
world_behind o events = world_of o (table_of o events)

-- each event can be taken where it stands
abbrev pub AllTaken : Origin → Table → List Event → Type 0
AllTaken o t [] = Unit {0}
AllTaken o t (e ∷ events) = (takes t e ≡ true) × AllTaken o (stepped o t e) events

abbrev pub IsHistory : Origin → List Event → Type 0
IsHistory o events = AllTaken o (first o) events

-- the body of a packet is bytes, as its type in the code says
abbrev pub IsEvent : Event → Type 0
IsEvent (Packet conn kind body) = IsBytes body
IsEvent other = Unit {0}

-- so it is of each event: whatever speaks of the bytes of what was said has this as its premise
abbrev pub AreEvents : List Event → Type 0
AreEvents events = AllByRecursion IsEvent events
