-- What a game is seen as, and what it holds of the table of its events.
use Rattle.std.specs.Prelude.{◌≡◌, ℕ, ◌≤◌, ◌<◌, ◌^◌, Bool, false, List, [], Option, Some, None, drop, length}
use Rattle.tt_edge.specs.declared.event.Event.{Event}
use Rattle.tt_world.specs.declared.command.Entry.{Entry}
use Rattle.tt_world.specs.Setup.{Fits}
use Rattle.tt_world.specs.World.{WorldState}
use Rattle.tt_log.specs.Admin.{Admin}
use Rattle.tt_log.specs.History.{IsHistory, table_of}
use Rattle.tt_log.specs.Origin.{Origin, above}
use Rattle.tt_log.specs.Table.{Table, world_of}
use Rattle.tt_log.specs.Tick.{left_of}
use Rattle.tt_members.specs.Crew.{crew_of}
use Rattle.tt_join.specs.Members.{Kept}

-- what a game was made from and the events that it has taken; and, of what only its own calls look at, the members, and for how
-- many more events and entries there is room
pub record Played : Type 0 where
  pub origin : Origin
  pub events : List Event
  pub members : Kept
  pub spare : ℕ
  pub room : ℕ

-- the table behind the events
abbrev pub table : Played → Table
table g = table_of g.origin g.events

-- what a game holds
pub record Held : Type 0 where
  pub members : Kept
  pub admins : List Admin
  pub journal : List Entry
  -- how many of the entries were carried out
  pub carried : ℕ
  pub frame : ℕ
  pub top : ℕ
  pub openings : ℕ
  pub cost : ℕ
  pub over : Bool
  pub world : WorldState
  pub download : Option (List ℕ)

-- the bytes of the running download that were not told yet
abbrev pub left_in : Option (List ℕ) → List ℕ
left_in None = []
left_in (Some bytes) = bytes

-- whose game is not over: its members and admins are those of the table, and so is what is left of the download. Behind the end
-- nobody is there, and these may be as they were
pub record IsAlive (o : Origin) (t : Table) (h : Held) : Type 0 where
  pub crew : h.members.crew ≡ crew_of o t
  pub admins : h.admins ≡ t.admins
  pub left : left_in h.download ≡ left_of o t

-- what a game holds is what the table says
pub record IsHeld (o : Origin) (t : Table) (h : Held) : Type 0 where
  pub setup : h.members.setup ≡ o.setup
  pub journal : h.journal ≡ t.journal
  pub carried : drop h.carried t.journal ≡ above o t.frame t.journal
  pub some : h.carried ≤ length t.journal
  pub frame : h.frame ≡ t.frame
  pub top : h.top ≡ t.top
  pub openings : h.openings ≡ t.openings
  pub cost : h.cost ≡ t.cost
  pub over : h.over ≡ t.over
  pub world : h.world ≡ world_of o t
  pub alive : t.over ≡ false → IsAlive o t h

-- a game of a setup in range: its events were all taken, there are few enough to be counted, and it holds what they make of it
pub record IsGame (o : Origin) (es : List Event) (h : Held) : Type 0 where
  pub fits : Fits o.setup
  pub taken : IsHistory o es
  pub few : length es < 2 ^ 63
  pub held : IsHeld o (table_of o es) h
