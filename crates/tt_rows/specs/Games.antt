-- What a worked game is: the events, and what they come to.
use Rattle.std.specs.Prelude.{◌≡◌, ℕ, ◌+◌, Bool, List, [], ◌∷◌}
use Rattle.tt_edge.specs.declared.event.Event.{Event}
use Rattle.tt_world.specs.declared.command.Entry.{Entry}
use Rattle.tt_world.specs.World.{WorldState}
use Rattle.tt_log.specs.Origin.{Origin}
use Rattle.tt_log.specs.Table.{is_live}
use Rattle.tt_log.specs.History.{table_of, journal_of, world_behind}
use Rattle.tt_log.specs.Told.{sent}

-- what a game is to come to: of each connection, from 1 on, the bytes that it was sent and whether it is live; the journal; and
-- the frame with the permitted one
pub record Game : Type 0 where
  pub origin : Origin
  pub events : List Event
  pub conns : List (List ℕ × Bool)
  pub journal : List Entry
  pub frames : ℕ × ℕ

-- of the connections from one on
abbrev pub Conns : Game → ℕ → List (List ℕ × Bool) → Type 0
Conns g conn [] = Unit {0}
Conns g conn (c ∷ conns) = (sent g.origin g.events conn ≡ c.0) × (is_live (table_of g.origin g.events) conn ≡ c.1)
    × Conns g (conn + 1) conns

-- its events come to this
abbrev pub ComesTo : Game → Type 0
ComesTo g =
    Conns g 1 g.conns × (journal_of g.origin g.events ≡ g.journal) × ((table_of g.origin g.events).frame ≡ g.frames.0)
    × ((table_of g.origin g.events).top ≡ g.frames.1)

-- the world behind its events
abbrev pub world_of_game : Game → WorldState
world_of_game g = world_behind g.origin g.events
