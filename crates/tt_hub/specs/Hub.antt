-- What a hub is seen as, and what a core's words mean for it: those of the game's book.
use Rattle.std.specs.Prelude.{ℕ, zero, suc, Bool, List, slice_index_or}
use Rattle.tt_edge.specs.declared.event.Event.{Event}
use Rattle.tt_world.specs.declared.setup.Setup.{Setup}
use Rattle.tt_world.specs.World.{WorldState}
use Rattle.tt_log.specs.Events.{names_live}
use Rattle.tt_log.specs.History.{table_of}
use Rattle.tt_log.specs.Origin.{Origin}
use Rattle.tt_log.specs.Table as table
use Rattle.tt_log.specs.Told as book

-- what the game is made from, the events that it has taken, and how many bytes were taken of each connection, from the first on
pub record HubState : Type 0 where
  pub setup : Setup
  pub start : WorldState
  pub events : List Event
  pub counts : List ℕ

abbrev pub origin : HubState → Origin
origin h = record { setup = h.setup; start = h.start }

-- what a game is made from, as a core says it
abbrev pub made_of : HubState → Setup × WorldState
made_of h = (h.setup, h.start)

abbrev pub origin_made : Setup × WorldState → Origin
origin_made made = record { setup = made.0; start = made.1 }

-- how many bytes were taken of a connection; none of one that was never opened
abbrev pub count_of : List ℕ → ℕ → ℕ
count_of counts zero = 0
count_of counts (suc n) = slice_index_or counts n 0

abbrev pub taken : HubState → ℕ → ℕ
taken h conn = count_of h.counts conn

-- what a connection is told
abbrev pub sent : Setup × WorldState → List Event → ℕ → List ℕ
sent made events conn = book.sent (origin_made made) events conn

abbrev pub is_live : Setup × WorldState → List Event → ℕ → Bool
is_live made events conn = table.is_live (table_of (origin_made made) events) conn

abbrev pub is_over : Setup × WorldState → List Event → Bool
is_over made events = (table_of (origin_made made) events).over

abbrev pub takes : Setup × WorldState → List Event → Event → Bool
takes made events event = names_live (table_of (origin_made made) events) event
