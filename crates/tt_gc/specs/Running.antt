-- The invariant of a coordinator: what it keeps is what its events come to.
use Rattle.std.specs.Prelude.{◌≡◌, ℕ, List}
use Rattle.tt_edge.specs.declared.event.Event.{Event}
use Rattle.tt_edge.specs.declared.event.Event.TheVariants.{Open, Packet, Broken, Shut, Tick, Stop}
use Rattle.tt_gc_table.specs.declared.setup.GcSetup.{GcSetup}
use Rattle.tt_gc_table.specs.Table.{Table}
use Rattle.tt_gc_table.specs.Events.{stepped, table_of}
use Rattle.tt_gc_table.specs.Told.{told, sent}
use Rattle.tt_gc.specs.Queues.{Queue, queue_of, IsOf, IsTold}

-- what a coordinator is seen as: its setup, the events that it took, and the queues of its connections
pub record CoordinatorState : Type 0 where
  pub setup : GcSetup
  pub events : List Event
  pub queues : List Queue

-- how many bytes of a connection were taken
abbrev pub taken : CoordinatorState → ℕ → ℕ
taken c conn = (queue_of c.queues conn).taken

pub record IsRunning (s : GcSetup) (es : List Event) (t : Table) (qs : List Queue) : Type 0 where
  pub table_is : t ≡ table_of s es
  pub queues_are : (conn : ℕ) → IsOf (sent s es conn) (queue_of qs conn)

-- one event was taken
pub record IsStepped (s : GcSetup) (e : Event) (t : Table) (qs : List Queue) (after : Table) (queues : List Queue) : Type 0 where
  pub table : after ≡ stepped s t e
  pub tells : (conn : ℕ) → IsTold (told s t e conn) (queue_of qs conn) (queue_of queues conn)

-- the connection that an event was about
abbrev pub about : Table → Event → ℕ
about t (Open door peer) = t.openings
about t (Packet conn kind body) = conn
about t (Broken conn) = conn
about t (Shut conn) = conn
about t Tick = 0
about t Stop = 0
