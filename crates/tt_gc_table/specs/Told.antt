-- What a connection is told, and the bytes sent to it.
use Rattle.std.specs.Prelude.{ℕ, Bool, ◌==◌, List, [], ◌∷◌, ◌++◌, cond}
use Rattle.tt_edge.specs.declared.event.Event.{Event}
use Rattle.tt_frame.specs.Packet.{packet}
use Rattle.tt_coord.specs.declared.coord.CoordMsg.{CoordMsg}
use Rattle.tt_coord.specs.Coord.{coord_kind_of, coord_body_bytes}
use Rattle.tt_gc_table.specs.declared.setup.GcSetup.{GcSetup}
use Rattle.tt_gc_table.specs.Table.{Table, first}
use Rattle.tt_gc_table.specs.Table as table
use Rattle.tt_gc_table.specs.Deed.{What, Step, msg, end, begins, hears}
use Rattle.tt_gc_table.specs.Events.{deed, stepped, table_of}
use Rattle.tt_gc_table.specs.Events as events

abbrev pub spelled : CoordMsg → List ℕ
spelled m = packet (coord_kind_of m) (coord_body_bytes m)

-- the bytes of what a step tells to one that is told it
abbrev pub bytes_of : What → List ℕ
bytes_of (msg m) = spelled m
bytes_of end = []
bytes_of (begins token) = []
bytes_of (hears token h) = []

-- what these connections are told, as far as it is for this one
abbrev pub copies : ℕ → List ℕ → List ℕ → List ℕ
copies conn [] bytes = []
copies conn (c ∷ to) bytes = cond (c == conn) (bytes ++ copies conn to bytes) (copies conn to bytes)

-- the bytes of steps for a connection
abbrev pub bytes_to : ℕ → List Step → List ℕ
bytes_to conn [] = []
bytes_to conn (step ∷ steps) = copies conn step.to (bytes_of step.what) ++ bytes_to conn steps

-- what an event tells a connection, from a table
abbrev pub told : GcSetup → Table → Event → ℕ → List ℕ
told s t e conn = bytes_to conn (deed s e t).told

-- what events tell a connection, from a table on
abbrev pub sent_from : GcSetup → Table → List Event → ℕ → List ℕ
sent_from s t [] conn = []
sent_from s t (e ∷ es) conn = told s t e conn ++ sent_from s (stepped s t e) es conn

-- all that a connection is told
abbrev pub sent : GcSetup → List Event → ℕ → List ℕ
sent s es conn = sent_from s (first s) es conn

abbrev pub is_live : GcSetup → List Event → ℕ → Bool
is_live s es conn = table.is_live (table_of s es) conn

abbrev pub is_over : GcSetup → List Event → Bool
is_over s es = (table_of s es).over

-- an opening, a Tick, a Stop, or what names a live connection
abbrev pub takes : GcSetup → List Event → Event → Bool
takes s es e = events.names_live (table_of s es) e
