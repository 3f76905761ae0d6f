-- The connections, as the code keeps them: a line for each opening, by its number from 1 on.
use Rattle.std.specs.Prelude.{ℕ, zero, suc, Bool, true, false, ◌&&◌, cond, List, [], ◌∷◌, count_by, Option, Some, None, slice_index_or}
use Rattle.tt_edge.specs.declared.event.Peer.{Peer}
use Rattle.tt_gc_table.specs.declared.lines.Line.{Line}
use Rattle.tt_gc_table.specs.Table.{Connection}

-- the lines, and for how many more there is room
pub record LinesState : Type 0 where
  pub lines : List Line
  pub room : ℕ

-- no connection has this number yet
abbrev pub unopened : Line
unopened = record { live = false; side = false; peer = record { host = 0 ∷ 0 ∷ 0 ∷ 0 ∷ []; port = 0 }; code = None }

-- the line with this number
abbrev pub line_of : List Line → ℕ → Line
line_of ls zero = unopened
line_of ls (suc k) = slice_index_or ls k unopened

abbrev pub live_line : Line → Option Line
live_line l = cond l.live (Some l) None

-- a connection that is opened now; and one that ends at its opening
abbrev pub arrived : Bool → Peer → Line
arrived side peer = record { live = true; side = side; peer = peer; code = None }

abbrev pub refused : Bool → Peer → Line
refused side peer = record { live = false; side = side; peer = peer; code = None }

-- the line when its connection has ended, and when it is registered by a code
abbrev pub gone : Line → Line
gone l = record l { live = false; code = None }

abbrev pub coded : List ℕ → Line → Line
coded code l = record l { code = Some code }

-- how many of them are live side connections
abbrev pub live_side : Line → Bool
live_side l = l.live && l.side

abbrev pub sides_in : List Line → ℕ
sides_in ls = count_by live_side ls

-- the connection of a live line, with this number
abbrev pub seen : ℕ → Line → Connection
seen conn l = record { conn = conn; side = l.side; peer = l.peer }

-- the connections that are live, in order of opening, where the first line has this number
abbrev pub live_from : ℕ → List Line → List Connection
live_from n [] = []
live_from n (l ∷ ls) = cond l.live (seen n l ∷ live_from (suc n) ls) (live_from (suc n) ls)

abbrev pub connections_of : List Line → List Connection
connections_of ls = live_from 1 ls

-- the code by which the connection with this number is registered
abbrev pub code_at : List Line → ℕ → Option (List ℕ)
code_at ls conn = (line_of ls conn).code
