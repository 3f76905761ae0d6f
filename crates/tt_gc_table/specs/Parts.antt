-- What the parts of the code hold of each other.
use Rattle.std.specs.Prelude.{◌≡◌, ℕ, ◌+◌, ◌≤◌, Bool, not, ◌&&◌, ◌||◌, ◌==◌, List, [], ◌∷◌, ◌++◌, Some, None, filter, find, option_map}
use Rattle.std.specs.List.{AllByRecursion}
use Rattle.std.specs.Str.{bytes_eq}
use Rattle.tt_gc_table.specs.declared.lines.Line.{Line}
use Rattle.tt_edge.specs.declared.event.Peer.{Peer}
use Rattle.tt_attempts.specs.declared.attempt.Stage.{Stage}
use Rattle.tt_gc_table.specs.Codes.{behind_token}
use Rattle.tt_gc_table.specs.OpenAttempts.{with_stage}
use Rattle.tt_gc_table.specs.Table.{Table, Server, Drawn, Meeting, is_on, is_servers, with_meeting}
use Rattle.tt_gc_table.specs.Lines.{code_at}

-- each server's connection is registered by its code, and whatever is registered by a code is its server's connection
pub record IsServing (ls : List Line) (vs : List Server) : Type 0 where
  pub coded : AllByRecursion (λ (v : Server). code_at ls v.conn ≡ Some v.code) vs
  pub served : (conn : ℕ) (code : List ℕ) → code_at ls conn ≡ Some code
      → option_map (λ (v : Server). v.conn) (find (λ (v : Server). bytes_eq code v.code) vs) ≡ Some conn

-- no open attempt has a number above the last one's
abbrev pub IsBegun : ℕ → List (ℕ × Meeting) → Type 0
IsBegun begun es = AllByRecursion (λ (e : ℕ × Meeting). e.0 ≤ begun) es

-- the table in which a connection is there, or was refused, with the next number
abbrev pub opened : Bool → Peer → Table → Table
opened side peer t = record t {
  openings = t.openings + 1;
  connections = t.connections ++ record { conn = t.openings + 1; side = side; peer = peer } ∷ [];
}

abbrev pub passed_over : Table → Table
passed_over t = record t { openings = t.openings + 1 }

-- the table in which this connection is there no longer, and no server is on it
abbrev pub without_connection : ℕ → Table → Table
without_connection conn t = record t {
  connections = filter (λ c. not (is_on conn c)) t.connections;
  servers = filter (λ v. not (is_servers conn v)) t.servers;
}

-- the table in which the attempt with this token is so far, or is open no longer
abbrev pub at_stage : Stage → List ℕ → Table → Table
at_stage stage token t = with_meeting token (with_stage stage) t

-- the table in which a server is registered on this connection
abbrev pub registered : ℕ → List ℕ → ℕ → ℕ → Table → Table
registered conn code kind port t =
    record t { servers = t.servers ++ record { conn = conn; code = code; kind = kind; port = port; info = None } ∷ [] }

-- the attempt has its server or its client on this connection
abbrev pub is_of : ℕ → Meeting → Bool
is_of conn m = (m.server.conn == conn) || (m.client.conn == conn)

-- the table in which none such is open
abbrev pub without_meetings_of : ℕ → Table → Table
without_meetings_of conn t = record t { meetings = filter (λ m. not (is_of conn m)) t.meetings }

-- the table in which this attempt has begun, and is open
abbrev pub begun : Meeting → Table → Table
begun m t = record (behind_token t) { meetings = t.meetings ++ m ∷ [] }

-- the table in which a code was drawn, the words are these, and a server is registered by the code on this connection
abbrev pub drawn : ℕ → Drawn → ℕ → ℕ → ℕ × ℕ → Table → Table
drawn conn d kind port words t = registered conn d.code kind port (record t { drawn = t.drawn ++ d ∷ []; words = words })

-- the attempt has its server on this connection, and its client on another one
abbrev pub is_lost : ℕ → Meeting → Bool
is_lost conn m = (m.server.conn == conn) && not (m.client.conn == conn)
