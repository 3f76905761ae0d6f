-- The coordinator's table: all that the rules speak of.
use Rattle.std.specs.Prelude.{ℕ, ◌≤◌, count_by, Bool, false, not, ◌&&◌, ◌==◌, List, [], filter, find, length, map, Option, is_some, cond}
use Rattle.std.specs.Str.{bytes_eq}
use Rattle.tt_edge.specs.declared.event.Peer.{Peer}
use Rattle.tt_coord.specs.declared.info.Info.{Info}
use Rattle.tt_attempts.specs.Attempts.{AttemptState}
use Rattle.tt_gc_table.specs.declared.setup.GcSetup.{GcSetup}

-- a connection that was opened and has not ended
pub record Connection : Type 0 where
  pub conn : ℕ
  -- it was opened at the STUN desk
  pub side : Bool
  -- its address, as the coordinator sees it
  pub peer : Peer

-- a registered server
pub record Server : Type 0 where
  pub conn : ℕ
  pub code : List ℕ
  -- 0 local, 1 public, 2 by invitation
  pub kind : ℕ
  pub port : ℕ
  -- what it said last of its game
  pub info : Option Info

-- a code that was drawn, and its secret: it stays drawn whatever its server does
pub record Drawn : Type 0 where
  pub code : List ℕ
  pub secret : List ℕ

-- one of the two that an attempt brings together: its connection, its address as the coordinator sees it, and the address
-- that it showed to the STUN desk
pub record End : Type 0 where
  pub conn : ℕ
  pub seen : Peer
  pub noted : Option Peer

-- an open attempt
pub record Meeting : Type 0 where
  pub token : List ℕ
  pub server : End
  pub client : End
  -- the server's registered port
  pub port : ℕ
  pub state : AttemptState

pub record Table : Type 0 where
  -- in order of opening
  pub connections : List Connection
  -- in order of registration
  pub servers : List Server
  -- in the order in which they were drawn
  pub drawn : List Drawn
  -- the words after the last draw
  pub words : ℕ × ℕ
  -- the open attempts, in the order of their numbers
  pub meetings : List Meeting
  -- connections opened so far, and attempts begun so far
  pub openings : ℕ
  pub attempts : ℕ
  -- what the events so far cost, and how many ticks there were
  pub cost : ℕ
  pub ticks : ℕ
  pub over : Bool

-- nobody is there
abbrev pub first : GcSetup → Table
first s = record {
  connections = [];
  servers = [];
  drawn = [];
  words = (s.first, s.second);
  meetings = [];
  openings = 0;
  attempts = 0;
  cost = 0;
  ticks = 0;
  over = false;
}

-- ---- connections

abbrev pub is_on : ℕ → Connection → Bool
is_on conn c = c.conn == conn

abbrev pub connection_of : Table → ℕ → Option Connection
connection_of t conn = find (is_on conn) t.connections

-- where all is over no connection is live
abbrev pub is_live : Table → ℕ → Bool
is_live t conn = not t.over && is_some (connection_of t conn)

abbrev pub live_sides : Table → ℕ
live_sides t = length (filter (λ (c : Connection). c.side) t.connections)

-- ---- servers

abbrev pub is_servers : ℕ → Server → Bool
is_servers conn v = v.conn == conn

abbrev pub server_on : Table → ℕ → Option Server
server_on t conn = find (is_servers conn) t.servers

abbrev pub server_by : Table → List ℕ → Option Server
server_by t code = find (λ (v : Server). bytes_eq code v.code) t.servers

abbrev pub drawn_by : Table → List ℕ → Option Drawn
drawn_by t code = find (λ (d : Drawn). bytes_eq code d.code) t.drawn

-- how many registered servers have a code
abbrev pub holders : Table → List ℕ → ℕ
holders t code = count_by (λ (v : Server). bytes_eq code v.code) t.servers

-- no code was drawn twice
abbrev pub NoneTwice : List Drawn → Type 0
NoneTwice drawn = (code : List ℕ) → count_by (λ (d : Drawn). bytes_eq code d.code) drawn ≤ 1

-- the table in which the server on this connection said this of its game
abbrev pub with_info : ℕ → Info → Table → Table
with_info conn info t = record t { servers = map (λ v. cond (is_servers conn v) (record v { info = Option.Some info }) v) t.servers }

abbrev pub without_server : ℕ → Table → Table
without_server conn t = record t { servers = filter (λ v. not (is_servers conn v)) t.servers }

-- ---- attempts

abbrev pub is_for : List ℕ → Meeting → Bool
is_for token m = bytes_eq token m.token

abbrev pub meeting_of : Table → List ℕ → Option Meeting
meeting_of t token = find (is_for token) t.meetings

abbrev pub without_meeting : List ℕ → Table → Table
without_meeting token t = record t { meetings = filter (λ m. not (is_for token m)) t.meetings }

-- the table in which the attempt with this token is changed
abbrev pub with_meeting : List ℕ → (Meeting → Meeting) → Table → Table
with_meeting token change t = record t { meetings = map (λ m. cond (is_for token m) (change m) m) t.meetings }

-- the tokens of the open attempts whose server, or whose client, is on this connection, in the order of their numbers
abbrev pub served_by : Table → ℕ → List (List ℕ)
served_by t conn = map (λ (m : Meeting). m.token) (filter (λ (m : Meeting). m.server.conn == conn) t.meetings)

abbrev pub asked_by : Table → ℕ → List (List ℕ)
asked_by t conn = map (λ (m : Meeting). m.token) (filter (λ (m : Meeting). m.client.conn == conn) t.meetings)
