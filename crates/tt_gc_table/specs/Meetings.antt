-- An attempt to bring a client to a server: how it begins, what it hears, and what its words tell.
use Rattle.std.specs.Prelude.{ℕ, Bool, true, false, List, [], ◌∷◌, ◌++◌, Option, Some, None}
use Rattle.std.specs.Fmt.{decimal}
use Rattle.tt_edge.specs.declared.event.Peer.{Peer}
use Rattle.tt_coord.specs.declared.coord.CoordMsg.TheVariants.{GcConnecting, GcConnectFailed, GcDirectConnect, GcStunRequest, GcStunConnect}
use Rattle.tt_coord.specs.declared.coord.CoordMsg.TheVariants.{GcTurnConnect}
use Rattle.tt_attempts.specs.Attempts.{from_direct, stepped}
use Rattle.tt_attempts.specs.declared.attempt.Stage.{Stage}
use Rattle.tt_attempts.specs.declared.attempt.Stage.TheVariants.{Fresh, TryingDirect, AwaitingStun, TryingStun, TryingTurn, Over}
use Rattle.tt_attempts.specs.declared.attempt.Heard.{Heard}
use Rattle.tt_attempts.specs.declared.attempt.Told as word
use Rattle.tt_attempts.specs.declared.attempt.Told.TheVariants.{Nothing, Direct, AskStun, Stun, Turn, AllFailed}
use Rattle.tt_gc_table.specs.declared.setup.GcSetup.{GcSetup}
use Rattle.tt_gc_table.specs.Table.{Table, Connection, Server, End, Meeting, meeting_of, without_meeting, with_meeting}
use Rattle.tt_gc_table.specs.Deed.{Deed, begins, hears, ◌▹◌, either, given, becomes, tells, notes}
use Rattle.tt_gc_table.specs.Codes.{behind_token}

-- ---- addresses

-- four decimal numbers with dots
abbrev pub dotted : List ℕ → List ℕ
dotted [] = []
dotted (n ∷ []) = decimal n
dotted (n ∷ ns) = decimal n ++ 46 ∷ dotted ns

abbrev pub host_text : Peer → List ℕ
host_text p = dotted p.host

-- where this end is to be reached by STUN: what the desk noted, or else what the coordinator saw
abbrev pub shown : End → Peer
shown e = noted_or e.noted e.seen
  where
    noted_or : Option Peer → Peer → Peer
    noted_or (Some p) seen = p
    noted_or None seen = seen

-- ---- words

-- what the word of an attempt tells; of both the server first
abbrev pub tells_word : GcSetup → word.Told → Meeting → Table → Deed
tells_word s Nothing m t = becomes t
tells_word s Direct m t = tells (m.client.conn ∷ []) (GcDirectConnect m.token 1 (host_text m.server.seen) m.port) t
tells_word s AskStun m t = tells (m.server.conn ∷ m.client.conn ∷ []) (GcStunRequest m.token) t
tells_word s Stun m t =
    tells (m.server.conn ∷ []) (GcStunConnect m.token 2 0 (host_text (shown m.client)) (shown m.client).port) t
    ▹ tells (m.client.conn ∷ []) (GcStunConnect m.token 2 1 (host_text (shown m.server)) (shown m.server).port)
tells_word s Turn m t = tells (m.server.conn ∷ m.client.conn ∷ []) (GcTurnConnect m.token 3 m.token s.turn_host) t
tells_word s AllFailed m t = tells (m.client.conn ∷ []) (GcConnectFailed m.token) t

abbrev pub is_over : Stage → Bool
is_over Over = true
is_over Fresh = false
is_over TryingDirect = false
is_over (AwaitingStun server client) = false
is_over TryingStun = false
is_over TryingTurn = false

-- the attempt with this token is so far now; where it is over it is open no longer
abbrev pub reaches : Stage → List ℕ → Table → Deed
reaches stage token = either (is_over stage) (λ t. becomes (without_meeting token t))
    (λ t. becomes (with_meeting token (λ m. record m { state = record m.state { stage = stage } }) t))

-- ---- what an attempt hears

abbrev pub hears_it : GcSetup → Heard → Meeting → Table → Deed
hears_it s h m t = let step = stepped m.state.ways m.state.stage h in
    notes (hears m.token h) t ▹ reaches step.stage m.token ▹ tells_word s step.told m

-- the open attempt with this token hears it; where there is none nothing happens
abbrev pub is_heard : GcSetup → Heard → List ℕ → Table → Deed
is_heard s h token t = given (meeting_of t token) (hears_it s h) t

-- ---- its begin

abbrev pub end_on : Connection → End
end_on c = record { conn = c.conn; seen = c.peer; noted = None }

abbrev pub new_meeting : GcSetup → List ℕ → Connection → Server → Connection → Meeting
new_meeting s token server v client =
    record {
      token = token;
      server = end_on server;
      client = end_on client;
      port = v.port;
      state = record {
        ways = s.ways;
        stage =
            (from_direct s.ways).stage;
      };
    }

-- it is open, unless no way applies
abbrev pub stands : Stage → Meeting → Table → Deed
stands stage m = either (is_over stage) becomes (λ t. becomes (record t { meetings = t.meetings ++ m ∷ [] }))

-- a client is told the token, and then the first way
abbrev pub begins_it : GcSetup → List ℕ → Meeting → Table → Deed
begins_it s code m t =
    notes (begins m.token) (behind_token t) ▹ stands m.state.stage m ▹ tells (m.client.conn ∷ []) (GcConnecting m.token code) ▹ tells_word
    s (from_direct s.ways).told m
