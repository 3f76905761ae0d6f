-- What each packet does that comes in at the main door.
use Rattle.std.specs.Prelude.{ℕ, Bool, true, false, not, ◌&&◌, ◌||◌, ◌==◌, nat_le, List, [], ◌∷◌, ◌++◌, length, filter, Option, Some, None}
use Rattle.std.specs.Prelude.{is_some}
use Rattle.std.specs.Str.{bytes_eq}
use Rattle.std.specs.Result.{result_ok}
use Rattle.tt_frame.specs.Unread.{whole}
use Rattle.tt_frame.specs.Tables.{read_by}
use Rattle.tt_coord.specs.Coord.{coord_messages}
use Rattle.tt_coord.specs.declared.info.Info.{Info}
use Rattle.tt_coord.specs.declared.coord.CoordMsg.{CoordMsg}
use Rattle.tt_coord.specs.declared.coord.CoordMsg.TheVariants.{GcError, ServerRegister, GcRegisterAck, ServerUpdate, ClientListing}
use Rattle.tt_coord.specs.declared.coord.CoordMsg.TheVariants.{GcListing, ClientConnect, GcConnecting, SercliConnectFailed, GcConnectFailed}
use Rattle.tt_coord.specs.declared.coord.CoordMsg.TheVariants.{ClientConnected, GcDirectConnect, GcStunRequest, SercliStunResult}
use Rattle.tt_coord.specs.declared.coord.CoordMsg.TheVariants.{GcStunConnect, GcNewgrfLookup, GcTurnConnect}
use Rattle.tt_attempts.specs.declared.attempt.Heard.TheVariants.{Failed, StunResult, Connected}
use Rattle.tt_gc_table.specs.declared.setup.GcSetup.{GcSetup}
use Rattle.tt_gc_table.specs.Table.{Table, Connection, Server, Drawn, Meeting, connection_of, server_on, server_by, drawn_by, with_info}
use Rattle.tt_gc_table.specs.Table.{meeting_of}
use Rattle.tt_gc_table.specs.Deed.{Deed, ◌▹◌, where_, either, given, each, becomes, tells}
use Rattle.tt_gc_table.specs.Codes.{new_code, new_secret, behind_code, new_token}
use Rattle.tt_gc_table.specs.Meetings.{is_heard, new_meeting, begins_it}
use Rattle.tt_gc_table.specs.Ending.{ends}

-- at most so many servers are registered at a time, and so many attempts open
abbrev pub most_servers : ℕ
most_servers = 4096

abbrev pub most_attempts : ℕ
most_attempts = 4096

-- ---- registration

-- a server is registered by a code, and is told it with its secret
abbrev pub registers : ℕ → ℕ → ℕ → Drawn → Table → Deed
registers conn kind port d t =
    tells (conn ∷ []) (GcRegisterAck d.code d.secret 0) (record t {
      servers = t.servers ++ record {
        conn = conn;
        code = d.code;
        kind =
            kind;
        port = port;
        info = None;
      } ∷ [];
    })

-- by a code that is drawn now
abbrev pub registers_new : ℕ → ℕ → ℕ → Table → Deed
registers_new conn kind port t =
    let d : Drawn = record { code = new_code t; secret = new_secret t } in
    registers conn kind port d (record (behind_code t) { drawn = t.drawn ++ d ∷ [] })

-- whether this code was drawn, with this secret
abbrev pub is_known : List ℕ → Option Drawn → Bool
is_known secret None = false
is_known secret (Some d) = bytes_eq secret d.secret

abbrev pub is_empty : List ℕ → Bool
is_empty [] = true
is_empty (x ∷ xs) = false

-- the code may be registered: it was drawn with this secret, and isn't live
abbrev pub may_return : Table → List ℕ → List ℕ → Bool
may_return t code secret = is_known secret (drawn_by t code) && not (is_some (server_by t code))

abbrev pub may_register : Table → ℕ → ℕ → List ℕ → List ℕ → Bool
may_register t conn kind code secret =
    not (is_some (server_on t conn)) && nat_le kind 2 && (is_empty code || may_return t code secret)

-- where as many as may be are registered it ends with code 0; where it may not be registered, with code 1
abbrev pub on_register : GcSetup → ℕ → ℕ → ℕ → List ℕ → List ℕ → Table → Deed
on_register s conn kind port code secret t =
    either (nat_le most_servers (length t.servers)) (ends s conn 0 [])
    (either (may_register t conn kind code secret)
    (either (is_empty code) (registers_new conn kind port) (registers conn kind port (record { code = code; secret = secret })))
    (ends s conn 1 [])) t

-- ---- what a server says of its game, and who is listed

abbrev pub on_update : GcSetup → ℕ → Info → Table → Deed
on_update s conn info t = either (is_some (server_on t conn)) (λ t. becomes (with_info conn info t)) (ends s conn 0 []) t

abbrev pub has_revision : List ℕ → Option Info → Bool
has_revision revision None = false
has_revision revision (Some info) = bytes_eq revision info.revision

-- a public server of this revision
abbrev pub is_listed : List ℕ → Server → Bool
is_listed revision v = (v.kind == 1) && has_revision revision v.info

-- a server as a listing tells it: its code, and what it said last of its game
abbrev pub listed_item : List ℕ → Info → List ℕ × (List ℕ × (List ℕ × (ℕ × (ℕ × (ℕ × (Bool × (ℕ × Unit {0})))))))
listed_item code info =
    (code, (info.name, (info.revision, (info.clients, (info.max, (info.companies, (info.password, (info.frame, tt))))))))

abbrev pub tells_server : ℕ → Server → Table → Deed
tells_server conn v = given v.info (λ info. tells (conn ∷ []) (GcListing (listed_item v.code info ∷ [])))

-- each of them, one to a packet, and then a packet with none
abbrev pub on_listing : ℕ → List ℕ → Table → Deed
on_listing conn revision t = each (filter (is_listed revision) t.servers) (tells_server conn) t ▹ tells (conn ∷ []) (GcListing [])

-- ---- attempts

-- the attempt begins, where both are there
abbrev pub connects : GcSetup → Connection → List ℕ → Server → Table → Deed
connects s c code v t =
    given (connection_of t v.conn) (λ (server : Connection). begins_it s code (new_meeting s (new_token t) server v c)) t

-- a code that no live server has ends the connection with code 2
abbrev pub by_code : GcSetup → Connection → List ℕ → Option Server → Table → Deed
by_code s c code None = ends s c.conn 2 code
by_code s c code (Some v) = connects s c code v

-- so does, with code 0, an attempt more than may be open
abbrev pub on_connect : GcSetup → Connection → List ℕ → Table → Deed
on_connect s c code t = either (nat_le most_attempts (length t.meetings)) (ends s c.conn 0 []) (by_code s c code (server_by t code)) t

-- the failure of a way is told by its client, or, but for the direct one, by its server
abbrev pub may_fail : ℕ → ℕ → Meeting → Bool
may_fail conn tracking m = (m.client.conn == conn) || ((m.server.conn == conn) && not (tracking == 1))

abbrev pub on_failed : GcSetup → ℕ → List ℕ → ℕ → Table → Deed
on_failed s conn token tracking t =
    given (meeting_of t token) (λ (m : Meeting). where_ (may_fail conn tracking m) (is_heard s (Failed tracking) token)) t

-- a result comes from the connection whose side it names
abbrev pub is_side : ℕ → ℕ → Meeting → Bool
is_side conn side m = ((side == 0) && (m.server.conn == conn)) || ((side == 1) && (m.client.conn == conn))

abbrev pub on_result : GcSetup → ℕ → List ℕ → ℕ → Bool → Table → Deed
on_result s conn token side ok t =
    given (meeting_of t token) (λ (m : Meeting). where_ (is_side conn side m) (is_heard s (StunResult side ok) token)) t

abbrev pub on_connected : GcSetup → ℕ → List ℕ → Table → Deed
on_connected s conn token t = given (meeting_of t token) (λ (m : Meeting). where_ (m.client.conn == conn) (is_heard s Connected token)) t

-- ---- a packet

-- what a message does that a server or a client says; one of the coordinator's own ends the connection
abbrev pub on_message : GcSetup → Connection → CoordMsg → Table → Deed
on_message s c (ServerRegister kind port code secret) = on_register s c.conn kind port code secret
on_message s c (ServerUpdate info) = on_update s c.conn info
on_message s c (ClientListing revision) = on_listing c.conn revision
on_message s c (ClientConnect code) = on_connect s c code
on_message s c (SercliConnectFailed token tracking) = on_failed s c.conn token tracking
on_message s c (ClientConnected token) = on_connected s c.conn token
on_message s c (SercliStunResult token side ok) = on_result s c.conn token side ok
on_message s c (GcError code detail) = ends s c.conn 0 []
on_message s c (GcRegisterAck code secret way) = ends s c.conn 0 []
on_message s c (GcListing items) = ends s c.conn 0 []
on_message s c (GcConnecting token code) = ends s c.conn 0 []
on_message s c (GcConnectFailed token) = ends s c.conn 0 []
on_message s c (GcDirectConnect token tracking host port) = ends s c.conn 0 []
on_message s c (GcStunRequest token) = ends s c.conn 0 []
on_message s c (GcStunConnect token tracking side host port) = ends s c.conn 0 []
on_message s c (GcNewgrfLookup items) = ends s c.conn 0 []
on_message s c (GcTurnConnect token tracking ticket host) = ends s c.conn 0 []

-- the message that a packet spells, if it spells one
abbrev pub read_msg : ℕ → List ℕ → Option CoordMsg
read_msg kind body = result_ok (read_by coord_messages kind (whole body))

-- a packet that spells nothing ends its connection
abbrev pub heard : GcSetup → Connection → Option CoordMsg → Table → Deed
heard s c None = ends s c.conn 0 []
heard s c (Some m) = on_message s c m
