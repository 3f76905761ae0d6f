-- What each message between the coordinator and a server or a client is spelled as.
use Rattle.std.specs.Prelude.{ℕ, List, [], ◌∷◌, Bool}
use Rattle.tt_frame.specs.FieldForms.{◌⦂◌, u8, u16, u32, up_to, truth, text, byte, word}
use Rattle.tt_frame.specs.Rows.{end, ◌▸◌, fixed, counted}
use Rattle.tt_frame.specs.Tables.{Rule, row, SpelledBy}
use Rattle.tt_frame.specs.Apart.{Parted, part}
use Rattle.tt_frame.specs.Families.{Family, family_kind, family_body}
use Rattle.tt_coord.specs.Items.{listed, file}
use Rattle.tt_coord.specs.declared.coord.CoordMsg.{CoordMsg}
use Rattle.tt_coord.specs.declared.coord.CoordMsg.TheVariants.{GcError, ServerRegister, GcRegisterAck, ServerUpdate, ClientListing}
use Rattle.tt_coord.specs.declared.coord.CoordMsg.TheVariants.{GcListing, ClientConnect, GcConnecting, SercliConnectFailed, GcConnectFailed}
use Rattle.tt_coord.specs.declared.coord.CoordMsg.TheVariants.{ClientConnected, GcDirectConnect, GcStunRequest, SercliStunResult}
use Rattle.tt_coord.specs.declared.coord.CoordMsg.TheVariants.{GcStunConnect, GcNewgrfLookup, GcTurnConnect}

-- the message that takes the fields of a game
abbrev pub server_update : List ℕ → List ℕ → ℕ → ℕ → ℕ → Bool → ℕ → CoordMsg
server_update name revision clients max companies password frame =
    ServerUpdate (record {
      name = name;
      revision = revision;
      clients = clients;
      max = max;
      companies = companies;
      password = password;
      frame = frame;
    })

-- One line for each message: its number, its name, its fields in order with their names, and the variant that takes their
-- values in that order.
abbrev pub coord_messages : List (Rule CoordMsg)
coord_messages =
    row 0 "GC_ERROR" ("code" ⦂ up_to 2 ▸ "detail" ⦂ text 31 ▸ end) GcError
    ∷ row 1 "SERVER_REGISTER" (fixed 1 ("kind" ⦂ u8 ▸ "port" ⦂ u16 ▸ "code" ⦂ text 31 ▸ "secret" ⦂ text 32 ▸ end)) ServerRegister
    ∷ row 2 "GC_REGISTER_ACK" ("code" ⦂ text 31 ▸ "secret" ⦂ text 32 ▸ "way" ⦂ up_to 4 ▸ end) GcRegisterAck
    ∷ row 3 "SERVER_UPDATE" (fixed 1 ("name" ⦂ text 31 ▸ "revision" ⦂ text 31 ▸ "clients" ⦂ u8 ▸ "max" ⦂ u8 ▸ "companies" ⦂ u8 ▸ "password"
    ⦂ truth ▸ "frame" ⦂ u32 ▸ end)) server_update
    ∷ row 4 "CLIENT_LISTING" (fixed 1 ("revision" ⦂ text 31 ▸ end)) ClientListing
    ∷ row 5 "GC_LISTING" (counted word 255 listed end) GcListing
    ∷ row 6 "CLIENT_CONNECT" (fixed 1 ("code" ⦂ text 31 ▸ end)) ClientConnect
    ∷ row 7 "GC_CONNECTING" ("token" ⦂ text 31 ▸ "code" ⦂ text 31 ▸ end) GcConnecting
    ∷ row 8 "SERCLI_CONNECT_FAILED" (fixed 1 ("token" ⦂ text 31 ▸ "tracking" ⦂ u8 ▸ end)) SercliConnectFailed
    ∷ row 9 "GC_CONNECT_FAILED" ("token" ⦂ text 31 ▸ end) GcConnectFailed
    ∷ row 10 "CLIENT_CONNECTED" (fixed 1 ("token" ⦂ text 31 ▸ end)) ClientConnected
    ∷ row 11 "GC_DIRECT_CONNECT" ("token" ⦂ text 31 ▸ "tracking" ⦂ u8 ▸ "host" ⦂ text 31 ▸ "port" ⦂ u16 ▸ end) GcDirectConnect
    ∷ row 12 "GC_STUN_REQUEST" ("token" ⦂ text 31 ▸ end) GcStunRequest
    ∷ row 13 "SERCLI_STUN_RESULT" (fixed 1 ("token" ⦂ text 31 ▸ "side" ⦂ up_to 1 ▸ "ok" ⦂ truth ▸ end)) SercliStunResult
    ∷ row 14 "GC_STUN_CONNECT" ("token" ⦂ text 31 ▸ "tracking" ⦂ u8 ▸ "side" ⦂ up_to 1 ▸ "host" ⦂ text 31 ▸ "port" ⦂ u16 ▸ end)
    GcStunConnect
    ∷ row 15 "GC_NEWGRF_LOOKUP" (counted byte 62 file end) GcNewgrfLookup
    ∷ row 16 "GC_TURN_CONNECT" ("token" ⦂ text 31 ▸ "tracking" ⦂ u8 ▸ "ticket" ⦂ text 31 ▸ "host" ⦂ text 31 ▸ end) GcTurnConnect
    ∷ []

-- The body of a packet of that number spells the message: the fields of its line, each in its range, and nothing behind.
abbrev pub CoordSpells : CoordMsg → ℕ → List ℕ → Type 0
CoordSpells m kind body = SpelledBy coord_messages m kind body

-- each message taken apart: its number, and the values of its fields in order
abbrev pub coord_apart : CoordMsg → Parted coord_messages
coord_apart (GcError code detail) = part coord_messages 0 (code, (detail, tt))
coord_apart (ServerRegister kind port code secret) = part coord_messages 1 (kind, (port, (code, (secret, tt))))
coord_apart (GcRegisterAck code secret way) = part coord_messages 2 (code, (secret, (way, tt)))
coord_apart (ServerUpdate info) =
    part coord_messages 3 (info.name, (info.revision, (info.clients, (info.max, (info.companies, (info.password, (info.frame, tt)))))))
coord_apart (ClientListing revision) = part coord_messages 4 (revision, tt)
coord_apart (GcListing items) = part coord_messages 5 (items, tt)
coord_apart (ClientConnect code) = part coord_messages 6 (code, tt)
coord_apart (GcConnecting token code) = part coord_messages 7 (token, (code, tt))
coord_apart (SercliConnectFailed token tracking) = part coord_messages 8 (token, (tracking, tt))
coord_apart (GcConnectFailed token) = part coord_messages 9 (token, tt)
coord_apart (ClientConnected token) = part coord_messages 10 (token, tt)
coord_apart (GcDirectConnect token tracking host port) = part coord_messages 11 (token, (tracking, (host, (port, tt))))
coord_apart (GcStunRequest token) = part coord_messages 12 (token, tt)
coord_apart (SercliStunResult token side ok) = part coord_messages 13 (token, (side, (ok, tt)))
coord_apart (GcStunConnect token tracking side host port) = part coord_messages 14 (token, (tracking, (side, (host, (port, tt)))))
coord_apart (GcNewgrfLookup items) = part coord_messages 15 (items, tt)
coord_apart (GcTurnConnect token tracking ticket host) = part coord_messages 16 (token, (tracking, (ticket, (host, tt))))

abbrev pub coord_family : Family CoordMsg
coord_family = record { table = coord_messages; apart = coord_apart }

-- the number of its packet
abbrev pub coord_kind_of : CoordMsg → ℕ
coord_kind_of m = family_kind coord_family m

-- the body of its packet
abbrev pub coord_body_bytes : CoordMsg → List ℕ
coord_body_bytes m = family_body coord_family m
