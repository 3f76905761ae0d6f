-- What each message between the TURN server and a peer is spelled as.
use Rattle.std.specs.Prelude.{ℕ, List, [], ◌∷◌}
use Rattle.tt_frame.specs.FieldForms.{◌⦂◌, text}
use Rattle.tt_frame.specs.Rows.{end, ◌▸◌, fixed}
use Rattle.tt_frame.specs.Tables.{Rule, row, SpelledBy}
use Rattle.tt_frame.specs.Apart.{Parted, part}
use Rattle.tt_frame.specs.Families.{Family, family_kind, family_body}
use Rattle.tt_coord.specs.declared.turn.TurnMsg.{TurnMsg}
use Rattle.tt_coord.specs.declared.turn.TurnMsg.TheVariants.{TurnError, SercliConnect, TurnConnected}

-- One line for each message: its number, its name, its fields in order with their names, and the variant that takes their
-- values in that order.
abbrev pub turn_messages : List (Rule TurnMsg)
turn_messages =
    row 0 "TURN_ERROR" end TurnError
    ∷ row 1 "SERCLI_CONNECT" (fixed 1 ("ticket" ⦂ text 31 ▸ end)) SercliConnect
    ∷ row 2 "TURN_CONNECTED" ("host" ⦂ text 31 ▸ end) TurnConnected
    ∷ []

-- The body of a packet of that number spells the message: the fields of its line, each in its range, and nothing behind.
abbrev pub TurnSpells : TurnMsg → ℕ → List ℕ → Type 0
TurnSpells m kind body = SpelledBy turn_messages m kind body

-- each message taken apart: its number, and the values of its fields in order
abbrev pub turn_apart : TurnMsg → Parted turn_messages
turn_apart TurnError = part turn_messages 0 tt
turn_apart (SercliConnect ticket) = part turn_messages 1 (ticket, tt)
turn_apart (TurnConnected host) = part turn_messages 2 (host, tt)

abbrev pub turn_family : Family TurnMsg
turn_family = record { table = turn_messages; apart = turn_apart }

-- the number of its packet
abbrev pub turn_kind_of : TurnMsg → ℕ
turn_kind_of m = family_kind turn_family m

-- the body of its packet
abbrev pub turn_body_bytes : TurnMsg → List ℕ
turn_body_bytes m = family_body turn_family m
