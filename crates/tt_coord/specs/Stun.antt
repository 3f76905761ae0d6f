-- What each message to the STUN desk is spelled as.
use Rattle.std.specs.Prelude.{ℕ, List, [], ◌∷◌}
use Rattle.tt_frame.specs.FieldForms.{◌⦂◌, up_to, text}
use Rattle.tt_frame.specs.Rows.{end, ◌▸◌, fixed}
use Rattle.tt_frame.specs.Tables.{Rule, row, SpelledBy}
use Rattle.tt_frame.specs.Apart.{Parted, part}
use Rattle.tt_frame.specs.Families.{Family, family_kind, family_body}
use Rattle.tt_coord.specs.declared.stun.StunMsg.{StunMsg}
use Rattle.tt_coord.specs.declared.stun.StunMsg.TheVariants.{SercliStun}

-- One line for each message: its number, its name, its fields in order with their names, and the variant that takes their
-- values in that order.
abbrev pub stun_messages : List (Rule StunMsg)
stun_messages =
    row 0 "SERCLI_STUN" (fixed 1 ("token" ⦂ text 31 ▸ "side" ⦂ up_to 1 ▸ end)) SercliStun
    ∷ []

-- The body of a packet of that number spells the message: the fields of its line, each in its range, and nothing behind.
abbrev pub StunSpells : StunMsg → ℕ → List ℕ → Type 0
StunSpells m kind body = SpelledBy stun_messages m kind body

-- each message taken apart: its number, and the values of its fields in order
abbrev pub stun_apart : StunMsg → Parted stun_messages
stun_apart (SercliStun token side) = part stun_messages 0 (token, (side, tt))

abbrev pub stun_family : Family StunMsg
stun_family = record { table = stun_messages; apart = stun_apart }

-- the number of its packet
abbrev pub stun_kind_of : StunMsg → ℕ
stun_kind_of m = family_kind stun_family m

-- the body of its packet
abbrev pub stun_body_bytes : StunMsg → List ℕ
stun_body_bytes m = family_body stun_family m
