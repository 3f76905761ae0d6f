-- What the bytes that come tell: the packets, their text, and which of them have a meaning for the run.
use Rattle.std.specs.Prelude.{ℕ, ◌+◌, ◌-◌, ◌^◌, ◌||◌, ◌==◌, min, Bool, List, [], ◌∷◌, Option, Some, None}
use Rattle.std.specs.List.{list_any}
use Rattle.tt_frame.specs.Packet.{Packet, size_of, largest_packet}
use Rattle.tt_frame.specs.Stream.{End, rest_of, bad_size}
use Rattle.tt_frame.specs.StreamReading.{reading}
use Rattle.tt_show.specs.declared.family.Family.TheVariants.{Admin}
use Rattle.tt_show.specs.Packets.{packet_text}
use Rattle.tt_show.specs.Streams.{bad_text, shown_before}

-- ---- the text

-- the place behind a packet, which stops at 2 ^ 64 - 1
abbrev pub behind : ℕ → Packet → ℕ
behind place p = min (place + size_of p) (2 ^ 64 - 1)

-- a bad size is told; of what is less than a packet nothing is told yet
abbrev pub end_told : ℕ → End → List ℕ
end_told place (rest_of rest) = []
end_told place (bad_size n) = bad_text place

-- The text of packets, of which the first stands at that place: a line for each, as the tool `show` writes it. One that spells
-- nothing is told by its place, and is the last.
abbrev pub packets_told : ℕ → List Packet → End → List ℕ
packets_told place [] end = end_told place end
packets_told place (p ∷ packets) end = shown_before (packet_text Admin p) place (packets_told (behind place p) packets end)

-- the text of bytes, of which the first stands at that place
abbrev pub told_at : ℕ → List ℕ → List ℕ
told_at place bytes = let read = reading largest_packet bytes in packets_told place read.0 read.1

-- the text of all bytes of a link
abbrev pub told : List ℕ → List ℕ
told bytes = told_at 0 bytes

-- ---- the packets that have a meaning

-- a packet and those behind it, where it spells a message
abbrev pub if_spelled : Option (List ℕ) → Packet → List Packet → List Packet
if_spelled (Some line) p later = p ∷ later
if_spelled None p later = []

-- the packets up to the first that spells nothing
abbrev pub spelled : List Packet → List Packet
spelled [] = []
spelled (p ∷ packets) = if_spelled (packet_text Admin p) p (spelled packets)

-- whether a packet of such a number stands in the bytes, with none that spells nothing before it
abbrev pub comes : (ℕ → Bool) → List ℕ → Bool
comes is bytes = list_any (λ p. is p.kind) (spelled (reading largest_packet bytes).0)

-- the server let the admin in
abbrev pub is_welcome : ℕ → Bool
is_welcome kind = kind == 104

-- the server has no room, lets the admin not in, or ends it: FULL, BANNED, ERROR
abbrev pub is_refusal : ℕ → Bool
is_refusal kind = (kind == 100) || ((kind == 101) || (kind == 102))

-- the game is over
abbrev pub is_shutdown : ℕ → Bool
is_shutdown kind = kind == 106
