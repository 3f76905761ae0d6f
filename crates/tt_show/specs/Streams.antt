-- The text of a line's bytes: the lines of their packets.
use Rattle.std.specs.Prelude.{ℕ, ◌+◌, List, [], ◌∷◌, ◌++◌, length, codes, Option, Some, None}
use Rattle.std.specs.Fmt.{decimal}
use Rattle.tt_frame.specs.Packet.{Packet, size_of, largest_packet}
use Rattle.tt_frame.specs.Stream.{End, rest_of, bad_size}
use Rattle.tt_frame.specs.StreamReading.{reading}
use Rattle.tt_show.specs.declared.family.Family.{Family}
use Rattle.tt_show.specs.Packets.{packet_text}

-- what stands at that place is no packet, or one that spells nothing
abbrev pub bad_text : ℕ → List ℕ
bad_text place = codes "bad at " ++ decimal place ++ codes "\n"

-- what is less than a packet: how many bytes it has
abbrev pub partial_text : List ℕ → List ℕ
partial_text [] = []
partial_text (b ∷ rest) = codes "partial " ++ decimal (length (b ∷ rest)) ++ codes "\n"

-- what stands behind the packets
abbrev pub end_text : ℕ → End → List ℕ
end_text place (rest_of rest) = partial_text rest
end_text place (bad_size n) = bad_text place

-- a packet's line and what follows it, or that it spells nothing, which is the last
abbrev pub shown_before : Option (List ℕ) → ℕ → List ℕ → List ℕ
shown_before (Some line) place later = line ++ later
shown_before None place later = bad_text place

-- the packets, of which the first stands at that place, and the end behind them
abbrev pub packets_text : Family → ℕ → List Packet → End → List ℕ
packets_text family place [] end = end_text place end
packets_text family place (p ∷ packets) end =
    shown_before (packet_text family p) place (packets_text family (place + size_of p) packets end)

-- the text of bytes, whose places count from 0
abbrev pub bytes_shown : Family → List ℕ → List ℕ
bytes_shown family bytes = let read = reading largest_packet bytes in packets_text family 0 read.0 read.1
