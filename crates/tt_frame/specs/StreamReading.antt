-- The one reading of a stream, as a function. That it is the reading of `Reads`, the law `one_reading` says.
use Rattle.std.specs.Prelude.{ℕ, zero, suc, ◌-◌, List, [], ◌∷◌, length, slice_index, take, drop, nat_lt, ◌||◌, if◌then◌else◌}
use Rattle.tt_frame.specs.Packet.{Packet}
use Rattle.tt_frame.specs.Stream.{told_size, End, rest_of, bad_size}

-- the packet that stands in the first size bytes
abbrev pub packet_in : List ℕ → ℕ → Packet
packet_in bytes size = record { kind = slice_index bytes 2; body = take (size - 3) (drop 3 bytes) }

abbrev pub with_first : Packet → List Packet × End → List Packet × End
with_first p later = (p ∷ later.0, later.1)

-- the packets that stand first, one behind the other and at most so many, and what stands behind them
unfoldable pub reading_within : ℕ → ℕ → List ℕ → List Packet × End
reading_within zero limit bytes = ([], rest_of bytes)
reading_within (suc most) limit bytes =
    if nat_lt (length bytes) 2 then ([], rest_of bytes)
    else if nat_lt (told_size bytes) 3 || nat_lt limit (told_size bytes) then ([], bad_size (told_size bytes))
    else if nat_lt (length bytes) (told_size bytes) then ([], rest_of bytes)
    else with_first (packet_in bytes (told_size bytes)) (reading_within most limit (drop (told_size bytes) bytes))

-- all packets of the bytes, and what stands behind them
abbrev pub reading : ℕ → List ℕ → List Packet × End
reading limit bytes = reading_within (length bytes) limit bytes
