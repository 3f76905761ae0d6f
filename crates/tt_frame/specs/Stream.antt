-- What packets a stream of bytes has. This speaks of whole lists of bytes: it knows no pieces and no reader.
use Rattle.std.specs.Prelude.{◌≡◌, ℕ, ◌+◌, ◌*◌, ◌<◌, ◌≤◌, ◌⊎◌, List, ◌++◌, length, slice_index}
use Rattle.std.specs.List.{flat_map, AllByRecursion}
use Rattle.tt_frame.specs.Packet.{Packet, IsWithin, packet_bytes}

-- the packets, one behind the other, and then the rest
abbrev pub stream_of : List Packet → List ℕ → List ℕ
stream_of packets rest = flat_map packet_bytes packets ++ rest

-- the bytes are these packets, each within the limit, and then the rest
pub record Splits (limit : ℕ) (bytes : List ℕ) (packets : List Packet) (rest : List ℕ) : Type 0 where
  pub whole : bytes ≡ stream_of packets rest
  pub each : AllByRecursion (IsWithin limit) packets

-- the size that the first two bytes tell, the low byte first
abbrev pub told_size : List ℕ → ℕ
told_size bytes = slice_index bytes 0 + 256 * slice_index bytes 1

-- less than a whole packet: at most one byte, or a proper front of a packet of at most `limit` bytes. It is written with
-- the told size; that it is this, the law `one_reading` says by `IsProperFront`.
pub record IsPartial (limit : ℕ) (rest : List ℕ) : Type 0 where
  pub least : 2 ≤ length rest → 3 ≤ told_size rest
  pub most : 2 ≤ length rest → told_size rest ≤ limit
  pub short : 2 ≤ length rest → length rest < told_size rest

-- a packet of at most `limit` bytes begins with these bytes, and has more
abbrev pub IsProperFront : ℕ → List ℕ → Type 0
IsProperFront limit rest =
    (p : Packet) × (more : List ℕ) × IsWithin limit p × (0 < length more) × (packet_bytes p ≡ rest ++ more)

-- a size that no packet has stands first
pub record IsBadSize (limit : ℕ) (rest : List ℕ) (n : ℕ) : Type 0 where
  pub there : 2 ≤ length rest
  pub told : told_size rest ≡ n
  pub bad : (n < 3) ⊎ (limit < n)

-- the bytes are these packets, and then less than a whole one
pub record Cut (limit : ℕ) (bytes : List ℕ) (packets : List Packet) (rest : List ℕ) : Type 0 where
  pub splits : Splits limit bytes packets rest
  pub partial : IsPartial limit rest

-- behind these packets stands the bad size n
pub record Broken (limit : ℕ) (bytes : List ℕ) (packets : List Packet) (n : ℕ) : Type 0 where
  pub rest : List ℕ
  pub splits : Splits limit bytes packets rest
  pub bad : IsBadSize limit rest n

-- what stands behind the whole packets of a stream
pub data End : Type 0 where
  rest_of : List ℕ → End
  bad_size : ℕ → End

-- the bytes are these packets, and then this end
abbrev pub Reads : ℕ → List ℕ → List Packet → End → Type 0
Reads limit bytes packets (rest_of rest) = Cut limit bytes packets rest
Reads limit bytes packets (bad_size n) = Broken limit bytes packets n
