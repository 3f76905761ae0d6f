-- What a packet is on the wire.
use Rattle.std.specs.Prelude.{ℕ, ◌+◌, ◌≤◌, ◌<◌, List, ◌∷◌, ◌++◌, length, slice_index}
use Rattle.std.specs.Int.{w16, to_le_bytes}

-- each element is a byte
abbrev pub IsBytes : List ℕ → Type 0
IsBytes bytes = (i : ℕ) → slice_index bytes i < 256

-- the bytes of a packet: its size, which counts itself, the low byte first, then the kind, then the body
abbrev pub packet : ℕ → List ℕ → List ℕ
packet kind body = to_le_bytes w16 (length body + 3) ++ kind ∷ body

-- a packet, taken apart
pub record Packet : Type 0 where
  pub kind : ℕ
  pub body : List ℕ

-- its bytes
abbrev pub packet_bytes : Packet → List ℕ
packet_bytes p = packet p.kind p.body

-- how many bytes it takes: two of size, one of kind, and its body
abbrev pub size_of : Packet → ℕ
size_of p = length p.body + 3

-- a packet that a reader with this limit takes
pub record IsWithin (limit : ℕ) (p : Packet) : Type 0 where
  pub size : size_of p ≤ limit

-- the most bytes of a packet that is read, and of a packet that is sent, but for the lists that are named where it is said
abbrev pub largest_packet : ℕ
largest_packet = 32767

abbrev pub largest_sent : ℕ
largest_sent = 1460
