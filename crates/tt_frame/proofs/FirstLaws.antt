-- The reading of a stream by what stands first in it: a packet, less than one, or a size that no packet has.
use Rattle.std.proofs.Common.{◌≡◌, ℕ, ◌^◌, ◌<◌, ◌≤◌, List, [], ◌∷◌, refl}
use Rattle.tt_frame.specs.Packet.{Packet, IsBytes}
use Rattle.tt_frame.specs.Stream.{IsPartial, IsBadSize, End, rest_of, bad_size, Reads}
use Rattle.tt_frame.specs.StreamReading.{reading}
use Rattle.tt_frame.specs.Framing.{BeginsWith}
use Rattle.tt_frame.proofs.StreamLaws.{same_reading, reading_reads, reads_more}

-- what is read so is the reading
pub read_so : (limit : ℕ) (bytes : List ℕ) (packets : List Packet) (end : End) → 3 ≤ limit → limit < 2 ^ 16 → IsBytes bytes
    → Reads limit bytes packets end
    → ((reading limit bytes).0 ≡ packets) × ((reading limit bytes).1 ≡ end)
read_so limit bytes packets end least small fits reads =
    same_reading limit bytes (reading limit bytes).0 packets (reading limit bytes).1 end small (reading_reads limit bytes least fits) reads

pub read_packet : (limit : ℕ) (bytes : List ℕ) (p : Packet) (more : List ℕ) → 3 ≤ limit → limit < 2 ^ 16 → IsBytes bytes → IsBytes more
    → BeginsWith limit bytes p more
    → ((reading limit bytes).0 ≡ p ∷ (reading limit more).0) × ((reading limit bytes).1 ≡ (reading limit more).1)
read_packet limit bytes p more least small fits also first =
    read_so limit bytes (p ∷ (reading limit more).0) (reading limit more).1 least small fits
    (reads_more limit bytes p more (reading limit more).0 (reading limit more).1 first (reading_reads limit more least also))

pub read_partial : (limit : ℕ) (bytes : List ℕ) → 3 ≤ limit → limit < 2 ^ 16 → IsBytes bytes → IsPartial limit bytes
    → ((reading limit bytes).0 ≡ []) × ((reading limit bytes).1 ≡ rest_of bytes)
read_partial limit bytes least small fits partial =
    read_so limit bytes [] (rest_of bytes) least small fits (record { splits = record { whole = refl; each = tt }; partial = partial })

pub read_bad_size : (limit : ℕ) (bytes : List ℕ) (n : ℕ) → 3 ≤ limit → limit < 2 ^ 16 → IsBytes bytes → IsBadSize limit bytes n
    → ((reading limit bytes).0 ≡ []) × ((reading limit bytes).1 ≡ bad_size n)
read_bad_size limit bytes n least small fits bad =
    read_so limit bytes [] (bad_size n) least small fits (record { rest = bytes; splits = record { whole = refl; each = tt }; bad = bad })
