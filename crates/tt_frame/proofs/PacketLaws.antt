-- A packet and the bytes behind it.
use Rattle.std.proofs.Common.{◌≡◌, ℕ, zero, suc, ◌+◌, ◌-◌, ◌≤◌, Bool, List, [], ◌∷◌, ◌++◌, length, get_or, take, drop, refl, sym, ap, ◌∙◌}
use Rattle.std.proofs.Common.{arith}
use Rattle.std.specs.Prelude.{slice_range}
use Rattle.std.specs.Int.{w16, to_le_bytes, from_le_bytes}
use Rattle.std.proofs.lemmas.List.{drop-drop, drop-take, take-append-drop, length-take-le, length-append, drop_at}
use Rattle.std.proofs.lemmas.List.Edits.{length-between}
use Rattle.std.proofs.lemmas.Nat.{le_bytes_2}
use Rattle.tt_frame.specs.Packet.{IsBytes, Packet, packet_bytes, size_of}
use Rattle.tt_frame.specs.StreamReading.{packet_in}
use Rattle.tt_frame.specs.Framing.{BeginsWith, GivesPacket}

IsBytes-pair : (low high : ℕ) (more : List ℕ) → IsBytes (low ∷ high ∷ more) → IsBytes (low ∷ high ∷ [])
IsBytes-pair low high more bytes zero = bytes 0
IsBytes-pair low high more bytes (suc zero) = bytes 1
IsBytes-pair low high more bytes (suc (suc i)) = omega arith

-- the two bytes of size are those that a packet of that size begins with
packet_bytes-cut : (low high kind : ℕ) (more : List ℕ) (size : ℕ) → IsBytes (low ∷ high ∷ kind ∷ more)
    → size ≡ from_le_bytes w16 (low ∷ high ∷ []) → 3 ≤ size → size ≤ length more + 3
    → packet_bytes (record { kind = kind; body = take (size - 3) more }) ++ drop (size - 3) more ≡ low ∷ high ∷ kind ∷ more
packet_bytes-cut low high kind more size bytes told least whole =
    let same_size : length (take (size - 3) more) + 3 ≡ size = omega (arith, length-take-le (size - 3) more (omega arith)) in
    let size_bytes : to_le_bytes w16 (length (take (size - 3) more) + 3) ≡ low ∷ high ∷ [] =
    ap (λ (n : ℕ). to_le_bytes w16 n) same_size ∙ le_bytes_2 (low ∷ high ∷ []) size refl (IsBytes-pair low high (kind ∷ more) bytes) told in
    ap (λ (first : List ℕ). (first ++ kind ∷ take (size - 3) more) ++ drop (size - 3) more) size_bytes
    ∙ ap (λ (xs : List ℕ). low ∷ high ∷ kind ∷ xs) (take-append-drop (size - 3) more)

-- where two bytes tell a size, and as many bytes are there, a packet stands first
pub begins_with_packet : (bytes : List ℕ) (limit size : ℕ) → IsBytes bytes
    → size ≡ from_le_bytes w16 (get_or bytes 0 0 ∷ get_or bytes 1 0 ∷ []) → 3 ≤ size → size ≤ limit → size ≤ length bytes
    → BeginsWith limit bytes (packet_in bytes size) (drop size bytes)
begins_with_packet [] limit size b told least most whole = absurd (omega arith)
begins_with_packet (low ∷ []) limit size b told least most whole = absurd (omega arith)
begins_with_packet (low ∷ high ∷ []) limit size b told least most whole = absurd (omega arith)
begins_with_packet (low ∷ high ∷ kind ∷ more) limit size b told least most whole =
    let behind : drop size (low ∷ high ∷ kind ∷ more) ≡ drop (size - 3) more =
    sym (drop-drop (size - 3) 3 (low ∷ high ∷ kind ∷ more) ∙ ap (λ (n : ℕ). drop n (low ∷ high ∷ kind ∷ more)) (omega arith)) in
    record {
      fits = record { size = omega (arith, length-take-le (size - 3) more (omega arith)) };
      whole = sym (ap (λ (xs : List ℕ). packet_bytes (record { kind = kind; body = take (size - 3) more }) ++ xs) behind
          ∙ packet_bytes-cut low high kind more size b told least (omega arith));
    }

-- what is left of a range of bytes behind its first k
pub drop-slice_range : (xs : List ℕ) (start end k : ℕ) → start + k ≤ end → drop k (slice_range xs start end) ≡ slice_range xs (start + k)
    end
drop-slice_range xs start end k within =
    ap (λ (n : ℕ). drop k (take n (drop start xs))) (omega arith)
    ∙ drop-take k (end - (start + k)) (drop start xs)
    ∙ ap (λ (ys : List ℕ). take (end - (start + k)) ys) (drop-drop k start xs)

-- a packet takes its size from the bytes
pub drop-packet : (limit : ℕ) (bytes : List ℕ) (p : Packet) (rest : List ℕ) → BeginsWith limit bytes p rest → drop (size_of p) bytes ≡ rest
drop-packet limit bytes p rest first =
    ap (λ (xs : List ℕ). drop (size_of p) xs) first.whole
    ∙ drop_at (packet_bytes p) rest (size_of p) (omega arith)

pub size_within : (limit : ℕ) (bytes : List ℕ) (p : Packet) (rest : List ℕ) → BeginsWith limit bytes p rest → size_of p ≤ length bytes
size_within limit bytes p rest first = omega (arith, ap length first.whole, length-append (packet_bytes p) rest)

-- a framer that moves its start behind the first packet gives that packet
pub gives_first : (limit : ℕ) (items : List ℕ) (start end : ℕ) (broken : Bool) (p : Packet) (rest : List ℕ) → start ≤ end
    → end ≤ length items → BeginsWith limit (slice_range items start end) p rest
    → GivesPacket (record { limit = limit; held = slice_range items start end; broken = broken }) (record {
      limit = limit;
      held =
          slice_range items (start + size_of p) end;
      broken = broken;
    }) p
gives_first limit items start end broken p rest ordered within first =
    let size : size_of p ≤ end - start = omega (arith, size_within limit _ p rest first, length-between items start end within) in
    let left : rest ≡ slice_range items (start + size_of p) end =
    sym (drop-packet limit _ p rest first) ∙ drop-slice_range items start end (size_of p) (omega arith) in
    record {
      first = record { fits = first.fits; whole = first.whole ∙ ap (λ (xs : List ℕ). packet_bytes p ++ xs) left };
      limit = refl;
      broken = refl;
    }
