-- The stream of a connection, piece by piece.
use Rattle.std.proofs.Common.{◌≡◌, ℕ, List, [], ◌∷◌, ◌++◌, length, drop, refl, sym, ap, ap₂, subst, ◌∙◌, append_assoc, arith}
use Rattle.std.specs.Prelude.{map}
use Rattle.std.specs.List.{AllByRecursion}
use Rattle.std.proofs.lemmas.List.{append-nil, drop_at}
use Rattle.tt_frame.specs.Packet.{Packet, IsBytes, IsWithin, packet_bytes}
use Rattle.tt_frame.specs.Stream.{stream_of, IsPartial, IsBadSize, End, rest_of, bad_size, Reads}
use Rattle.tt_frame.specs.StreamReading.{reading}
use Rattle.tt_frame.specs.Framing.{BeginsWith}
use Rattle.tt_frame.proofs.StreamLaws.{reading_reads, reads_more}
use Rattle.tt_frame.proofs.FirstLaws.{read_so, read_packet, read_partial, read_bad_size}
use Rattle.tt_edge.specs.declared.event.Event.{Event}
use Rattle.tt_edge.specs.declared.event.Event.TheVariants as event
use Rattle.tt_playing.specs.Played.{reader_limit, packet_event, end_events, stream_events, added}

-- ---- what stands first

-- the events of a stream, by its reading
events_by : (conn : ℕ) (bytes : List ℕ) (packets : List Packet) (end : End) → (reading reader_limit bytes).0 ≡ packets
    → (reading reader_limit bytes).1 ≡ end → stream_events conn bytes ≡ map (packet_event conn) packets ++ end_events conn end
events_by conn bytes packets end are is = ap₂ (λ (ps : List Packet) (e : End). map (packet_event conn) ps ++ end_events conn e) are is

pub events_packet : (conn : ℕ) (bytes : List ℕ) (p : Packet) (more : List ℕ) → IsBytes bytes → IsBytes more
    → BeginsWith reader_limit bytes p more → stream_events conn bytes ≡ event.Packet conn p.kind p.body ∷ stream_events conn more
events_packet conn bytes p more fits also first =
    let read = read_packet reader_limit bytes p more (omega arith) (omega arith) fits also first in
    events_by conn bytes (p ∷ (reading reader_limit more).0) (reading reader_limit more).1 read.0 read.1

pub events_partial : (conn : ℕ) (bytes : List ℕ) → IsBytes bytes → IsPartial reader_limit bytes → stream_events conn bytes ≡ []
events_partial conn bytes fits partial = let read =
    read_partial reader_limit bytes (omega arith) (omega arith) fits partial in events_by conn bytes [] (rest_of bytes) read.0 read.1

pub events_bad_size : (conn : ℕ) (bytes : List ℕ) (n : ℕ) → IsBytes bytes → IsBadSize reader_limit bytes n
    → stream_events conn bytes ≡ event.Broken conn ∷ []
events_bad_size conn bytes n fits bad = let read =
    read_bad_size reader_limit bytes n (omega arith) (omega arith) fits bad in events_by conn bytes [] (bad_size n) read.0 read.1

-- ---- pieces joined

-- packets in front of a stream are the first of it
reads_behind : (packets : List Packet) (more : List ℕ) (later : List Packet) (end : End) → AllByRecursion (IsWithin reader_limit) packets
    → Reads reader_limit more later end → Reads reader_limit (stream_of packets more) (packets ++ later) end
reads_behind [] more later end each reads = reads
reads_behind (p ∷ packets) more later end each reads =
    reads_more reader_limit (stream_of (p ∷ packets) more) p (stream_of packets more) (packets ++ later) end
    (record { fits = each.0; whole = append_assoc (packet_bytes p) _ more })
    (reads_behind packets more later end each.1 reads)

-- where the bytes so far end in a rest, a piece is read behind that rest
pub read_joined : (fed rest piece : List ℕ) → IsBytes fed → IsBytes (fed ++ piece) → IsBytes (rest ++ piece)
    → (reading reader_limit fed).1 ≡ rest_of rest
    → ((reading reader_limit (fed ++ piece)).0 ≡ (reading reader_limit fed).0 ++ (reading reader_limit (rest ++ piece)).0)
    × ((reading reader_limit (fed ++ piece)).1 ≡ (reading reader_limit (rest ++ piece)).1)
read_joined fed rest piece fits all both is =
    let old = (reading reader_limit fed).0 in
    let cut = subst (λ (e : End). Reads reader_limit fed old e) is (reading_reads reader_limit fed (omega arith) fits) in
    let new = reading reader_limit (rest ++ piece) in
    let joined : stream_of old (rest ++ piece) ≡ fed ++ piece =
    sym (append_assoc _ rest piece) ∙ ap (λ (xs : List ℕ). xs ++ piece) (sym cut.splits.whole) in
    read_so reader_limit (fed ++ piece) (old ++ new.0) new.1 (omega arith) (omega arith) all (rw (← joined) (reads_behind old (rest
    ++ piece) new.0 new.1 cut.splits.each (reading_reads reader_limit (rest ++ piece) (omega arith) both)))

map-append : (conn : ℕ) (xs ys : List Packet) → map (packet_event conn) (xs ++ ys) ≡ map (packet_event conn) xs
    ++ map (packet_event conn) ys
map-append conn [] ys = refl
map-append conn (p ∷ xs) ys = ap (λ (es : List Event). packet_event conn p ∷ es) (map-append conn xs ys)

dropped : (front more : List Event) → drop (length front) (front ++ more) ≡ more
dropped front more = drop_at front more (length front) refl

-- the events that a piece adds are those of the rest and the piece
pub added_is : (conn : ℕ) (fed rest piece : List ℕ) → IsBytes fed → IsBytes (fed ++ piece) → IsBytes (rest ++ piece)
    → (reading reader_limit fed).1 ≡ rest_of rest → added conn fed piece ≡ stream_events conn (rest ++ piece)
added_is conn fed rest piece fits all both is =
    let old = (reading reader_limit fed).0 in
    let new = reading reader_limit (rest ++ piece) in
    let read = read_joined fed rest piece fits all both is in
    let before : stream_events conn fed ≡ map (packet_event conn) old =
    events_by conn fed old (rest_of rest) refl is ∙ append-nil (map (packet_event conn) old) in
    let after : stream_events conn (fed ++ piece) ≡ map (packet_event conn) old ++ stream_events conn (rest ++ piece) =
    events_by conn (fed ++ piece) (old ++ new.0) new.1 read.0 read.1 ∙ ap (λ (es : List Event). es ++ end_events conn new.1)
    (map-append conn old new.0)
    ∙ append_assoc (map (packet_event conn) old) (map (packet_event conn) new.0) (end_events conn new.1) in
    ap₂ (λ (es fs : List Event). drop (length es) fs) before after ∙ dropped (map (packet_event conn) old) (stream_events conn (rest
    ++ piece))
