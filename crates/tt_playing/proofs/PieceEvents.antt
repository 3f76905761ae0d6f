-- What the lines of a script make of a connection's bytes are events that a server can take.
use Rattle.std.proofs.Common.{◌≡◌, ℕ, zero, suc, ◌+◌, Bool, true, false, List, [], ◌∷◌, ◌++◌, sym, subst, ◌∙◌, append_assoc, arith}
use Rattle.std.specs.Prelude.{flat_map, length, map, replicate, if◌then◌else◌}
use Rattle.std.specs.Int.{w16, to_le_bytes}
use Rattle.std.proofs.lemmas.List.{append-nil}
use Rattle.tt_frame.specs.Packet.{Packet, packet_bytes}
use Rattle.tt_frame.specs.Stream.{End, rest_of, bad_size}
use Rattle.tt_frame.specs.StreamReading.{reading}
use Rattle.tt_frame.proofs.StreamLaws.{reading_reads, rest_in, splits_in}
use Rattle.tt_edge.specs.declared.event.Event.{Event}
use Rattle.tt_edge.specs.declared.event.Event.TheVariants as event
use Rattle.tt_log.specs.History.{AreEvents, IsEvent}
use Rattle.tt_log.proofs.Lists.{all-append, all-drop}
use Rattle.tt_playing.specs.Played.{added, as_long_as, end_events, packet_event, reader_limit, stream_events}
use Rattle.tt_playing.proofs.Bytes.{AreBytes, back, by-place, front, join}

-- ---- a stream

packets : (conn : ℕ) (ps : List Packet) → AreBytes (flat_map packet_bytes ps) → AreEvents (map (packet_event conn) ps)
packets conn [] a = tt
packets conn (p ∷ ps) a =
    let packet = front (packet_bytes p) (flat_map packet_bytes ps) a in
    let body = (back (to_le_bytes w16 (length p.body + 3)) (p.kind ∷ p.body) packet).1 in
    (by-place p.body body, packets conn ps (back (packet_bytes p) (flat_map packet_bytes ps) a))

ending : (conn : ℕ) (end : End) → AreEvents (end_events conn end)
ending conn (rest_of rest) = tt
ending conn (bad_size n) = (tt, tt)

stream : (conn : ℕ) (bytes : List ℕ) → AreBytes bytes → AreEvents (stream_events conn bytes)
stream conn bytes a =
    let read = reading reader_limit bytes in
    let reads = reading_reads reader_limit bytes (omega arith) (by-place bytes a) in
    let splits = splits_in reader_limit bytes read.0 read.1 reads in
    let rest = rest_in reader_limit bytes read.0 read.1 reads in
    all-append IsEvent (map (packet_event conn) read.0) (end_events conn read.1)
    (packets conn read.0 (front (flat_map packet_bytes read.0) rest (subst AreBytes splits.whole a))) (ending conn read.1)

-- those of a piece
pub piece-events : (conn : ℕ) (fed piece : List ℕ) → AreBytes fed → AreBytes piece → AreEvents (added conn fed piece)
piece-events conn fed piece a b =
    all-drop IsEvent (length (stream_events conn fed)) (stream_events conn (fed ++ piece)) (stream conn (fed ++ piece) (join fed piece a b))

pub tick-events : (n : ℕ) → AreEvents (replicate n event.Tick)
tick-events zero = tt
tick-events (suc n) = (tt, tick-events n)

-- ---- more of them, as long as something holds

-- what comes behind some events is of those that were to come
abbrev pub GoOn : List Event → List Event → Type 0
GoOn es all = (more : List Event) × (all ≡ es ++ more) × AreEvents more

pub goes-on : (holds : List Event → Bool) (es more : List Event) → AreEvents more → GoOn es (as_long_as holds es more)
goes-on holds es [] are = ([], sym (append-nil es), tt)
goes-on holds es (e ∷ more) are =
    let later = goes-on holds (es ++ e ∷ []) more are.1 in
    elim (holds es) as (λ (b : Bool). GoOn es (if b then as_long_as holds (es ++ e ∷ []) more else es)) [
      | true ↦ (e ∷ later.0, later.1 ∙ append_assoc es (e ∷ []) later.0, (are.0, later.2))
      | false ↦ ([], sym (append-nil es), tt)
    ]
