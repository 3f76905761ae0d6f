-- The text of bytes, packet by packet.
use Rattle.std.proofs.Common.{◌≡◌, ℕ, ◌+◌, ◌≤◌, List, [], ◌∷◌, ◌++◌, length, drop, Option, Some, None, refl, sym, ap, ap₂, subst, ◌∙◌}
use Rattle.std.proofs.Common.{append_assoc, arith}
use Rattle.std.proofs.lemmas.List.{append-nil, drop-drop, length-drop, nil_from_length}
use Rattle.tt_frame.specs.Packet.{Packet, IsBytes, size_of}
use Rattle.tt_frame.specs.Stream.{IsPartial, IsBadSize, End, rest_of, bad_size}
use Rattle.tt_frame.specs.StreamReading.{reading}
use Rattle.tt_frame.specs.Framing.{BeginsWith}
use Rattle.tt_frame.proofs.FieldLaws.{IsBytes-drop}
use Rattle.tt_frame.proofs.PacketLaws.{drop-packet, size_within}
use Rattle.tt_frame.proofs.FirstLaws.{read_packet, read_partial, read_bad_size}
use Rattle.tt_show.specs.declared.family.Family.{Family}
use Rattle.tt_show.specs.Packets.{packet_text, Appends}
use Rattle.tt_frame.specs.Packet.{largest_packet}
use Rattle.tt_show.specs.Streams.{bad_text, partial_text, shown_before, packets_text}

-- the text of bytes of which the first stands at that place
abbrev pub shown_at : Family → ℕ → List ℕ → List ℕ
shown_at family place bytes = let read = reading largest_packet bytes in packets_text family place read.0 read.1

shown_so : (family : Family) (place : ℕ) (bytes : List ℕ) (packets : List Packet) (end : End)
    → ((reading largest_packet bytes).0 ≡ packets) × ((reading largest_packet bytes).1 ≡ end)
    → shown_at family place bytes ≡ packets_text family place packets end
shown_so family place bytes packets end read = ap₂ (λ (ps : List Packet) (e : End). packets_text family place ps e) read.0 read.1

shown_packet : (family : Family) (place : ℕ) (bytes : List ℕ) (p : Packet) (more : List ℕ) → IsBytes bytes → IsBytes more
    → BeginsWith largest_packet bytes p more
    → shown_at family place bytes ≡ shown_before (packet_text family p) place (shown_at family (place + size_of p) more)
shown_packet family place bytes p more fits also first =
    let read = reading largest_packet more in
    shown_so family place bytes (p ∷ read.0) read.1 (read_packet largest_packet bytes p more (omega arith) (omega arith) fits also first)

shown_partial : (family : Family) (place : ℕ) (bytes : List ℕ) → IsBytes bytes → IsPartial largest_packet bytes
    → shown_at family place bytes ≡ partial_text bytes
shown_partial family place bytes fits partial =
    shown_so family place bytes [] (rest_of bytes) (read_partial largest_packet bytes (omega arith) (omega arith) fits partial)

shown_bad_size : (family : Family) (place n : ℕ) (bytes : List ℕ) → IsBytes bytes → IsBadSize largest_packet bytes n
    → shown_at family place bytes ≡ bad_text place
shown_bad_size family place n bytes fits bad =
    shown_so family place bytes [] (bad_size n) (read_bad_size largest_packet bytes n (omega arith) (omega arith) fits bad)

-- ---- the loop over the packets

-- what is left behind a packet
left_behind : (bytes : List ℕ) (place kind : ℕ) (body more : List ℕ) → BeginsWith largest_packet (drop place bytes) (record {
  kind = kind;
  body = body;
}) more → drop (place + (length body + 3)) bytes ≡ more
left_behind bytes place kind body more first = sym (drop-drop (length body + 3) place bytes)
    ∙ drop-packet largest_packet (drop place bytes) (record { kind = kind; body = body }) more first

pub packet_within : (bytes : List ℕ) (place kind : ℕ) (body more : List ℕ) → place ≤ length bytes
    → BeginsWith largest_packet (drop place bytes) (record { kind = kind; body = body }) more → place + (length body + 3) ≤ length bytes
packet_within bytes place kind body more within first =
    let size = size_within largest_packet (drop place bytes) (record { kind = kind; body = body }) more first in
    omega (arith, size, length-drop place bytes, within)

-- what a packet and those behind it have
first_shown : (family : Family) (bytes : List ℕ) (place kind : ℕ) (body more : List ℕ) → IsBytes bytes
    → BeginsWith largest_packet (drop place bytes) (record { kind = kind; body = body }) more
    → shown_at family place (drop place bytes) ≡ shown_before (packet_text family (record { kind = kind; body = body })) place
    (shown_at family (place + (length body + 3)) (drop (place + (length body + 3)) bytes))
first_shown family bytes place kind body more fits first =
    let next = place + (length body + 3) in
    let p : Packet = record { kind = kind; body = body } in
    let left = left_behind bytes place kind body more first in
    shown_packet family place (drop place bytes) p more (IsBytes-drop place bytes fits) (subst (λ (xs : List ℕ). IsBytes xs) left
    (IsBytes-drop next bytes fits)) first
    ∙ ap (λ (xs : List ℕ). shown_before (packet_text family p) place (shown_at family next xs)) (sym left)

appended_before : (line : Option (List ℕ)) (place : ℕ) (text new later : List ℕ) → Appends line text new → text
    ++ shown_before line place later ≡ new ++ later
appended_before (Some line) place text new later is = sym (append_assoc text line later) ∙ ap (λ (t : List ℕ). t ++ later) (sym is)
appended_before None place text new later is = absurd is

-- a packet's line was appended
pub packet_appended : (family : Family) (bytes text new whole : List ℕ) (place kind : ℕ) (body more : List ℕ) → IsBytes bytes
    → BeginsWith largest_packet (drop place bytes) (record { kind = kind; body = body }) more
    → Appends (packet_text family (record { kind = kind; body = body })) text new → text ++ shown_at family place (drop place bytes) ≡ whole
    → new ++ shown_at family (place + (length body + 3)) (drop (place + (length body + 3)) bytes) ≡ whole
packet_appended family bytes text new whole place kind body more fits first line so_far =
    let next = place + (length body + 3) in
    let p : Packet = record { kind = kind; body = body } in
    sym (appended_before (packet_text family p) place text new (shown_at family next (drop next bytes)) line)
    ∙ ap (λ (shown : List ℕ). text ++ shown) (sym (first_shown family bytes place kind body more fits first)) ∙ so_far

-- a packet spells nothing
pub packet_bad : (family : Family) (bytes text same new whole : List ℕ) (place kind : ℕ) (body more : List ℕ) → IsBytes bytes
    → BeginsWith largest_packet (drop place bytes) (record { kind = kind; body = body }) more
    → packet_text family (record { kind = kind; body = body }) ≡ None → same ≡ text → new ≡ same ++ bad_text place → text
    ++ shown_at family place (drop place bytes) ≡ whole → new ≡ whole
packet_bad family bytes text same new whole place kind body more fits first none is appended so_far =
    let next = place + (length body + 3) in
    let bad : shown_at family place (drop place bytes) ≡ bad_text place =
    first_shown family bytes place kind body more fits first
    ∙ ap (λ (o : Option (List ℕ)). shown_before o place (shown_at family next (drop next bytes))) none in
    appended ∙ ap (λ (t : List ℕ). t ++ bad_text place) is ∙ ap (λ (shown : List ℕ). text ++ shown) (sym bad) ∙ so_far

-- no packet is whole any more
pub partial_appended : (family : Family) (bytes text new whole : List ℕ) (place : ℕ) → IsBytes bytes
    → IsPartial largest_packet (drop place bytes) → new ≡ text ++ partial_text (drop place bytes)
    → text ++ shown_at family place (drop place bytes) ≡ whole → new ≡ whole
partial_appended family bytes text new whole place fits partial appended so_far =
    appended ∙ ap (λ (shown : List ℕ). text ++ shown) (sym (shown_partial family place (drop place bytes) (IsBytes-drop place bytes fits)
    partial)) ∙ so_far

pub bad_size_appended : (family : Family) (bytes text new whole : List ℕ) (place n : ℕ) → IsBytes bytes
    → IsBadSize largest_packet (drop place bytes) n → new ≡ text ++ bad_text place
    → text ++ shown_at family place (drop place bytes) ≡ whole → new ≡ whole
bad_size_appended family bytes text new whole place n fits bad appended so_far =
    appended ∙ ap (λ (shown : List ℕ). text ++ shown) (sym (shown_bad_size family place n (drop place bytes) (IsBytes-drop place bytes
    fits) bad)) ∙ so_far

-- nothing is left
pub all_appended : (family : Family) (bytes text whole : List ℕ) (place : ℕ) → length bytes ≤ place → text
    ++ shown_at family place (drop place bytes) ≡ whole → text ≡ whole
all_appended family bytes text whole place le so_far =
    let none : drop place bytes ≡ [] = nil_from_length (drop place bytes) (omega (arith, length-drop place bytes)) in
    let nothing : shown_at family place [] ≡ [] =
    shown_partial family place [] (λ i. omega arith) (record {
      least = λ two. omega (arith, two);
      most = λ two. omega (arith, two);
      short =
          λ two. omega (arith, two);
    }) in
    sym (append-nil text) ∙ ap (λ (shown : List ℕ). text ++ shown) (sym nothing) ∙ ap (λ (xs : List ℕ). text ++ shown_at family place xs)
    (sym none) ∙ so_far
