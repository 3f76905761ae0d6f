-- What begins in a stream stays there, whatever comes behind.
use Rattle.std.proofs.Common.{◌≡◌, ℕ, ◌≤◌, List, [], ◌∷◌, ◌++◌, length, drop, refl, sym, ap, ap₂, ◌∙◌, subst, append_assoc, append-nil}
use Rattle.std.proofs.Common.{arith, lit<}
use Rattle.std.specs.List.{flat_map}
use Rattle.std.proofs.lemmas.List.{drop_at}
use Rattle.tt_frame.specs.Packet.{IsBytes, Packet, packet_bytes}
use Rattle.tt_frame.specs.Stream.{Broken, End, IsBadSize, Reads, bad_size, rest_of, told_size}
use Rattle.tt_frame.specs.StreamReading.{reading}
use Rattle.tt_frame.proofs.StreamLaws.{reading_reads, same_reading}
use Rattle.tt_log.specs.Shown.{Item, items_from, items_in}
use Rattle.tt_client.specs.Calls.{new_items}
use Rattle.tt_client.specs.Cutting.{behind}
use Rattle.tt_client.proofs.Cuts.{items_behind, reads_behind}
use Rattle.tt_client.proofs.InSteps.{bytes_back, bytes_front, bytes_join}

-- a front that is part of a list is what the new items stand behind
grown_by : (before piece : List ℕ) (more : List Item) → items_in (before ++ piece) ≡ items_in before ++ more
    → items_in (before ++ piece) ≡ items_in before ++ new_items before piece
grown_by before piece more is =
    let new : new_items before piece ≡ more = ap (λ (xs : List Item). drop (length (items_in before)) xs) is ∙ drop_at (items_in before)
    more (length (items_in before)) refl in
    is ∙ ap (λ (xs : List Item). items_in before ++ xs) (sym new)

size_on : (rest piece : List ℕ) → 2 ≤ length rest → told_size (rest ++ piece) ≡ told_size rest
size_on [] piece two = absurd (omega (arith, two))
size_on (a ∷ []) piece two = absurd (omega (arith, two))
size_on (a ∷ (b ∷ rest)) piece two = refl

long_on : (rest piece : List ℕ) → 2 ≤ length rest → 2 ≤ length (rest ++ piece)
long_on [] piece two = absurd (omega (arith, two))
long_on (a ∷ []) piece two = absurd (omega (arith, two))
long_on (a ∷ (b ∷ rest)) piece two = omega arith

bad_on : (rest piece : List ℕ) (n : ℕ) → IsBadSize 32767 rest n → IsBadSize 32767 (rest ++ piece) n
bad_on rest piece n bad = record { there = long_on rest piece bad.there; told = size_on rest piece bad.there ∙ bad.told; bad = bad.bad }

broken_on : (before piece : List ℕ) (ps : List Packet) (n : ℕ) → Broken 32767 before ps n → Broken 32767 (before ++ piece) ps n
broken_on before piece ps n broken = record {
  rest = broken.rest ++ piece;
  splits = record {
    whole = ap (λ (xs : List ℕ). xs ++ piece) broken.splits.whole ∙ append_assoc (flat_map packet_bytes ps) broken.rest piece;
    each = broken.splits.each;
  };
  bad = bad_on broken.rest piece n broken.bad;
}

read_so : (bytes : List ℕ) (ps : List Packet) (e : End) → IsBytes bytes → Reads 32767 bytes ps e → items_in bytes ≡ items_from 0 ps e
read_so bytes ps e fits reads =
    let same = same_reading 32767 bytes (reading 32767 bytes).0 ps (reading 32767 bytes).1 e (lit< tt) (reading_reads 32767 bytes (omega
    arith) fits) reads in
    ap₂ (λ (qs : List Packet) (f : End). items_from 0 qs f) same.0 same.1

grows_by : (before piece : List ℕ) (e : End) → IsBytes (before ++ piece) → (reading 32767 before).1 ≡ e
    → items_in (before ++ piece) ≡ items_in before ++ new_items before piece
grows_by before piece (rest_of rest) fits end =
    let front = bytes_front before piece fits in
    let ps = (reading 32767 before).0 in
    let old : Reads 32767 before ps (rest_of rest) = subst (λ (e : End). Reads 32767 before ps e) end (reading_reads 32767 before (omega
    arith) front) in
    let more : IsBytes (rest ++ piece) =
    bytes_join rest piece (bytes_back (flat_map packet_bytes ps) rest (subst (λ (xs : List ℕ). IsBytes xs) old.splits.whole front))
    (bytes_back before piece fits) in
    let later = reading 32767 (rest ++ piece) in
    let joined = reads_behind 32767 before piece ps later.0 rest later.1 old.splits (reading_reads 32767 (rest ++ piece) (omega arith)
    more) in
    let known : items_in before ≡ items_from 0 ps (rest_of rest) = ap (λ (e : End). items_from 0 ps e) end in
    grown_by before piece (items_from (behind 0 ps) later.0 later.1)
    (read_so (before ++ piece) (ps ++ later.0) later.1 fits joined ∙ items_behind 0 ps later.0 rest later.1
    ∙ ap (λ (xs : List Item). xs ++ items_from (behind 0 ps) later.0 later.1) (sym known))
grows_by before piece (bad_size n) fits end =
    let front = bytes_front before piece fits in
    let ps = (reading 32767 before).0 in
    let old : Reads 32767 before ps (bad_size n) = subst (λ (e : End). Reads 32767 before ps e) end (reading_reads 32767 before (omega
    arith) front) in
    let known : items_in before ≡ items_from 0 ps (bad_size n) = ap (λ (e : End). items_from 0 ps e) end in
    grown_by before piece [] (read_so (before ++ piece) ps (bad_size n) fits (broken_on before piece ps n old) ∙ sym known ∙ sym
    (append-nil (items_in before)))

pub items_grow : (before piece : List ℕ) → IsBytes (before ++ piece) → items_in (before ++ piece) ≡ items_in before ++ new_items before
    piece
items_grow before piece fits = grows_by before piece (reading 32767 before).1 fits refl
