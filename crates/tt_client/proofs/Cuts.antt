-- A piece adds what the unread rest and the piece give.
use Rattle.std.proofs.Common.{◌≡◌, ℕ, ◌+◌, List, [], ◌∷◌, ◌++◌, length, drop, refl, sym, ap, ap₂, ◌∙◌, subst, append_assoc, arith, lit<}
use Rattle.std.proofs.lemmas.List.{drop_at}
use Rattle.tt_frame.specs.Packet.{IsBytes, Packet, packet_bytes, size_of}
use Rattle.tt_frame.specs.Stream.{Splits, End, rest_of, Reads, stream_of}
use Rattle.tt_frame.specs.Framing.{BeginsWith}
use Rattle.tt_frame.specs.StreamReading.{reading}
use Rattle.tt_frame.proofs.StreamLaws.{first_of_more, reads_more, reading_reads, same_reading}
use Rattle.tt_log.specs.Events.{read_msg}
use Rattle.tt_log.specs.Shown.{Item, items_from, items_in}
use Rattle.tt_client.specs.Calls.{new_items}
use Rattle.tt_client.specs.Cutting.{behind, cut_off, items_on}

pub reads_behind : (limit : ℕ) (a b : List ℕ) (ps qs : List Packet) (r : List ℕ) (e : End) → Splits limit a ps r → Reads limit (r ++ b) qs
    e → Reads limit (a ++ b) (ps ++ qs) e
reads_behind limit a b [] qs r e splits reads = subst (λ xs. Reads limit (xs ++ b) qs e) (sym splits.whole) reads
reads_behind limit a b (p ∷ ps) qs r e splits reads =
    let one = first_of_more limit a p ps r splits in
    let first : BeginsWith limit (a ++ b) p (stream_of ps r ++ b) = record {
      fits = one.fits;
      whole = ap (λ xs. xs ++ b) one.whole ∙
          append_assoc (packet_bytes p) (stream_of ps r) b;
    } in
    reads_more limit (a ++ b) p (stream_of ps r ++ b) (ps ++ qs) e first
    (reads_behind limit (stream_of ps r) b ps qs r e (record { whole = refl; each = splits.each.1 }) reads)

pub items_behind : (at : ℕ) (ps qs : List Packet) (r : List ℕ) (e : End) → items_from at (ps ++ qs) e ≡ items_from at ps (rest_of r) ++
    items_from (behind at ps) qs e
items_behind at [] qs r e = refl
items_behind at (p ∷ ps) qs r e = let i : Item = record { at = at; msg = read_msg p.kind p.body } in ap (λ is. i ∷ is) (items_behind (at +
    size_of p) ps qs r e)

pub cut_on : (before piece rest : List ℕ) → IsBytes before → IsBytes (before ++ piece) → IsBytes (rest ++ piece) → (reading 32767 before).1
    ≡ rest_of rest
    → new_items before piece ≡ items_on (cut_off before) rest piece
cut_on before piece rest fits all more end =
    let ps = (reading 32767 before).0 in
    let later = reading 32767 (rest ++ piece) in
    let old : Reads 32767 before ps (rest_of rest) = subst (λ e. Reads 32767 before ps e) end (reading_reads 32767 before (omega arith)
    fits) in
    let joined = reads_behind 32767 before piece ps later.0 rest later.1 old.splits (reading_reads 32767 (rest ++ piece) (omega arith)
    more) in
    let same = same_reading 32767 (before ++ piece) (reading 32767 (before ++ piece)).0 (ps ++ later.0) (reading 32767 (before ++ piece)).1
    later.1 (lit< tt) (reading_reads 32767 (before ++ piece) (omega arith) all) joined in
    let front : List Item = items_from 0 ps (rest_of rest) in
    let whole : items_in (before ++ piece) ≡ front ++ items_on (behind 0 ps) rest piece = ap₂ (λ qs e. items_from 0 qs e) same.0 same.1 ∙
    items_behind 0 ps later.0 rest later.1 in
    let known : items_in before ≡ front = ap (λ e. items_from 0 ps e) end in
    ap₂ (λ xs ys. drop (length xs) ys) known whole ∙ drop_at front (items_on (behind 0 ps) rest piece) (length front) refl
