-- Bytes cut one packet behind the other.
use Rattle.std.proofs.Common.{◌≡◌, ℕ, ◌+◌, ◌≤◌, List, [], ◌∷◌, ◌++◌, length, drop, None, sym, ap, ap₂, subst, ◌∙◌}
use Rattle.std.proofs.Common.{append_assoc, append-nil, arith}
use Rattle.std.proofs.lemmas.List.{drop-drop, length-drop, nil_from_length}
use Rattle.tt_frame.specs.Packet.{Packet, IsBytes, size_of}
use Rattle.tt_frame.specs.Stream.{IsPartial, IsBadSize, End, rest_of, bad_size}
use Rattle.tt_frame.specs.StreamReading.{reading}
use Rattle.tt_frame.specs.Framing.{BeginsWith}
use Rattle.tt_frame.proofs.FieldLaws.{IsBytes-drop}
use Rattle.tt_frame.proofs.PacketLaws.{drop-packet, size_within}
use Rattle.tt_frame.proofs.FirstLaws.{read_packet, read_partial, read_bad_size}
use Rattle.tt_log.specs.Events.{read_msg}
use Rattle.tt_log.specs.Shown.{Item}
use Rattle.tt_client.specs.Player.{told_place}
use Rattle.tt_client.specs.Cutting.{Cut, cut_at, told_items, told_behind, unread, with_items}

abbrev cut_by : ℕ → List Packet → End → Cut
cut_by at packets end = record { items = told_items at packets end; rest = unread end; at = told_behind at packets }

cut_so : (at : ℕ) (bytes : List ℕ) (packets : List Packet) (end : End)
    → ((reading 32767 bytes).0 ≡ packets) × ((reading 32767 bytes).1 ≡ end) → cut_at at bytes ≡ cut_by at packets end
cut_so at bytes packets end read = ap₂ (λ (ps : List Packet) (e : End). cut_by at ps e) read.0 read.1

abbrev item_at : ℕ → Packet → Item
item_at at p = record { at = at; msg = read_msg p.kind p.body }

cut_packet : (at : ℕ) (bytes : List ℕ) (p : Packet) (more : List ℕ) → IsBytes bytes → IsBytes more → BeginsWith 32767 bytes p more
    → cut_at at bytes ≡ with_items (item_at at p ∷ []) (cut_at (told_place (at + size_of p)) more)
cut_packet at bytes p more fits also first =
    let read = reading 32767 more in
    cut_so at bytes (p ∷ read.0) read.1 (read_packet 32767 bytes p more (omega arith) (omega arith) fits also first)

-- ---- the walk

-- what is left behind a packet
left_behind : (bytes : List ℕ) (place kind : ℕ) (body more : List ℕ)
    → BeginsWith 32767 (drop place bytes) (record { kind = kind; body = body }) more → drop (place + (length body + 3)) bytes ≡ more
left_behind bytes place kind body more first = sym (drop-drop (length body + 3) place bytes)
    ∙ drop-packet 32767 (drop place bytes) (record { kind = kind; body = body }) more first

pub packet_within : (bytes : List ℕ) (place kind : ℕ) (body more : List ℕ) → place ≤ length bytes
    → BeginsWith 32767 (drop place bytes) (record { kind = kind; body = body }) more → place + (length body + 3) ≤ length bytes
packet_within bytes place kind body more within first =
    let size = size_within 32767 (drop place bytes) (record { kind = kind; body = body }) more first in
    omega (arith, size, length-drop place bytes, within)

with_both : (xs ys : List Item) (c : Cut) → with_items xs (with_items ys c) ≡ with_items (xs ++ ys) c
with_both xs ys c = ap (λ (items : List Item). let d : Cut = record c { items = items } in d) (sym (append_assoc xs ys c.items))

-- a packet more
pub packet_cut : (whole : Cut) (bytes : List ℕ) (items : List Item) (place at kind next : ℕ) (body more : List ℕ) → IsBytes bytes
    → BeginsWith 32767 (drop place bytes) (record { kind = kind; body = body }) more → next ≡ told_place (at + (length body + 3))
    → with_items items (cut_at at (drop place bytes)) ≡ whole
    → with_items (items ++ record { at = at; msg = read_msg kind body } ∷ []) (cut_at next (drop (place + (length body + 3)) bytes)) ≡ whole
packet_cut whole bytes items place at kind next body more fits first is so_far =
    let p : Packet = record { kind = kind; body = body } in
    let end = place + (length body + 3) in
    let left = left_behind bytes place kind body more first in
    let also : IsBytes more = subst (λ (xs : List ℕ). IsBytes xs) left (IsBytes-drop end bytes fits) in
    ap₂ (λ (n : ℕ) (xs : List ℕ). with_items (items ++ item_at at p ∷ []) (cut_at n xs)) is left
    ∙ sym (with_both items (item_at at p ∷ []) (cut_at (told_place (at + size_of p)) more))
    ∙ ap (λ (c : Cut). with_items items c) (sym (cut_packet at (drop place bytes) p more (IsBytes-drop place bytes fits) also first))
    ∙ so_far

-- no packet is whole any more
pub partial_cut : (whole : Cut) (bytes : List ℕ) (items : List Item) (place at : ℕ) → IsBytes bytes → IsPartial 32767 (drop place bytes)
    → with_items items (cut_at at (drop place bytes)) ≡ whole → record { items = items; rest = drop place bytes; at = at } ≡ whole
partial_cut whole bytes items place at fits partial so_far =
    let bytes_left = drop place bytes in
    ap (λ (xs : List Item). let c : Cut = record { items = xs; rest = bytes_left; at = at } in c) (sym (append-nil items))
    ∙ ap (λ (c : Cut). with_items items c)
    (sym (cut_so at bytes_left [] (rest_of bytes_left) (read_partial 32767 bytes_left (omega arith) (omega arith) (IsBytes-drop place bytes
    fits) partial)))
    ∙ so_far

pub bad_size_cut : (whole : Cut) (bytes : List ℕ) (items : List Item) (place at n : ℕ) → IsBytes bytes → IsBadSize 32767 (drop place bytes)
    n
    → with_items items (cut_at at (drop place bytes)) ≡ whole
    → record { items = items ++ record { at = at; msg = None } ∷ []; rest = []; at = at } ≡ whole
bad_size_cut whole bytes items place at n fits bad so_far =
    let bytes_left = drop place bytes in
    ap (λ (c : Cut). with_items items c)
    (sym (cut_so at bytes_left [] (bad_size n) (read_bad_size 32767 bytes_left n (omega arith) (omega arith) (IsBytes-drop place bytes
    fits) bad)))
    ∙ so_far

none_whole : IsPartial 32767 []
none_whole = record {
  least = λ two. absurd (omega (arith, two));
  most = λ two. absurd (omega (arith, two));
  short = λ two. absurd (omega
      (arith, two));
}

-- all bytes were cut
pub all_cut : (whole : Cut) (bytes : List ℕ) (items : List Item) (place at : ℕ) → length bytes ≤ place
    → with_items items (cut_at at (drop place bytes)) ≡ whole → record { items = items; rest = drop place bytes; at = at } ≡ whole
all_cut whole bytes items place at all so_far =
    let none : drop place bytes ≡ [] = nil_from_length (drop place bytes) (omega (arith, length-drop place bytes, all)) in
    let empty = cut_so at [] [] (rest_of []) (read_partial 32767 [] (omega arith) (omega arith) (λ i. omega arith) none_whole) in
    ap₂ (λ (xs : List Item) (ys : List ℕ). let c : Cut = record { items = xs; rest = ys; at = at } in c) (sym (append-nil items)) none
    ∙ ap (λ (c : Cut). with_items items c) (sym empty) ∙ ap (λ (ys : List ℕ). with_items items (cut_at at ys)) (sym none) ∙ so_far

-- bytes that were read up to where a later part of them was, to the same rest and the same place
pub read_to : (whole here : Cut) (rest : List ℕ) (at : ℕ) → rest ≡ here.rest → at ≡ here.at → here.rest ≡ whole.rest → here.at ≡ whole.at
    → record { items = whole.items; rest = rest; at = at } ≡ whole
read_to whole here rest at one two three four =
    ap₂ (λ (xs : List ℕ) (n : ℕ). let d : Cut = record { items = whole.items; rest = xs; at = n } in d) (one ∙ three) (two ∙ four)
