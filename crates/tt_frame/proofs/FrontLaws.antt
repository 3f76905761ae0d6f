-- Proper fronts of packets.
use Rattle.std.proofs.Common.{◌≡◌, ℕ, ◌+◌, ◌-◌, ◌^◌, ◌<◌, ◌≤◌, List, [], ◌++◌, length, get_or, replicate, refl, sym, ap, ◌∙◌, inl, inr}
use Rattle.std.proofs.Common.{arith}
use Rattle.std.proofs.lemmas.Bool.{cases_lt}
use Rattle.std.proofs.lemmas.List.{append-nil, drop_all, length-append, length-replicate, get_or_append_left, get_or-append_right}
use Rattle.std.proofs.lemmas.List.{get_or-replicate, get_or_past}
use Rattle.tt_frame.specs.Packet.{IsBytes, packet_bytes, size_of}
use Rattle.tt_frame.specs.Stream.{told_size, IsPartial, IsProperFront}
use Rattle.tt_frame.specs.Framing.{BeginsWith}
use Rattle.tt_frame.proofs.PacketLaws.{begins_with_packet}
use Rattle.tt_frame.specs.StreamReading.{packet_in}
use Rattle.tt_frame.proofs.StreamLaws.{told_size-packet}
use Rattle.tt_frame.proofs.RunLaws.{told_size-append}

-- bytes to fill up with
abbrev zeros : ℕ → List ℕ
zeros n = replicate n 0

length_zeros : (n : ℕ) → length (zeros n) ≡ n
length_zeros n = length-replicate {A = ℕ} n 0

zero_or_past : (n i : ℕ) → get_or (zeros n) i 0 ≡ 0
zero_or_past n i = elim (cases_lt i n) [
  | inl within ↦ get_or-replicate n i 0 0 within
  | inr past ↦ get_or_past (zeros n) i 0 (omega (arith, length_zeros n))
]

-- bytes that are filled up with zeros
IsBytes-filled : (rest : List ℕ) (n : ℕ) → IsBytes rest → IsBytes (rest ++ zeros n)
IsBytes-filled rest n fits i = elim (cases_lt i (length rest)) [
  | inl within ↦ omega (arith, get_or_append_left rest (zeros n) 0 i within, fits i)
  | inr past ↦ omega (arith, get_or-append_right rest (zeros n) (length rest) i 0 refl past, zero_or_past n (i - length rest))
]

pub proper_front : (limit : ℕ) (rest : List ℕ) → IsBytes rest → 2 ≤ length rest → IsPartial limit rest → IsProperFront limit rest
proper_front limit rest fits two partial =
    let size = told_size rest in
    let more = zeros (size - length rest) in
    let short : length rest < size = partial.short two in
    let long : length (rest ++ more) ≡ size = omega (arith, length-append rest more, length_zeros (size - length rest)) in
    let told : told_size (rest ++ more) ≡ size = told_size-append rest more two in
    let first = begins_with_packet (rest ++ more) limit size (IsBytes-filled rest (size - length rest) fits) (omega arith)
    (partial.least two) (partial.most two) (omega arith) in (
      packet_in (rest ++ more) size,
      more,
      first.fits,
      omega (arith, length_zeros (size - length rest)),
      sym (first.whole ∙ ap (λ (xs : List ℕ). packet_bytes (packet_in (rest ++ more) size) ++ xs) (drop_all size (rest
          ++ more) (omega arith)) ∙ append-nil (packet_bytes (packet_in (rest ++ more) size))),
    )

pub front_is_partial : (limit : ℕ) (rest : List ℕ) → limit < 2 ^ 16 → 2 ≤ length rest → IsProperFront limit rest → IsPartial limit rest
front_is_partial limit rest small two front =
    let p = front.0 in
    let more = front.1 in
    let same = front.4 in
    let first : BeginsWith limit (rest ++ more) p [] = record { fits = front.2; whole = sym same ∙ sym (append-nil (packet_bytes p)) } in
    let told : told_size rest ≡ size_of p = sym (told_size-append rest more two) ∙ told_size-packet limit (rest ++ more) p [] small first in
    let long : size_of p ≡ length rest + length more = omega (arith, ap length same, length-append rest more) in
    record { least = λ _. omega arith; most = λ _. omega (arith, front.2.size); short = λ _. omega (arith, front.3) }
