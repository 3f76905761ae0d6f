-- Any bytes are whole packets and then an end, in exactly one way.
use Rattle.std.proofs.Common.{◌≡◌, ℕ, zero, suc, ◌+◌, ◌^◌, ◌<◌, ◌≤◌, inl, inr, true, false, List, [], ◌∷◌, ◌++◌, length, take, drop, refl}
use Rattle.std.proofs.Common.{sym, ap, ap₂, ◌∙◌, subst, append_assoc, arith}
use Rattle.std.specs.List.{flat_map}
use Rattle.std.specs.Prelude.{nat_lt}
use Rattle.std.proofs.lemmas.Bool.{cases_lt}
use Rattle.std.proofs.lemmas.List.{take_at, drop_at, length-drop, get_or-drop}
use Rattle.std.proofs.lemmas.Nat.{from_le_bytes-to_le_bytes_2}
use Rattle.tt_frame.specs.Packet.{IsBytes, Packet, packet_bytes, size_of}
use Rattle.tt_frame.specs.Stream.{stream_of, told_size, Splits, IsPartial, IsBadSize, End, rest_of, bad_size, Reads}
use Rattle.tt_frame.specs.Framing.{BeginsWith}
use Rattle.tt_frame.proofs.PacketLaws.{begins_with_packet, size_within}
use Rattle.tt_frame.proofs.TestLaws.{test_of_lt, no_test_of_le}
use Rattle.tt_frame.specs.StreamReading.{packet_in, with_first, reading_within, reading}

-- a packet tells its own size
pub told_size-packet : (limit : ℕ) (bytes : List ℕ) (p : Packet) (rest : List ℕ) → limit < 2 ^ 16 → BeginsWith limit bytes p rest
    → told_size bytes ≡ size_of p
told_size-packet limit bytes p rest small first =
    ap told_size first.whole ∙ (omega (arith, from_le_bytes-to_le_bytes_2 (size_of p) (omega (arith, first.fits.size))))

-- nothing that is less than a packet begins with one
pub not_partial : (limit : ℕ) (bytes : List ℕ) (p : Packet) (rest : List ℕ) → limit < 2 ^ 16 → BeginsWith limit bytes p rest
    → IsPartial limit bytes → ⊥
not_partial limit bytes p rest small first partial =
    omega (arith, size_within limit bytes p rest first, told_size-packet limit bytes p rest small first, partial.short)

pub not_bad_size : (limit : ℕ) (bytes : List ℕ) (p : Packet) (rest : List ℕ) (n : ℕ) → limit < 2 ^ 16 → BeginsWith limit bytes p rest
    → IsBadSize limit bytes n → ⊥
not_bad_size limit bytes p rest n small first bad =
    let told = told_size-packet limit bytes p rest small first in
    elim bad.bad [
      | inl low ↦ omega (arith, told, bad.told)
      | inr high ↦ omega (arith, told, bad.told, first.fits.size)
    ]

-- no packet stands first
abbrev pub HasNoPacket : ℕ → List ℕ → Type 0
HasNoPacket limit bytes = (p : Packet) (rest : List ℕ) → BeginsWith limit bytes p rest → ⊥

bodies_same : (k l : ℕ) (b c r s : List ℕ) → length b ≡ length c → k ∷ (b ++ r) ≡ l ∷ (c ++ s) → (k ≡ l) × (b ≡ c) × (r ≡ s)
bodies_same k l b c r s len e =
    let kinds : k ≡ l = cc in
    let tails : b ++ r ≡ c ++ s = cc in (
      kinds,
      sym (take_at b r (length b) refl) ∙ ap (λ (xs : List ℕ). take (length b) xs) tails ∙ take_at c s (length b) (sym len),
      sym (drop_at b r (length b) refl) ∙ ap (λ (xs : List ℕ). drop (length b) xs) tails ∙ drop_at c s (length b) (sym len),
    )

packet_same : (p q : Packet) → p.kind ≡ q.kind → p.body ≡ q.body → p ≡ q
packet_same p q kinds bodies = ap₂ (λ (k : ℕ) (b : List ℕ). let same : Packet = record { kind = k; body = b } in same) kinds bodies

-- two packets that stand first are one
pub same_first : (limit : ℕ) (bytes : List ℕ) (p q : Packet) (r s : List ℕ) → limit < 2 ^ 16 → BeginsWith limit bytes p r
    → BeginsWith limit bytes q s → (p ≡ q) × (r ≡ s)
same_first limit bytes p q r s small first second =
    let sizes : size_of p ≡ size_of q =
    sym (told_size-packet limit bytes p r small first) ∙ told_size-packet limit bytes q s small second in
    let behind : p.kind ∷ (p.body ++ r) ≡ q.kind ∷ (q.body ++ s) = ap (λ (xs : List ℕ). drop 2 xs) (sym first.whole ∙ second.whole) in
    let same = bodies_same p.kind q.kind p.body q.body r s (omega arith) behind in
    (packet_same p q same.0 same.1, same.2)

-- the packets before the first are the same
pub first_of_more : (limit : ℕ) (bytes : List ℕ) (p : Packet) (ps : List Packet) (rest : List ℕ) → Splits limit bytes (p ∷ ps) rest
    → BeginsWith limit bytes p (stream_of ps rest)
first_of_more limit bytes p ps rest splits =
    record { fits = splits.each.0; whole = splits.whole ∙ append_assoc (packet_bytes p) (flat_map packet_bytes ps) rest }

pub same_splits : (limit : ℕ) (bytes : List ℕ) (ps qs : List Packet) (r s : List ℕ) → limit < 2 ^ 16 → HasNoPacket limit r
    → HasNoPacket limit s → Splits limit bytes ps r → Splits limit bytes qs s → (ps ≡ qs) × (r ≡ s)
same_splits limit bytes [] [] r s small no_p no_q a b = (refl, sym a.whole ∙ b.whole)
same_splits limit bytes [] (q ∷ qs) r s small no_p no_q a b =
    absurd (no_p q (stream_of qs s) (subst (λ (xs : List ℕ). BeginsWith limit xs q (stream_of qs s)) a.whole (first_of_more limit bytes q
    qs s b)))
same_splits limit bytes (p ∷ ps) [] r s small no_p no_q a b =
    absurd (no_q p (stream_of ps r) (subst (λ (xs : List ℕ). BeginsWith limit xs p (stream_of ps r)) b.whole (first_of_more limit bytes p
    ps r a)))
same_splits limit bytes (p ∷ ps) (q ∷ qs) r s small no_p no_q a b =
    let same = same_first limit bytes p q (stream_of ps r) (stream_of qs s) small (first_of_more limit bytes p ps r a)
    (first_of_more limit bytes q qs s b) in
    let later = same_splits limit (stream_of ps r) ps qs r s small no_p no_q (record { whole = refl; each = a.each.1 })
    (record { whole = same.1; each = b.each.1 }) in
    (cc (same.0, later.0), later.1)

-- packets that stand first are the first of all
pub first_packets : (limit : ℕ) (bytes : List ℕ) (given packets : List Packet) (held rest : List ℕ) → limit < 2 ^ 16
    → HasNoPacket limit rest → Splits limit bytes given held → Splits limit bytes packets rest → (later : List Packet)
    × (packets ≡ given ++ later)
first_packets limit bytes [] packets held rest small none a b = (packets, refl)
first_packets limit bytes (p ∷ ps) [] held rest small none a b =
    absurd (none p (stream_of ps held) (subst (λ (xs : List ℕ). BeginsWith limit xs p (stream_of ps held)) b.whole
    (first_of_more limit bytes p ps held a)))
first_packets limit bytes (p ∷ ps) (q ∷ qs) held rest small none a b =
    let same = same_first limit bytes p q (stream_of ps held) (stream_of qs rest) small (first_of_more limit bytes p ps held a)
    (first_of_more limit bytes q qs rest b) in
    let later = first_packets limit (stream_of ps held) ps qs held rest small none (record { whole = refl; each = a.each.1 })
    (record { whole = same.1; each = b.each.1 }) in
    (later.0, cc (same.0, later.1))

-- the packets and the rest of a reading
abbrev pub rest_in : (limit : ℕ) (bytes : List ℕ) (packets : List Packet) (end : End) → Reads limit bytes packets end → List ℕ
rest_in limit bytes packets (rest_of rest) reads = rest
rest_in limit bytes packets (bad_size n) reads = reads.rest

pub splits_in : (limit : ℕ) (bytes : List ℕ) (packets : List Packet) (end : End) (reads : Reads limit bytes packets end)
    → Splits limit bytes packets (rest_in limit bytes packets end reads)
splits_in limit bytes packets (rest_of rest) reads = reads.splits
splits_in limit bytes packets (bad_size n) reads = reads.splits

pub none_in : (limit : ℕ) (bytes : List ℕ) (packets : List Packet) (end : End) (reads : Reads limit bytes packets end) → limit < 2 ^ 16
    → HasNoPacket limit (rest_in limit bytes packets end reads)
none_in limit bytes packets (rest_of rest) reads small p more first = not_partial limit rest p more small first reads.partial
none_in limit bytes packets (bad_size n) reads small p more first = not_bad_size limit reads.rest p more n small first reads.bad

pub not_both : (limit : ℕ) (rest : List ℕ) (n : ℕ) → IsPartial limit rest → IsBadSize limit rest n → ⊥
not_both limit rest n partial bad = elim bad.bad [
  | inl low ↦ omega (arith, partial.least, bad.there, bad.told)
  | inr high ↦ omega (arith, partial.most, bad.there, bad.told)
]

same_end : (limit : ℕ) (bytes : List ℕ) (ps qs : List Packet) (d e : End) (a : Reads limit bytes ps d) (b : Reads limit bytes qs e)
    → rest_in limit bytes ps d a ≡ rest_in limit bytes qs e b → d ≡ e
same_end limit bytes ps qs (rest_of r) (rest_of s) a b same = ap (λ (xs : List ℕ). rest_of xs) same
same_end limit bytes ps qs (rest_of r) (bad_size n) a b same =
    absurd (not_both limit r n a.partial (subst (λ (xs : List ℕ). IsBadSize limit xs n) (sym same) b.bad))
same_end limit bytes ps qs (bad_size m) (rest_of s) a b same =
    absurd (not_both limit s m b.partial (subst (λ (xs : List ℕ). IsBadSize limit xs m) same a.bad))
same_end limit bytes ps qs (bad_size m) (bad_size n) a b same = ap (λ (k : ℕ). bad_size k) (sym a.bad.told ∙ ap told_size same ∙ b.bad.told)

pub same_reading : (limit : ℕ) (bytes : List ℕ) (ps qs : List Packet) (d e : End) → limit < 2 ^ 16 → Reads limit bytes ps d
    → Reads limit bytes qs e → (ps ≡ qs) × (d ≡ e)
same_reading limit bytes ps qs d e small a b =
    let same = same_splits limit bytes ps qs (rest_in limit bytes ps d a) (rest_in limit bytes qs e b) small (none_in limit bytes ps d a
    small) (none_in limit bytes qs e b small) (splits_in limit bytes ps d a) (splits_in limit bytes qs e b) in
    (same.0, same_end limit bytes ps qs d e a b same.1)

-- ---- some reading

abbrev SomeReading : ℕ → List ℕ → Type 0
SomeReading limit bytes = (packets : List Packet) × (end : End) × Reads limit bytes packets end

nothing_before : (limit : ℕ) (bytes : List ℕ) → Splits limit bytes [] bytes
nothing_before limit bytes = record { whole = refl; each = tt }

cut_here : (limit : ℕ) (bytes : List ℕ) → IsPartial limit bytes → SomeReading limit bytes
cut_here limit bytes partial = ([], rest_of bytes, record { splits = nothing_before limit bytes; partial = partial })

broken_here : (limit : ℕ) (bytes : List ℕ) (n : ℕ) → IsBadSize limit bytes n → SomeReading limit bytes
broken_here limit bytes n bad = ([], bad_size n, record { rest = bytes; splits = nothing_before limit bytes; bad = bad })

splits_more : (limit : ℕ) (bytes : List ℕ) (p : Packet) (more : List ℕ) (ps : List Packet) (rest : List ℕ) → BeginsWith limit bytes p more
    → Splits limit more ps rest → Splits limit bytes (p ∷ ps) rest
splits_more limit bytes p more ps rest first later = record {
  whole = first.whole ∙ ap (λ (xs : List ℕ). packet_bytes p ++ xs) later.whole
      ∙ sym (append_assoc (packet_bytes p) (flat_map packet_bytes ps) rest);
  each = (first.fits, later.each);
}

pub reads_more : (limit : ℕ) (bytes : List ℕ) (p : Packet) (more : List ℕ) (ps : List Packet) (end : End) → BeginsWith limit bytes p more
    → Reads limit more ps end → Reads limit bytes (p ∷ ps) end
reads_more limit bytes p more ps (rest_of rest) first later =
    record { splits = splits_more limit bytes p more ps rest first later.splits; partial = later.partial }
reads_more limit bytes p more ps (bad_size n) first later =
    record { rest = later.rest; splits = splits_more limit bytes p more ps later.rest first later.splits; bad = later.bad }

read_on : (limit : ℕ) (bytes : List ℕ) (p : Packet) (more : List ℕ) → BeginsWith limit bytes p more → SomeReading limit more
    → SomeReading limit bytes
read_on limit bytes p more first later = (p ∷ later.0, later.1, reads_more limit bytes p more later.0 later.1 first later.2)

IsBytes-drop : (n : ℕ) (bytes : List ℕ) → IsBytes bytes → IsBytes (drop n bytes)
IsBytes-drop n bytes fits i = rw get_or-drop (fits (n + i))

-- the fuel is at least the number of bytes
some_reading_within : (fuel limit : ℕ) (bytes : List ℕ) → length bytes ≤ fuel → 3 ≤ limit → IsBytes bytes → SomeReading limit bytes
some_reading_within zero limit bytes short least fits =
    cut_here limit bytes (record { least = λ two. omega arith; most = λ two. omega arith; short = λ two. omega arith })
some_reading_within (suc fuel) limit bytes short least fits = elim (cases_lt (length bytes) 2) [
  | inl one ↦ cut_here limit bytes (record { least = λ two. omega arith; most = λ two. omega arith; short = λ two. omega arith })
  | inr two ↦ elim (cases_lt (told_size bytes) 3) [
    | inl low ↦ broken_here limit bytes (told_size bytes) (record { there = two; told = refl; bad = inl low })
    | inr least_told ↦ elim (cases_lt limit (told_size bytes)) [
      | inl high ↦ broken_here limit bytes (told_size bytes) (record { there = two; told = refl; bad = inr high })
      | inr most_told ↦ elim (cases_lt (length bytes) (told_size bytes)) [
        | inl cut ↦ cut_here limit bytes (record { least = λ _. least_told; most = λ _. most_told; short = λ _. cut })
        | inr whole ↦
            read_on limit bytes (packet_in bytes (told_size bytes)) (drop (told_size bytes) bytes) (begins_with_packet bytes limit
            (told_size bytes) fits (omega arith) least_told most_told whole)
            (some_reading_within fuel limit (drop (told_size bytes) bytes) (omega (arith, length-drop (told_size bytes) bytes)) least
            (IsBytes-drop (told_size bytes) bytes fits))
      ]
    ]
  ]
]

pub some_reading : (limit : ℕ) (bytes : List ℕ) → 3 ≤ limit → IsBytes bytes → SomeReading limit bytes
some_reading limit bytes least fits = some_reading_within (length bytes) limit bytes (omega arith) least fits

-- ---- the reading as a function

reads_with : (limit : ℕ) (bytes : List ℕ) (p : Packet) (more : List ℕ) (later : List Packet × End) → BeginsWith limit bytes p more
    → Reads limit more later.0 later.1 → Reads limit bytes (with_first p later).0 (with_first p later).1
reads_with limit bytes p more later first reads = reads_more limit bytes p more later.0 later.1 first reads

reading_within_reads : (most limit : ℕ) (bytes : List ℕ) → length bytes ≤ most → 3 ≤ limit → IsBytes bytes
    → Reads limit bytes (reading_within most limit bytes).0 (reading_within most limit bytes).1
unfolding reading_within
reading_within_reads zero limit bytes short least fits = record {
  splits = nothing_before limit bytes;
  partial =
      record { least = λ two. omega arith; most = λ two. omega arith; short = λ two. omega arith };
}
reading_within_reads (suc most) limit bytes short least fits = elim (cases_lt (length bytes) 2) [
  | inl one ↦
      let test : nat_lt (length bytes) 2 ≡ true = test_of_lt (length bytes) 2 one in
      rw test (record {
        splits = nothing_before limit bytes;
        partial = record {
          least = λ two. omega arith;
          most = λ two. omega arith;
          short = λ two. omega arith;
        };
      })
  | inr two ↦
      let there : nat_lt (length bytes) 2 ≡ false = no_test_of_le (length bytes) 2 two in
      elim (cases_lt (told_size bytes) 3) [
        | inl low ↦
            let test : nat_lt (told_size bytes) 3 ≡ true = test_of_lt (told_size bytes) 3 low in
            rw (there, test) (record {
              rest = bytes;
              splits = nothing_before limit bytes;
              bad = record {
                there = two;
                told = refl;
                bad =
                    inl low;
              };
            })
        | inr least_told ↦
            let test : nat_lt (told_size bytes) 3 ≡ false = no_test_of_le (told_size bytes) 3 least_told in
            elim (cases_lt limit (told_size bytes)) [
              | inl high ↦
                  let over : nat_lt limit (told_size bytes) ≡ true = test_of_lt limit (told_size bytes) high in
                  rw (there, test, over) (record {
                    rest = bytes;
                    splits = nothing_before limit bytes;
                    bad = record {
                      there = two;
                      told =
                          refl;
                      bad = inr high;
                    };
                  })
              | inr most_told ↦
                  let within : nat_lt limit (told_size bytes) ≡ false = no_test_of_le limit (told_size bytes) most_told in
                  elim (cases_lt (length bytes) (told_size bytes)) [
                    | inl cut ↦
                        let partly : nat_lt (length bytes) (told_size bytes) ≡ true = test_of_lt (length bytes) (told_size bytes) cut in
                        rw (there, test, within, partly) (record {
                          splits = nothing_before limit bytes;
                          partial =
                              record { least = λ _. least_told; most = λ _. most_told; short = λ _. cut };
                        })
                    | inr whole ↦
                        let all : nat_lt (length bytes) (told_size bytes) ≡ false = no_test_of_le (length bytes) (told_size bytes) whole in
                        rw (there, test, within, all)
                        (reads_with limit bytes (packet_in bytes (told_size bytes)) (drop (told_size bytes) bytes)
                        (reading_within most limit (drop (told_size bytes) bytes))
                        (begins_with_packet bytes limit (told_size bytes) fits (omega arith) least_told most_told whole)
                        (reading_within_reads most limit (drop (told_size bytes) bytes) (omega (
                          arith,
                          length-drop (told_size bytes)
                              bytes,
                        )) least (IsBytes-drop (told_size bytes) bytes fits)))
                  ]
            ]
      ]
]

pub reading_reads : (limit : ℕ) (bytes : List ℕ) → 3 ≤ limit → IsBytes bytes
    → Reads limit bytes (reading limit bytes).0 (reading limit bytes).1
reading_reads limit bytes least fits = reading_within_reads (length bytes) limit bytes (omega arith) least fits
