-- Seats for connections: as they were, or one more.
use Rattle.std.proofs.Common.{◌≡◌, ◌≢◌, ◌⊎◌, inl, inr, ℕ, zero, suc, ◌+◌, ◌-◌, ◌<◌, ◌≤◌, List, [], ◌∷◌, ◌++◌, refl, sym, ap, ◌∙◌}
use Rattle.std.proofs.Common.{arith, length}
use Rattle.std.specs.Prelude.{slice_set}
use Rattle.std.proofs.lemmas.Bool.Decides.{eqb_tells, leb_tells}
use Rattle.std.proofs.lemmas.List.{get_or_append_left, get_or_past, get_or_push, get_or-set_other, get_or-set_same, length-append}
use Rattle.tt_outgoing.specs.Waiting.{Waiting, list_of, opened}
use Rattle.tt_hub.specs.Hub.{count_of}
use Rattle.tt_hub.specs.Running.{HasSeats}

-- within, or beyond
pub old-or-new : (c n : ℕ) → (c ≤ n) ⊎ (n < c)
old-or-new c n = elim (leb_tells c n) [ inl is ↦ inl is.1 | inr is ↦ inr is.1 ]

pub same-or-other : (c n : ℕ) → (c ≡ n) ⊎ (c ≢ n)
same-or-other c n = elim (eqb_tells c n) [ inl is ↦ inl is.1 | inr is ↦ inr is.1 ]

-- ---- how many bytes were taken

pub count-append : (counts : List ℕ) (n c : ℕ) → c ≤ length counts → count_of (counts ++ n ∷ []) c ≡ count_of counts c
count-append counts n zero low = refl
count-append counts n (suc c) low = get_or_append_left counts (n ∷ []) 0 c (omega (arith, low))

pub count-last : (counts : List ℕ) (n c : ℕ) → c ≡ length counts + 1 → count_of (counts ++ n ∷ []) c ≡ n
count-last counts n zero is = absurd (omega (arith, is))
count-last counts n (suc c) is = get_or_push counts n 0 c (omega (arith, is))

pub count-beyond : (counts : List ℕ) (c : ℕ) → length counts < c → count_of counts c ≡ 0
count-beyond counts zero high = refl
count-beyond counts (suc c) high = get_or_past counts c 0 (omega (arith, high))

pub count-set-same : (counts : List ℕ) (n c : ℕ) → 1 ≤ c → c ≤ length counts → count_of (slice_set counts (c - 1) n) c ≡ n
count-set-same counts n zero low high = absurd (omega (arith, low))
count-set-same counts n (suc c) low high = let e : suc c - 1 ≡ c = omega arith in rw e (get_or-set_same counts c n 0 (omega (arith, high)))

pub count-set-other : (counts : List ℕ) (n c d : ℕ) → 1 ≤ c → d ≢ c → count_of (slice_set counts (c - 1) n) d ≡ count_of counts d
count-set-other counts n c zero low other = refl
count-set-other counts n zero (suc d) low other = absurd (omega (arith, low))
count-set-other counts n (suc c) (suc d) low other =
    let e : suc c - 1 ≡ c = omega arith in rw e (get_or-set_other counts c d n 0 (λ same. other (ap suc same)))

-- ---- seats

pub seats-same : (w v : Waiting) (counts more : List ℕ) → length counts ≡ opened w → more ≡ counts → opened v ≡ opened w
    → ((c : ℕ) → 1 ≤ c → c ≤ opened w → list_of v c ≡ list_of w c) → HasSeats w v counts more
seats-same w v counts more size same seats lists = record {
  counts_are = ap length same ∙ size ∙ sym seats;
  grows = omega (arith, seats);
  lists = lists;
  taken = λ c low high. ap (λ (l : List ℕ). count_of l c) same;
  fresh = λ c low high. absurd (omega (arith, low, high, seats));
}

pub seats-more : (w v : Waiting) (counts more : List ℕ) → length counts ≡ opened w → more ≡ counts ++ 0 ∷ [] → opened v ≡ opened w + 1
    → ((c : ℕ) → 1 ≤ c → c ≤ opened w → list_of v c ≡ list_of w c) → list_of v (opened v) ≡ [] → HasSeats w v counts more
seats-more w v counts more size is seats lists none = record {
  counts_are = ap length is ∙ length-append counts (0 ∷ []) ∙ ap (λ (n : ℕ). n + 1) size ∙ sym seats;
  grows = omega (arith, seats);
  lists = lists;
  taken = λ c low high. ap (λ (l : List ℕ). count_of l c) is ∙ count-append counts 0 c (omega (arith, high, size));
  fresh = λ c low high.
      let new : c ≡ opened v = omega (arith, low, high, seats) in
      let behind : c ≡ length counts + 1 = omega (arith, low, high, seats, size) in
      (ap (λ (n : ℕ). list_of v n) new ∙ none, ap (λ (l : List ℕ). count_of l c) is ∙ count-last counts 0 c behind);
}

-- of each connection as many bytes were taken as before
taken-new : (v : Waiting) (more : List ℕ) (c : ℕ) → length more ≡ opened v → ((c ≤ opened v → count_of more c ≡ 0))
    → (c ≤ opened v) ⊎ (opened v < c) → count_of more c ≡ 0
taken-new v more c size fresh (inl low) = fresh low
taken-new v more c size fresh (inr high) = count-beyond more c (omega (arith, high, size))

taken-by : (w v : Waiting) (counts more : List ℕ) (c : ℕ) → 1 ≤ c → length counts ≡ opened w → HasSeats w v counts more
    → (c ≤ opened w) ⊎ (opened w < c) → count_of more c ≡ count_of counts c
taken-by w v counts more c low size seats (inl old) = seats.taken c low old
taken-by w v counts more c low size seats (inr new) =
    taken-new v more c seats.counts_are (λ high. (seats.fresh c new high).1) (old-or-new c (opened v))
    ∙ sym (count-beyond counts c (omega (arith, new, size)))

pub taken-same : (w v : Waiting) (counts more : List ℕ) → length counts ≡ opened w → HasSeats w v counts more → (c : ℕ)
    → count_of more c ≡ count_of counts c
taken-same w v counts more size seats zero = refl
taken-same w v counts more size seats (suc c) = taken-by w v counts more (suc c) (omega arith) size seats (old-or-new (suc c) (opened w))

-- seats stay where only room was taken
pub seats-kept : (w v u : Waiting) (counts more : List ℕ) → HasSeats w v counts more → opened u ≡ opened v
    → ((c : ℕ) → 1 ≤ c → c ≤ opened v → list_of u c ≡ list_of v c) → HasSeats w u counts more
seats-kept w v u counts more is same lists =
    let grows = is.grows in
    record {
      counts_are = is.counts_are ∙ sym same;
      grows = omega (arith, grows, same);
      lists = λ c low high. lists c low (omega (arith, high, grows)) ∙ is.lists c low high;
      taken = is.taken;
      fresh = λ c low high.
          let within : c ≤ opened v = omega (arith, high, same) in
          let f = is.fresh c low within in (lists c (omega (arith, low)) within ∙ f.0, f.1);
    }
