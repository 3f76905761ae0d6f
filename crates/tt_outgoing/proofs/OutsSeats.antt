-- Seats stay right where a log grows, is taken from, and is settled.
use Rattle.std.proofs.Common.{◌≡◌, ◌≢◌, ℕ, zero, suc, ◌+◌, ◌-◌, ◌^◌, ◌<◌, ◌≤◌, List, [], ◌∷◌, ◌++◌, length, take, drop, refl, sym, ap}
use Rattle.std.proofs.Common.{subst, ◌∙◌, arith, ◌⊎◌, inl, inr, append_assoc, Bool, true, false}
use Rattle.std.specs.Prelude.{slice_index_or, slice_set, ◌==◌}
use Rattle.std.proofs.lemmas.Grind.{flat_map-append}
use Rattle.std.proofs.lemmas.List.{append-nil, take_more, take-append-le, length-append, length-drop, length-set, get_or-set_same}
use Rattle.std.proofs.lemmas.List.{get_or-set_other, get_or_append_left, get_or_at}
use Rattle.tt_outgoing.specs.declared.outs.log.Part.{Part}
use Rattle.tt_outgoing.specs.declared.outs.seat.Seat.{Seat}
use Rattle.tt_outgoing.specs.Waiting.{bytes_if, told}
use Rattle.tt_outgoing.specs.Outgoing.{part_bytes, bytes_of, part_at, Rising, Told, waits_in, waits_before, lists_in, end_of}
use Rattle.tt_outgoing.specs.Outgoing.{number_of, IsSound, IsSeat, IsHeld, nobody, seat_of}
use Rattle.tt_outgoing.proofs.OutsParts.{rising_take, none_behind_first, none_before, bytes_unless, bytes_when, tail_more, tail_less}
use Rattle.tt_outgoing.proofs.OutsParts.{passed_over, nothing_told, put_told}
use Rattle.tt_outgoing.proofs.OutsLogs.{sound_bytes, sound_drop, sound_front, none_behind, none_put_other, or_same}

-- ---- the lists of connections

pub lists_length : (t : Told) (c : ℕ) (seats : List Seat) → length (lists_in t c seats) ≡ length seats
lists_length t c [] = refl
lists_length t c (seat ∷ seats) = ap suc (lists_length t (c + 1) seats)

list_at : (t : Told) (c : ℕ) (seats : List Seat) (k : ℕ) → k < length seats → slice_index_or (lists_in t c seats) k [] ≡ waits_in t (c + k)
list_at t c [] k lt = absurd (omega arith)
list_at t c (seat ∷ seats) zero lt = let e : c ≡ c + 0 = omega arith in ap (λ (d : ℕ). waits_in t d) e
list_at t c (seat ∷ seats) (suc k) lt =
    let e : c + 1 + k ≡ c + suc k = omega arith in list_at t (c + 1) seats k (omega arith) ∙ ap (λ (d : ℕ). waits_in t d) e

pub list_is : (t : Told) (seats : List Seat) (c : ℕ) → 1 ≤ c → c ≤ length seats
    → slice_index_or (lists_in t 1 seats) (c - 1) [] ≡ waits_in t c
list_is t seats c low high =
    let e : 1 + (c - 1) ≡ c = omega arith in list_at t 1 seats (c - 1) (omega arith) ∙ ap (λ (d : ℕ). waits_in t d) e

-- ---- a seat by each change

pub bytes_keep : (t : Told) (b : List ℕ) → IsSound t → (c : ℕ) → waits_in (record t { tail = t.tail ++ b }) c ≡ waits_in t c
bytes_keep t b s c = tail_more c t.base t.base t.tail b t.parts (omega arith) s.rising

pub held_bytes : (t : Told) (b : List ℕ) (seats : List Seat) → end_of t + length b < 2 ^ 64 → IsHeld t seats
    → IsHeld (record t { tail = t.tail ++ b }) seats
held_bytes t b seats fits h = record {
  sound = sound_bytes t b h.sound fits;
  opened = h.opened;
  each = λ c low high.
      let was = h.each c low high in
      record {
        few = was.few;
        first = tail_more c t.base t.base t.tail b (take ((seat_of seats c).first - t.gone) t.parts) (omega arith)
            (rising_take ((seat_of seats c).first - t.gone) t.base (end_of t) t.parts h.sound.rising)
            ∙ was.first;
        behind = was.behind;
        left = was.left ∙ ap length (sym (bytes_keep t b h.sound c));
        fits = omega (arith, was.fits, length-append t.tail b);
      };
  strangers = h.strangers;
}

-- the first part, which was taken whole
pub drop_keeps : (t : Told) (c : ℕ) → 1 ≤ c → 0 < length t.parts → (part_at t.parts 0).conn ≡ 0
    → waits_in (record t { parts = drop 1 t.parts; gone = t.gone + 1 }) c ≡ waits_in t c
drop_keeps t c low some taken =
    sym (passed_over c t.base t.tail t.parts 0 1 (omega arith) (λ k least most lt own. absurd (let at : k ≡ 0 = omega (arith, most) in
    omega (arith, low, taken, sym own ∙ ap (λ (n : ℕ). (part_at t.parts n).conn) at))))

pub held_drop : (t : Told) (seats : List Seat) → 0 < length t.parts → (part_at t.parts 0).conn ≡ 0 → IsHeld t seats
    → IsHeld (record t { parts = drop 1 t.parts; gone = t.gone + 1 }) seats
held_drop t seats some taken h = record {
  sound = sound_drop t 1 (omega (arith, some)) h.sound;
  opened = h.opened;
  each = λ c low high.
      let was = h.each c low high in
      record {
        few = omega (arith, was.few, some, length-drop 1 t.parts);
        first =
            none_behind_first c t.base t.tail t.parts ((seat_of seats c).first - t.gone) ((seat_of seats c).first - (t.gone + 1))
            (omega arith)
            was.first;
        behind = λ k least most lt. none_behind c 1 t.parts ((seat_of seats c).behind - t.gone) (length t.parts) was.behind k
            (omega (arith, least)) (omega (arith, most, some, length-drop 1 t.parts)) lt;
        left = was.left ∙ ap length (sym (drop_keeps t c low some taken));
        fits = was.fits;
      };
  strangers = λ c lt k least most le. none_behind c 1 t.parts 0 (length t.parts) (h.strangers c lt) k least
      (omega (arith, most, length-drop 1 t.parts)) le;
}

pub front_keeps : (t : Told) (n : ℕ) → Rising (t.base + n) (end_of t) t.parts → (c : ℕ)
    → waits_in (record t { tail = drop n t.tail; base = t.base + n }) c ≡ waits_in t c
front_keeps t n r c = tail_less c t.base n (t.base + n) (end_of t) t.tail t.parts (omega arith) r

pub held_front : (t : Told) (n : ℕ) (seats : List Seat) → n ≤ length t.tail → Rising (t.base + n) (end_of t) t.parts → IsHeld t seats
    → IsHeld (record t { tail = drop n t.tail; base = t.base + n }) seats
held_front t n seats few r h = record {
  sound = sound_front t n few r h.sound;
  opened = h.opened;
  each = λ c low high.
      let was = h.each c low high in
      record {
        few = was.few;
        first = tail_less c t.base n (t.base + n) (end_of t) t.tail (take ((seat_of seats c).first - t.gone) t.parts) (omega arith)
            (rising_take ((seat_of seats c).first - t.gone) (t.base + n) (end_of t) t.parts r)
            ∙ was.first;
        behind = was.behind;
        left = was.left ∙ ap length (sym (front_keeps t n r c));
        fits = omega (arith, was.fits, few, length-drop n t.tail);
      };
  strangers = h.strangers;
}

-- parts of which some say another next one
pub held_linked : (t u : Told) (seats : List Seat) → IsSound u → u.base ≡ t.base → u.tail ≡ t.tail → u.gone ≡ t.gone
    → length u.parts ≡ length t.parts
    → ((k : ℕ) → (part_at u.parts k).conn ≡ (part_at t.parts k).conn) → ((c : ℕ) → waits_in u c ≡ waits_in t c)
    → ((c i : ℕ) → waits_before u c i ≡ waits_before t c i) → IsHeld t seats → IsHeld u seats
held_linked t u seats sound base tail gone size conns waits before h = record {
  sound = sound;
  opened = h.opened;
  each = λ c low high.
      let was = h.each c low high in
      record {
        few = omega (arith, was.few, gone, size);
        first = before c ((seat_of seats c).first - u.gone) ∙ ap (λ (g : ℕ). waits_before t c ((seat_of seats c).first - g)) gone
            ∙ was.first;
        behind = λ k least most lt own. was.behind k (omega (arith, least, gone)) (omega (arith, most, size)) (omega (arith, lt, size))
            (sym (conns k) ∙ own);
        left = was.left ∙ ap length (sym (waits c));
        fits = omega (arith, was.fits, base, ap length tail);
      };
  strangers = λ c lt k least most le own. h.strangers c lt k least (omega (arith, most, size)) (omega (arith, le, size)) (sym (conns k)
      ∙ own);
}

-- ---- seats in a list

set_own : (seats : List Seat) (now : Seat) (c : ℕ) → 1 ≤ c → c ≤ length seats → seat_of (slice_set seats (c - 1) now) c ≡ now
set_own seats now c low high = get_or-set_same seats (c - 1) now nobody (omega (arith, low, high))

pub set_other : (seats : List Seat) (now : Seat) (c d : ℕ) → 1 ≤ c → 1 ≤ d → d ≢ c
    → seat_of (slice_set seats (c - 1) now) d ≡ seat_of seats d
set_other seats now c d low least ne =
    get_or-set_other seats (c - 1) (d - 1) now nobody (λ e. ne (omega (arith, e, low, least)))

seats_set_by : (t : Told) (seats : List Seat) (conn : ℕ) (now : Seat) → 1 ≤ conn → conn ≤ length seats → IsSeat t conn now
    → ((c : ℕ) → 1 ≤ c → c ≤ length seats → c ≢ conn → IsSeat t c (seat_of seats c))
    → (c : ℕ) → 1 ≤ c → c ≤ length seats → (c ≡ conn) ⊎ (c ≢ conn) → IsSeat t c (seat_of (slice_set seats (conn - 1) now) c)
seats_set_by t seats conn now low high own others c least most (inl e) =
    subst (λ (d : ℕ). IsSeat t d (seat_of (slice_set seats (conn - 1) now) d)) (sym e)
    (subst (λ (s : Seat). IsSeat t conn s) (sym (set_own seats now conn low high)) own)
seats_set_by t seats conn now low high own others c least most (inr ne) =
    subst (λ (s : Seat). IsSeat t c s) (sym (set_other seats now conn c low least ne)) (others c least most ne)

-- one seat is another one, and the others are right as they were
pub seats_set : (t : Told) (seats : List Seat) (conn : ℕ) (now : Seat) → 1 ≤ conn → conn ≤ length seats → IsSeat t conn now
    → ((c : ℕ) → 1 ≤ c → c ≤ length seats → c ≢ conn → IsSeat t c (seat_of seats c))
    → (c : ℕ) → 1 ≤ c → c ≤ length (slice_set seats (conn - 1) now) → IsSeat t c (seat_of (slice_set seats (conn - 1) now) c)
seats_set t seats conn now low high own others c least most =
    seats_set_by t seats conn now low high own others c least (omega (arith, most, length-set seats (conn - 1) now)) (or_same c conn)

-- ---- a part more, for one connection

-- the seat of the one that is told
abbrev pub IsToldSeat : Told → ℕ → Seat → Seat → ℕ → Type 0
IsToldSeat t conn had now n =
    ((now.first ≡ had.first) ⊎ ((had.left ≡ 0) × (now.first ≡ number_of t))) × (now.behind ≡ number_of t + 1) × (now.left ≡ had.left + n)

pub none_of_length : (xs : List ℕ) → length xs ≡ 0 → xs ≡ []
none_of_length [] e = refl
none_of_length (x ∷ xs) e = absurd (omega (arith, e))

put_before : (c : ℕ) (t : Told) (q : Part) (i : ℕ) → i ≤ length t.parts
    → waits_before (record t { parts = t.parts ++ q ∷ [] }) c i ≡ waits_before t c i
put_before c t q i le = ap (λ (l : List Part). bytes_of c t.base t.tail l) (take-append-le i t.parts (q ∷ []) le)

first_by : (t : Told) (conn : ℕ) (had now : Seat) (q : Part) → IsSeat t conn had
    → (now.first ≡ had.first) ⊎ ((had.left ≡ 0) × (now.first ≡ number_of t))
    → (now.first ≤ number_of t) × (waits_before (record t { parts = t.parts ++ q ∷ [] }) conn (now.first - t.gone) ≡ [])
first_by t conn had now q was (inl e) = (
  omega (arith, e, was.few),
  put_before conn t q (now.first - t.gone) (omega (arith, e, was.few)) ∙ ap (λ (f : ℕ). waits_before t conn (f - t.gone)) e ∙ was.first,
)
first_by t conn had now q was (inr e) =
    let at : now.first - t.gone ≤ length t.parts = omega (arith, e.1) in (
      omega (arith, e.1),
      put_before conn t q (now.first - t.gone) at
          ∙ none_before conn t.base t.tail t.parts (now.first - t.gone) (none_of_length (waits_in t conn) (omega (arith, was.left, e.0))),
    )

put_other : (t : Told) (q : Part) (c : ℕ) (seat : Seat) → q.conn ≢ c → IsSeat t c seat
    → IsSeat (record t { parts = t.parts ++ q ∷ [] }) c seat
put_other t q c seat ne was = record {
  few = omega (arith, was.few, length-append t.parts (q ∷ []));
  first = put_before c t q (seat.first - t.gone) (omega (arith, was.few)) ∙ was.first;
  behind = none_put_other c t.parts q (seat.behind - t.gone) (length (t.parts ++ q ∷ [])) ne (λ k least most lt. was.behind k least lt lt);
  left = was.left
      ∙ ap length (sym (put_told c t.base t.tail t.parts q
      ∙ ap (λ (l : List ℕ). waits_in t c ++ l) (bytes_unless q.conn c (part_bytes t.base t.tail q) ne)
      ∙ append-nil (waits_in t c)));
  fits = was.fits;
}

pub held_put : (t : Told) (seats : List Seat) (q : Part) (now : Seat) → IsHeld t seats → 1 ≤ q.conn → q.conn ≤ length seats
    → IsSound (record t { parts = t.parts ++ q ∷ [] })
    → IsToldSeat t q.conn (seat_of seats q.conn) now (length (part_bytes t.base t.tail q))
    → now.left ≤ end_of t
    → IsHeld (record t { parts = t.parts ++ q ∷ [] }) (slice_set seats (q.conn - 1) now)
held_put t seats q now h low high sound is fits =
    let u : Told = record t { parts = t.parts ++ q ∷ [] } in
    let size = length-append t.parts (q ∷ []) in
    let had = seat_of seats q.conn in
    let was = h.each q.conn low high in
    let at = first_by t q.conn had now q was is.0 in
    let own : IsSeat u q.conn now = record {
      few = omega (arith, at.0, size);
      first = at.1;
      behind = λ k least most lt. absurd (omega (arith, least, most, size, is.1));
      left = is.2 ∙ ap (λ (n : ℕ). n + length (part_bytes t.base t.tail q)) was.left
          ∙ sym (length-append (waits_in t q.conn) (part_bytes t.base t.tail q))
          ∙ ap length (sym (put_told q.conn t.base t.tail t.parts q
          ∙ ap (λ (l : List ℕ). waits_in t q.conn ++ l) (bytes_when q.conn q.conn (part_bytes t.base t.tail q) refl)));
      fits = fits;
    } in
    record {
      sound = sound;
      opened = omega (arith, h.opened, length-set seats (q.conn - 1) now);
      each = seats_set u seats q.conn now low high own
          (λ c least most ne. put_other t q c (seat_of seats c) (λ e. ne (sym e)) (h.each c least most));
      strangers = λ c lt. none_put_other c t.parts q 0 (length (t.parts ++ q ∷ []))
          (λ e. absurd (omega (arith, e, lt, high, length-set seats (q.conn - 1) now)))
          (λ k least most le. h.strangers c (omega (arith, lt, length-set seats (q.conn - 1) now)) k least le le);
    }

-- ---- a connection more

-- who has no seat is told nothing
pub nothing_yet : (t : Told) (seats : List Seat) (c : ℕ) → IsHeld t seats → length seats < c → waits_in t c ≡ []
nothing_yet t seats c h lt = nothing_told c t.base t.tail t.parts (h.strangers c lt)

-- the seat of one that is told nothing yet
abbrev pub fresh_seat : Told → Seat
fresh_seat t = record { first = t.gone; behind = t.gone; left = 0 }

added : (t : Told) (seats : List Seat) (c : ℕ) → IsHeld t seats → 1 ≤ c → (c ≡ length seats + 1) ⊎ (c ≢ length seats + 1)
    → c ≤ length seats + 1
    → IsSeat t c (seat_of (seats ++ fresh_seat t ∷ []) c)
added t seats c h low (inl e) most =
    let new : seat_of (seats ++ fresh_seat t ∷ []) c ≡ fresh_seat t = get_or_at seats (fresh_seat t) [] nobody (c - 1) (omega (arith, e)) in
    let none : t.gone - t.gone ≡ 0 = omega arith in
    let lt : length seats < c = omega (arith, e) in
    subst (λ (s : Seat). IsSeat t c s) (sym new) (record {
      few = omega arith;
      first = ap (λ (n : ℕ). waits_before t c n) none;
      behind = λ k least most le. h.strangers c lt k (omega arith) most le;
      left = ap length (sym (nothing_yet t seats c h lt));
      fits = omega arith;
    })
added t seats c h low (inr ne) most =
    let le : c ≤ length seats = omega (arith, ne, most) in
    let same : seat_of (seats ++ fresh_seat t ∷ []) c ≡ seat_of seats c =
    get_or_append_left seats (fresh_seat t ∷ []) nobody (c - 1) (omega (arith, le, low)) in
    subst (λ (s : Seat). IsSeat t c s) (sym same) (h.each c low le)

pub held_add : (t : Told) (seats : List Seat) → IsHeld t seats → length seats + 1 < 2 ^ 32 → IsHeld t (seats ++ fresh_seat t ∷ [])
held_add t seats h few =
    let size = length-append seats (fresh_seat t ∷ []) in
    record {
      sound = h.sound;
      opened = omega (arith, size, few);
      each = λ c low high. added t seats c h low (or_same c (length seats + 1)) (omega (arith, high, size));
      strangers = λ c lt. h.strangers c (omega (arith, lt, size));
    }

-- ---- telling one connection behind the other

nothing_if : (b : Bool) → bytes_if b [] ≡ []
nothing_if true = refl
nothing_if false = refl

pub told_nothing : (conns : List ℕ) (c : ℕ) → told conns c [] ≡ []
told_nothing [] c = refl
told_nothing (d ∷ conns) c = ap (λ (l : List ℕ). l ++ told conns c []) (nothing_if (d == c)) ∙ told_nothing conns c

pub told_more : (conns : List ℕ) (i c : ℕ) (b : List ℕ) → i < length conns
    → told (take (i + 1) conns) c b ≡ told (take i conns) c b ++ bytes_if (slice_index_or conns i 0 == c) b
told_more conns i c b lt =
    ap (λ (l : List ℕ). told l c b) (take_more conns i 0 lt)
    ∙ flat_map-append (λ (d : ℕ). bytes_if (d == c) b) (take i conns) (slice_index_or conns i 0 ∷ [])
    ∙ ap (λ (l : List ℕ). told (take i conns) c b ++ l) (append-nil (bytes_if (slice_index_or conns i 0 == c) b))

one_more_by : (conns : List ℕ) (i c : ℕ) (b old was now : List ℕ) → i < length conns → was ≡ old ++ told (take i conns) c b
    → (c ≡ slice_index_or conns i 0 → now ≡ was ++ b) → (c ≢ slice_index_or conns i 0 → now ≡ was)
    → (c ≡ slice_index_or conns i 0) ⊎ (c ≢ slice_index_or conns i 0) → now ≡ old ++ told (take (i + 1) conns) c b
one_more_by conns i c b old was now lt told_is own other (inl e) =
    own e
    ∙ ap (λ (l : List ℕ). l ++ b) told_is
    ∙ append_assoc old (told (take i conns) c b) b
    ∙ ap (λ (l : List ℕ). old ++ (told (take i conns) c b ++ l)) (sym (bytes_when (slice_index_or conns i 0) c b (sym e)))
    ∙ ap (λ (l : List ℕ). old ++ l) (sym (told_more conns i c b lt))
one_more_by conns i c b old was now lt told_is own other (inr ne) =
    other ne
    ∙ told_is
    ∙ ap (λ (l : List ℕ). old ++ l) (sym (append-nil (told (take i conns) c b)))
    ∙ ap (λ (l : List ℕ). old ++ (told (take i conns) c b ++ l)) (sym (bytes_unless (slice_index_or conns i 0) c b (λ e. ne (sym e))))
    ∙ ap (λ (l : List ℕ). old ++ l) (sym (told_more conns i c b lt))

-- one connection more of those that are told
pub one_more_told : (conns : List ℕ) (i c : ℕ) (b old was now : List ℕ) → i < length conns → was ≡ old ++ told (take i conns) c b
    → (c ≡ slice_index_or conns i 0 → now ≡ was ++ b) → (c ≢ slice_index_or conns i 0 → now ≡ was)
    → now ≡ old ++ told (take (i + 1) conns) c b
one_more_told conns i c b old was now lt told_is own other =
    one_more_by conns i c b old was now lt told_is own other (or_same c (slice_index_or conns i 0))
