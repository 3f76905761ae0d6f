-- What a log and a connection's seat are behind some bytes that are taken.
use Rattle.std.proofs.Common.{◌≡◌, ◌≢◌, ℕ, zero, suc, ◌+◌, ◌-◌, ◌<◌, ◌≤◌, List, [], ◌∷◌, ◌++◌, length, take, drop, max, min, refl, sym, ap}
use Rattle.std.proofs.Common.{◌∙◌, arith, ◌⊎◌, inl, inr}
use Rattle.std.specs.Prelude.{slice_set, ◌==◌, nat_le, Bool, true, false}
use Rattle.std.proofs.lemmas.List.{length-append, length-drop, length-take, length-set, drop-set, drop-set-lt, take-set, take_at, take_all}
use Rattle.std.proofs.lemmas.List.{drop_all, drop_at, drop-append-le, drop-drop}
use Rattle.tt_outgoing.specs.declared.outs.log.Part.{Part}
use Rattle.tt_outgoing.specs.declared.outs.seat.Seat.{Seat}
use Rattle.tt_outgoing.specs.Waiting.{bytes_if}
use Rattle.tt_outgoing.specs.Outgoing.{part_bytes, bytes_of, part_at, NoneOf, Told, waits_in, waits_before, waits_from, end_of, number_of}
use Rattle.tt_outgoing.specs.Outgoing.{IsSound, Keeps, IsSeat, IsHeld, seat_of}
use Rattle.tt_outgoing.proofs.OutsParts.{bytes_unless, bytes_when, rising_at, piece_length, less_part, from_own, passed_over, passed_before}
use Rattle.tt_outgoing.proofs.OutsParts.{split_told, set_at, set_same, set_same_before}
use Rattle.tt_outgoing.proofs.OutsLogs.{sound_set, says_still, none_set, or_same}
use Rattle.tt_outgoing.proofs.OutsSeats.{seats_set}

-- another part in a place
abbrev pub with_part : Told → ℕ → Part → Told
with_part t i q = record t { parts = slice_set t.parts i q }

-- it tells others than the connection nothing, as the one that stood there
pub others_keep : (t : Told) (i : ℕ) (q : Part) → (q.conn ≡ (part_at t.parts i).conn) ⊎ (q.conn ≡ 0) → (c : ℕ) → 1 ≤ c
    → c ≢ (part_at t.parts i).conn
    → bytes_if (q.conn == c) (part_bytes t.base t.tail q) ≡ bytes_if ((part_at t.parts i).conn == c)
    (part_bytes t.base t.tail (part_at t.parts i))
others_keep t i q (inl e) c low ne =
    bytes_unless q.conn c (part_bytes t.base t.tail q) (λ own. ne (sym own ∙ e))
    ∙ sym (bytes_unless (part_at t.parts i).conn c (part_bytes t.base t.tail (part_at t.parts i)) (λ own. ne (sym own)))
others_keep t i q (inr e) c low ne =
    bytes_unless q.conn c (part_bytes t.base t.tail q) (λ own. absurd (omega (arith, own, e, low)))
    ∙ sym (bytes_unless (part_at t.parts i).conn c (part_bytes t.base t.tail (part_at t.parts i)) (λ own. ne (sym own)))

pub others_wait : (t : Told) (i : ℕ) (q : Part) → (q.conn ≡ (part_at t.parts i).conn) ⊎ (q.conn ≡ 0) → (c : ℕ) → 1 ≤ c
    → c ≢ (part_at t.parts i).conn
    → waits_in (with_part t i q) c ≡ waits_in t c
others_wait t i q stays c low ne = set_same c t.base t.tail t.parts i q (others_keep t i q stays c low ne)

pub others_before : (t : Told) (i : ℕ) (q : Part) → (q.conn ≡ (part_at t.parts i).conn) ⊎ (q.conn ≡ 0) → (c k : ℕ) → 1 ≤ c
    → c ≢ (part_at t.parts i).conn
    → waits_before (with_part t i q) c k ≡ waits_before t c k
others_before t i q stays c k low ne = set_same_before c t.base t.tail t.parts i k q (others_keep t i q stays c low ne)

pub before_stays : (t : Told) (i : ℕ) (q : Part) (c : ℕ) → waits_before (with_part t i q) c i ≡ waits_before t c i
before_stays t i q c = ap (λ (l : List Part). bytes_of c t.base t.tail l) (take-set t.parts i q)

-- another part in a place, of the connection or of none, keeps what others see
pub part_keeps : (t : Told) (i : ℕ) (q : Part) → (q.conn ≡ (part_at t.parts i).conn) ⊎ (q.conn ≡ 0) → i < length t.parts
    → IsSound (with_part t i q)
    → Keeps (part_at t.parts i).conn t (with_part t i q)
part_keeps t i q stays lt sound = record {
  sound = sound;
  base = refl;
  tail = refl;
  gone = refl;
  size = length-set t.parts i q;
  waits = λ c low ne. others_wait t i q stays c low ne;
  before = λ c k low ne. others_before t i q stays c k low ne;
  none = λ c j k low none. none_set c t.parts i q j k stays low lt none;
}

pub keeps_all : (conn : ℕ) (t : Told) → IsSound t → Keeps conn t t
keeps_all conn t sound = record {
  sound = sound;
  base = refl;
  tail = refl;
  gone = refl;
  size = refl;
  waits = λ c low ne. refl;
  before = λ c k low ne. refl;
  none = λ c j k low none. none;
}

pub keeps_then : (conn : ℕ) (t u v : Told) → Keeps conn t u → Keeps conn u v → Keeps conn t v
keeps_then conn t u v a b = record {
  sound = b.sound;
  base = b.base ∙ a.base;
  tail = b.tail ∙ a.tail;
  gone = b.gone ∙ a.gone;
  size = b.size ∙ a.size;
  waits = λ c low ne. b.waits c low ne ∙ a.waits c low ne;
  before = λ c k low ne. b.before c k low ne ∙ a.before c k low ne;
  none = λ c j k low none. b.none c j k low (a.none c j k low none);
}

-- ---- a part of which some bytes are taken

abbrev pub less : Part → ℕ → Part
less p n = record p { from = p.from + n }

pub less_sound : (t : Told) (i n : ℕ) → IsSound t → i < length t.parts → (part_at t.parts i).from + n ≤ (part_at t.parts i).to
    → IsSound (with_part t i (less (part_at t.parts i) n))
less_sound t i n s lt few =
    let w = rising_at t.base (end_of t) t.parts i s.rising lt in
    sound_set t i (less (part_at t.parts i) n) s lt (inl refl) (says_still t i (less (part_at t.parts i) n) s lt refl refl) refl
    (omega (arith, w.start)) few w.to

pub less_rest : (t : Told) (i n : ℕ) → IsSound t → i < length t.parts → (part_at t.parts i).from + n ≤ (part_at t.parts i).to
    → waits_from (with_part t i (less (part_at t.parts i) n)) (part_at t.parts i).conn i ≡ drop n (waits_from t (part_at t.parts i).conn i)
less_rest t i n s lt few =
    let p = part_at t.parts i in
    let q = less p n in
    let w = rising_at t.base (end_of t) t.parts i s.rising lt in
    let behind = bytes_of p.conn t.base t.tail (drop (i + 1) t.parts) in
    let size = piece_length t.base t.tail p w in
    ap (λ (l : List Part). bytes_of p.conn t.base t.tail l) (drop-set t.parts i q lt)
    ∙ ap (λ (l : List ℕ). l ++ behind) (bytes_when q.conn p.conn (part_bytes t.base t.tail q) refl
    ∙ less_part t.base t.tail p n (omega (arith, w.low, w.start)) few)
    ∙ sym (drop-append-le n (part_bytes t.base t.tail p) behind (omega (arith, size, few)))
    ∙ ap (λ (l : List ℕ). drop n l) (sym (from_own p.conn t.base t.tail t.parts i lt refl))

-- ---- a part that is taken whole

abbrev pub gone_part : Part → Part
gone_part p = record p { conn = 0 }

pub gone_sound : (t : Told) (i : ℕ) → IsSound t → i < length t.parts → IsSound (with_part t i (gone_part (part_at t.parts i)))
gone_sound t i s lt =
    let w = rising_at t.base (end_of t) t.parts i s.rising lt in
    sound_set t i (gone_part (part_at t.parts i)) s lt (inr refl) (λ live. absurd (omega (arith, live))) refl w.start w.from w.to

-- no other part of the connection stands before the place that it says
pub none_between : (t : Told) (i r : ℕ) → IsSound t → i < length t.parts → 1 ≤ (part_at t.parts i).conn
    → r ≡ max ((part_at t.parts i).next - t.gone) (i + 1)
    → NoneOf (part_at t.parts i).conn t.parts (i + 1) r
none_between t i r s lt live is k low high le = (s.linked i lt live).1 k low (omega (arith, low, high, is)) le

pub gone_few : (t : Told) (i r : ℕ) → IsSound t → i < length t.parts → 1 ≤ (part_at t.parts i).conn
    → r ≡ max ((part_at t.parts i).next - t.gone) (i + 1)
    → (i < r) × (r ≤ length t.parts)
gone_few t i r s lt live is = let says = (s.linked i lt live).0 in (omega (arith, is), omega (arith, is, says, lt))

pub gone_rest : (t : Told) (i r n : ℕ) → IsSound t → i < length t.parts → 1 ≤ (part_at t.parts i).conn
    → r ≡ max ((part_at t.parts i).next - t.gone) (i + 1)
    → (part_at t.parts i).from + n ≡ (part_at t.parts i).to
    → waits_from (with_part t i (gone_part (part_at t.parts i))) (part_at t.parts i).conn r ≡ drop n
    (waits_from t (part_at t.parts i).conn i)
gone_rest t i r n s lt live is all =
    let p = part_at t.parts i in
    let w = rising_at t.base (end_of t) t.parts i s.rising lt in
    let behind = bytes_of p.conn t.base t.tail (drop (i + 1) t.parts) in
    let few = gone_few t i r s lt live is in
    ap (λ (l : List Part). bytes_of p.conn t.base t.tail l) (drop-set-lt r t.parts i (gone_part p) few.0)
    ∙ sym (passed_over p.conn t.base t.tail t.parts (i + 1) r (omega (arith, is)) (none_between t i r s lt live is))
    ∙ sym (drop_at (part_bytes t.base t.tail p) behind n (omega (arith, piece_length t.base t.tail p w, all)))
    ∙ ap (λ (l : List ℕ). drop n l) (sym (from_own p.conn t.base t.tail t.parts i lt refl))

none_now : (t : Told) (i r k : ℕ) → i < length t.parts → 1 ≤ (part_at t.parts i).conn → NoneOf (part_at t.parts i).conn t.parts (i + 1) r
    → i ≤ k → k < r
    → k < length t.parts
    → ((k ≡ i) × (part_at (slice_set t.parts i (gone_part (part_at t.parts i))) k ≡ gone_part (part_at t.parts i)))
    ⊎ ((k ≢ i) × (part_at (slice_set t.parts i (gone_part (part_at t.parts i))) k ≡ part_at t.parts k))
    → (part_at (slice_set t.parts i (gone_part (part_at t.parts i))) k).conn ≢ (part_at t.parts i).conn
none_now t i r k lt live none low high le (inl at) own =
    let zero_is : 0 ≡ (part_at t.parts i).conn = ap (λ (p : Part). p.conn) (sym at.1) ∙ own in absurd (omega (arith, zero_is, live))
none_now t i r k lt live none low high le (inr at) own =
    none k (omega (arith, low, at.0)) high le (ap (λ (p : Part). p.conn) (sym at.1) ∙ own)

pub gone_passed : (t : Told) (i r : ℕ) → IsSound t → i < length t.parts → 1 ≤ (part_at t.parts i).conn
    → r ≡ max ((part_at t.parts i).next - t.gone) (i + 1)
    → waits_before t (part_at t.parts i).conn i ≡ []
    → waits_before (with_part t i (gone_part (part_at t.parts i))) (part_at t.parts i).conn r ≡ []
gone_passed t i r s lt live is none =
    let p = part_at t.parts i in
    let q = gone_part p in
    let few = gone_few t i r s lt live is in
    passed_before p.conn t.base t.tail (slice_set t.parts i q) i r (omega (arith, few.0))
    (λ k low high le. none_now t i r k lt live (none_between t i r s lt live is) low high (omega (arith, le, length-set t.parts i q))
    (set_at t.parts i k q lt (or_same k i)))
    ∙ before_stays t i q p.conn
    ∙ none

-- ---- bytes that are put

-- what stands from a part of another connection on stands behind it
pub other_from : (t : Told) (conn i : ℕ) → (part_at t.parts i).conn ≢ conn → waits_from t conn (i + 1) ≡ waits_from t conn i
other_from t conn i ne =
    sym (passed_over conn t.base t.tail t.parts i (i + 1) (omega arith) (λ k low high lt own.
    let at : k ≡ i = omega (arith, low, high) in ne (ap (λ (n : ℕ). (part_at t.parts n).conn) (sym at) ∙ own)))

pub other_before : (t : Told) (conn i : ℕ) → (part_at t.parts i).conn ≢ conn → waits_before t conn (i + 1) ≡ waits_before t conn i
other_before t conn i ne =
    passed_before conn t.base t.tail t.parts i (i + 1) (omega arith) (λ k low high lt own.
    let at : k ≡ i = omega (arith, low, high) in ne (ap (λ (n : ℕ). (part_at t.parts n).conn) (sym at) ∙ own))

abbrev none_at_all : List ℕ
none_at_all = []

take_none : (n : ℕ) → take n none_at_all ≡ []
take_none n = take_all n none_at_all (omega arith)

take_both : (n m : ℕ) (xs : List ℕ) → take (n + m) xs ≡ take n xs ++ take m (drop n xs)
take_both zero m xs = let e : zero + m ≡ m = omega arith in ap (λ (k : ℕ). take k xs) e
take_both (suc n) m [] = take_none (suc n + m) ∙ sym (take_none m)
take_both (suc n) m (x ∷ xs) = let e : suc n + m ≡ suc (n + m) = omega arith in rw e (ap (λ (l : List ℕ). x ∷ l) (take_both n m xs))

pub joined_length : (xs room : List ℕ) (k : ℕ) → k ≤ length xs → k ≤ length room → length (take k xs ++ drop k room) ≡ length room
joined_length xs room k low high = omega (arith, length-append (take k xs) (drop k room), length-take k xs, length-drop k room)

-- bytes put behind those that were put before
pub more_bytes : (xs room out more : List ℕ) (f n : ℕ) → f ≤ length xs → f ≤ length room → out ≡ take f xs ++ drop f room
    → more ≡ take f out ++ take n (drop f xs) ++ drop (f + n) out → more ≡ take (f + n) xs ++ drop (f + n) room
more_bytes xs room out more f n le fits was put =
    let head : take f out ≡ take f xs = ap (λ (l : List ℕ). take f l) was
    ∙ take_at (take f xs) (drop f room) f (omega (arith, le, length-take f xs)) in
    let behind : drop (f + n) out ≡ drop (f + n) room =
    sym (drop-drop n f out)
    ∙ ap (λ (l : List ℕ). drop n (drop f l)) was
    ∙ ap (λ (l : List ℕ). drop n l) (drop_at (take f xs) (drop f room) f (omega (arith, le, length-take f xs)))
    ∙ drop-drop n f room in
    put
    ∙ ap (λ (l : List ℕ). l ++ take n (drop f xs) ++ drop (f + n) out) head
    ∙ ap (λ (l : List ℕ). take f xs ++ take n (drop f xs) ++ l) behind
    ∙ ap (λ (l : List ℕ). l ++ drop (f + n) room) (sym (take_both f n xs))

-- a part gives some bytes, or is passed
goes_on_by : (i next n from to room : ℕ) → (from + n ≡ to → i < next) → i ≤ next → n ≡ min (to - from) room → 1 ≤ room → from + n ≤ to
    → (from + n ≡ to) ⊎ (from + n ≢ to) → i + 1 ≤ n + next
goes_on_by i next n from to room whole le is some few (inl e) = omega (arith, whole e)
goes_on_by i next n from to room whole le is some few (inr ne) = omega (arith, le, is, some, few, ne)

pub goes_on : (i next n from to room : ℕ) → (from + n ≡ to → i < next) → i ≤ next → n ≡ min (to - from) room → 1 ≤ room → from + n ≤ to
    → i + 1 ≤ n + next
goes_on i next n from to room whole le is some few = goes_on_by i next n from to room whole le is some few (or_same (from + n) to)

-- where nothing is told before a place, all stands from it on
pub all_from : (t : Told) (c i : ℕ) → waits_before t c i ≡ [] → waits_from t c i ≡ waits_in t c
all_from t c i none = sym (split_told c t.base t.tail t.parts i ∙ ap (λ (l : List ℕ). l ++ waits_from t c i) none)

inside_by : (t : Told) (c i : ℕ) (ws : List ℕ) (b : Bool) → nat_le (length t.parts) i ≡ b → waits_from t c i ≡ ws → 0 < length ws
    → i < length t.parts
inside_by t c i ws true le is some =
    let out : length t.parts ≤ i = grind (arith, le) in
    absurd (omega (arith, some, ap length (sym is ∙ ap (λ (l : List Part). bytes_of c t.base t.tail l) (drop_all i t.parts out))))
inside_by t c i ws false le is some = grind (arith, le)

-- where something stands from a place on, a part stands there
pub inside : (t : Told) (c i : ℕ) (ws : List ℕ) → waits_from t c i ≡ ws → 0 < length ws → i < length t.parts
inside t c i ws is some = inside_by t c i ws (nat_le (length t.parts) i) refl is some

-- ---- seats behind what was taken

keeps_seat : (conn : ℕ) (t u : Told) (c : ℕ) (seat : Seat) → Keeps conn t u → 1 ≤ c → c ≢ conn → IsSeat t c seat → IsSeat u c seat
keeps_seat conn t u c seat k low ne was = record {
  few = omega (arith, was.few, k.gone, k.size);
  first = k.before c (seat.first - u.gone) low ne ∙ ap (λ (g : ℕ). waits_before t c (seat.first - g)) k.gone ∙ was.first;
  behind = λ m least most lt. k.none c (seat.behind - t.gone) (length t.parts) low was.behind m (omega (arith, least, k.gone))
      (omega (arith, most, k.size)) lt;
  left = was.left ∙ ap length (sym (k.waits c low ne));
  fits = omega (arith, was.fits, k.base, ap length k.tail);
}

pub held_take : (conn n : ℕ) (t u : Told) (seats : List Seat) (now : Seat) → IsHeld t seats → Keeps conn t u → 1 ≤ conn
    → conn ≤ length seats
    → now.first ≤ number_of u → waits_before u conn (now.first - u.gone) ≡ [] → now.behind ≡ (seat_of seats conn).behind
    → now.left ≡ (seat_of seats conn).left - n → waits_in u conn ≡ drop n (waits_in t conn) → IsHeld u (slice_set seats (conn - 1) now)
held_take conn n t u seats now h k low high few first behind left rest =
    let was = h.each conn low high in
    let own : IsSeat u conn now = record {
      few = few;
      first = first;
      behind = λ m least most lt. k.none conn ((seat_of seats conn).behind - t.gone) (length t.parts) low was.behind m
          (omega (arith, least, k.gone, behind)) (omega (arith, most, k.size)) lt;
      left = omega (arith, left, was.left, ap length rest, length-drop n (waits_in t conn));
      fits = omega (arith, left, was.fits, k.base, ap length k.tail);
    } in
    record {
      sound = k.sound;
      opened = omega (arith, h.opened, length-set seats (conn - 1) now);
      each = seats_set u seats conn now low high own
          (λ c least most ne. keeps_seat conn t u c (seat_of seats c) k least ne (h.each c least most));
      strangers = λ c lt m least most le. k.none c 0 (length t.parts) (omega (arith, lt))
          (h.strangers c (omega (arith, lt, length-set seats (conn - 1) now)))
          m least (omega (arith, most, k.size)) le;
    }
