-- What the parts of a tail tell connections.
use Rattle.std.proofs.Common.{◌≡◌, ◌≢◌, ℕ, zero, suc, ◌+◌, ◌-◌, ◌<◌, ◌≤◌, Bool, true, false, List, [], ◌∷◌, ◌++◌, length, take, drop, refl}
use Rattle.std.proofs.Common.{sym, ap, subst, ◌∙◌}
use Rattle.std.proofs.Common.{arith, ◌⊎◌, inl, inr}
use Rattle.std.specs.Prelude.{◌==◌, slice_set}
use Rattle.std.proofs.lemmas.Bool.{eqb-true}
use Rattle.std.proofs.lemmas.Grind.{flat_map-append}
use Rattle.std.proofs.lemmas.List.{append-nil, length-take, length-drop, take-append-drop, take_all, drop-drop}
use Rattle.std.proofs.lemmas.List.{drop_more, drop_all, drop-append-le}
use Rattle.std.proofs.lemmas.List.{take-append-le, drop-take, get_or-set_same, get_or-set_other}
use Rattle.tt_outgoing.specs.Waiting.{bytes_if}
use Rattle.tt_outgoing.specs.declared.outs.log.Part.{Part}
use Rattle.tt_outgoing.specs.Outgoing.{part_bytes, bytes_of, no_part, part_at, IsWithin, Rising, BeginBy, NoneOf}

-- ---- one part

pub neq_by : (a d : ℕ) (b : Bool) → (a == d) ≡ b → a ≢ d → b ≡ false
neq_by a d true e ne = absurd (ne (eqb-true a d e))
neq_by a d false e ne = refl

pub bytes_unless : (a c : ℕ) (xs : List ℕ) → a ≢ c → bytes_if (a == c) xs ≡ []
bytes_unless a c xs ne = ap (λ (b : Bool). bytes_if b xs) (neq_by a c (a == c) refl ne)

pub bytes_when : (a c : ℕ) (xs : List ℕ) → a ≡ c → bytes_if (a == c) xs ≡ xs
bytes_when a c xs e = let same : (a == c) ≡ true = grind (arith, e) in ap (λ (b : Bool). bytes_if b xs) same

pub piece_length : (base : ℕ) (tail : List ℕ) (p : Part) → IsWithin base (base + length tail) p
    → length (part_bytes base tail p) ≡ p.to - p.from
piece_length base tail p w =
    omega (arith, length-take (p.to - p.from) (drop (p.from - base) tail), length-drop (p.from - base) tail, w.low, w.start, w.from, w.to)

-- ---- parts that rise

pub rising_at : (low end : ℕ) (ps : List Part) (i : ℕ) → Rising low end ps → i < length ps → IsWithin low end (part_at ps i)
rising_at low end [] i r lt = absurd (omega arith)
rising_at low end (p ∷ ps) zero r lt = r.0
rising_at low end (p ∷ ps) (suc i) r lt = let b = rising_at p.start end ps i r.1 (omega arith) in
    record { low = omega (arith, r.0.low, b.low); start = b.start; from = b.from; to = b.to }

-- a lower place, and a later end
pub rising_wider : (low least end most : ℕ) (ps : List Part) → least ≤ low → end ≤ most → Rising low end ps → Rising least most ps
rising_wider low least end most [] le fits r = tt
rising_wider low least end most (p ∷ ps) le fits r =
    let w = r.0 in (
      record { low = omega (arith, w.low); start = w.start; from = w.from; to = omega (arith, w.to) },
      rising_wider p.start p.start end most ps (omega arith) fits r.1,
    )

pub rising_drop : (n low end : ℕ) (ps : List Part) → Rising low end ps → Rising low end (drop n ps)
rising_drop zero low end ps r = r
rising_drop (suc n) low end [] r = tt
rising_drop (suc n) low end (p ∷ ps) r = rising_drop n low end ps
    (rising_wider p.start low end end ps (omega (arith, r.0.low)) (omega arith) r.1)

pub rising_take : (n low end : ℕ) (ps : List Part) → Rising low end ps → Rising low end (take n ps)
rising_take zero low end ps r = tt
rising_take (suc n) low end [] r = tt
rising_take (suc n) low end (p ∷ ps) r = (r.0, rising_take n p.start end ps r.1)

pub rising_set : (low end : ℕ) (ps : List Part) (i : ℕ) (q : Part) → Rising low end ps → q.start ≡ (part_at ps i).start → q.start ≤ q.from
    → q.from ≤ q.to → q.to ≤ end → Rising low end (slice_set ps i q)
rising_set low end [] i q r e a b c = tt
rising_set low end (p ∷ ps) zero q r e a b c =
    (record { low = omega (arith, r.0.low, e); start = a; from = b; to = c }, subst (λ (n : ℕ). Rising n end ps) (sym e) r.1)
rising_set low end (p ∷ ps) (suc i) q r e a b c = (r.0, rising_set p.start end ps i q r.1 e a b c)

pub rising_put : (low end : ℕ) (ps : List Part) (q : Part) → low ≤ q.start → BeginBy q.start ps → Rising low end ps → q.start ≤ q.from
    → q.from ≤ q.to → q.to ≤ end → Rising low end (ps ++ q ∷ [])
rising_put low end [] q le before r a b c = (record { low = le; start = a; from = b; to = c }, tt)
rising_put low end (p ∷ ps) q le before r a b c =
    (r.0, rising_put p.start end ps q (before 0 (omega arith)) (λ k lt. before (suc k) (omega (arith, lt))) r.1 a b c)

pub begin_by_end : (low end : ℕ) (ps : List Part) → Rising low end ps → BeginBy end ps
begin_by_end low end ps r k lt = let w = rising_at low end ps k r lt in omega (arith, w.start, w.from, w.to)

-- ---- a tail that grows at its end, or loses its front

within_more : (base : ℕ) (tail b : List ℕ) (p : Part) → IsWithin base (base + length tail) p
    → part_bytes base (tail ++ b) p ≡ part_bytes base tail p
within_more base tail b p w =
    ap (λ (l : List ℕ). take (p.to - p.from) l) (drop-append-le (p.from - base) tail b (omega (arith, w.low, w.start, w.from, w.to)))
    ∙ take-append-le (p.to - p.from) (drop (p.from - base) tail) b
    (omega (arith, w.low, w.start, w.from, w.to, length-drop (p.from - base) tail))

pub tail_more : (c base low : ℕ) (tail b : List ℕ) (ps : List Part) → base ≤ low → Rising low (base + length tail) ps
    → bytes_of c base (tail ++ b) ps ≡ bytes_of c base tail ps
tail_more c base low tail b [] le r = refl
tail_more c base low tail b (p ∷ ps) le r =
    let w = r.0 in
    let within : IsWithin base (base + length tail) p = record { low = omega (arith, w.low); start = w.start; from = w.from; to = w.to } in
    ap (λ (l : List ℕ). bytes_if (p.conn == c) l ++ bytes_of c base (tail ++ b) ps) (within_more base tail b p within)
    ∙ ap (λ (l : List ℕ). bytes_if (p.conn == c) (part_bytes base tail p) ++ l)
    (tail_more c base p.start tail b ps (omega (arith, w.low)) r.1)

within_less : (base d : ℕ) (tail : List ℕ) (p : Part) → base + d ≤ p.from → part_bytes (base + d) (drop d tail) p ≡ part_bytes base tail p
within_less base d tail p low =
    let at : d + (p.from - (base + d)) ≡ p.from - base = omega arith in
    ap (λ (l : List ℕ). take (p.to - p.from) l) (drop-drop (p.from - (base + d)) d tail)
    ∙ ap (λ (k : ℕ). take (p.to - p.from) (drop k tail)) at

pub tail_less : (c base d low end : ℕ) (tail : List ℕ) (ps : List Part) → base + d ≤ low → Rising low end ps
    → bytes_of c (base + d) (drop d tail) ps ≡ bytes_of c base tail ps
tail_less c base d low end tail [] le r = refl
tail_less c base d low end tail (p ∷ ps) le r =
    let w = r.0 in
    ap (λ (l : List ℕ). bytes_if (p.conn == c) l ++ bytes_of c (base + d) (drop d tail) ps)
    (within_less base d tail p (omega (arith, w.low, w.start)))
    ∙ ap (λ (l : List ℕ). bytes_if (p.conn == c) (part_bytes base tail p) ++ l)
    (tail_less c base d p.start end tail ps (omega (arith, w.low)) r.1)

-- ---- parts that are passed over

-- what stands behind parts of others is all that stands from them on
pub passed_over : (c base : ℕ) (tail : List ℕ) (ps : List Part) (i j : ℕ) → i ≤ j → NoneOf c ps i j
    → bytes_of c base tail (drop i ps) ≡ bytes_of c base tail (drop j ps)
passed_over c base tail [] i j le none =
    ap (λ (l : List Part). bytes_of c base tail l) (drop_all i [] (omega arith) ∙ sym (drop_all j [] (omega arith)))
passed_over c base tail (p ∷ ps) zero zero le none = refl
passed_over c base tail (p ∷ ps) zero (suc j) le none =
    ap (λ (l : List ℕ). l ++ bytes_of c base tail ps)
    (bytes_unless p.conn c (part_bytes base tail p) (none 0 (omega arith) (omega arith) (omega arith)))
    ∙ passed_over c base tail ps 0 j (omega arith) (λ k low high lt. none (suc k) (omega arith) (omega (arith, high)) (omega (arith, lt)))
passed_over c base tail (p ∷ ps) (suc i) zero le none = absurd (omega (arith, le))
passed_over c base tail (p ∷ ps) (suc i) (suc j) le none =
    passed_over c base tail ps i j (omega (arith, le))
    (λ k low high lt. none (suc k) (omega (arith, low)) (omega (arith, high)) (omega (arith, lt)))

pub passed_before : (c base : ℕ) (tail : List ℕ) (ps : List Part) (i j : ℕ) → i ≤ j → NoneOf c ps i j
    → bytes_of c base tail (take j ps) ≡ bytes_of c base tail (take i ps)
passed_before c base tail [] i j le none =
    ap (λ (l : List Part). bytes_of c base tail l) (take_all j [] (omega arith) ∙ sym (take_all i [] (omega arith)))
passed_before c base tail (p ∷ ps) zero zero le none = refl
passed_before c base tail (p ∷ ps) zero (suc j) le none =
    ap (λ (l : List ℕ). l ++ bytes_of c base tail (take j ps))
    (bytes_unless p.conn c (part_bytes base tail p) (none 0 (omega arith) (omega arith) (omega arith)))
    ∙ passed_before c base tail ps 0 j (omega arith) (λ k low high lt. none (suc k) (omega arith) (omega (arith, high)) (omega (arith, lt)))
passed_before c base tail (p ∷ ps) (suc i) zero le none = absurd (omega (arith, le))
passed_before c base tail (p ∷ ps) (suc i) (suc j) le none =
    ap (λ (l : List ℕ). bytes_if (p.conn == c) (part_bytes base tail p) ++ l)
    (passed_before c base tail ps i j (omega (arith, le))
    (λ k low high lt. none (suc k) (omega (arith, low)) (omega (arith, high)) (omega (arith, lt))))

-- all that is told is what is told before a place and from it on
pub split_told : (c base : ℕ) (tail : List ℕ) (ps : List Part) (i : ℕ)
    → bytes_of c base tail ps ≡ bytes_of c base tail (take i ps) ++ bytes_of c base tail (drop i ps)
split_told c base tail ps i =
    ap (λ (l : List Part). bytes_of c base tail l) (sym (take-append-drop i ps))
    ∙ flat_map-append (λ (p : Part). bytes_if (p.conn == c) (part_bytes base tail p)) (take i ps) (drop i ps)

front_none : (xs ys : List ℕ) → xs ++ ys ≡ [] → xs ≡ []
front_none [] ys e = refl
front_none (x ∷ xs) ys e = absurd (omega (arith, ap length e))

rest_none : (xs ys : List ℕ) → xs ++ ys ≡ [] → ys ≡ []
rest_none [] ys e = e
rest_none (x ∷ xs) ys e = absurd (omega (arith, ap length e))

-- where nothing is told at all, nothing is told before any place
pub none_before : (c base : ℕ) (tail : List ℕ) (ps : List Part) (i : ℕ) → bytes_of c base tail ps ≡ []
    → bytes_of c base tail (take i ps) ≡ []
none_before c base tail ps i e =
    front_none (bytes_of c base tail (take i ps)) (bytes_of c base tail (drop i ps)) (sym (split_told c base tail ps i) ∙ e)

-- nothing is told before a place, without the first part
pub none_behind_first : (c base : ℕ) (tail : List ℕ) (ps : List Part) (i j : ℕ) → j ≡ i - 1 → bytes_of c base tail (take i ps) ≡ []
    → bytes_of c base tail (take j (drop 1 ps)) ≡ []
none_behind_first c base tail [] i j is e = ap (λ (l : List Part). bytes_of c base tail l) (take_all j [] (omega arith))
none_behind_first c base tail (p ∷ ps) zero j is e =
    let none : j ≡ 0 = omega (arith, is) in ap (λ (k : ℕ). bytes_of c base tail (take k ps)) none
none_behind_first c base tail (p ∷ ps) (suc i) j is e =
    let same : j ≡ i = omega (arith, is) in
    ap (λ (k : ℕ). bytes_of c base tail (take k ps)) same
    ∙ rest_none (bytes_if (p.conn == c) (part_bytes base tail p)) (bytes_of c base tail (take i ps)) e

-- nothing is told by parts of others
pub nothing_told : (c base : ℕ) (tail : List ℕ) (ps : List Part) → NoneOf c ps 0 (length ps) → bytes_of c base tail ps ≡ []
nothing_told c base tail ps none =
    passed_over c base tail ps 0 (length ps) (omega arith) none
    ∙ ap (λ (l : List Part). bytes_of c base tail l) (drop_all (length ps) ps (omega arith))

-- what stands from a part of the connection on
pub from_own : (c base : ℕ) (tail : List ℕ) (ps : List Part) (i : ℕ) → i < length ps → (part_at ps i).conn ≡ c
    → bytes_of c base tail (drop i ps) ≡ part_bytes base tail (part_at ps i) ++ bytes_of c base tail (drop (i + 1) ps)
from_own c base tail ps i lt own =
    ap (λ (l : List Part). bytes_of c base tail l) (drop_more ps i no_part lt)
    ∙ ap (λ (l : List ℕ). l ++ bytes_of c base tail (drop (i + 1) ps))
    (bytes_when (part_at ps i).conn c (part_bytes base tail (part_at ps i)) own)

-- ---- another part in a place

pub set_at : (ps : List Part) (i k : ℕ) (q : Part) → i < length ps → (k ≡ i) ⊎ (k ≢ i)
    → ((k ≡ i) × (part_at (slice_set ps i q) k ≡ q)) ⊎ ((k ≢ i) × (part_at (slice_set ps i q) k ≡ part_at ps k))
set_at ps i k q lt (inl e) = inl (e, ap (λ (n : ℕ). part_at (slice_set ps i q) n) e ∙ get_or-set_same ps i q no_part lt)
set_at ps i k q lt (inr ne) = inr (ne, get_or-set_other ps i k q no_part ne)

pub set_same : (c base : ℕ) (tail : List ℕ) (ps : List Part) (i : ℕ) (q : Part)
    → bytes_if (q.conn == c) (part_bytes base tail q) ≡ bytes_if ((part_at ps i).conn == c) (part_bytes base tail (part_at ps i))
    → bytes_of c base tail (slice_set ps i q) ≡ bytes_of c base tail ps
set_same c base tail [] i q e = refl
set_same c base tail (p ∷ ps) zero q e = ap (λ (l : List ℕ). l ++ bytes_of c base tail ps) e
set_same c base tail (p ∷ ps) (suc i) q e = ap (λ (l : List ℕ). bytes_if (p.conn == c) (part_bytes base tail p) ++ l)
    (set_same c base tail ps i q e)

pub set_same_before : (c base : ℕ) (tail : List ℕ) (ps : List Part) (i k : ℕ) (q : Part)
    → bytes_if (q.conn == c) (part_bytes base tail q) ≡ bytes_if ((part_at ps i).conn == c) (part_bytes base tail (part_at ps i))
    → bytes_of c base tail (take k (slice_set ps i q)) ≡ bytes_of c base tail (take k ps)
set_same_before c base tail [] i k q e = refl
set_same_before c base tail (p ∷ ps) i zero q e = refl
set_same_before c base tail (p ∷ ps) zero (suc k) q e = ap (λ (l : List ℕ). l ++ bytes_of c base tail (take k ps)) e
set_same_before c base tail (p ∷ ps) (suc i) (suc k) q e =
    ap (λ (l : List ℕ). bytes_if (p.conn == c) (part_bytes base tail p) ++ l) (set_same_before c base tail ps i k q e)

-- a part of which some bytes more are taken
pub less_part : (base : ℕ) (tail : List ℕ) (p : Part) (n : ℕ) → base ≤ p.from → p.from + n ≤ p.to
    → part_bytes base tail (record p { from = p.from + n }) ≡ drop n (part_bytes base tail p)
less_part base tail p n low high =
    let at : p.from - base + n ≡ p.from + n - base = omega arith in
    let size : n + (p.to - (p.from + n)) ≡ p.to - p.from = omega arith in
    ap (λ (k : ℕ). take (p.to - (p.from + n)) (drop k tail)) (sym at)
    ∙ ap (λ (l : List ℕ). take (p.to - (p.from + n)) l) (sym (drop-drop n (p.from - base) tail))
    ∙ sym (drop-take n (p.to - (p.from + n)) (drop (p.from - base) tail))
    ∙ ap (λ (k : ℕ). drop n (take k (drop (p.from - base) tail))) size

-- ---- one part more

-- the bytes of the tail from a place on
pub new_bytes : (base : ℕ) (tail : List ℕ) (q : Part) → base ≤ q.from → q.to ≡ base + length tail
    → part_bytes base tail q ≡ drop (q.from - base) tail
new_bytes base tail q low to =
    take_all (q.to - q.from) (drop (q.from - base) tail) (omega (arith, low, to, length-drop (q.from - base) tail))

pub put_told : (c base : ℕ) (tail : List ℕ) (ps : List Part) (q : Part)
    → bytes_of c base tail (ps ++ q ∷ []) ≡ bytes_of c base tail ps ++ bytes_if (q.conn == c) (part_bytes base tail q)
put_told c base tail ps q =
    flat_map-append (λ (p : Part). bytes_if (p.conn == c) (part_bytes base tail p)) ps (q ∷ [])
    ∙ ap (λ (l : List ℕ). bytes_of c base tail ps ++ l) (append-nil (bytes_if (q.conn == c) (part_bytes base tail q)))
