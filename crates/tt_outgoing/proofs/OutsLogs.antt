-- A log that grows, from which is taken, and that is settled, stays sound.
use Rattle.std.proofs.Common.{◌≡◌, ◌≢◌, ℕ, ◌+◌, ◌-◌, ◌^◌, ◌<◌, ◌≤◌, List, [], ◌∷◌, ◌++◌, length, drop, refl, sym, ap}
use Rattle.std.proofs.Common.{subst, ◌∙◌, arith, ◌⊎◌, inl, inr}
use Rattle.std.specs.Prelude.{slice_set, ◌==◌, Bool, true, false}
use Rattle.std.proofs.lemmas.Bool.{eqb-true}
use Rattle.std.proofs.lemmas.List.{length-append, length-drop, length-set, get_or-drop, get_or_append_left, get_or_at}
use Rattle.tt_outgoing.specs.declared.outs.log.Part.{Part}
use Rattle.tt_outgoing.specs.Outgoing.{no_part, part_at, Rising, BeginBy, NoneOf, IsLinked, Told}
use Rattle.tt_outgoing.specs.Outgoing.{end_of, number_of, IsSound}
use Rattle.tt_outgoing.proofs.OutsParts.{rising_wider, rising_drop, rising_set, rising_put, set_at}

-- ---- bytes more

pub sound_bytes : (t : Told) (b : List ℕ) → IsSound t → end_of t + length b < 2 ^ 64 → IsSound (record t { tail = t.tail ++ b })
sound_bytes t b s fits =
    let size = length-append t.tail b in
    record {
      bytes = omega (arith, size, fits);
      numbers = s.numbers;
      rising = rising_wider t.base t.base (end_of t) (t.base + length (t.tail ++ b)) t.parts (omega arith) (omega (arith, size)) s.rising;
      linked = s.linked;
    }

-- ---- the front of the parts, and of the tail

pub part_behind : (n : ℕ) (ps : List Part) (k : ℕ) → part_at (drop n ps) k ≡ part_at ps (n + k)
part_behind n ps k = get_or-drop n ps k no_part

-- parts of others are those of the list without its front, too
pub none_behind : (c n : ℕ) (ps : List Part) (i j : ℕ) → NoneOf c ps i j → NoneOf c (drop n ps) (i - n) (j - n)
none_behind c n ps i j none k low high lt own =
    none (n + k) (omega (arith, low)) (omega (arith, high)) (omega (arith, lt, length-drop n ps))
    (ap (λ (p : Part). p.conn) (sym (part_behind n ps k)) ∙ own)

pub linked_behind : (gone n : ℕ) (ps : List Part) → n ≤ length ps → IsLinked gone ps → IsLinked (gone + n) (drop n ps)
linked_behind gone n ps few linked i lt live =
    let same = part_behind n ps i in
    let inside : n + i < length ps = omega (arith, lt, length-drop n ps) in
    let was = linked (n + i) inside (subst (λ (p : Part). 1 ≤ p.conn) same live) in
    let none : NoneOf (part_at ps (n + i)).conn (drop n ps) (i + 1) ((part_at ps (n + i)).next - (gone + n)) =
    λ k low high le. none_behind (part_at ps (n + i)).conn n ps (n + i + 1) ((part_at ps (n + i)).next - gone) was.1 k
    (omega (arith, low))
    (omega (arith, high)) le in
    subst (λ (p : Part). (p.next ≤ gone + n + length (drop n ps)) × NoneOf p.conn (drop n ps) (i + 1) (p.next - (gone + n))) (sym same)
    (omega (arith, was.0, few, length-drop n ps), none)

pub sound_drop : (t : Told) (n : ℕ) → n ≤ length t.parts → IsSound t → IsSound (record t { parts = drop n t.parts; gone = t.gone + n })
sound_drop t n few s = record {
  bytes = s.bytes;
  numbers = omega (arith, s.numbers, few, length-drop n t.parts);
  rising = rising_drop n t.base (end_of t) t.parts s.rising;
  linked = linked_behind t.gone n t.parts few s.linked;
}

pub sound_front : (t : Told) (n : ℕ) → n ≤ length t.tail → Rising (t.base + n) (end_of t) t.parts → IsSound t
    → IsSound (record t { tail = drop n t.tail; base = t.base + n })
sound_front t n few r s =
    let size : t.base + n + length (drop n t.tail) ≡ end_of t = omega (arith, few, length-drop n t.tail) in
    record {
      bytes = omega (arith, size, s.bytes);
      numbers = s.numbers;
      rising = subst (λ (e : ℕ). Rising (t.base + n) e t.parts) (sym size) r;
      linked = s.linked;
    }

-- ---- another part in a place: of the same connection or of none

or_same_by : (k i : ℕ) (b : Bool) → (k == i) ≡ b → (k ≡ i) ⊎ (k ≢ i)
or_same_by k i true e = inl (eqb-true k i e)
or_same_by k i false e = inr (λ (same : k ≡ i). absurd (grind (arith, e, same)))

pub or_same : (k i : ℕ) → (k ≡ i) ⊎ (k ≢ i)
or_same k i = or_same_by k i (k == i) refl

-- it may be of the same connection as what stood there, or of none
abbrev pub Stays : Part → Part → Type 0
Stays p q = (q.conn ≡ p.conn) ⊎ (q.conn ≡ 0)

other_conn : (p q : Part) (c : ℕ) → Stays p q → 1 ≤ c → p.conn ≢ c → q.conn ≢ c
other_conn p q c (inl e) low ne own = ne (sym e ∙ own)
other_conn p q c (inr e) low ne own = absurd (omega (arith, e, own, low))

none_set_by : (c : ℕ) (ps : List Part) (i k : ℕ) (q : Part) → Stays (part_at ps i) q → 1 ≤ c → (part_at ps k).conn ≢ c
    → ((k ≡ i) × (part_at (slice_set ps i q) k ≡ q)) ⊎ ((k ≢ i) × (part_at (slice_set ps i q) k ≡ part_at ps k))
    → (part_at (slice_set ps i q) k).conn ≢ c
none_set_by c ps i k q stays low ne (inl at) own =
    other_conn (part_at ps i) q c stays low (λ e. ne (ap (λ (n : ℕ). (part_at ps n).conn) at.0 ∙ e))
    (ap (λ (p : Part). p.conn) (sym at.1) ∙ own)
none_set_by c ps i k q stays low ne (inr at) own = ne (ap (λ (p : Part). p.conn) (sym at.1) ∙ own)

none_set_at : (c : ℕ) (ps : List Part) (i k : ℕ) (q : Part) → Stays (part_at ps i) q → 1 ≤ c → i < length ps → (part_at ps k).conn ≢ c
    → (k ≡ i) ⊎ (k ≢ i) → (part_at (slice_set ps i q) k).conn ≢ c
none_set_at c ps i k q stays low lt ne which own = none_set_by c ps i k q stays low ne (set_at ps i k q lt which) own

-- parts of others stay parts of others
pub none_set : (c : ℕ) (ps : List Part) (i : ℕ) (q : Part) (j m : ℕ) → Stays (part_at ps i) q → 1 ≤ c → i < length ps → NoneOf c ps j m
    → NoneOf c (slice_set ps i q) j m
none_set c ps i q j m stays low lt none k least most le =
    none_set_at c ps i k q stays low lt (none k least most (omega (arith, le, length-set ps i q))) (or_same k i)

-- what stands in the place says no less of the next one
abbrev pub Says : ℕ → List Part → ℕ → Part → Type 0
Says gone ps i q = 1 ≤ q.conn → (q.next ≤ gone + length ps) × NoneOf q.conn ps (i + 1) (q.next - gone)

linked_set_by : (gone : ℕ) (ps : List Part) (i k : ℕ) (q : Part) → Stays (part_at ps i) q → i < length ps → Says gone ps i q
    → IsLinked gone ps
    → k < length ps
    → ((k ≡ i) × (part_at (slice_set ps i q) k ≡ q)) ⊎ ((k ≢ i) × (part_at (slice_set ps i q) k ≡ part_at ps k))
    → 1 ≤ (part_at (slice_set ps i q) k).conn
    → ((part_at (slice_set ps i q) k).next ≤ gone + length (slice_set ps i q))
    × NoneOf (part_at (slice_set ps i q) k).conn (slice_set ps i q) (k + 1) ((part_at (slice_set ps i q) k).next - gone)
linked_set_by gone ps i k q stays lt says linked inside (inl at) live =
    let now = says (subst (λ (p : Part). 1 ≤ p.conn) at.1 live) in
    let low = subst (λ (p : Part). 1 ≤ p.conn) at.1 live in
    let none : NoneOf q.conn (slice_set ps i q) (k + 1) (q.next - gone) =
    none_set q.conn ps i q (k + 1) (q.next - gone) stays low lt (λ m least most le. now.1 m (omega (arith, least, at.0)) most le) in
    subst (λ (p : Part). (p.next ≤ gone + length (slice_set ps i q)) × NoneOf p.conn (slice_set ps i q) (k + 1) (p.next - gone)) (sym at.1)
    (omega (arith, now.0, length-set ps i q), none)
linked_set_by gone ps i k q stays lt says linked inside (inr at) live =
    let p = part_at ps k in
    let low = subst (λ (r : Part). 1 ≤ r.conn) at.1 live in
    let was = linked k inside low in
    subst (λ (r : Part). (r.next ≤ gone + length (slice_set ps i q)) × NoneOf r.conn (slice_set ps i q) (k + 1) (r.next - gone)) (sym at.1)
    (omega (arith, was.0, length-set ps i q), none_set p.conn ps i q (k + 1) (p.next - gone) stays low lt was.1)

pub linked_set : (gone : ℕ) (ps : List Part) (i : ℕ) (q : Part) → Stays (part_at ps i) q → i < length ps → Says gone ps i q
    → IsLinked gone ps
    → IsLinked gone (slice_set ps i q)
linked_set gone ps i q stays lt says linked k inside live =
    linked_set_by gone ps i k q stays lt says linked (omega (arith, inside, length-set ps i q)) (set_at ps i k q lt (or_same k i)) live

-- of the part that stood there
pub says_still : (t : Told) (i : ℕ) (q : Part) → IsSound t → i < length t.parts → q.conn ≡ (part_at t.parts i).conn
    → q.next ≡ (part_at t.parts i).next
    → Says t.gone t.parts i q
says_still t i q s lt conn next live =
    let p = part_at t.parts i in
    let was = s.linked i lt (omega (arith, live, conn)) in
    (omega (arith, was.0, next), λ k least most le own. was.1 k least (omega (arith, most, next)) le (own ∙ conn))

pub sound_set : (t : Told) (i : ℕ) (q : Part) → IsSound t → i < length t.parts → Stays (part_at t.parts i) q → Says t.gone t.parts i q
    → q.start ≡ (part_at t.parts i).start → q.start ≤ q.from → q.from ≤ q.to → q.to ≤ end_of t
    → IsSound (record t { parts = slice_set t.parts i q })
sound_set t i q s lt stays says start a b c = record {
  bytes = s.bytes;
  numbers = omega (arith, s.numbers, length-set t.parts i q);
  rising = rising_set t.base (end_of t) t.parts i q s.rising start a b c;
  linked = linked_set t.gone t.parts i q stays lt says s.linked;
}

-- ---- one part more

pub part_before : (ps : List Part) (q : Part) (k : ℕ) → k < length ps → part_at (ps ++ q ∷ []) k ≡ part_at ps k
part_before ps q k lt = get_or_append_left ps (q ∷ []) no_part k lt

pub part_last : (ps : List Part) (q : Part) → part_at (ps ++ q ∷ []) (length ps) ≡ q
part_last ps q = get_or_at ps q [] no_part (length ps) refl

pub none_put : (c : ℕ) (ps : List Part) (q : Part) (i j : ℕ) → j ≤ length ps → NoneOf c ps i j → NoneOf c (ps ++ q ∷ []) i j
none_put c ps q i j few none k low high lt own =
    let inside : k < length ps = omega (arith, high, few) in
    none k low high inside (ap (λ (p : Part). p.conn) (sym (part_before ps q k inside)) ∙ own)

none_put_at : (c : ℕ) (ps : List Part) (q : Part) (i j : ℕ) → q.conn ≢ c → NoneOf c ps i j → (k : ℕ) → i ≤ k → k < j
    → k < length (ps ++ q ∷ [])
    → (part_at (ps ++ q ∷ []) k).conn ≡ c → (k ≡ length ps) ⊎ (k ≢ length ps) → ⊥
none_put_at c ps q i j ne none k low high lt own (inl e) =
    ne (ap (λ (p : Part). p.conn) (sym (ap (λ (n : ℕ). part_at (ps ++ q ∷ []) n) e ∙ part_last ps q)) ∙ own)
none_put_at c ps q i j ne none k low high lt own (inr other) =
    let inside : k < length ps = omega (arith, lt, other, length-append ps (q ∷ [])) in
    none k low high inside (ap (λ (p : Part). p.conn) (sym (part_before ps q k inside)) ∙ own)

-- of another connection it is no part, either
pub none_put_other : (c : ℕ) (ps : List Part) (q : Part) (i j : ℕ) → q.conn ≢ c → NoneOf c ps i j → NoneOf c (ps ++ q ∷ []) i j
none_put_other c ps q i j ne none k low high lt own = none_put_at c ps q i j ne none k low high lt own (or_same k (length ps))

linked_put_at : (gone : ℕ) (ps : List Part) (q : Part) → q.next ≡ gone + length ps + 1 → IsLinked gone ps → (k : ℕ)
    → k < length (ps ++ q ∷ [])
    → 1 ≤ (part_at (ps ++ q ∷ []) k).conn → (k ≡ length ps) ⊎ (k ≢ length ps)
    → ((part_at (ps ++ q ∷ []) k).next ≤ gone + length (ps ++ q ∷ []))
    × NoneOf (part_at (ps ++ q ∷ []) k).conn (ps ++ q ∷ []) (k + 1) ((part_at (ps ++ q ∷ []) k).next - gone)
linked_put_at gone ps q next linked k lt live (inl e) =
    let last : part_at (ps ++ q ∷ []) k ≡ q = ap (λ (n : ℕ). part_at (ps ++ q ∷ []) n) e ∙ part_last ps q in
    subst (λ (p : Part). (p.next ≤ gone + length (ps ++ q ∷ [])) × NoneOf p.conn (ps ++ q ∷ []) (k + 1) (p.next - gone)) (sym last)
    (omega (arith, next, length-append ps (q ∷ [])), λ m low high le own. absurd (omega (arith, low, high, e, next)))
linked_put_at gone ps q next linked k lt live (inr other) =
    let inside : k < length ps = omega (arith, lt, other, length-append ps (q ∷ [])) in
    let same = part_before ps q k inside in
    let was = linked k inside (subst (λ (p : Part). 1 ≤ p.conn) same live) in
    let few : (part_at ps k).next - gone ≤ length ps = omega (arith, was.0) in
    subst (λ (p : Part). (p.next ≤ gone + length (ps ++ q ∷ [])) × NoneOf p.conn (ps ++ q ∷ []) (k + 1) (p.next - gone)) (sym same)
    (omega (arith, was.0, length-append ps (q ∷ [])), none_put (part_at ps k).conn ps q (k + 1) ((part_at ps k).next - gone) few was.1)

pub sound_put : (t : Told) (q : Part) → IsSound t → number_of t + 1 < 2 ^ 64 → q.next ≡ number_of t + 1 → BeginBy q.start t.parts
    → t.base ≤ q.start → q.start ≤ q.from → q.from ≤ q.to → q.to ≤ end_of t → IsSound (record t { parts = t.parts ++ q ∷ [] })
sound_put t q s fits next before low a b c =
    let size = length-append t.parts (q ∷ []) in
    record {
      bytes = s.bytes;
      numbers = omega (arith, fits, size);
      rising = rising_put t.base (end_of t) t.parts q low before s.rising a b c;
      linked = λ k lt live. linked_put_at t.gone t.parts q next s.linked k lt live (or_same k (length t.parts));
    }

begin_put_at : (place : ℕ) (ps : List Part) (q : Part) → BeginBy place ps → q.start ≤ place → (k : ℕ) → k < length (ps ++ q ∷ [])
    → (k ≡ length ps) ⊎ (k ≢ length ps) → (part_at (ps ++ q ∷ []) k).start ≤ place
begin_put_at place ps q before le k lt (inl e) =
    subst (λ (p : Part). p.start ≤ place) (sym (ap (λ (n : ℕ). part_at (ps ++ q ∷ []) n) e ∙ part_last ps q)) le
begin_put_at place ps q before le k lt (inr other) =
    let inside : k < length ps = omega (arith, lt, other, length-append ps (q ∷ [])) in
    subst (λ (p : Part). p.start ≤ place) (sym (part_before ps q k inside)) (before k inside)

pub begin_put : (place : ℕ) (ps : List Part) (q : Part) → BeginBy place ps → q.start ≤ place → BeginBy place (ps ++ q ∷ [])
begin_put place ps q before le k lt = begin_put_at place ps q before le k lt (or_same k (length ps))

begin_set_at : (place : ℕ) (ps : List Part) (i : ℕ) (q : Part) → i < length ps → q.start ≡ (part_at ps i).start → BeginBy place ps → (k : ℕ)
    → k < length ps
    → ((k ≡ i) × (part_at (slice_set ps i q) k ≡ q)) ⊎ ((k ≢ i) × (part_at (slice_set ps i q) k ≡ part_at ps k))
    → (part_at (slice_set ps i q) k).start ≤ place
begin_set_at place ps i q lt start before k inside (inl at) =
    subst (λ (p : Part). p.start ≤ place) (sym at.1) (omega (arith, start, before i lt))
begin_set_at place ps i q lt start before k inside (inr at) = subst (λ (p : Part). p.start ≤ place) (sym at.1) (before k inside)

-- another part that begins at the same place
pub begin_set : (place : ℕ) (ps : List Part) (i : ℕ) (q : Part) → i < length ps → q.start ≡ (part_at ps i).start → BeginBy place ps
    → BeginBy place (slice_set ps i q)
begin_set place ps i q lt start before k inside =
    begin_set_at place ps i q lt start before k (omega (arith, inside, length-set ps i q)) (set_at ps i k q lt (or_same k i))
