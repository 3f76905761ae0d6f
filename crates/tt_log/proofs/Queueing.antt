-- The first of the queue downloads, and the others wait.
use Rattle.std.proofs.Common.{◌≡◌, ◌⊎◌, inl, inr, ℕ, suc, ◌+◌, ◌≤◌, Bool, true, false, List, [], ◌∷◌, ◌++◌, Option, Some, None, refl, ap}
use Rattle.std.proofs.Common.{sym}
use Rattle.std.proofs.Common.{◌∙◌, subst, arith}
use Rattle.std.specs.Prelude.{◌==◌, ◌||◌, cond, drop, find, is_some, length, map, nat_le, nat_lt, not, take}
use Rattle.std.specs.List.{AllByRecursion, list_any}
use Rattle.std.proofs.lemmas.Bool.{eqb-true, eq-eqb, ne_eqb}
use Rattle.tt_edge.specs.declared.event.Event.{Event}
use Rattle.tt_rules.specs.declared.status.Status.{Status}
use Rattle.tt_rules.specs.declared.status.Status.TheVariants.{Inactive, NewgrfsCheck, AuthGame, AuthCompany, Authorized, MapWait, Map}
use Rattle.tt_rules.specs.declared.status.Status.TheVariants.{DoneMap, PreActive, Active}
use Rattle.tt_rules.specs.Statuses.{rank}
use Rattle.tt_log.specs.declared.deed.Step.{Step}
use Rattle.tt_log.specs.Origin.{Origin}
use Rattle.tt_log.specs.Member.{Member, is_in, is_welcomed}
use Rattle.tt_log.specs.Table.{Table, first, is_on, now_in, with_member, without_member}
use Rattle.tt_log.specs.Deed.{where_, where_some}
use Rattle.tt_world.specs.Random.{next_random}
use Rattle.tt_log.specs.Frames.{fresh_token, opened_token}
use Rattle.tt_log.specs.Queue.{begins, begins_for, begins_where, downloading, leaves_queue, left_place, moved_up}
use Rattle.tt_log.specs.Ending.{Farewell, Quitting, Failing, leaves, tells_farewell}
use Rattle.tt_log.specs.PacketRules.{closed_token, enters}
use Rattle.tt_log.specs.Desk.{admin_arrives, counted_aside, most_admins}
use Rattle.tt_log.specs.Tick.{drawn}
use Rattle.tt_log.specs.Events.{arrives, counted_in, stepped}
use Rattle.tt_log.specs.History.{table_of}
use Rattle.tt_log.specs.Downloads.{IsMember, IsQueue, is_downloading}
use Rattle.tt_log.proofs.Lists.{Among, IsOther, NotIn, all-append, all-filter, all-map, all-so, among-all, found-among}
use Rattle.tt_log.proofs.Crew.{On, conns, find-others, find-put-here, found-on, live-conns, on-found, others, put, put-all, put-conns}
use Rattle.tt_log.proofs.Changes.{Change, wants_password, is_let_in, gets_token, gets_frame, answers, plays, commands, has_name, goes_to}
use Rattle.tt_log.proofs.Changes.{founds, gets_pieces, has_all, Asks, May, turned, turned-conn}
use Rattle.tt_log.proofs.Walk.{Turns, ahead-of, behind-of}
use Rattle.tt_log.proofs.Walk.{running, Base, Walk, Doors, Closing, Ticks, of-deed}
use Rattle.tt_log.proofs.Phases.{OnceIn, none-removed, not-found, place_in, removed, removed-is}
use Rattle.tt_log.proofs.Malformed.{later-stays}
use Rattle.tt_log.proofs.Ordered.{Ordered, is-ordered, map-same, order-closing, order-doors, order-ticks, order-turns, order-walk}
use Rattle.tt_log.proofs.Clock.{from-all}

-- ---- seats

abbrev Downloads : Member → Type 0
Downloads m = (6 ≤ rank m.status) × (rank m.status ≤ 7)

abbrev Waits : Member → Type 0
Waits m = rank m.status ≡ 5

-- there is a member on a connection, and whoever is on it is so
record Seat (P : Member → Type 0) (ms : List Member) (d : ℕ) : Type 0 where
  each : AllByRecursion (λ m. (m.conn == d) ≡ true → P m) ms
  there : list_any (λ x. x == d) (conns ms) ≡ true

abbrev Shape : List Member → List ℕ → Type 0
Shape ms [] = Unit
Shape ms (d ∷ ds) = Seat Downloads ms d × AllByRecursion (Seat Waits ms) ds

-- but for one connection
abbrev ShapeBut : ℕ → List Member → List ℕ → Type 0
ShapeBut c ms [] = Unit
ShapeBut c ms (d ∷ ds) = ((d == c) ≡ false → Seat Downloads ms d) × AllByRecursion (λ x. (x == c) ≡ false → Seat Waits ms x) ds

-- nobody stands there twice
abbrev Once : List ℕ → Type 0
Once [] = Unit
Once (d ∷ ds) = NotIn d ds × Once ds

record Queued (t : Table) : Type 0 where
  shape : Shape t.members t.queue
  once : Once t.queue

pub other-way : (c d : ℕ) → (d == c) ≡ false → (c == d) ≡ false
other-way c d is = ne_eqb c d (λ same. let e : (d == c) ≡ true = eq-eqb d c (sym same) in absurd cc)

same-way : (c d : ℕ) → (c == d) ≡ true → (d == c) ≡ true
same-way c d is = eq-eqb d c (sym (eqb-true c d is))

put-there : (n : Member) (ms : List Member) (d : ℕ) → list_any (λ x. x == d) (conns ms) ≡ true
    → list_any (λ x. x == d) (conns (put n ms)) ≡ true
put-there n ms d is = subst (λ (xs : List ℕ). list_any (λ x. x == d) xs ≡ true) (sym (put-conns n ms)) is

put-seat : (P : Member → Type 0) (n : Member) (ms : List Member) (d : ℕ) → ((n.conn == d) ≡ true → P n) → Seat P ms d → Seat P (put n ms) d
put-seat P n ms d p s = record {
  each = put-all (λ m. (m.conn == d) ≡ true → P m) n ms p s.each;
  there = put-there n ms d s.there;
}

put-own : (P : Member → Type 0) (n : Member) (ms : List Member) → P n → AllByRecursion (λ m. (m.conn == n.conn) ≡ true → P m) (put n ms)
put-own P n [] p = tt
put-own P n (x ∷ xs) p = (by (x.conn == n.conn) refl, put-own P n xs p)
  where
    by : (b : Bool) → (x.conn == n.conn) ≡ b → ((cond b n x).conn == n.conn) ≡ true → P (cond b n x)
    by true is own = p
    by false is own = absurd cc

among-there : (m : Member) (ms : List Member) → Among m ms → list_any (λ x. x == m.conn) (conns ms) ≡ true
among-there m [] there = absurd there
among-there m (x ∷ xs) (inl here) = rw (eq-eqb x.conn m.conn (ap (λ (y : Member). y.conn) here)) refl
among-there m (x ∷ xs) (inr later) = by (x.conn == m.conn) (among-there m xs later)
  where
    by : (b : Bool) → list_any (λ y. y == m.conn) (conns xs) ≡ true → (b || list_any (λ y. y == m.conn) (conns xs)) ≡ true
    by true is = refl
    by false is = is

some-there : (x : Option Member) → is_some x ≡ true → (k : Member) × (x ≡ Some k)
some-there None is = absurd cc
some-there (Some k) is = (k, refl)

there-found : (d : ℕ) (ms : List Member) → list_any (λ x. x == d) (conns ms) ≡ true → (k : Member) × (find (is_on d) ms ≡ Some k)
there-found d ms is = some-there (find (is_on d) ms) (live-conns d ms ∙ is)

-- a member that changes and keeps its place
shape-turn : (n m : Member) (ms : List Member) (q : List ℕ) → Among m ms → n.conn ≡ m.conn → (Downloads m → Downloads n)
    → (Waits m → Waits n)
    → Shape ms q → Shape (put n ms) q
shape-turn n m ms [] on same down wait s = tt
shape-turn n m ms (d ∷ ds) on same down wait s = (
  put-seat Downloads n ms d (λ at. down (among-all (λ x. (x.conn == d) ≡ true → Downloads x) m ms on s.0.each
      (ap (λ (y : ℕ). y == d) (sym same) ∙ at))) s.0,
  all-so (Seat Waits ms) (Seat Waits (put n ms)) ds (λ x a. put-seat Waits n ms x (λ at. wait (among-all (λ y.
      (y.conn == x) ≡ true → Waits y)
      m ms on a.each (ap (λ (y : ℕ). y == x) (sym same) ∙ at))) a) s.1,
)

-- who neither waits nor downloads is not in the queue
apart-by : (b : Bool) (d c : ℕ) → (d == c) ≡ b → (b ≡ true → ⊥) → IsOther c d
apart-by true d c is never = absurd (never refl)
apart-by false d c is never = is

none-waiting : (m : Member) (ms : List Member) (ds : List ℕ) → Among m ms → (Waits m → ⊥) → AllByRecursion (Seat Waits ms) ds
    → NotIn m.conn ds
none-waiting m ms [] on never a = tt
none-waiting m ms (d ∷ ds) on never a = (
  apart-by (d == m.conn) d m.conn refl (λ at. never (among-all (λ x. (x.conn == d) ≡ true → Waits x) m ms on a.0.each
      (same-way d m.conn at))),
  none-waiting m ms ds on never a.1,
)

none-queued : (m : Member) (ms : List Member) (q : List ℕ) → Among m ms → (Downloads m → ⊥) → (Waits m → ⊥) → Shape ms q → NotIn m.conn q
none-queued m ms [] on never wait s = tt
none-queued m ms (d ∷ ds) on never wait s = (
  apart-by (d == m.conn) d m.conn refl (λ at. never (among-all (λ x. (x.conn == d) ≡ true → Downloads x) m ms on s.0.each
      (same-way d m.conn at))),
  none-waiting m ms ds on wait s.1,
)

-- ---- a place is free

but-put : (n : Member) (ms : List Member) (q : List ℕ) → ShapeBut n.conn ms q → ShapeBut n.conn (put n ms) q
but-put n ms [] s = tt
but-put n ms (d ∷ ds) s = (
  λ other. put-seat Downloads n ms d (λ at. absurd (let e : (n.conn == d) ≡ false = other-way n.conn d other in cc)) (s.0 other),
  all-so (λ x. (x == n.conn) ≡ false → Seat Waits ms x) (λ x. (x == n.conn) ≡ false → Seat Waits (put n ms) x) ds
      (λ x a other. put-seat Waits n ms x (λ at. absurd (let e : (n.conn == x) ≡ false = other-way n.conn x other in cc)) (a other)) s.1,
)

but-of : (c : ℕ) (ms : List Member) (q : List ℕ) → Shape ms q → ShapeBut c ms q
but-of c ms [] s = tt
but-of c ms (d ∷ ds) s = (λ other. s.0, all-so (Seat Waits ms) (λ x. (x == c) ≡ false → Seat Waits ms x) ds (λ x a other. a) s.1)

but-none : (c : ℕ) (ms : List Member) (q : List ℕ) → NotIn c q → ShapeBut c ms q → Shape ms q
but-none c ms [] none s = tt
but-none c ms (d ∷ ds) none s = (s.0 none.0, by ds none.1 s.1)
  where
    by : (xs : List ℕ) → NotIn c xs → AllByRecursion (λ x. (x == c) ≡ false → Seat Waits ms x) xs → AllByRecursion (Seat Waits ms) xs
    by [] n a = tt
    by (x ∷ xs) n a = (a.0 n.0, by xs n.1 a.1)

-- without the member of a connection
left-seat : (P : Member → Type 0) (c d : ℕ) (ms : List Member) → (d == c) ≡ false → Seat P ms d → Seat P (others c ms) d
left-seat P c d ms other s = record {
  each = all-filter (λ m. (m.conn == d) ≡ true → P m) (λ m. not (is_on c m)) ms s.each;
  there = sym (live-conns d (others c ms)) ∙ ap (λ (x : Option Member). is_some x) (find-others c d ms (other-way c d other))
      ∙ live-conns d ms ∙ s.there;
}

but-left : (c : ℕ) (ms : List Member) (q : List ℕ) → Shape ms q → ShapeBut c (others c ms) q
but-left c ms [] s = tt
but-left c ms (d ∷ ds) s = (
  λ other. left-seat Downloads c d ms other s.0,
  all-so (Seat Waits ms) (λ x. (x == c) ≡ false → Seat Waits (others c ms) x) ds (λ x a other. left-seat Waits c x ms other a) s.1,
)

once-or : (c : ℕ) (q : List ℕ) → Once q → OnceIn c q ⊎ NotIn c q
once-or c [] once = inr tt
once-or c (d ∷ ds) once = by (d == c) refl (once-or c ds once.1)
  where
    by : (b : Bool) → (d == c) ≡ b → OnceIn c ds ⊎ NotIn c ds → OnceIn c (d ∷ ds) ⊎ NotIn c (d ∷ ds)
    by true is rest = inl (inl (is, subst (λ (x : ℕ). NotIn x ds) (eqb-true d c is) once.0))
    by false is (inl here) = inl (inr (is, here))
    by false is (inr none) = inr (is, none)

removed-once : (c : ℕ) (q : List ℕ) → Once q → Once (removed c q)
removed-once c [] once = tt
removed-once c (d ∷ ds) once = by (d == c) (removed-once c ds once.1)
  where
    by : (b : Bool) → Once (removed c ds) → Once (cond b ds (d ∷ removed c ds))
    by true rest = once.1
    by false rest = (none-removed d c ds once.0, rest)

-- the others behind the first one
removed-waits : (c : ℕ) (ms : List Member) (ds : List ℕ) → Once ds → AllByRecursion (λ x. (x == c) ≡ false → Seat Waits ms x) ds
    → AllByRecursion (Seat Waits ms) (removed c ds)
removed-waits c ms [] once a = tt
removed-waits c ms (d ∷ ds) once a = by (d == c) refl (removed-waits c ms ds once.1 a.1)
  where
    rest : (xs : List ℕ) → NotIn c xs → AllByRecursion (λ x. (x == c) ≡ false → Seat Waits ms x) xs → AllByRecursion (Seat Waits ms) xs
    rest [] n s = tt
    rest (x ∷ xs) n s = (s.0 n.0, rest xs n.1 s.1)

    by : (b : Bool) → (d == c) ≡ b → AllByRecursion (Seat Waits ms) (removed c ds)
        → AllByRecursion (Seat Waits ms) (cond b ds (d ∷ removed c ds))
    by true is later = rest ds (subst (λ (x : ℕ). NotIn x ds) (eqb-true d c is) once.0) a.1
    by false is later = (a.0 is, later)

-- the next one begins
begun-shape : (f : ℕ) (fs : List ℕ) (u : Table) → u.queue ≡ f ∷ fs → Seat Waits u.members f → AllByRecursion (Seat Waits u.members) fs
    → Once (f ∷ fs) → Queued (begins f u).table
begun-shape f fs u q seat rest once =
    let k = there-found f u.members seat.there in
    let P : Option Member → Type 0 = λ x. Queued (where_some x begins_where u).table in
    subst P (sym k.1) (by (is_in MapWait k.0) k.0 (found-on f u.members k.0 k.1) refl
    (among-all (λ m. (m.conn == f) ≡ true → Waits m) k.0 u.members (found-among (is_on f) k.0 u.members k.1) seat.each
    (eq-eqb k.0.conn f (found-on f u.members k.0 k.1))))
  where
    by : (b : Bool) (m : Member) → m.conn ≡ f → is_in MapWait m ≡ b → Waits m → Queued (where_ b (begins_for m) u).table
    by false m at is wait = absurd (let e : is_in MapWait m ≡ true = eq-eqb (rank m.status) 5 wait in cc)
    by true m at is wait =
        let n : Member = downloading u m in
        record {
          shape = subst (λ (xs : List ℕ). Shape (put n u.members) xs) (sym q) (
            record {
              each = subst (λ (x : ℕ). AllByRecursion (λ y. (y.conn == x) ≡ true → Downloads y) (put n u.members)) at
                  (put-own Downloads n u.members (omega arith, omega arith));
              there = put-there n u.members f seat.there;
            },
            kept n at fs once.0 rest,
          );
          once = subst Once (sym q) once;
        }
      where
        kept : (n : Member) → n.conn ≡ f → (xs : List ℕ) → NotIn f xs → AllByRecursion (Seat Waits u.members) xs
            → AllByRecursion (Seat Waits (put n u.members)) xs
        kept n at [] none a = tt
        kept n at (x ∷ xs) none a = (
          put-seat Waits n u.members x (λ here. absurd (let e : (n.conn == x) ≡ false = ap (λ (y : ℕ). y == x) at ∙ other-way f x none.0
              in cc)) a.0,
          kept n at xs none.1 a.1,
        )

-- it is the first one that leaves, or another
left-by : (b : Bool) (c d : ℕ) (ds : List ℕ) (t : Table) → (d == c) ≡ b → ShapeBut c t.members (d ∷ ds) → Once (d ∷ ds)
    → (let k : ℕ = cond (not b) (1 + place_in c ds) 0 in
    Queued (moved_up k (drop (k + 1) (d ∷ ds)) (record t { queue = take k (d ∷ ds) ++ drop (k + 1) (d ∷ ds) })).table)
left-by true c d [] t is s once = record { shape = tt; once = tt }
left-by true c d (f ∷ fs) t is s once =
    let u : Table = record t { queue = f ∷ fs } in
    let at : d ≡ c = eqb-true d c is in
    let none : NotIn c (f ∷ fs) = subst (λ (x : ℕ). NotIn x (f ∷ fs)) at once.0 in
    let seats : AllByRecursion (Seat Waits t.members) (f ∷ fs) = all-other c t.members (f ∷ fs) none s.1 in
    subst Queued (sym (later-stays c 0 fs (begins f u).table)) (begun-shape f fs u refl seats.0 seats.1 once.1)
  where
    all-other : (c : ℕ) (ms : List Member) (xs : List ℕ) → NotIn c xs → AllByRecursion (λ x. (x == c) ≡ false → Seat Waits ms x) xs
        → AllByRecursion (Seat Waits ms) xs
    all-other c ms [] n a = tt
    all-other c ms (x ∷ xs) n a = (a.0 n.0, all-other c ms xs n.1 a.1)
left-by false c d ds t is s once =
    subst (λ (k : ℕ). Queued (moved_up k (drop (k + 1) (d ∷ ds)) (record t { queue = take k (d ∷ ds) ++ drop (k + 1) (d ∷ ds) })).table)
    one (behind (place_in c ds) refl)
  where
    one : suc (place_in c ds) ≡ 1 + place_in c ds
    one = omega arith

    behind : (k : ℕ) → place_in c ds ≡ k
        → Queued (moved_up (suc k) (drop (suc k + 1) (d ∷ ds)) (record t {
          queue = take (suc k) (d ∷ ds) ++ drop (suc k + 1)
              (d ∷ ds);
        })).table
    behind k place =
        let cut : take k ds ++ drop (k + 1) ds ≡ removed c ds = subst (λ (j : ℕ). take j ds ++ drop (j + 1) ds ≡ removed c ds) place
        (removed-is c ds) in
        let step : suc k + 1 ≡ suc (k + 1) = omega arith in
        let same : take (suc k) (d ∷ ds) ++ drop (suc k + 1) (d ∷ ds) ≡ d ∷ removed c ds =
        ap (λ (j : ℕ). d ∷ take k ds ++ drop j (d ∷ ds)) step ∙ ap (λ (xs : List ℕ). d ∷ xs) cut in
        subst Queued (sym (later-stays c k (drop (suc k + 1) (d ∷ ds)) (record t {
          queue = take (suc k) (d ∷ ds) ++ drop (suc k + 1) (d ∷ ds);
        }))) (record {
          shape = subst (λ (xs : List ℕ). Shape t.members xs) (sym same) (s.0 is, removed-waits c t.members ds once.1 s.1);
          once = subst Once (sym same) (none-removed d c ds once.0, removed-once c ds once.1);
        })

left-queue : (q : List ℕ) (c : ℕ) (t : Table) → t.queue ≡ q → ShapeBut c t.members q → Once q
    → Queued (where_some (cond (nat_lt (place_in c q) (length q)) (Some (place_in c q)) None) left_place t).table
left-queue [] c t is s once = record { shape = subst (λ (xs : List ℕ). Shape t.members xs) (sym is) tt; once = subst Once (sym is) tt }
left-queue (d ∷ ds) c t is s once = by (nat_lt (place_in c (d ∷ ds)) (length (d ∷ ds))) refl
  where
    by : (b : Bool) → nat_lt (place_in c (d ∷ ds)) (length (d ∷ ds)) ≡ b
        → Queued (where_some (cond b (Some (place_in c (d ∷ ds))) None) left_place t).table
    by true test =
        let k : ℕ = place_in c (d ∷ ds) in
        subst (λ (xs : List ℕ). Queued (moved_up k (drop (k + 1) xs) (record t { queue = take k xs ++ drop (k + 1) xs })).table) (sym is)
        (left-by (d == c) c d ds t refl s once)
    by false test =
        let none : NotIn c (d ∷ ds) = not-found c (d ∷ ds) test (once-or c (d ∷ ds) once) in
        record {
          shape = subst (λ (xs : List ℕ). Shape t.members xs) (sym is) (but-none c t.members (d ∷ ds) none s);
          once = subst Once (sym is) once;
        }

leaves-queue-shape : (c : ℕ) (t : Table) → ShapeBut c t.members t.queue → Once t.queue → Queued (leaves_queue c t).table
leaves-queue-shape c t s once = left-queue t.queue c t refl s once

-- ---- a member asks for the map

among-found : (m : Member) (ms : List Member) → Among m ms → (k : Member) × (find (is_on m.conn) ms ≡ Some k)
among-found m ms on = there-found m.conn ms (among-there m ms on)

once-last : (c : ℕ) (q : List ℕ) → NotIn c q → Once q → Once (q ++ c ∷ [])
once-last c [] none once = (tt, tt)
once-last c (d ∷ ds) none once = (all-append (IsOther d) ds (c ∷ []) once.0 (other-way c d none.0, tt), once-last c ds none.1 once.1)

asks-shape : (q : List ℕ) (m : Member) (t : Table) → On t m → NotIn m.conn q → Shape t.members q → Once q
    → Queued (moved_up (length q) (m.conn ∷ []) (record (with_member (now_in MapWait t m) t) { queue = q ++ m.conn ∷ [] })).table
asks-shape [] m t on none s once =
    let n : Member = now_in MapWait t m in
    let v : Table = record (with_member n t) { queue = m.conn ∷ [] } in
    let d : Member = downloading v n in
    let k = among-found m t.members on in
    let P : Option Member → Type 0 = λ x. Queued (where_some x begins_where v).table in
    subst P (sym (find-put-here n k.0 t.members k.1)) (record {
      shape = (
        record {
          each = put-own Downloads d (put n t.members) (omega arith, omega arith);
          there = put-there d (put n t.members) m.conn (put-there n t.members m.conn (among-there m t.members on));
        },
        tt,
      );
      once = (tt, tt);
    })
asks-shape (d ∷ ds) m t on none s once =
    let n : Member = now_in MapWait t m in
    record {
      shape = (
        put-seat Downloads n t.members d (λ at. absurd (let e : (n.conn == d) ≡ false = other-way n.conn d none.0 in cc)) s.0,
        all-append (Seat Waits (put n t.members)) ds (m.conn ∷ []) (kept n ds none.1 s.1) (
          record {
            each = put-own Waits n t.members refl;
            there = put-there n t.members m.conn (among-there m t.members on);
          },
          tt,
        ),
      );
      once = once-last m.conn (d ∷ ds) none once;
    }
  where
    kept : (n : Member) (xs : List ℕ) → NotIn n.conn xs → AllByRecursion (Seat Waits t.members) xs
        → AllByRecursion (Seat Waits (put n t.members)) xs
    kept n [] away a = tt
    kept n (x ∷ xs) away a = (
      put-seat Waits n t.members x (λ at. absurd (let e : (n.conn == x) ≡ false = other-way n.conn x away.0 in cc)) a.0,
      kept n xs away.1 a.1,
    )

-- ---- a member enters the game, or goes

enters-shape : (m : Member) (t : Table) → Queued t → Queued (enters m t).table
enters-shape m t h =
    let n : Member = record (now_in PreActive t m) { acked = m.map_frame; told = t.top } in
    let u : Table = with_member n t in
    let p : Member = opened_token (fresh_token t.tokens) u n in
    let w : Table = with_member p (record u { tokens = next_random t.tokens }) in
    leaves-queue-shape m.conn w (but-put p (put n t.members) t.queue (but-put n t.members t.queue
    (but-of m.conn t.members t.queue h.shape)))
    h.once

farewell-stays : (b : Bool) (f : Farewell) (m : Member) (u : Table) → Queued (leaves_queue m.conn u).table
    → Queued (leaves_queue m.conn (where_ b (tells_farewell f m) u).table).table
farewell-stays true Quitting m u h = h
farewell-stays true (Failing code) m u h = h
farewell-stays false f m u h = h

leaves-shape : (m : Member) (f : Farewell) (t : Table) → Queued t → Queued (leaves m f t).table
leaves-shape m f t h = farewell-stays (is_welcomed m) f m (without_member m.conn t) (leaves-queue-shape m.conn (without_member m.conn t)
    (but-left m.conn t.members t.queue h.shape) h.once)

-- ---- a member changes

asked-low : (o : Origin) (e : Event) (t : Table) (m : Member) (name : List ℕ) (asked : ℕ) → Asks o e t m name asked → rank m.status ≤ 4
asked-low o e t m name asked (inl before) = omega (arith, before.3)
asked-low o e t m name asked (inr now) = omega (arith, now.0)

turned-down : (c : Change) (o : Origin) (e : Event) (t : Table) (m : Member) → May o e t m c → Downloads m → Downloads (turned c t m)
turned-down (wants_password true name asked) o e t m may h = let l = asked-low o e t m name asked may in absurd (omega (arith, l, h.0))
turned-down (wants_password false name asked) o e t m may h = let l = asked-low o e t m name asked may in absurd (omega (arith, l, h.0))
turned-down (is_let_in name asked) o e t m may h = let l = asked-low o e t m name asked may in absurd (omega (arith, l, h.0))
turned-down gets_token o e t m may h = h
turned-down gets_frame o e t m may h = h
turned-down (answers frame token) o e t m may h = by (token == 0)
  where
    by : (b : Bool) → Downloads (record (cond b m (closed_token m)) { acked = frame })
    by true = h
    by false = h
turned-down plays o e t m may h = absurd (omega (arith, may, h.1))
turned-down (commands company code number to text command) o e t m may h = h
turned-down (has_name name) o e t m may h = h
turned-down (goes_to company digest) o e t m may h = h
turned-down (founds company) o e t m may h = h
turned-down (gets_pieces left) o e t m may h = h
turned-down has_all o e t m may h = (omega arith, omega arith)

turned-wait : (c : Change) (o : Origin) (e : Event) (t : Table) (m : Member) → May o e t m c → Waits m → Waits (turned c t m)
turned-wait (wants_password true name asked) o e t m may h = let l = asked-low o e t m name asked may in absurd (omega (arith, l, h))
turned-wait (wants_password false name asked) o e t m may h = let l = asked-low o e t m name asked may in absurd (omega (arith, l, h))
turned-wait (is_let_in name asked) o e t m may h = let l = asked-low o e t m name asked may in absurd (omega (arith, l, h))
turned-wait gets_token o e t m may h = h
turned-wait gets_frame o e t m may h = h
turned-wait (answers frame token) o e t m may h = by (token == 0)
  where
    by : (b : Bool) → Waits (record (cond b m (closed_token m)) { acked = frame })
    by true = h
    by false = h
turned-wait plays o e t m may h = absurd (omega (arith, may, h))
turned-wait (commands company code number to text command) o e t m may h = h
turned-wait (has_name name) o e t m may h = h
turned-wait (goes_to company digest) o e t m may h = h
turned-wait (founds company) o e t m may h = h
turned-wait (gets_pieces left) o e t m may h = h
turned-wait has_all o e t m may h = absurd (omega (arith, may, h))

-- ---- the walk

abbrev KeepsQueue : Table → List Step → Table → Type 0
KeepsQueue t steps u = Ordered t → Queued t → Ordered u × Queued u

same-queue : (t u : Table) → u.members ≡ t.members → u.queue ≡ t.queue → Queued t → Queued u
same-queue t u members queue h = record { shape = rw (members, queue) h.shape; once = rw queue h.once }

queue-turns : (o : Origin) (e : Event) → Turns o e KeepsQueue
queue-turns o e c t m on may by r h = (
  order-turns o e c t m on may by r,
  record {
    shape = shape-turn (turned c t m) m t.members t.queue on (turned-conn c t m) (turned-down c o e t m may) (turned-wait c o e t m may)
        h.shape;
    once = h.once;
  },
)

queue-base : (o : Origin) (e : Event) → Base o e KeepsQueue
queue-base o e = record {
  still = λ t r h. (r, h);
  joins = λ t u v xs ys a b r h. let one = a r h in b one.0 one.1;
  turns = ahead-of o e KeepsQueue (queue-turns o e);
  tells_one = λ t m msg on talk r h. (r, h);
  tells_some = λ t to w there news r h. (r, h);
  tells_admins = λ t to n there is r h. (r, h);
}

queue-walk : (o : Origin) (e : Event) → Walk o e KeepsQueue
queue-walk o e = record {
  base = queue-base o e;
  locks = λ t m digest on allowed r h. ((order-walk o e).locks t m digest on allowed r, same-queue t _ refl refl h);
  orders = λ t c is still r h. ((order-walk o e).orders t c is still r, same-queue t _ refl refl h);
  asks_map = λ t m on at r h. (
    (order-walk o e).asks_map t m on at r,
    asks-shape t.queue m t on (none-queued m t.members t.queue on (λ d. omega (arith, at, d.0)) (λ w. omega (arith, at, w)) h.shape) h.shape
        h.once,
  );
  enters_game = λ t m on at r h. ((order-walk o e).enters_game t m on at r, enters-shape m t h);
  goes = λ t m farewell on is r h. ((order-walk o e).goes t m farewell on is r, leaves-shape m farewell t h);
  settles = λ t a b on is r h. ((order-walk o e).settles t a b on is r, same-queue t _ refl refl h);
  goes_aside = λ t a on r h. ((order-walk o e).goes_aside t a on r, same-queue t _ refl refl h);
}

-- ---- the doors

any-low : (n d : ℕ) (xs : List ℕ) → AllByRecursion (λ c. c ≤ n) xs → list_any (λ x. x == d) xs ≡ true → d ≤ n
any-low n d [] a is = absurd cc
any-low n d (x ∷ xs) a is = by (x == d) refl is (λ found. any-low n d xs a.1 found)
  where
    by : (b : Bool) → (x == d) ≡ b → (b || list_any (λ y. y == d) xs) ≡ true → (list_any (λ y. y == d) xs ≡ true → d ≤ n) → d ≤ n
    by true at found next = let l : x ≤ n = a.0 in let e : x ≡ d = eqb-true x d at in omega (arith, l, e)
    by false at found next = next found

any-front : (d : ℕ) (ms : List Member) (new : Member) → list_any (λ x. x == d) (conns ms) ≡ true
    → list_any (λ x. x == d) (conns (ms ++ new ∷ [])) ≡ true
any-front d [] new is = absurd cc
any-front d (m ∷ ms) new is = by (m.conn == d) is (λ found. any-front d ms new found)
  where
    by : (b : Bool) → (b || list_any (λ x. x == d) (conns ms)) ≡ true → (list_any (λ x. x == d) (conns ms) ≡ true
        → list_any (λ x. x == d) (conns (ms ++ new ∷ [])) ≡ true) → (b || list_any (λ x. x == d) (conns (ms ++ new ∷ []))) ≡ true
    by true found next = refl
    by false found next = next found

come-seat : (P : Member → Type 0) (n : ℕ) (ms : List Member) (new : Member) (d : ℕ) → AllByRecursion (λ c. c ≤ n) (conns ms)
    → new.conn ≡ n + 1
    → Seat P ms d → Seat P (ms ++ new ∷ []) d
come-seat P n ms new d under is s =
    let low : d ≤ n = any-low n d (conns ms) under s.there in
    record {
      each = all-append (λ m. (m.conn == d) ≡ true → P m) ms (new ∷ []) s.each
          (λ at. absurd (let e : new.conn ≡ d = eqb-true new.conn d at in omega (arith, e, is, low)), tt);
      there = any-front d ms new s.there;
    }

come-shape : (n : ℕ) (ms : List Member) (new : Member) (q : List ℕ) → AllByRecursion (λ c. c ≤ n) (conns ms) → new.conn ≡ n + 1 → Shape ms q
    → Shape (ms ++ new ∷ []) q
come-shape n ms new [] under is s = tt
come-shape n ms new (d ∷ ds) under is s = (
  come-seat Downloads n ms new d under is s.0,
  all-so (Seat Waits ms) (Seat Waits (ms ++ new ∷ [])) ds (λ x a. come-seat Waits n ms new x under is a) s.1,
)

arrives-queue : (full : Bool) (t : Table) → Ordered t → Queued t → Queued (arrives full (counted_in t)).table
arrives-queue true t r h = same-queue t _ refl refl h
arrives-queue false t r h = record { shape = come-shape t.openings t.members _ t.queue r.under refl h.shape; once = h.once }

aside-queue : (full : Bool) (t : Table) → Queued t → Queued (admin_arrives full (counted_aside t)).table
aside-queue true t h = same-queue t _ refl refl h
aside-queue false t h = same-queue t _ refl refl h

queue-doors : (o : Origin) (e : Event) → Doors o e KeepsQueue
queue-doors o e = record {
  comes = λ t r h. ((order-doors o e).comes t r, arrives-queue (nat_le o.setup.max_clients (length t.members)) t r h);
  comes_aside = λ t r h. ((order-doors o e).comes_aside t r, aside-queue (nat_le most_admins (length t.admins)) t h);
}

drawn-seat : (P : Member → Type 0) (ms : List Member) (d : ℕ) → ((m : Member) → P m → P (drawn m)) → Seat P ms d → Seat P (map drawn ms) d
drawn-seat P ms d step s = record {
  each = all-map (λ m. (m.conn == d) ≡ true → P m) (λ m. (m.conn == d) ≡ true → P m) drawn ms (λ m p at. step m (p at)) s.each;
  there = ap (λ (xs : List ℕ). list_any (λ x. x == d) xs) (map-same (λ (m : Member). m.conn) drawn ms (λ m. refl)) ∙ s.there;
}

drawn-shape : (ms : List Member) (q : List ℕ) → Shape ms q → Shape (map drawn ms) q
drawn-shape ms [] s = tt
drawn-shape ms (d ∷ ds) s = (
  drawn-seat Downloads ms d (λ m p. p) s.0,
  all-so (Seat Waits ms) (Seat Waits (map drawn ms)) ds (λ x a. drawn-seat Waits ms x (λ m p. p) a) s.1,
)

run-queue : (b : Bool) (o : Origin) (t : Table) → Queued t → Queued (running b o t)
run-queue true o t h = same-queue t _ refl refl h
run-queue false o t h = same-queue t _ refl refl h

queue-ticks : (o : Origin) (e : Event) → Ticks o e KeepsQueue
queue-ticks o e = record {
  stamping = λ t r h. ((order-ticks o e).stamping t r, record { shape = drawn-shape t.members t.queue h.shape; once = h.once });
  behind = behind-of o e KeepsQueue (queue-turns o e);
  running = λ t b is r h. ((order-ticks o e).running t b is r, run-queue b o t h);
}

queue-closing : (o : Origin) (e : Event) → Closing o e KeepsQueue
queue-closing o e = record {
  charges = λ t r h. ((order-closing o e).charges t r, same-queue t _ refl refl h);
  closes = λ t r h. ((order-closing o e).closes t r, record { shape = tt; once = tt });
}

step-queue : (o : Origin) (e : Event) (t : Table) → Ordered t × Queued t → Ordered (stepped o t e) × Queued (stepped o t e)
step-queue o e t h = of-deed o e KeepsQueue (queue-walk o e) (queue-ticks o e) (queue-doors o e) (queue-closing o e) t h.0 h.1

-- ---- what a reader is told of it

rank-down : (s : Status) → 6 ≤ rank s → rank s ≤ 7 → ((rank s == 6) || (rank s == 7)) ≡ true
rank-down Inactive low high = absurd (omega (arith, low))
rank-down NewgrfsCheck low high = absurd (omega (arith, low))
rank-down AuthGame low high = absurd (omega (arith, low))
rank-down AuthCompany low high = absurd (omega (arith, low))
rank-down Authorized low high = absurd (omega (arith, low))
rank-down MapWait low high = absurd (omega (arith, low))
rank-down Map low high = refl
rank-down DoneMap low high = refl
rank-down PreActive low high = absurd (omega (arith, high))
rank-down Active low high = absurd (omega (arith, high))

seat-member : (P : Member → Type 0) (test : Member → Bool) (t : Table) (d : ℕ) → ((m : Member) → P m → test m ≡ true) → Seat P t.members d
    → IsMember test t d
seat-member P test t d passes s =
    let k = there-found d t.members s.there in (
      k.0,
      k.1,
      passes k.0 (among-all (λ m. (m.conn == d) ≡ true → P m) k.0 t.members (on-found t d k.0 k.1) s.each
          (eq-eqb k.0.conn d (found-on d t.members k.0 k.1))),
    )

shape-queue : (t : Table) (q : List ℕ) → Shape t.members q → IsQueue t q
shape-queue t [] s = tt
shape-queue t (d ∷ ds) s = (
  seat-member Downloads is_downloading t d (λ m p. rank-down m.status p.0 p.1) s.0,
  all-so (Seat Waits t.members) (IsMember (is_in MapWait) t) ds (λ x a. seat-member Waits (is_in MapWait) t x (λ m p. eq-eqb
      (rank m.status) 5 p)
      a) s.1,
)

pub is-queue : (o : Origin) (es : List Event) → IsQueue (table_of o es) (table_of o es).queue
is-queue o es = shape-queue (table_of o es) (table_of o es).queue (from-all o (λ t. Ordered t × Queued t) (step-queue o) es (first o)
    (is-ordered o [], record { shape = tt; once = tt })).1.shape
