-- Members and admins stand in the order of their connections, each on one of its own; client numbers rise in the same order.
use Rattle.std.proofs.Common.{◌≡◌, inl, inr, ℕ, ◌+◌, ◌≤◌, ◌<◌, List, [], ◌∷◌, ◌++◌, refl, ap, ap₂, sym, ◌∙◌, subst, true, false, Bool, Some}
use Rattle.std.proofs.Common.{None, arith}
use Rattle.std.specs.Prelude.{◌==◌, length, nat_le, map, filter, find, cond, not}
use Rattle.std.specs.List.{AllByRecursion}
use Rattle.std.proofs.lemmas.Bool.{eq-eqb, ne_eqb}
use Rattle.tt_edge.specs.declared.event.Event.{Event}
use Rattle.tt_log.specs.declared.deed.Step.{Step}
use Rattle.tt_log.specs.Origin.{Origin}
use Rattle.tt_log.specs.Member.{Member, new_member}
use Rattle.tt_log.specs.Admin.{Admin, new_admin}
use Rattle.tt_log.specs.Table.{Table, first, is_on, is_admin_on, member_of, admin_of}
use Rattle.tt_log.specs.Desk.{admin_arrives, counted_aside, most_admins}
use Rattle.tt_log.specs.Tick.{drawn}
use Rattle.tt_log.specs.Events.{arrives, counted_in, stepped}
use Rattle.tt_log.specs.History.{table_of, AreRising}
use Rattle.tt_log.proofs.Lists.{Among, NotIn, IsOther, all-so, all-of-filter, among-all}
use Rattle.tt_log.proofs.Crew.{On, put, conns, admin_conns, put-conns, put-admin-conns, on-found, found-on}
use Rattle.tt_log.proofs.Changes.{turned-conn, turned-client, moved-conn, moved-client, turned, moved}
use Rattle.tt_log.proofs.Walk.{Turns, ahead-of, behind-of}
use Rattle.tt_log.proofs.Walk.{Base, Walk, Doors, Closing, Moves, Ticks, running, of-asks, of-enters, of-leaves, of-deed}
use Rattle.tt_log.proofs.Clock.{from-all}

-- ---- lists that rise

pub rise-from : (j k : ℕ) (xs : List ℕ) → j ≤ k → AreRising k xs → AreRising j xs
rise-from j k [] l r = tt
rise-from j k (x ∷ xs) l r = let a : k < x = r.0 in (omega (arith, l, a), r.1)

pub rise-filter : {A : Type 0} (f : A → ℕ) (p : A → Bool) (k : ℕ) (xs : List A) → AreRising k (map f xs) → AreRising k (map f (filter p xs))
rise-filter f p k [] r = tt
rise-filter f p k (x ∷ xs) r = let a : k < f x = r.0 in
    elim (p x) as (λ b. AreRising k (map f (cond b (x ∷ filter p xs) (filter p xs)))) [
      | true ↦ (r.0, rise-filter f p (f x) xs r.1)
      | false ↦ rise-from k (f x) (map f (filter p xs)) (omega (arith, a))
          (rise-filter f p (f x) xs r.1)
    ]

pub all-map-filter : {A : Type 0} (Q : ℕ → Type 0) (f : A → ℕ) (p : A → Bool) (xs : List A) → AllByRecursion Q (map f xs)
    → AllByRecursion Q (map f (filter p xs))
all-map-filter Q f p [] a = tt
all-map-filter Q f p (x ∷ xs) a = elim (p x) as (λ b. AllByRecursion Q (map f (cond b (x ∷ filter p xs) (filter p xs)))) [
  | true ↦
      (a.0, all-map-filter Q f p xs a.1)
  | false ↦ all-map-filter Q f p xs a.1
]

pub rise-more : {A : Type 0} (f : A → ℕ) (k n : ℕ) (xs : List A) (new : A) → AreRising k (map f xs) → AllByRecursion (λ x. x ≤ n) (map f xs)
    → k ≤ n → n < f new → AreRising k (map f (xs ++ new ∷ []))
rise-more f k n [] new r a l above = (omega (arith, l, above), tt)
rise-more f k n (x ∷ xs) new r a l above = (r.0, rise-more f (f x) n xs new r.1 a.1 a.0 above)

pub all-more : {A : Type 0} (Q : ℕ → Type 0) (f : A → ℕ) (xs : List A) (new : A) → AllByRecursion Q (map f xs) → Q (f new)
    → AllByRecursion Q (map f (xs ++ new ∷ []))
all-more Q f [] new a q = (q, tt)
all-more Q f (x ∷ xs) new a q = (a.0, all-more Q f xs new a.1 q)

pub map-same : {A : Type 0} (f : A → ℕ) (g : A → A) (xs : List A) → ((x : A) → f (g x) ≡ f x) → map f (map g xs) ≡ map f xs
map-same f g [] same = refl
map-same f g (x ∷ xs) same = ap₂ (λ (y : ℕ) (ys : List ℕ). y ∷ ys) (same x) (map-same f g xs same)

pub rising-not : (k c : ℕ) (xs : List ℕ) → c ≤ k → AreRising k xs → NotIn c xs
rising-not k c [] l r = tt
rising-not k c (x ∷ xs) l r = let a : k < x = r.0 in (ne_eqb x c (λ e. omega (arith, e, l, a)), rising-not x c xs (omega (arith, l, a)) r.1)

pub under-not : (n c : ℕ) (xs : List ℕ) → n < c → AllByRecursion (λ x. x ≤ n) xs → NotIn c xs
under-not n c [] l a = tt
under-not n c (x ∷ xs) l a = let b : x ≤ n = a.0 in (ne_eqb x c (λ e. omega (arith, e, l, b)), under-not n c xs l a.1)

under-later : (n : ℕ) (xs : List ℕ) → AllByRecursion (λ x. x ≤ n) xs → AllByRecursion (λ x. x ≤ n + 1) xs
under-later n xs a = all-so (λ (x : ℕ). x ≤ n) (λ (x : ℕ). x ≤ n + 1) xs (λ x l. omega (arith, l)) a

-- ---- the members' client numbers

abbrev pub clients : List Member → List ℕ
clients ms = map (λ (m : Member). m.client) ms

pub rising-above : (k : ℕ) (m : Member) (ms : List Member) → AreRising k (conns ms) → Among m ms → k < m.conn
rising-above k m [] r there = absurd there
rising-above k m (x ∷ xs) r (inl here) = subst (λ (y : Member). k < y.conn) here r.0
rising-above k m (x ∷ xs) r (inr later) = let a : k < x.conn = r.0 in let b : x.conn < m.conn = rising-above x.conn m xs r.1 later in
    omega (arith, a, b)

put-none : (n : Member) (ms : List Member) → NotIn n.conn (conns ms) → put n ms ≡ ms
put-none n [] a = refl
put-none n (x ∷ xs) a = rw a.0 (ap (λ (ys : List Member). x ∷ ys) (put-none n xs a.1))

-- in rising order one connection has one member
pub put-clients : (k : ℕ) (n m : Member) (ms : List Member) → AreRising k (conns ms) → Among m ms → n.conn ≡ m.conn → n.client ≡ m.client
    → clients (put n ms) ≡ clients ms
put-clients k n m [] r there c e = refl
put-clients k n m (x ∷ xs) r (inl here) c e =
    let at : x.conn ≡ n.conn = ap (λ (y : Member). y.conn) here ∙ sym c in
    let own : n.client ≡ x.client = e ∙ sym (ap (λ (y : Member). y.client) here) in
    let is : (x.conn == n.conn) ≡ true = eq-eqb x.conn n.conn at in
    let rest : put n xs ≡ xs = put-none n xs (rising-not x.conn n.conn (conns xs) (omega (arith, at)) r.1) in
    ap₂ (λ (b : Bool) (ys : List Member). (cond b n x).client ∷ clients ys) is rest ∙ ap (λ (y : ℕ). y ∷ clients xs) own
put-clients k n m (x ∷ xs) r (inr later) c e =
    let above : x.conn < m.conn = rising-above x.conn m xs r.1 later in
    let is : (x.conn == n.conn) ≡ false = ne_eqb x.conn n.conn (λ same. omega (arith, same, c, above)) in
    ap₂ (λ (b : Bool) (ys : List ℕ). (cond b n x).client ∷ ys) is (put-clients x.conn n m xs r.1 later c e)

-- ---- what is in order

pub record IsOrdered (openings last : ℕ) (members numbers admins : List ℕ) : Type 0 where
  pub rise : AreRising 0 members
  pub under : AllByRecursion (λ c. c ≤ openings) members
  pub clients : AreRising 1 numbers
  pub given : AllByRecursion (λ k. k ≤ last) numbers
  pub some : 1 ≤ last
  pub admins_rise : AreRising 0 admins
  pub admins_under : AllByRecursion (λ c. c ≤ openings) admins
  -- nobody is both
  pub apart : AllByRecursion (λ a. NotIn a members) admins

abbrev pub Ordered : Table → Type 0
Ordered t = IsOrdered t.openings t.clients (conns t.members) (clients t.members) (admin_conns t.admins)

abbrev pub KeepsOrder : Table → List Step → Table → Type 0
KeepsOrder t steps u = Ordered t → Ordered u

same-ordered : (openings last : ℕ) (xs ys ks ls admins : List ℕ) → ys ≡ xs → ls ≡ ks → IsOrdered openings last xs ks admins
    → IsOrdered openings last ys ls admins
same-ordered openings last xs ys ks ls admins e f h = rw (e, f) h

put-ordered : (t : Table) (n m : Member) → On t m → n.conn ≡ m.conn → n.client ≡ m.client → Ordered t
    → IsOrdered t.openings t.clients (conns (put n t.members)) (clients (put n t.members)) (admin_conns t.admins)
put-ordered t n m on c e h = same-ordered t.openings t.clients _ _ _ _ _ (put-conns n t.members) (put-clients 0 n m t.members h.rise on c e)
    h

fewer-ordered : (p : Member → Bool) (t : Table) → Ordered t → IsOrdered t.openings t.clients (conns (filter p t.members))
    (clients (filter p t.members)) (admin_conns t.admins)
fewer-ordered p t h = record {
  rise = rise-filter (λ (m : Member). m.conn) p 0 t.members h.rise;
  under = all-map-filter (λ c. c ≤ t.openings) (λ (m : Member). m.conn) p t.members h.under;
  clients = rise-filter (λ (m : Member). m.client) p 1 t.members h.clients;
  given = all-map-filter (λ k. k ≤ t.clients) (λ (m : Member). m.client) p t.members h.given;
  some = h.some;
  admins_rise = h.admins_rise;
  admins_under = h.admins_under;
  apart = all-so (λ a. NotIn a (conns t.members)) _ (admin_conns t.admins) (λ a none. all-of-filter (λ (m : Member). m.conn) p a t.members
      none) h.apart;
}

fewer-admins : (p : Admin → Bool) (t : Table) → Ordered t → IsOrdered t.openings t.clients (conns t.members) (clients t.members)
    (admin_conns (filter p t.admins))
fewer-admins p t h = record {
  rise = h.rise;
  under = h.under;
  clients = h.clients;
  given = h.given;
  some = h.some;
  admins_rise = rise-filter (λ (a : Admin). a.conn) p 0 t.admins h.admins_rise;
  admins_under = all-map-filter (λ c. c ≤ t.openings) (λ (a : Admin). a.conn) p t.admins h.admins_under;
  apart = all-map-filter (λ a. NotIn a (conns t.members)) (λ (a : Admin). a.conn) p t.admins h.apart;
}

none-ordered : (openings last : ℕ) → 1 ≤ last → IsOrdered openings last [] [] []
none-ordered openings last some = record {
  rise = tt;
  under = tt;
  clients = tt;
  given = tt;
  some = some;
  admins_rise = tt;
  admins_under =
      tt;
  apart = tt;
}

-- ---- the walk

pub order-turns : (o : Origin) (e : Event) → Turns o e KeepsOrder
order-turns o e c t m on may by h = put-ordered t (turned c t m) m on (turned-conn c t m) (turned-client c t m) h

pub order-base : (o : Origin) (e : Event) → Base o e KeepsOrder
order-base o e = record {
  still = λ t h. h;
  joins = λ t u v xs ys a b h. b (a h);
  turns = ahead-of o e KeepsOrder (order-turns o e);
  tells_one = λ t m msg on talk h. h;
  tells_some = λ t to w there news h. h;
  tells_admins = λ t to r may is h. h;
}

pub order-moves : (o : Origin) (e : Event) → Moves o e KeepsOrder
order-moves o e = record {
  moving = λ v t m on may h. put-ordered t (moved v t m) m on (moved-conn v t m) (moved-client v t m) h;
  recalls = λ t m on at h. h;
  waits_on = λ t conn n there h. h;
  stands = λ t m on h. h;
  cuts = λ t place h. h;
  ends_one = λ t m on h. h;
  parts = λ t m on h. fewer-ordered (λ n. not (is_on m.conn n)) t h;
  greets = λ t m on at h. put-ordered t _ m on refl refl h;
}

pub order-walk : (o : Origin) (e : Event) → Walk o e KeepsOrder
order-walk o e = record {
  base = order-base o e;
  locks = λ t m digest on allowed h. h;
  orders = λ t c is still h. h;
  asks_map = λ t m on at. of-asks o e KeepsOrder (order-base o e) (order-moves o e) t m on at;
  enters_game = λ t m on at. of-enters o e KeepsOrder (order-base o e) (order-moves o e) t m on at;
  goes = λ t m farewell on is. of-leaves o e KeepsOrder (order-base o e) (order-moves o e) t m farewell on is;
  settles = λ t a b on is h. subst (λ (xs : List ℕ). IsOrdered t.openings t.clients (conns t.members) (clients t.members) xs)
      (sym (put-admin-conns b t.admins)) h;
  goes_aside = λ t a on h. fewer-admins (λ b. not (is_admin_on a.conn b)) t h;
}

later-ordered : (t : Table) (last : ℕ) → t.clients ≤ last → Ordered t → IsOrdered (t.openings + 1) last (conns t.members)
    (clients t.members) (admin_conns t.admins)
later-ordered t last l h = record {
  rise = h.rise;
  under = under-later t.openings (conns t.members) h.under;
  clients = h.clients;
  given = all-so (λ k. k ≤ t.clients) (λ k. k ≤ last) (clients t.members) (λ k a. omega (arith, a, l)) h.given;
  some = omega (arith, h.some, l);
  admins_rise = h.admins_rise;
  admins_under = under-later t.openings (admin_conns t.admins) h.admins_under;
  apart = h.apart;
}

others-new : (n : ℕ) (ms : List Member) (new : Member) (admins : List ℕ) → new.conn ≡ n + 1 → AllByRecursion (λ a. a ≤ n) admins
    → AllByRecursion (λ a. NotIn a (conns ms)) admins → AllByRecursion (λ a. NotIn a (conns (ms ++ new ∷ []))) admins
others-new n ms new [] is low apart = tt
others-new n ms new (a ∷ admins) is low apart =
    let l : a ≤ n = low.0 in (
      all-more (IsOther a) (λ (m : Member). m.conn) ms new apart.0 (ne_eqb new.conn a (λ e. omega (arith, e, is, l))),
      others-new n ms new admins is low.1 apart.1,
    )

arrives-ordered : (full : Bool) (t : Table) → Ordered t → Ordered (arrives full (counted_in t)).table
arrives-ordered true t h = later-ordered t (t.clients + 1) (omega arith) h
arrives-ordered false t h =
    let new : Member = new_member (t.openings + 1) (t.clients + 1) t.frame in
    let later = later-ordered t (t.clients + 1) (omega arith) h in
    record {
      rise = rise-more (λ (m : Member). m.conn) 0 t.openings t.members new h.rise h.under (omega arith) (omega arith);
      under = all-more (λ c. c ≤ t.openings + 1) (λ (m : Member). m.conn) t.members new later.under (omega arith);
      clients = rise-more (λ (m : Member). m.client) 1 t.clients t.members new h.clients h.given h.some (omega arith);
      given = all-more (λ k. k ≤ t.clients + 1) (λ (m : Member). m.client) t.members new later.given (omega arith);
      some = later.some;
      admins_rise = later.admins_rise;
      admins_under = later.admins_under;
      apart = others-new t.openings t.members new (admin_conns t.admins) refl h.admins_under h.apart;
    }

aside-ordered : (full : Bool) (t : Table) → Ordered t → Ordered (admin_arrives full (counted_aside t)).table
aside-ordered true t h = later-ordered t t.clients (omega arith) h
aside-ordered false t h =
    let new : Admin = new_admin (t.openings + 1) t.frame in
    let later = later-ordered t t.clients (omega arith) h in
    record {
      rise = later.rise;
      under = later.under;
      clients = later.clients;
      given = later.given;
      some = later.some;
      admins_rise = rise-more (λ (a : Admin). a.conn) 0 t.openings t.admins new h.admins_rise h.admins_under (omega arith) (omega arith);
      admins_under = all-more (λ c. c ≤ t.openings + 1) (λ (a : Admin). a.conn) t.admins new later.admins_under (omega arith);
      apart = all-more (λ a. NotIn a (conns t.members)) (λ (a : Admin). a.conn) t.admins new h.apart (under-not t.openings (t.openings + 1)
          (conns t.members) (omega arith) h.under);
    }

pub order-doors : (o : Origin) (e : Event) → Doors o e KeepsOrder
order-doors o e = record {
  comes = λ t h. arrives-ordered (nat_le o.setup.max_clients (length t.members)) t h;
  comes_aside =
      λ t h. aside-ordered (nat_le most_admins (length t.admins)) t h;
}

pub order-ticks : (o : Origin) (e : Event) → Ticks o e KeepsOrder
order-ticks o e = record {
  stamping = λ t h. same-ordered t.openings t.clients _ _ _ _ _ (map-same (λ (m : Member). m.conn) drawn t.members (λ m. refl))
      (map-same (λ (m : Member). m.client) drawn t.members (λ m. refl)) h;
  behind = behind-of o e KeepsOrder (order-turns o e);
  running = λ t b is. run-ordered b t;
}
  where
    run-ordered : (b : Bool) (t : Table) → Ordered t → Ordered (running b o t)
    run-ordered true t h = h
    run-ordered false t h = h

pub order-closing : (o : Origin) (e : Event) → Closing o e KeepsOrder
order-closing o e = record { charges = λ t h. h; closes = λ t h. none-ordered t.openings t.clients h.some }

pub step-ordered : (o : Origin) (e : Event) (t : Table) → Ordered t → Ordered (stepped o t e)
step-ordered o e t h = of-deed o e KeepsOrder (order-walk o e) (order-ticks o e) (order-doors o e) (order-closing o e) t h

pub is-ordered : (o : Origin) (es : List Event) → Ordered (table_of o es)
is-ordered o es = from-all o Ordered (step-ordered o) es (first o) (none-ordered 0 1 (omega arith))

-- ---- nobody is both

find-none : (conn : ℕ) (admins : List Admin) → NotIn conn (admin_conns admins) → find (is_admin_on conn) admins ≡ None
find-none conn [] a = refl
find-none conn (x ∷ xs) a = rw a.0 (find-none conn xs a.1)

apart-from : (conn : ℕ) (ms : List Member) (m : Member) (admins : List ℕ) → Among m ms → m.conn ≡ conn
    → AllByRecursion (λ a. NotIn a (conns ms)) admins → NotIn conn admins
apart-from conn ms m [] on at h = tt
apart-from conn ms m (a ∷ admins) on at h =
    let other : IsOther a m.conn = among-all (λ (n : Member). IsOther a n.conn) m ms on (others-all a ms h.0) in (
      ne_eqb a conn (λ same. let e : (m.conn == a) ≡ true = eq-eqb m.conn a (at ∙ sym same) in absurd cc),
      apart-from conn ms m admins on at h.1,
    )
  where
    others-all : (a : ℕ) (ms : List Member) → NotIn a (conns ms) → AllByRecursion (λ (n : Member). IsOther a n.conn) ms
    others-all a [] h = tt
    others-all a (x ∷ xs) h = (h.0, others-all a xs h.1)

pub no-admin : (t : Table) (conn : ℕ) (m : Member) → Ordered t → member_of t conn ≡ Some m → admin_of t conn ≡ None
no-admin t conn m h is = find-none conn t.admins (apart-from conn t.members m (admin_conns t.admins) (on-found t conn m is)
    (found-on conn t.members m is) h.apart)
