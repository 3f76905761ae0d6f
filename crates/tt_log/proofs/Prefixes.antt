-- Behind a member's end what was stamped of it stays the front of what was accepted of it.
use Rattle.std.proofs.Common.{◌≡◌, inl, inr, ℕ, ◌+◌, ◌≤◌, ◌<◌, List, [], ◌∷◌, ◌++◌, refl, ap, ap₂, sym, ◌∙◌, subst, true, false, Bool}
use Rattle.std.proofs.Common.{Option, Some, None, arith, append-nil, append_assoc}
use Rattle.std.specs.Prelude.{◌==◌, fold, length, take, drop, nat_le, map, find, cond, not}
use Rattle.std.specs.List.{AllByRecursion}
use Rattle.std.proofs.lemmas.Bool.{eqb-true}
use Rattle.std.proofs.lemmas.List.Sums.{fold-append}
use Rattle.tt_edge.specs.declared.event.Event.{Event}
use Rattle.tt_edge.specs.declared.event.Event.TheVariants.{Open, Packet, Broken, Shut, Tick, Stop}
use Rattle.tt_world.specs.declared.command.Command.{Command}
use Rattle.tt_world.specs.declared.command.Entry.{Entry}
use Rattle.tt_log.specs.declared.deed.Step.{Step}
use Rattle.tt_log.specs.Origin.{Origin}
use Rattle.tt_log.specs.Member.{Member, new_member}
use Rattle.tt_log.specs.Table.{Table, first, is_on, member_of}
use Rattle.tt_log.specs.Deed.{where_}
use Rattle.tt_log.specs.Desk.{admin_arrives, counted_aside, most_admins}
use Rattle.tt_log.specs.Tick.{stamps, own_entry, ticked}
use Rattle.tt_log.specs.Events.{arrives, counted_in, taken, takes, stepped}
use Rattle.tt_log.specs.History.{table_of, journal_of, AreRising}
use Rattle.tt_log.specs.Stamps.{accepted, accepted_by, accepted_from, stamped_of}
use Rattle.tt_log.proofs.Lists.{Among, found-among, found-passes}
use Rattle.tt_log.proofs.Crew.{On, on-found, found-on}
use Rattle.tt_log.proofs.Changes.{turned, turned-conn, turned-client, moved, moved-conn, moved-client}
use Rattle.tt_log.proofs.Walk.{Turns, ahead-of, behind-of}
use Rattle.tt_log.proofs.Walk.{Base, Walk, Moves, running, of-asks, of-enters, of-leaves, of-deed}
use Rattle.tt_log.proofs.Clock.{Ticked, ticked-is, event-same, taken-run}
use Rattle.tt_log.proofs.Ordered.{Ordered, is-ordered, step-ordered}
use Rattle.tt_log.proofs.Stamping.{Kept, are-kept, step-kept, among-put, among-filter, among-drawn, among-last, stamped-append}
use Rattle.tt_log.proofs.Stamping.{stamped-none, own-other, drawing, drawing-none, stamped-own, take-then-drop, number-above}

-- ---- a client number is that of one connection

number-known : (last : ℕ) (m : Member) (ms : List Member) → AllByRecursion (λ n. n ≤ last) (map (λ (n : Member). n.client) ms) → Among m ms
    → m.client ≤ last
number-known last m [] a there = absurd there
number-known last m (x ∷ xs) a (inl here) = subst (λ (y : Member). y.client ≤ last) here a.0
number-known last m (x ∷ xs) a (inr later) = number-known last m xs a.1 later

number-high : (m : Member) (ms : List Member) → AreRising 1 (map (λ (n : Member). n.client) ms) → Among m ms → 2 ≤ m.client
number-high m ms r there = let l : 1 < m.client = number-above 1 m ms r there in omega (arith, l)

-- one number is that of one member
one-number : (j : ℕ) (x y : Member) (ms : List Member) → AreRising j (map (λ (n : Member). n.client) ms) → Among x ms → Among y ms
    → x.client ≡ y.client → x ≡ y
one-number j x y [] r a b same = absurd a
one-number j x y (z ∷ zs) r (inl here) (inl there) same = sym here ∙ there
one-number j x y (z ∷ zs) r (inl here) (inr later) same =
    let above : z.client < y.client = number-above z.client y zs r.1 later in
    absurd (omega (arith, above, same, ap (λ (n : Member). n.client) here))
one-number j x y (z ∷ zs) r (inr later) (inl there) same =
    let above : z.client < x.client = number-above z.client x zs r.1 later in
    absurd (omega (arith, above, same, ap (λ (n : Member). n.client) there))
one-number j x y (z ∷ zs) r (inr a) (inr b) same = one-number z.client x y zs r.1 a b same

-- no other connection has the number, and both were given
record Only (c k : ℕ) (t : Table) : Type 0 where
  only : (m : Member) → On t m → m.client ≡ k → m.conn ≡ c
  known : k ≤ t.clients

abbrev KeepsOnly : ℕ → ℕ → Table → List Step → Table → Type 0
KeepsOnly c k t steps u = Only c k t → Only c k u

put-only : (c k : ℕ) (t : Table) (n m : Member) → On t m → n.conn ≡ m.conn → n.client ≡ m.client → Only c k t → (x : Member)
    → On (record t { members = map (λ y. cond (y.conn == n.conn) n y) t.members }) x → x.client ≡ k → x.conn ≡ c
put-only c k t n m on conn client h x there at = elim (among-put n x t.members there) [
  | inl same ↦ ap (λ (y : Member). y.conn) same ∙ conn ∙ h.only m on (sym client ∙ ap (λ (y : Member). y.client) (sym same) ∙ at)
  | inr other ↦ h.only x other.0 at
]

only-turns : (c k : ℕ) (o : Origin) (e : Event) → Turns o e (KeepsOnly c k)
only-turns c k o e d t m on may by h = record {
  only = put-only c k t (turned d t m) m on (turned-conn d t m) (turned-client d t m) h;
  known =
      h.known;
}

only-base : (c k : ℕ) (o : Origin) (e : Event) → Base o e (KeepsOnly c k)
only-base c k o e = record {
  still = λ t h. h;
  joins = λ t u v xs ys a b h. b (a h);
  turns = ahead-of o e (KeepsOnly c k) (only-turns c k o e);
  tells_one = λ t m msg on talk h. h;
  tells_some = λ t to w there news h. h;
  tells_admins = λ t to r may is h. h;
}

only-moves : (c k : ℕ) (o : Origin) (e : Event) → Moves o e (KeepsOnly c k)
only-moves c k o e = record {
  moving = λ v t m on may h. record { only = put-only c k t (moved v t m) m on (moved-conn v t m) (moved-client v t m) h; known = h.known };
  recalls = λ t m on at h. h;
  waits_on = λ t conn n there h. h;
  stands = λ t m on h. record { only = h.only; known = h.known };
  cuts = λ t place h. record { only = h.only; known = h.known };
  ends_one = λ t m on h. h;
  parts = λ t m on h. record {
    only = λ x there at. h.only x (among-filter (λ n. not (is_on m.conn n)) x t.members there) at;
    known =
        h.known;
  };
  greets = λ t m on at h. record { only = λ x there own. put-only c k t _ m on refl refl h x there own; known = h.known };
}

only-walk : (c k : ℕ) (o : Origin) (e : Event) → Walk o e (KeepsOnly c k)
only-walk c k o e = record {
  base = only-base c k o e;
  locks = λ t m digest on allowed h. record { only = h.only; known = h.known };
  orders = λ t d is still h. record { only = h.only; known = h.known };
  asks_map = λ t m on at. of-asks o e (KeepsOnly c k) (only-base c k o e) (only-moves c k o e) t m on at;
  enters_game = λ t m on at. of-enters o e (KeepsOnly c k) (only-base c k o e) (only-moves c k o e) t m on at;
  goes = λ t m farewell on is. of-leaves o e (KeepsOnly c k) (only-base c k o e) (only-moves c k o e) t m farewell on is;
  settles = λ t a b on is h. record { only = h.only; known = h.known };
  goes_aside = λ t a on h. record { only = h.only; known = h.known };
}

arrives-only : (full : Bool) (c k : ℕ) (t : Table) → Only c k t → Only c k (arrives full (counted_in t)).table
arrives-only true c k t h = record { only = h.only; known = omega (arith, h.known) }
arrives-only false c k t h =
    let n : Member = new_member (t.openings + 1) (t.clients + 1) t.frame in
    record {
      only = λ x there at. elim (among-last x n t.members there) [
        | inl old ↦ h.only x old at
        | inr new ↦ absurd (let same : t.clients + 1 ≡ k = ap (λ (y : Member). y.client) new ∙ at in omega (arith, same, h.known))
      ];
      known = omega (arith, h.known);
    }

aside-only : (full : Bool) (c k : ℕ) (t : Table) → Only c k t → Only c k (admin_arrives full (counted_aside t)).table
aside-only true c k t h = record { only = h.only; known = h.known }
aside-only false c k t h = record { only = h.only; known = h.known }

run-only : (b : Bool) (c k : ℕ) (o : Origin) (t : Table) → Only c k t → Only c k (running b o t)
run-only true c k o t h = record { only = h.only; known = h.known }
run-only false c k o t h = record { only = h.only; known = h.known }

step-only : (c k : ℕ) (o : Origin) (e : Event) (t : Table) → Only c k t → Only c k (stepped o t e)
step-only c k o e t h = of-deed o e (KeepsOnly c k) (only-walk c k o e)
    (record {
      stamping = λ t h. record {
        only = λ x there at. let a = among-drawn x t.members there in ap (λ (y : Member). y.conn) a.2
            ∙ h.only a.0 a.1 (ap (λ (y : Member). y.client) (sym a.2) ∙ at);
        known = h.known;
      };
      behind = behind-of o e (KeepsOnly c k) (only-turns c k o e);
      running = λ t b is. run-only b c k o t;
    })
    (record {
      comes = λ t. arrives-only (nat_le o.setup.max_clients (length t.members)) c k t;
      comes_aside =
          λ t. aside-only (nat_le most_admins (length t.admins)) c k t;
    })
    (record {
      charges = λ t h. record { only = h.only; known = h.known };
      closes =
          λ t h. record { only = λ x there at. absurd there; known = h.known };
    })
    t h

-- ---- what was stamped is a front of what was accepted

record Front (k : ℕ) (said : List (ℕ × Command)) (t : Table) : Type 0 where
  rest : List (ℕ × Command)
  all : said ≡ stamped_of k t.journal ++ rest

-- a tick stamps of the member what waits, where it is there; and else nothing
none-by : (b : Bool) (k : ℕ) (m : Member) (ms : List Member) → (m.client == k) ≡ b
    → cond b (Some m) (find (λ (n : Member). n.client == k) ms) ≡ None
    → (find (λ (n : Member). n.client == k) ms ≡ None → AllByRecursion (λ (n : Member). (n.client == k) ≡ false) ms)
    → AllByRecursion (λ (n : Member). (n.client == k) ≡ false) (m ∷ ms)
none-by true k m ms at none later = absurd cc
none-by false k m ms at none later = (at, later none)

none-of : (k : ℕ) (ms : List Member) → find (λ (m : Member). m.client == k) ms ≡ None → AllByRecursion (λ (m : Member). (m.client == k)
    ≡ false) ms
none-of k [] is = tt
none-of k (m ∷ ms) is = none-by (m.client == k) k m ms refl is (λ later. none-of k ms later)

tick-front : (x : Option Member) (c k : ℕ) (said : List (ℕ × Command)) (t u : Table) → 2 ≤ k
    → find (λ (m : Member). m.client == k) t.members ≡ x → u.journal ≡ t.journal ++ stamps t → Ordered t → Only c k t → Kept c said t
    → Front k said t → Front k said u
tick-front None c k said t u high is journal r only kept h =
    let nothing : stamped_of k (stamps t) ≡ [] =
    stamped-append k (map (own_entry (t.top + 1)) t.own) (drawing (t.top + 1) t.members)
    ∙ ap₂ (λ (xs ys : List (ℕ × Command)). xs ++ ys) (stamped-none k (map (own_entry (t.top + 1)) t.own)
    (own-other k (t.top + 1) t.own high)) (drawing-none k (t.top + 1) t.members (none-of k t.members is)) in
    record {
      rest = h.rest;
      all = h.all ∙ ap (λ (xs : List (ℕ × Command)). xs ++ h.rest) (sym (append-nil (stamped_of k t.journal))
          ∙ ap (λ (xs : List (ℕ × Command)). stamped_of k t.journal ++ xs) (sym nothing) ∙ sym (stamped-append k t.journal (stamps t))
          ∙ ap (λ (xs : List Entry). stamped_of k xs) (sym journal));
    }
tick-front (Some m) c k said t u high is journal r only kept h =
    let on : On t m = found-among (λ (n : Member). n.client == k) m t.members is in
    let at : m.client ≡ k = eqb-true m.client k (found-passes (λ (n : Member). n.client == k) m t.members is) in
    record {
      rest = drop 2 m.waiting;
      all = kept.live m on (only.only m on at)
          ∙ ap (λ (ws : List (ℕ × Command)). stamped_of m.client t.journal ++ ws) (sym (take-then-drop 2 m.waiting))
          ∙ sym (append_assoc (stamped_of m.client t.journal) (take 2 m.waiting) (drop 2 m.waiting))
          ∙ ap (λ (ws : List (ℕ × Command)). (stamped_of m.client t.journal ++ ws) ++ drop 2 m.waiting) (sym (stamped-own t m r on))
          ∙ ap (λ (ws : List (ℕ × Command)). ws ++ drop 2 m.waiting) (sym (stamped-append m.client t.journal (stamps t))
          ∙ ap₂ (λ (n : ℕ) (xs : List Entry). stamped_of n xs) at (sym journal));
    }

more-front : (k : ℕ) (said more : List (ℕ × Command)) (t u : Table) → u.journal ≡ t.journal → Front k said t → Front k (said ++ more) u
more-front k said more t u journal h = record {
  rest = h.rest ++ more;
  all = ap (λ (xs : List (ℕ × Command)). xs ++ more) h.all ∙ append_assoc (stamped_of k t.journal) h.rest more
      ∙ ap (λ (xs : List Entry). stamped_of k xs ++ (h.rest ++ more)) (sym journal);
}

taken-front : (c k : ℕ) (said : List (ℕ × Command)) (o : Origin) (e : Event) (t : Table) → 2 ≤ k → Ordered t → Only c k t → Kept c said t
    → Front k said t → Front k (said ++ accepted_by o t e c) (taken o e t).table
taken-front c k said o Tick t high r only kept h =
    let a : Ticked o t (ticked o t).table = ticked-is o t in
    let f : Front k said (taken o Tick t).table = tick-front (find (λ (m : Member). m.client == k) t.members) c k said t
    (taken o Tick t).table high refl ((taken-run o Tick t).journal ∙ a.journal) r only kept h in
    more-front k said [] (taken o Tick t).table (taken o Tick t).table refl f
taken-front c k said o (Open door peer) t high r only kept h = let e : Event = Open door peer in more-front k said (accepted_by o t e c) t
    (taken o e t).table ((taken-run o e t).journal ∙ (event-same o e t refl).journal) h
taken-front c k said o (Packet conn kind body) t high r only kept h = let e : Event = Packet conn kind body in
    more-front k said (accepted_by o t e c) t (taken o e t).table ((taken-run o e t).journal ∙ (event-same o e t refl).journal) h
taken-front c k said o (Broken conn) t high r only kept h = let e : Event = Broken conn in more-front k said (accepted_by o t e c) t
    (taken o e t).table ((taken-run o e t).journal ∙ (event-same o e t refl).journal) h
taken-front c k said o (Shut conn) t high r only kept h = let e : Event = Shut conn in more-front k said (accepted_by o t e c) t
    (taken o e t).table ((taken-run o e t).journal ∙ (event-same o e t refl).journal) h
taken-front c k said o Stop t high r only kept h = let e : Event = Stop in more-front k said (accepted_by o t e c) t (taken o e t).table
    ((taken-run o e t).journal ∙ (event-same o e t refl).journal) h

step-front : (b : Bool) (c k : ℕ) (said : List (ℕ × Command)) (o : Origin) (e : Event) (t : Table) → 2 ≤ k → Ordered t → Only c k t
    → Kept c said t → Front k said t → Front k (said ++ accepted_by o t e c) (where_ b (taken o e) t).table
step-front true c k said o e t high r only kept h = taken-front c k said o e t high r only kept h
step-front false c k said o e t high r only kept h = more-front k said (accepted_by o t e c) t t refl h

from-front : (c k : ℕ) (o : Origin) (es : List Event) (t : Table) (said : List (ℕ × Command)) → 2 ≤ k → Ordered t → Only c k t
    → Kept c said t → Front k said t → Front k (said ++ accepted_from o t es c) (fold (stepped o) t es)
from-front c k o [] t said high r only kept h = more-front k said [] t t refl h
from-front c k o (e ∷ es) t said high r only kept h =
    let s : Table = stepped o t e in
    subst (λ (ws : List (ℕ × Command)). Front k ws (fold (stepped o) s es)) (append_assoc said (accepted_by o t e c)
    (accepted_from o s es c))
    (from-front c k o es s (said ++ accepted_by o t e c) high (step-ordered o e t r) (step-only c k o e t only)
    (step-kept c said o e t r kept) (step-front (takes t e) c k said o e t high r only kept h))

accepted-append : (o : Origin) (es fs : List Event) (t : Table) (c : ℕ) → accepted_from o t (es ++ fs) c ≡ accepted_from o t es c
    ++ accepted_from o (fold (stepped o) t es) fs c
accepted-append o [] fs t c = refl
accepted-append o (e ∷ es) fs t c = ap (λ (ws : List (ℕ × Command)). accepted_by o t e c ++ ws) (accepted-append o es fs (stepped o t e) c)
    ∙ sym (append_assoc (accepted_by o t e c) (accepted_from o (stepped o t e) es c)
    (accepted_from o (fold (stepped o) (stepped o t e) es) fs c))

-- a member's number is its own
one-has : (c : ℕ) (m : Member) (t : Table) → Ordered t → On t m → m.conn ≡ c → Only c m.client t
one-has c m t r on at = record { only = λ x there same. same-conn x there same ∙ at; known = number-known t.clients m t.members r.given on }
  where
    same-conn : (x : Member) → On t x → x.client ≡ m.client → x.conn ≡ m.conn
    same-conn x there same = ap (λ (y : Member). y.conn) (one-number 1 x m t.members r.clients there on same)

pub stamped-front : (o : Origin) (es fs : List Event) (c : ℕ) (m : Member) → member_of (table_of o es) c ≡ Some m
    → (rest : List (ℕ × Command)) × (accepted o (es ++ fs) c ≡ stamped_of m.client (journal_of o (es ++ fs)) ++ rest)
stamped-front o es fs c m is =
    let t : Table = table_of o es in
    let r : Ordered t = is-ordered o es in
    let on : On t m = on-found t c m is in
    let at : m.conn ≡ c = found-on c t.members m is in
    let kept : Kept c (accepted o es c) t = are-kept c o es in
    let f : Front m.client (accepted o es c ++ accepted_from o t fs c) (fold (stepped o) t fs) =
    from-front c m.client o fs t (accepted o es c) (number-high m t.members r.clients on) r (one-has c m t r on at) kept
    (record { rest = m.waiting; all = kept.live m on at }) in (
      f.rest,
      accepted-append o es fs (first o) c ∙ f.all ∙ ap (λ (u : Table). stamped_of m.client u.journal ++ f.rest)
          (sym (fold-append (stepped o) (first o) es fs)),
    )
