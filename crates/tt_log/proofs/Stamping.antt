-- What was stamped of each client, and what waits, is what was accepted of it.
use Rattle.std.proofs.Common.{◌≡◌, ◌⊎◌, inl, inr, ℕ, ◌+◌, ◌≤◌, ◌<◌, List, [], ◌∷◌, ◌++◌, refl, ap, ap₂, sym, ◌∙◌, subst, true, false, Bool}
use Rattle.std.proofs.Common.{Option, Some, None, arith, zero, suc, append-nil, append_assoc}
use Rattle.std.specs.Prelude.{◌==◌, ◌||◌, ◌&&◌, fold, length, take, drop, nat_le, map, flat_map, filter, cond, not, is_some}
use Rattle.std.specs.List.{AllByRecursion}
use Rattle.std.specs.Prelude.{Result, Ok, Err}
use Rattle.std.specs.Result.{result_ok}
use Rattle.std.proofs.lemmas.Bool.{eq-eqb, eqb-true, ne_eqb}
use Rattle.tt_edge.specs.declared.event.Event.{Event}
use Rattle.tt_edge.specs.declared.event.Event.TheVariants.{Open, Packet, Broken, Shut, Tick, Stop}
use Rattle.tt_edge.specs.Event.{event_cost}
use Rattle.tt_game.specs.declared.message.GameMsg.{GameMsg}
use Rattle.tt_game.specs.declared.message.GameMsg.TheVariants.{ClientCommand, ServerFull}
use Rattle.tt_world.specs.declared.command.Command.{Command}
use Rattle.tt_world.specs.declared.command.Entry.{Entry}
use Rattle.tt_rules.specs.Commands.{command_of}
use Rattle.tt_rules.specs.declared.status.Verdict.{Verdict}
use Rattle.tt_rules.specs.declared.status.Verdict.TheVariants.{Allowed, Ends}
use Rattle.tt_log.specs.declared.deed.Step.{Step}
use Rattle.tt_log.specs.Origin.{Origin}
use Rattle.tt_log.specs.Member.{Member, new_member}
use Rattle.tt_log.specs.Table.{Table, first, is_on, is_admin_on, member_of, admin_of, with_member}
use Rattle.tt_log.specs.Deed.{Deed, ◌▹◌, where_, where_some}
use Rattle.tt_log.specs.Judged.{judged}
use Rattle.tt_log.specs.Ending.{ends}
use Rattle.tt_log.specs.PacketRules.{closed_token, command_waits}
use Rattle.tt_log.specs.Desk.{admin_arrives, counted_aside, most_admins}
use Rattle.tt_log.specs.Tick.{drawn, stamps, own_entry, entry_of}
use Rattle.tt_log.specs.Admin.{Admin}
use Rattle.tt_log.specs.Desk.{read_admin, admin_hears}
use Rattle.tt_log.specs.Events.{arrives, counted_in, by_verdict, by_event, charged, closed, shut_down, stops, taken, takes}
use Rattle.tt_log.specs.Events.{stepped, read_msg, heard, to_named}
use Rattle.tt_log.specs.History.{table_of, journal_of, AreRising}
use Rattle.tt_log.specs.Stamps.{accepted, accepted_by, accepted_from, accepted_of, commands_in, for_company, if_allowed, if_so, stamped_of}
use Rattle.tt_log.proofs.Lists.{Among, NotIn, all-append, all-so, among-all, found-among, found-passes}
use Rattle.tt_log.proofs.Crew.{On, put, on-found, found-on, conns}
use Rattle.tt_log.proofs.Codes.{IsCodeOf, judged-code}
use Rattle.tt_log.proofs.Changes.{Says, By, Change, wants_password, is_let_in, gets_token, gets_frame, answers, plays, commands, has_name}
use Rattle.tt_log.proofs.Changes.{goes_to, founds, gets_pieces, has_all, turned, turned-conn, turned-client, moved, moved-conn}
use Rattle.tt_log.proofs.Changes.{moved-client, Move, queues, begins_map, loads}
use Rattle.tt_log.proofs.Walk.{Turns, ahead-of, behind-of}
use Rattle.tt_log.proofs.Walk.{Base, Walk, Doors, Closing, Moves, Ticks, running, of-asks, of-enters, of-leaves, of-deed, of-ends}
use Rattle.tt_log.proofs.Walk.{is-packet-aside, of-admin-hears}
use Rattle.tt_log.proofs.Ordered.{Ordered, is-ordered, step-ordered, order-turns, order-moves, order-walk, order-doors, order-ticks}
use Rattle.tt_log.proofs.Ordered.{order-closing, rising-not}

-- ---- entries of a sender

pub stamped-append : (k : ℕ) (xs ys : List Entry) → stamped_of k (xs ++ ys) ≡ stamped_of k xs ++ stamped_of k ys
stamped-append k [] ys = refl
stamped-append k (x ∷ xs) ys = by (x.sender == k) (stamped-append k xs ys)
  where
    by : (b : Bool) → stamped_of k (xs ++ ys) ≡ stamped_of k xs ++ stamped_of k ys
        → cond b ((x.company, x.command) ∷ stamped_of k (xs ++ ys)) (stamped_of k (xs ++ ys))
        ≡ cond b ((x.company, x.command) ∷ stamped_of k xs) (stamped_of k xs) ++ stamped_of k ys
    by true same = ap (λ (rest : List (ℕ × Command)). (x.company, x.command) ∷ rest) same
    by false same = same

pub stamped-none : (k : ℕ) (es : List Entry) → AllByRecursion (λ (e : Entry). (e.sender == k) ≡ false) es → stamped_of k es ≡ []
stamped-none k [] a = refl
stamped-none k (e ∷ es) a = rw a.0 (stamped-none k es a.1)

pub own-other : (k f : ℕ) (cs : List Command) → 2 ≤ k → AllByRecursion (λ (e : Entry). (e.sender == k) ≡ false) (map (own_entry f) cs)
own-other k f [] l = tt
own-other k f (c ∷ cs) l = (ne_eqb 1 k (λ e. omega (arith, e, l)), own-other k f cs l)

entries-other : (k f : ℕ) (m : Member) (ws : List (ℕ × Command)) → (m.client == k) ≡ false → AllByRecursion (λ (e : Entry). (e.sender == k)
    ≡ false) (map (entry_of f m) ws)
entries-other k f m [] is = tt
entries-other k f m (w ∷ ws) is = (is, entries-other k f m ws is)

entries-own : (k f : ℕ) (m : Member) (ws : List (ℕ × Command)) → (m.client == k) ≡ true → stamped_of k (map (entry_of f m) ws) ≡ ws
entries-own k f m [] is = refl
entries-own k f m (w ∷ ws) is = rw is (ap (λ (rest : List (ℕ × Command)). w ∷ rest) (entries-own k f m ws is))

-- those of a list of members
abbrev pub drawing : ℕ → List Member → List Entry
drawing f ms = flat_map (λ m. map (entry_of f m) (take 2 m.waiting)) ms

pub drawing-none : (k f : ℕ) (ms : List Member) → AllByRecursion (λ (m : Member). (m.client == k) ≡ false) ms → stamped_of k (drawing f ms)
    ≡ []
drawing-none k f [] a = refl
drawing-none k f (m ∷ ms) a =
    stamped-append k (map (entry_of f m) (take 2 m.waiting)) (drawing f ms)
    ∙ ap₂ (λ (xs ys : List (ℕ × Command)). xs ++ ys) (stamped-none k (map (entry_of f m) (take 2 m.waiting))
    (entries-other k f m (take 2 m.waiting) a.0)) (drawing-none k f ms a.1)

pub numbers-other : (k : ℕ) (ms : List Member) → NotIn k (map (λ (m : Member). m.client) ms)
    → AllByRecursion (λ (m : Member). (m.client == k)
    ≡ false) ms
numbers-other k [] a = tt
numbers-other k (m ∷ ms) a = (a.0, numbers-other k ms a.1)

pub number-above : (j : ℕ) (m : Member) (ms : List Member) → AreRising j (map (λ (n : Member). n.client) ms) → Among m ms → j < m.client
number-above j m [] r there = absurd there
number-above j m (x ∷ xs) r (inl here) = subst (λ (y : Member). j < y.client) here r.0
number-above j m (x ∷ xs) r (inr later) = let a : j < x.client = r.0 in let b : x.client < m.client =
    number-above x.client m xs r.1 later in omega (arith, a, b)

drawing-own : (j f : ℕ) (m : Member) (ms : List Member) → AreRising j (map (λ (n : Member). n.client) ms) → Among m ms
    → stamped_of m.client (drawing f ms) ≡ take 2 m.waiting
drawing-own j f m [] r there = absurd there
drawing-own j f m (x ∷ xs) r (inl here) =
    let own : (x.client == m.client) ≡ true = eq-eqb x.client m.client (ap (λ (y : Member). y.client) here) in
    let rest : AllByRecursion (λ (n : Member). (n.client == m.client) ≡ false) xs =
    numbers-other m.client xs (rising-not x.client m.client (map (λ (n : Member). n.client) xs)
    (omega (arith, ap (λ (y : Member). y.client) here)) r.1) in
    stamped-append m.client (map (entry_of f x) (take 2 x.waiting)) (drawing f xs)
    ∙ ap₂ (λ (ys zs : List (ℕ × Command)). ys ++ zs) (entries-own m.client f x (take 2 x.waiting) own) (drawing-none m.client f xs rest)
    ∙ append-nil (take 2 x.waiting) ∙ ap (λ (y : Member). take 2 y.waiting) here
drawing-own j f m (x ∷ xs) r (inr later) =
    let above : x.client < m.client = number-above x.client m xs r.1 later in
    let other : (x.client == m.client) ≡ false = ne_eqb x.client m.client (λ e. omega (arith, e, above)) in
    stamped-append m.client (map (entry_of f x) (take 2 x.waiting)) (drawing f xs)
    ∙ ap₂ (λ (ys zs : List (ℕ × Command)). ys ++ zs) (stamped-none m.client (map (entry_of f x) (take 2 x.waiting))
    (entries-other m.client f x (take 2 x.waiting) other)) (drawing-own x.client f m xs r.1 later)

-- ---- who is among changed members

among-put-by : (b : Bool) (n x y : Member) (rest : List Member) → (y.conn == n.conn) ≡ b → (cond b n y ≡ x)
    ⊎ ((x ≡ n) ⊎ (Among x rest × ((x.conn == n.conn) ≡ false))) → (x ≡ n) ⊎ (Among x (y ∷ rest) × ((x.conn == n.conn) ≡ false))
among-put-by true n x y rest is (inl here) = inl (sym here)
among-put-by false n x y rest is (inl here) = inr (inl here, ap (λ (z : Member). z.conn == n.conn) (sym here) ∙ is)
among-put-by b n x y rest is (inr (inl same)) = inl same
among-put-by b n x y rest is (inr (inr later)) = inr (inr later.0, later.1)

pub among-put : (n x : Member) (ms : List Member) → Among x (put n ms) → (x ≡ n) ⊎ (Among x ms × ((x.conn == n.conn) ≡ false))
among-put n x [] there = absurd there
among-put n x (y ∷ ys) (inl here) = among-put-by (y.conn == n.conn) n x y ys refl (inl here)
among-put n x (y ∷ ys) (inr later) = among-put-by (y.conn == n.conn) n x y ys refl (inr (among-put n x ys later))

among-filter-by : (b : Bool) (x y : Member) (few all : List Member) → (Among x few → Among x all) → Among x (cond b (y ∷ few) few)
    → Among x (y ∷ all)
among-filter-by true x y few all go (inl here) = inl here
among-filter-by true x y few all go (inr later) = inr (go later)
among-filter-by false x y few all go there = inr (go there)

pub among-filter : (p : Member → Bool) (x : Member) (ms : List Member) → Among x (filter p ms) → Among x ms
among-filter p x [] there = absurd there
among-filter p x (y ∷ ys) there = among-filter-by (p y) x y (filter p ys) ys (λ later. among-filter p x ys later) there

pub among-drawn : (x : Member) (ms : List Member) → Among x (map drawn ms) → (m : Member) × Among m ms × (x ≡ drawn m)
among-drawn x [] there = absurd there
among-drawn x (y ∷ ys) (inl here) = (y, inl refl, sym here)
among-drawn x (y ∷ ys) (inr later) = let a = among-drawn x ys later in (a.0, inr a.1, a.2)

pub among-last : (x n : Member) (ms : List Member) → Among x (ms ++ n ∷ []) → Among x ms ⊎ (n ≡ x)
among-last x n [] (inl here) = inr here
among-last x n [] (inr later) = absurd later
among-last x n (y ∷ ys) (inl here) = inl (inl here)
among-last x n (y ∷ ys) (inr later) = elim (among-last x n ys later) [ inl there ↦ inl (inr there) | inr new ↦ inr new ]

-- ---- what was accepted of a connection

pub record Kept (c : ℕ) (said : List (ℕ × Command)) (t : Table) : Type 0 where
  pub live : (m : Member) → On t m → m.conn ≡ c → said ≡ stamped_of m.client t.journal ++ m.waiting
  pub early : t.openings < c → said ≡ []
  pub senders : AllByRecursion (λ (e : Entry). e.sender ≤ t.clients) t.journal

abbrev KeepsStamps : ℕ → List (ℕ × Command) → Table → List Step → Table → Type 0
KeepsStamps c said t steps u = Ordered t → Kept c said t → Ordered u × Kept c said u

-- an event is no COMMAND of the connection
abbrev pub IsQuiet : Event → ℕ → Type 0
IsQuiet e c = (m : Member) (company code number to : ℕ) (text : List ℕ) → m.conn ≡ c → Says e m (ClientCommand company code number to text)
    → ⊥

turned-waiting : (k : Change) (c : ℕ) (e : Event) (t : Table) (m : Member) → IsQuiet e c → m.conn ≡ c → By e m k → (turned k t m).waiting
    ≡ m.waiting
turned-waiting (wants_password true name asked) c e t m quiet at by = refl
turned-waiting (wants_password false name asked) c e t m quiet at by = refl
turned-waiting (is_let_in name asked) c e t m quiet at by = refl
turned-waiting gets_token c e t m quiet at by = refl
turned-waiting gets_frame c e t m quiet at by = refl
turned-waiting (answers frame token) c e t m quiet at by = same (token == 0)
  where
    same : (b : Bool) → (record (cond b m (closed_token m)) { acked = frame }).waiting ≡ m.waiting
    same true = refl
    same false = refl
turned-waiting plays c e t m quiet at by = refl
turned-waiting (commands company code number to text command) c e t m quiet at by = absurd (quiet m company code number to text at by)
turned-waiting (has_name name) c e t m quiet at by = refl
turned-waiting (goes_to company digest) c e t m quiet at by = refl
turned-waiting (founds company) c e t m quiet at by = refl
turned-waiting (gets_pieces left) c e t m quiet at by = refl
turned-waiting has_all c e t m quiet at by = refl

moved-waiting : (v : Move) (t : Table) (m : Member) → (moved v t m).waiting ≡ m.waiting
moved-waiting queues t m = refl
moved-waiting begins_map t m = refl
moved-waiting loads t m = refl

-- one that is put in the place of a member, with its number and what waits
put-live : (c : ℕ) (said : List (ℕ × Command)) (t : Table) (n m : Member) → On t m → n.conn ≡ m.conn → n.client ≡ m.client
    → (m.conn ≡ c → n.waiting ≡ m.waiting) → Kept c said t
    → (x : Member) → Among x (put n t.members) → x.conn ≡ c → said ≡ stamped_of x.client t.journal ++ x.waiting
put-live c said t n m on conn client waiting h x there at = elim (among-put n x t.members there) [
  | inl same ↦ (
      let own : m.conn ≡ c = sym conn ∙ ap (λ (y : Member). y.conn) (sym same) ∙ at in
      h.live m on own ∙ ap₂ (λ (k : ℕ) (ws : List (ℕ × Command)). stamped_of k t.journal ++ ws) (sym client) (sym (waiting own))
      ∙ ap (λ (y : Member). stamped_of y.client t.journal ++ y.waiting) (sym same)
      )
  | inr other ↦ h.live x other.0 at
]

stamp-turns : (c : ℕ) (said : List (ℕ × Command)) (o : Origin) (e : Event) → IsQuiet e c → Turns o e (KeepsStamps c said)
stamp-turns c said o e quiet k t m on may by r h = (
  order-turns o e k t m on may by r,
  record {
    live = λ x there at. put-live c said t (turned k t m) m on (turned-conn k t m) (turned-client k t m)
        (λ own. turned-waiting k c e t m quiet own by) h x there at;
    early = h.early;
    senders = h.senders;
  },
)

stamp-base : (c : ℕ) (said : List (ℕ × Command)) (o : Origin) (e : Event) → IsQuiet e c → Base o e (KeepsStamps c said)
stamp-base c said o e quiet = record {
  still = λ t r h. (r, h);
  joins = λ t u v xs ys a b r h. let first = a r h in b first.0 first.1;
  turns = ahead-of o e (KeepsStamps c said) (stamp-turns c said o e quiet);
  tells_one = λ t m msg on talk r h. (r, h);
  tells_some = λ t to w there news r h. (r, h);
  tells_admins = λ t to report may is r h. (r, h);
}

stamp-moves : (c : ℕ) (said : List (ℕ × Command)) (o : Origin) (e : Event) → Moves o e (KeepsStamps c said)
stamp-moves c said o e = record {
  moving = λ v t m on may r h. (
    (order-moves o e).moving v t m on may r,
    record {
      live = λ x there at. put-live c said t (moved v t m) m on (moved-conn v t m) (moved-client v t m) (λ own. moved-waiting v t m) h x
          there
          at;
      early = h.early;
      senders = h.senders;
    },
  );
  recalls = λ t m on at r h. (r, h);
  waits_on = λ t conn n there r h. (r, h);
  stands = λ t m on r h. (r, record { live = h.live; early = h.early; senders = h.senders });
  cuts = λ t place r h. (r, record { live = h.live; early = h.early; senders = h.senders });
  ends_one = λ t m on r h. (r, h);
  parts = λ t m on r h. (
    (order-moves o e).parts t m on r,
    record {
      live = λ x there at. h.live x (among-filter (λ n. not (is_on m.conn n)) x t.members there) at;
      early = h.early;
      senders =
          h.senders;
    },
  );
  greets = λ t m on at r h. (
    (order-moves o e).greets t m on at r,
    record {
      live = λ x there own. put-live c said t _ m on refl refl
          (λ own. refl) h x there own;
      early = h.early;
      senders = h.senders;
    },
  );
}

stamp-walk : (c : ℕ) (said : List (ℕ × Command)) (o : Origin) (e : Event) → IsQuiet e c → Walk o e (KeepsStamps c said)
stamp-walk c said o e quiet = record {
  base = stamp-base c said o e quiet;
  locks = λ t m digest on allowed r h. (r, record { live = h.live; early = h.early; senders = h.senders });
  orders = λ t k is still r h. (r, record { live = h.live; early = h.early; senders = h.senders });
  asks_map = λ t m on at. of-asks o e (KeepsStamps c said) (stamp-base c said o e quiet) (stamp-moves c said o e) t m on at;
  enters_game = λ t m on at. of-enters o e (KeepsStamps c said) (stamp-base c said o e quiet) (stamp-moves c said o e) t m on at;
  goes = λ t m farewell on is. of-leaves o e (KeepsStamps c said) (stamp-base c said o e quiet) (stamp-moves c said o e) t m farewell on is;
  settles = λ t a b on is r h. ((order-walk o e).settles t a b on is r, record { live = h.live; early = h.early; senders = h.senders });
  goes_aside = λ t a on r h. ((order-walk o e).goes_aside t a on r, record { live = h.live; early = h.early; senders = h.senders });
}

-- ---- openings

senders-later : (j k : ℕ) (es : List Entry) → j ≤ k → AllByRecursion (λ (e : Entry). e.sender ≤ j) es
    → AllByRecursion (λ (e : Entry). e.sender ≤ k) es
senders-later j k es l a = all-so (λ (e : Entry). e.sender ≤ j) (λ (e : Entry). e.sender ≤ k) es (λ e b. omega (arith, b, l)) a

senders-below : (k : ℕ) (es : List Entry) → AllByRecursion (λ (e : Entry). e.sender ≤ k) es
    → AllByRecursion (λ (e : Entry). (e.sender == k + 1) ≡ false) es
senders-below k es a = all-so (λ (e : Entry). e.sender ≤ k) (λ (e : Entry). (e.sender == k + 1) ≡ false) es
    (λ e b. ne_eqb e.sender (k + 1) (λ same. omega (arith, same, b))) a

arrives-kept : (full : Bool) (c : ℕ) (said : List (ℕ × Command)) (t : Table) → Kept c said t
    → Kept c said (arrives full (counted_in t)).table
arrives-kept true c said t h = record {
  live = h.live;
  early = λ above. h.early (omega (arith, above));
  senders =
      senders-later t.clients (t.clients + 1) t.journal (omega arith) h.senders;
}
arrives-kept false c said t h =
    let n : Member = new_member (t.openings + 1) (t.clients + 1) t.frame in
    record {
      live = λ x there at. elim (among-last x n t.members there) [
        | inl old ↦ h.live x old at
        | inr new ↦ (
            let opened : t.openings + 1 ≡ c = ap (λ (y : Member). y.conn) new ∙ at in
            h.early (omega (arith, opened)) ∙ ap (λ (xs : List (ℕ × Command)). xs ++ [])
            (sym (stamped-none (t.clients + 1) t.journal (senders-below t.clients t.journal h.senders)))
            ∙ ap (λ (y : Member). stamped_of y.client t.journal ++ y.waiting) new
            )
      ];
      early = λ above. h.early (omega (arith, above));
      senders = senders-later t.clients (t.clients + 1) t.journal (omega arith) h.senders;
    }

aside-kept : (full : Bool) (c : ℕ) (said : List (ℕ × Command)) (t : Table) → Kept c said t
    → Kept c said (admin_arrives full (counted_aside t)).table
aside-kept true c said t h = record { live = h.live; early = λ above. h.early (omega (arith, above)); senders = h.senders }
aside-kept false c said t h = record { live = h.live; early = λ above. h.early (omega (arith, above)); senders = h.senders }

stamp-doors : (c : ℕ) (said : List (ℕ × Command)) (o : Origin) (e : Event) → Doors o e (KeepsStamps c said)
stamp-doors c said o e = record {
  comes = λ t r h. ((order-doors o e).comes t r, arrives-kept (nat_le o.setup.max_clients (length t.members)) c said t h);
  comes_aside = λ t r h. ((order-doors o e).comes_aside t r, aside-kept (nat_le most_admins (length t.admins)) c said t h);
}

-- ---- stamping

own-senders : (f k : ℕ) (cs : List Command) → 1 ≤ k → AllByRecursion (λ (e : Entry). e.sender ≤ k) (map (own_entry f) cs)
own-senders f k [] l = tt
own-senders f k (c ∷ cs) l = (l, own-senders f k cs l)

entry-senders : (f k : ℕ) (m : Member) (ws : List (ℕ × Command)) → m.client ≤ k → AllByRecursion (λ (e : Entry). e.sender ≤ k)
    (map (entry_of f m) ws)
entry-senders f k m [] l = tt
entry-senders f k m (w ∷ ws) l = (l, entry-senders f k m ws l)

drawing-senders : (f k : ℕ) (ms : List Member) → AllByRecursion (λ n. n ≤ k) (map (λ (m : Member). m.client) ms)
    → AllByRecursion (λ (e : Entry). e.sender ≤ k) (drawing f ms)
drawing-senders f k [] a = tt
drawing-senders f k (m ∷ ms) a = all-append (λ (e : Entry). e.sender ≤ k) (map (entry_of f m) (take 2 m.waiting)) (drawing f ms)
    (entry-senders f k m (take 2 m.waiting) a.0) (drawing-senders f k ms a.1)

pub stamped-own : (t : Table) (m : Member) → Ordered t → On t m → stamped_of m.client (stamps t) ≡ take 2 m.waiting
stamped-own t m r on =
    let high : 1 < m.client = number-above 1 m t.members r.clients on in
    stamped-append m.client (map (own_entry (t.top + 1)) t.own) (drawing (t.top + 1) t.members)
    ∙ ap (λ (xs : List (ℕ × Command)). xs ++ stamped_of m.client (drawing (t.top + 1) t.members))
    (stamped-none m.client (map (own_entry (t.top + 1)) t.own) (own-other m.client (t.top + 1) t.own (omega (arith, high))))
    ∙ drawing-own 1 (t.top + 1) m t.members r.clients on

pub take-then-drop : (n : ℕ) (xs : List (ℕ × Command)) → take n xs ++ drop n xs ≡ xs
take-then-drop zero xs = refl
take-then-drop (suc n) [] = refl
take-then-drop (suc n) (x ∷ xs) = ap (λ (ys : List (ℕ × Command)). x ∷ ys) (take-then-drop n xs)

stamping-live : (c : ℕ) (said : List (ℕ × Command)) (t : Table) → Ordered t → Kept c said t → (x : Member) → Among x (map drawn t.members)
    → x.conn ≡ c → said ≡ stamped_of x.client (t.journal ++ stamps t) ++ x.waiting
stamping-live c said t r h x there at =
    let a = among-drawn x t.members there in
    let m : Member = a.0 in
    let own : m.conn ≡ c = ap (λ (y : Member). y.conn) (sym a.2) ∙ at in
    let k : ℕ = m.client in
    h.live m a.1 own
    ∙ ap (λ (ws : List (ℕ × Command)). stamped_of k t.journal ++ ws) (sym (take-then-drop 2 m.waiting))
    ∙ sym (append_assoc (stamped_of k t.journal) (take 2 m.waiting) (drop 2 m.waiting))
    ∙ ap (λ (ws : List (ℕ × Command)). (stamped_of k t.journal ++ ws) ++ drop 2 m.waiting) (sym (stamped-own t m r a.1))
    ∙ ap (λ (ws : List (ℕ × Command)). ws ++ drop 2 m.waiting) (sym (stamped-append k t.journal (stamps t)))
    ∙ ap (λ (y : Member). stamped_of y.client (t.journal ++ stamps t) ++ y.waiting) (sym a.2)

run-kept : (b : Bool) (c : ℕ) (said : List (ℕ × Command)) (o : Origin) (t : Table) → Kept c said t → Kept c said (running b o t)
run-kept true c said o t h = record { live = h.live; early = h.early; senders = h.senders }
run-kept false c said o t h = record { live = h.live; early = h.early; senders = h.senders }

stamp-ticks : (c : ℕ) (said : List (ℕ × Command)) (o : Origin) (e : Event) → IsQuiet e c → Ticks o e (KeepsStamps c said)
stamp-ticks c said o e quiet = record {
  stamping = λ t r h. (
    (order-ticks o e).stamping t r,
    record {
      live = λ x there at. stamping-live c said t r h x there at;
      early = h.early;
      senders = all-append (λ (e : Entry). e.sender ≤ t.clients) t.journal (stamps t) h.senders
          (all-append (λ (e : Entry). e.sender ≤ t.clients) (map (own_entry (t.top + 1)) t.own) (drawing (t.top + 1) t.members)
          (own-senders (t.top + 1) t.clients t.own r.some) (drawing-senders (t.top + 1) t.clients t.members r.given));
    },
  );
  behind = behind-of o e (KeepsStamps c said) (stamp-turns c said o e quiet);
  running = λ t b is r h. ((order-ticks o e).running t b is r, run-kept b c said o t h);
}

stamp-closing : (c : ℕ) (said : List (ℕ × Command)) (o : Origin) (e : Event) → Closing o e (KeepsStamps c said)
stamp-closing c said o e = record {
  charges = λ t r h. ((order-closing o e).charges t r, record { live = h.live; early = h.early; senders = h.senders });
  closes = λ t r h. ((order-closing o e).closes t r, record { live = λ x there at. absurd there; early = h.early; senders = h.senders });
}

pub step-quiet : (c : ℕ) (said : List (ℕ × Command)) (o : Origin) (e : Event) (t : Table) → IsQuiet e c → Ordered t → Kept c said t
    → Kept c said (stepped o t e)
step-quiet c said o e t quiet r h = (of-deed o e (KeepsStamps c said) (stamp-walk c said o e quiet) (stamp-ticks c said o e quiet)
    (stamp-doors c said o e) (stamp-closing c said o e) t r h).1

-- ---- a COMMAND of the connection

holds_command : Option GameMsg → Bool
holds_command (Some (ClientCommand company code number to text)) = true
holds_command other = false

-- an event is a COMMAND of the connection
abbrev speaks : Event → ℕ → Bool
speaks (Packet conn kind body) c = (conn == c) && holds_command (read_msg kind body)
speaks other c = false

both-true : (x y : Bool) → x ≡ true → y ≡ true → (x && y) ≡ true
both-true true y p q = q
both-true false y p q = absurd cc

silent-is-quiet : (e : Event) (c : ℕ) → speaks e c ≡ false → IsQuiet e c
unfolding holds_command
silent-is-quiet e c silent m company code number to text at (kind, body, is, said) =
    let yes : speaks (Packet m.conn kind body) c ≡ true = both-true (m.conn == c) _ (eq-eqb m.conn c at)
    (ap (λ (x : Option GameMsg). holds_command x) said) in
    absurd (cc (ap (λ (d : Event). speaks d c) is, yes, silent))

none-allowed : (v : Verdict) → if_allowed v [] ≡ []
none-allowed Allowed = refl
none-allowed (Ends code) = refl

no-commands : (said : Option GameMsg) → holds_command said ≡ false → commands_in said ≡ []
unfolding holds_command
no-commands (Some (ClientCommand company code number to text)) is = absurd cc
no-commands other is = refl

accepted-none : (o : Origin) (t : Table) (x : Option Member) (said : Option GameMsg) → holds_command said ≡ false → accepted_of o t x said
    ≡ []
accepted-none o t None said is = refl
accepted-none o t (Some m) said is = ap (λ (ws : List (ℕ × Command)). if_allowed (judged o t m said) ws) (no-commands said is)
    ∙ none-allowed (judged o t m said)

if-none : (b : Bool) → if_so b [] ≡ []
if-none true = refl
if-none false = refl

silent-accepted-by : (b : Bool) (o : Origin) (t : Table) (conn : ℕ) (said : Option GameMsg) → (b && holds_command said) ≡ false
    → if_so (b && not t.over) (accepted_of o t (member_of t conn) said) ≡ []
silent-accepted-by true o t conn said is = ap (λ (ws : List (ℕ × Command)). if_so (not t.over) ws)
    (accepted-none o t (member_of t conn) said is) ∙ if-none (not t.over)
silent-accepted-by false o t conn said is = refl

silent-accepted : (o : Origin) (t : Table) (e : Event) (c : ℕ) → speaks e c ≡ false → accepted_by o t e c ≡ []
silent-accepted o t (Packet conn kind body) c is = silent-accepted-by (conn == c) o t conn (read_msg kind body) is
silent-accepted o t (Open door peer) c is = refl
silent-accepted o t (Broken conn) c is = refl
silent-accepted o t (Shut conn) c is = refl
silent-accepted o t Tick c is = refl
silent-accepted o t Stop c is = refl

-- a command more waits
waits-kept : (c : ℕ) (said : List (ℕ × Command)) (t : Table) (m : Member) (w : ℕ × Command) → Ordered t → On t m → m.conn ≡ c
    → Kept c said t → Kept c (said ++ w ∷ []) (with_member (record m { waiting = m.waiting ++ w ∷ [] }) t)
waits-kept c said t m w r on own h =
    let n : Member = record m { waiting = m.waiting ++ w ∷ [] } in
    record {
      live = λ x there at. elim (among-put n x t.members there) [
        | inl same ↦ ap (λ (ws : List (ℕ × Command)). ws ++ w ∷ []) (h.live m on own) ∙ append_assoc (stamped_of m.client t.journal)
            m.waiting
            (w ∷ []) ∙ ap (λ (y : Member). stamped_of y.client t.journal ++ y.waiting) (sym same)
        | inr other ↦ absurd (let is : (x.conn == m.conn) ≡ true = eq-eqb x.conn m.conn (at ∙ sym own) in let not_so : (x.conn == m.conn)
            ≡ false = other.1 in cc)
      ];
      early = λ above. absurd (let low : m.conn ≤ t.openings = among-all (λ (y : Member). y.conn ≤ t.openings) m t.members on
          (conns-under t.openings t.members r.under) in omega (arith, low, own, above));
      senders = h.senders;
    }
  where
    conns-under : (k : ℕ) (ms : List Member) → AllByRecursion (λ x. x ≤ k) (conns ms) → AllByRecursion (λ (y : Member). y.conn ≤ k) ms
    conns-under k [] a = tt
    conns-under k (y ∷ ys) a = (a.0, conns-under k ys a.1)

broken-quiet : (c : ℕ) → IsQuiet (Broken c) c
broken-quiet c m company code number to text at (kind, body, is, said) = absurd cc

stop-quiet : (c : ℕ) → IsQuiet Stop c
stop-quiet c m company code number to text at (kind, body, is, said) = absurd cc

closing-kept : (c : ℕ) (said : List (ℕ × Command)) (o : Origin) (e : Event) (t u : Table) (d : Deed) → d.table ≡ u → Kept c said u
    → Kept c said (d ▹ charged e ▹ closed o (stops o e t)).table
closing-kept c said o e t u d is h = by _ (record d.table { cost = d.table.cost + event_cost e })
    (subst (λ (v : Table). Kept c said (record v { cost = v.cost + event_cost e })) (sym is)
    (record { live = h.live; early = h.early; senders = h.senders }))
  where
    by : (b : Bool) (v : Table) → Kept c said v → Kept c said (where_ b shut_down v).table
    by true v k = record { live = λ x there at. absurd there; early = k.early; senders = k.senders }
    by false v k = k

command-by : (v : Verdict) (c : ℕ) (said : List (ℕ × Command)) (o : Origin) (t : Table) (m : Member) (company code number to : ℕ)
    (text : List ℕ) → IsCodeOf v → Ordered t → On t m → m.conn ≡ c → Kept c said t
    → Kept c (said ++ if_allowed v (for_company company (command_of code number to text)))
    (by_verdict v o m (Some (ClientCommand company code number to text)) t).table
command-by (Ends code) c said o t m company k number to text low r on own h =
    subst (λ (ws : List (ℕ × Command)). Kept c ws (ends m code t).table) (sym (append-nil said)) (of-ends o Stop (KeepsStamps c said)
    (stamp-walk c said o Stop (stop-quiet c)) t m code on low r h).1
command-by Allowed c said o t m company code number to text low r on own h = by (command_of code number to text)
  where
    by : (x : Option Command) → Kept c (said ++ for_company company x) (where_some x (command_waits m company) t).table
    by None = subst (λ (ws : List (ℕ × Command)). Kept c ws t) (sym (append-nil said)) h
    by (Some command) = waits-kept c said t m (company, command) r on own h

named-by : (x : Option Member) (c : ℕ) (said : List (ℕ × Command)) (o : Origin) (t : Table) (kind : ℕ) (body : List ℕ)
    (company code number to : ℕ) (text : List ℕ) → read_msg kind body ≡ Some (ClientCommand company code number to text) → member_of t c ≡ x
    → Ordered t → Kept c said t
    → Kept c (said ++ accepted_of o t x (read_msg kind body)) (to_named x (admin_of t c) (heard o (read_msg kind body))
    (admin_hears o (read_admin kind body)) t).table
named-by None c said o t kind body company code number to text msg is r h =
    subst (λ (ws : List (ℕ × Command)). Kept c ws (where_some (admin_of t c) (admin_hears o (read_admin kind body)) t).table)
    (sym (append-nil said)) (by (admin_of t c) refl)
  where
    -- an event of this connection with the same bytes, which spells no command
    other : Event
    other = Packet c 0 body

    full : (b : Bool) (said : GameMsg) → result_ok (cond {A = Result GameMsg ℕ} b (Ok ServerFull) (Err 0)) ≡ Some said → said ≡ ServerFull
    full true said is = cc
    full false said is = absurd cc

    apart : (company code number to : ℕ) (text : List ℕ) → read_msg 0 body ≡ Some (ClientCommand company code number to text) → ⊥
    apart company code number to text is =
        let e : ClientCommand company code number to text ≡ ServerFull =
        full (length body == 0) (ClientCommand company code number to text) is in cc

    quiet : IsQuiet other c
    quiet m company code number to text at (k, b, is, said) =
        let one : 0 ≡ k = ap kind_in is in
        let two : body ≡ b = ap body_in is in
        apart company code number to text (ap₂ (λ (x : ℕ) (y : List ℕ). read_msg x y) one two ∙ said)
      where
        kind_in : Event → ℕ
        kind_in (Packet conn k b) = k
        kind_in e = 0

        body_in : Event → List ℕ
        body_in (Packet conn k b) = b
        body_in e = []

    by : (x : Option Admin) → admin_of t c ≡ x → Kept c said (where_some x (admin_hears o (read_admin kind body)) t).table
    by None at = h
    by (Some a) at = (of-admin-hears o other (KeepsStamps c said) (stamp-walk c said o other quiet) (read_admin kind body) t a
        (found-among (is_admin_on c) a t.admins at) (sym (eqb-true a.conn c (found-passes (is_admin_on c) a t.admins at))) refl
        (is-packet-aside o other (KeepsStamps c said) (stamp-walk c said o other quiet) (read_admin kind body) kind body refl
        (λ bytes. bytes)) r h).1
named-by (Some m) c said o t kind body company code number to text msg is r h =
    let P : Option GameMsg → Type 0 = λ x. Kept c (said ++ accepted_of o t (Some m) x) (heard o x m t).table in
    subst P (sym msg) (command-by (judged o t m (Some (ClientCommand company code number to text))) c said o t m company code number to text
    (judged-code o t m (Some (ClientCommand company code number to text))) r (on-found t c m is) (found-on c t.members m is) h)

-- what a packet of the connection brings where it is not taken
untaken : (o : Origin) (t : Table) (c kind : ℕ) (body : List ℕ) → takes t (Packet c kind body) ≡ false
    → if_so (true && not t.over) (accepted_of o t (member_of t c) (read_msg kind body)) ≡ []
untaken o t c kind body is = by (not t.over) (member_of t c) is
  where
    by : (b : Bool) (x : Option Member) → (b && (is_some x || is_some (admin_of t c))) ≡ false
        → if_so b (accepted_of o t x (read_msg kind body)) ≡ []
    by true None off = refl
    by true (Some m) off = absurd cc
    by false x off = refl

going-of : (o : Origin) (t : Table) (c kind : ℕ) (body : List ℕ) → takes t (Packet c kind body) ≡ true → not t.over ≡ true
going-of o t c kind body is = by (not t.over) _ is
  where
    by : (b d : Bool) → (b && d) ≡ true → b ≡ true
    by true d both = refl
    by false d both = absurd cc

command-step : (b : Bool) (c : ℕ) (said : List (ℕ × Command)) (o : Origin) (t : Table) (kind : ℕ) (body : List ℕ)
    (company code number to : ℕ) (text : List ℕ) → takes t (Packet c kind body) ≡ b → read_msg kind body
    ≡ Some (ClientCommand company code number to text) → Ordered t → Kept c said t
    → Kept c (said ++ if_so (true && not t.over) (accepted_of o t (member_of t c) (read_msg kind body)))
    (where_ b (taken o (Packet c kind body)) t).table
command-step false c said o t kind body company code number to text is msg r h = subst (λ (ws : List (ℕ × Command)). Kept c ws t)
    (sym (append-nil said) ∙ ap (λ (ws : List (ℕ × Command)). said ++ ws) (sym (untaken o t c kind body is))) h
command-step true c said o t kind body company code number to text is msg r h =
    let e : Event = Packet c kind body in
    let d : Deed = by_event o e t in
    let k : Kept c (said ++ accepted_of o t (member_of t c) (read_msg kind body)) d.table =
    named-by (member_of t c) c said o t kind body company code number to text msg refl r h in
    let more : if_so (true && not t.over) (accepted_of o t (member_of t c) (read_msg kind body))
    ≡ accepted_of o t (member_of t c) (read_msg kind body) =
    ap (λ (b : Bool). if_so b (accepted_of o t (member_of t c) (read_msg kind body))) (going-of o t c kind body is) in
    subst (λ (ws : List (ℕ × Command)). Kept c (said ++ ws) (taken o e t).table) (sym more) (closing-kept c _ o e t d.table d refl k)

read-command : (said : Option GameMsg) → holds_command said ≡ true → (company : ℕ) × (code : ℕ) × (number : ℕ) × (to : ℕ) × (text : List ℕ)
    × (said ≡ Some (ClientCommand company code number to text))
unfolding holds_command
read-command (Some (ClientCommand company code number to text)) is = (company, code, number, to, text, refl)
read-command other is = absurd cc

both-are : (x y : Bool) → (x && y) ≡ true → (x ≡ true) × (y ≡ true)
both-are true y is = (refl, is)
both-are false y is = absurd cc

spoken-step : (c : ℕ) (said : List (ℕ × Command)) (o : Origin) (e : Event) (t : Table) → speaks e c ≡ true → Ordered t → Kept c said t
    → Kept c (said ++ accepted_by o t e c) (stepped o t e)
spoken-step c said o (Packet conn kind body) t is r h =
    let both = both-are (conn == c) (holds_command (read_msg kind body)) is in
    let msg = read-command (read_msg kind body) both.1 in
    let own : conn ≡ c = eqb-true conn c both.0 in
    let P : ℕ → Type 0 = λ k. Kept c (said ++ if_so ((k == c) && not t.over) (accepted_of o t (member_of t k) (read_msg kind body)))
    (stepped o t (Packet k kind body)) in
    subst P (sym own) (subst (λ (b : Bool). Kept c (said ++ if_so (b && not t.over) (accepted_of o t (member_of t c) (read_msg kind body)))
    (stepped o t (Packet c kind body))) (sym (eq-eqb c c refl))
    (command-step (takes t (Packet c kind body)) c said o t kind body msg.0 msg.1 msg.2 msg.3 msg.4 refl msg.5 r h))
spoken-step c said o (Open door peer) t is r h = absurd cc
spoken-step c said o (Broken conn) t is r h = absurd cc
spoken-step c said o (Shut conn) t is r h = absurd cc
spoken-step c said o Tick t is r h = absurd cc
spoken-step c said o Stop t is r h = absurd cc

step-kept-by : (b : Bool) (c : ℕ) (said : List (ℕ × Command)) (o : Origin) (e : Event) (t : Table) → speaks e c ≡ b → Ordered t
    → Kept c said t → Kept c (said ++ accepted_by o t e c) (stepped o t e)
step-kept-by true c said o e t is r h = spoken-step c said o e t is r h
step-kept-by false c said o e t is r h =
    subst (λ (ws : List (ℕ × Command)). Kept c ws (stepped o t e)) (sym (append-nil said) ∙ ap (λ (ws : List (ℕ × Command)). said ++ ws)
    (sym (silent-accepted o t e c is))) (step-quiet c said o e t (silent-is-quiet e c is) r h)

pub step-kept : (c : ℕ) (said : List (ℕ × Command)) (o : Origin) (e : Event) (t : Table) → Ordered t → Kept c said t
    → Kept c (said ++ accepted_by o t e c) (stepped o t e)
step-kept c said o e t r h = step-kept-by (speaks e c) c said o e t refl r h

from-kept : (c : ℕ) (o : Origin) (es : List Event) (t : Table) (said : List (ℕ × Command)) → Ordered t → Kept c said t
    → Kept c (said ++ accepted_from o t es c) (fold (stepped o) t es)
from-kept c o [] t said r h = subst (λ (ws : List (ℕ × Command)). Kept c ws t) (sym (append-nil said)) h
from-kept c o (e ∷ es) t said r h =
    let s : Table = stepped o t e in
    subst (λ (ws : List (ℕ × Command)). Kept c ws (fold (stepped o) s es)) (append_assoc said (accepted_by o t e c)
    (accepted_from o s es c))
    (from-kept c o es s (said ++ accepted_by o t e c) (step-ordered o e t r) (step-kept-by (speaks e c) c said o e t refl r h))

pub are-kept : (c : ℕ) (o : Origin) (es : List Event) → Kept c (accepted o es c) (table_of o es)
are-kept c o es = from-kept c o es (first o) [] (is-ordered o []) (record {
  live = λ m there at. absurd there;
  early =
      λ above. refl;
  senders = tt;
})

pub live-stamped : (o : Origin) (es : List Event) (c : ℕ) (m : Member) → member_of (table_of o es) c ≡ Some m → accepted o es c
    ≡ stamped_of m.client (journal_of o es) ++ m.waiting
live-stamped o es c m is = (are-kept c o es).live m (on-found (table_of o es) c m is) (found-on c (table_of o es).members m is)

-- ---- what else is used of it

pub drop-front : (xs ys : List Command) → drop (length xs) (xs ++ ys) ≡ ys
drop-front [] ys = refl
drop-front (x ∷ xs) ys = drop-front xs ys

pub rising-none : (ms : List Member) → AreRising 1 (map (λ (m : Member). m.client) ms) → AllByRecursion (λ (m : Member). (m.client == 1)
    ≡ false) ms
rising-none ms r = numbers-other 1 ms (rising-not 1 1 (map (λ (m : Member). m.client) ms) (omega arith) r)
