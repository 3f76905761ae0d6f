-- Every event brings a connection further, or leaves it in its phase.
use Rattle.std.proofs.Common.{◌≡◌, inl, inr, ℕ, ◌+◌, ◌≤◌, List, [], ◌∷◌, ◌++◌, refl, ap, sym, ◌∙◌, subst, true, false, Bool, arith}
use Rattle.std.specs.Prelude.{◌==◌, length, nat_le, map, filter, cond, ◌&&◌, ◌||◌}
use Rattle.std.specs.List.{AllByRecursion, list_any}
use Rattle.std.proofs.lemmas.Bool.{leb-true}
use Rattle.tt_edge.specs.declared.event.Door.TheVariants.{Main, Side}
use Rattle.tt_edge.specs.declared.event.Event.{Event}
use Rattle.tt_edge.specs.declared.event.Event.TheVariants.{Open, Packet, Broken, Shut, Tick, Stop}
use Rattle.tt_game.specs.declared.message.GameMsg.{GameMsg}
use Rattle.tt_game.specs.declared.message.GameMsg.TheVariants.{ServerCommand}
use Rattle.tt_rules.specs.Statuses.{rank}
use Rattle.tt_log.specs.declared.deed.Step.{Step}
use Rattle.tt_log.specs.declared.deed.What.{What}
use Rattle.tt_log.specs.declared.deed.What.TheVariants.{Msg}
use Rattle.tt_log.specs.Origin.{Origin}
use Rattle.tt_log.specs.Member.{Member, is_playing, new_member}
use Rattle.tt_log.specs.Table.{Table, playing}
use Rattle.tt_log.specs.Deed.{game, Deed, ◌▹◌, where_}
use Rattle.tt_log.specs.Told.{is_entry}
use Rattle.tt_log.specs.PacketRules.{acknowledged, closed_token}
use Rattle.tt_log.specs.Desk.{admin_arrives, counted_aside, most_admins}
use Rattle.tt_log.specs.Tick.{drawn}
use Rattle.tt_log.specs.Events.{by_event, arrives, counted_in, charged, closed, stops, shut_down, taken, takes, deed, last_frame}
use Rattle.tt_log.proofs.Lists.{NotIn, Within, all-append, all-map, among-all, any-not}
use Rattle.tt_log.proofs.Crew.{conns}
use Rattle.tt_log.proofs.Changes.{step, Change, wants_password, is_let_in, gets_token, gets_frame, answers, plays, commands, has_name}
use Rattle.tt_log.proofs.Changes.{goes_to, founds, gets_pieces, has_all, Asks, May, turned, steps_with, IsTalk, turned-conn}
use Rattle.tt_log.proofs.Ordered.{map-same}
use Rattle.tt_log.proofs.Phases.{Phase, Early, Queued, InGame, fits, Suits, Place, Holds, Has, is_command, Quiet, AllQuiet, Goes, GoesBy}
use Rattle.tt_log.proofs.Phases.{later-self, later-then, while-all, while-then, then-goes, where-goes, place-live, put-holds, early-stays}
use Rattle.tt_log.proofs.Phases.{queued-stays, playing-stays, later-end, asks-by, enters-by, leaves-by}
use Rattle.tt_log.proofs.Walk.{Turns, ahead-of, behind-of}
use Rattle.tt_log.proofs.Walk.{running, Base, Walk, Ticks, Closing, of-event, of-ticked}

-- ---- what is told is quiet

talk-quiet : (o : Origin) (e : Event) (t : Table) (m : GameMsg) → IsTalk o e t m → is_entry (game m) ≡ false
talk-quiet o e t (ServerCommand company code number to text frame sender) talk = absurd talk
talk-quiet o e t other talk = refl

quiet-if : (c : ℕ) (to : List ℕ) (w : What) → is_command w ≡ false → Quiet c (step to w)
quiet-if c to w is = rw is refl

away-quiet : (c : ℕ) (to : List ℕ) (w : What) → NotIn c to → Quiet c (step to w)
away-quiet c to w a = and-false (is_command w) _ (any-not c to a)
  where
    and-false : (x y : Bool) → y ≡ false → (x && y) ≡ false
    and-false true y is = is
    and-false false y is = refl

with-quiet : (k : Change) (c : ℕ) (o : Origin) (t : Table) (m : Member) → AllQuiet c (steps_with k o t m)
with-quiet (wants_password true name asked) c o t m = (refl, tt)
with-quiet (wants_password false name asked) c o t m = (refl, tt)
with-quiet (is_let_in name asked) c o t m = (refl, tt)
with-quiet gets_token c o t m = (refl, tt)
with-quiet gets_frame c o t m = (refl, tt)
with-quiet (gets_pieces left) c o t m = (refl, tt)
with-quiet (answers frame token) c o t m = tt
with-quiet plays c o t m = tt
with-quiet (commands company code number to text command) c o t m = tt
with-quiet (has_name name) c o t m = tt
with-quiet (goes_to company digest) c o t m = tt
with-quiet (founds company) c o t m = tt
with-quiet has_all c o t m = tt

-- ---- those that play

abbrev IsLow : ℕ → Member → Type 0
IsLow c m = (m.conn == c) ≡ true → rank m.status ≤ 7

playing-one : (b d : Bool) (c : ℕ) (m : Member) (ms : List Member) → nat_le 8 (rank m.status) ≡ b → (m.conn == c) ≡ d
    → (d ≡ true → rank m.status ≤ 7) → NotIn c (map (λ n. n.conn) ms) → NotIn c (map (λ n. n.conn) (cond b (m ∷ ms) ms))
playing-one true true c m ms high own low a = let l : rank m.status ≤ 7 = low refl in let h : 8 ≤ rank m.status =
    leb-true 8 (rank m.status) high in absurd (omega (arith, l, h))
playing-one true false c m ms high apart low a = (apart, a)
playing-one false d c m ms high own low a = a

low-not-playing : (c : ℕ) (ms : List Member) → AllByRecursion (IsLow c) ms → NotIn c (map (λ n. n.conn) (filter is_playing ms))
low-not-playing c [] a = tt
low-not-playing c (m ∷ ms) a = playing-one (is_playing m) (m.conn == c) c m (filter is_playing ms) refl refl a.0 (low-not-playing c ms a.1)

early-low : (c : ℕ) (ms : List Member) → AllByRecursion (Suits c Early) ms → AllByRecursion (IsLow c) ms
early-low c [] a = tt
early-low c (m ∷ ms) a = (λ own. let low : rank m.status ≤ 4 = a.0 own in omega (arith, low), early-low c ms a.1)

queued-low : (c : ℕ) (ms : List Member) → AllByRecursion (Suits c Queued) ms → AllByRecursion (IsLow c) ms
queued-low c [] a = tt
queued-low c (m ∷ ms) a = (λ own. (a.0 own).1, queued-low c ms a.1)

-- only who plays is told commands
news-goes : (p : Phase) (c : ℕ) (t : Table) (to : List ℕ) (w : What) → Within to (playing t) → Has c p t
    → Goes c p t.members t.queue (step to w ∷ [])
news-goes Early c t to w there h = record {
  to = Early;
  later = tt;
  holds = h;
  quiet =
      (away-quiet c to w (there c (low-not-playing c t.members (early-low c t.members h.suits))), tt);
}
news-goes Queued c t to w there h = record {
  to = Queued;
  later = tt;
  holds = h;
  quiet =
      (away-quiet c to w (there c (low-not-playing c t.members (queued-low c t.members h.suits))), tt);
}
news-goes InGame c t to w there h = record { to = InGame; later = tt; holds = h; quiet = tt }

-- ---- a member changes

acked-status : (frame token : ℕ) (m : Member) → (acknowledged frame token m).status ≡ m.status
acked-status frame token m = by (token == 0)
  where
    by : (b : Bool) → (record (cond b m (closed_token m)) { acked = frame }).status ≡ m.status
    by true = refl
    by false = refl

asked-low : (o : Origin) (e : Event) (t : Table) (m : Member) (name : List ℕ) (asked : ℕ) → Asks o e t m name asked → rank m.status ≤ 4
asked-low o e t m name asked (inl before) = omega (arith, before.3)
asked-low o e t m name asked (inr now) = omega (arith, now.0)

turned-fits : (k : Change) (p : Phase) (o : Origin) (e : Event) (t : Table) (m : Member) → May o e t m k → fits p (rank m.status)
    → fits p (rank (turned k t m).status)
turned-fits (wants_password true name asked) p o e t m may fit = early-stays p (rank m.status) 2 (asked-low o e t m name asked may)
    (omega arith) fit
turned-fits (wants_password false name asked) p o e t m may fit = early-stays p (rank m.status) 3 (asked-low o e t m name asked may)
    (omega arith) fit
turned-fits (is_let_in name asked) p o e t m may fit = early-stays p (rank m.status) 4 (asked-low o e t m name asked may) (omega arith) fit
turned-fits gets_token p o e t m may fit = fit
turned-fits gets_frame p o e t m may fit = fit
turned-fits (answers frame token) p o e t m may fit = subst (λ s. fits p (rank s)) (sym (acked-status frame token m)) fit
turned-fits plays p o e t m may fit = playing-stays p (rank m.status) 9 (omega (arith, may)) (omega arith) fit
turned-fits (commands company code number to text command) p o e t m may fit = fit
turned-fits (has_name name) p o e t m may fit = fit
turned-fits (goes_to company digest) p o e t m may fit = fit
turned-fits (founds company) p o e t m may fit = fit
turned-fits (gets_pieces left) p o e t m may fit = fit
turned-fits has_all p o e t m may fit = queued-stays p (rank m.status) 7 (omega (arith, may)) (omega (arith, may)) (omega arith)
    (omega arith) fit

turned-suits : (k : Change) (c : ℕ) (p : Phase) (o : Origin) (e : Event) (t : Table) (m : Member) → May o e t m k → Suits c p m
    → Suits c p (turned k t m)
turned-suits k c p o e t m may s own = turned-fits k p o e t m may (s (ap (λ (x : ℕ). x == c) (sym (turned-conn k t m)) ∙ own))

-- ---- the walk

abbrev pub Further : ℕ → Table → List Step → Table → Type 0
Further c t steps u = (p : Phase) → Has c p t → Goes c p u.members u.queue steps

goes-quiet : (c : ℕ) (p : Phase) (ms : List Member) (q : List ℕ) (steps : List Step) → Holds c p ms q → AllQuiet c steps
    → Goes c p ms q steps
goes-quiet c p ms q steps h a = record { to = p; later = later-self p; holds = h; quiet = while-all p c steps a }

further-then : (c : ℕ) (t u v : Table) (xs ys : List Step) → Further c t xs u → Further c u ys v → Further c t (xs ++ ys) v
further-then c t u v xs ys a b p h =
    let first : Goes c p u.members u.queue xs = a p h in
    let next : Goes c first.to v.members v.queue ys = b first.to first.holds in
    record {
      to = next.to;
      later = later-then p first.to next.to first.later next.later;
      holds = next.holds;
      quiet =
          while-then first.to next.to c xs ys next.later first.quiet next.quiet;
    }

further-turns : (c : ℕ) (o : Origin) (e : Event) → Turns o e (Further c)
further-turns c o e k t m on may by p h = goes-quiet c p _ _ _
    (put-holds c p (turned k t m) t (turned-suits k c p o e t m may (among-all (Suits c p) m t.members on h.suits)) h)
    (with-quiet k c o t m)

further-base : (c : ℕ) (o : Origin) (e : Event) → Base o e (Further c)
further-base c o e = record {
  still = λ t p h. goes-quiet c p t.members t.queue [] h tt;
  joins = λ t u v xs ys a b. further-then c t u v xs ys a b;
  turns = ahead-of o e (Further c) (further-turns c o e);
  tells_one = λ t m msg on talk p h. goes-quiet c p _ _ _ h (quiet-if c (m.conn ∷ []) (Msg msg) (talk-quiet o e t msg talk), tt);
  tells_some = λ t to w there news p h. news-goes p c t to w there h;
  tells_admins = λ t to r may is p h. goes-quiet c p _ _ _ h (refl, tt);
}

further-walk : (c : ℕ) (o : Origin) (e : Event) → Walk o e (Further c)
further-walk c o e = record {
  base = further-base c o e;
  locks = λ t m digest on allowed p h. goes-quiet c p _ _ [] (record { suits = h.suits; place = h.place }) tt;
  orders = λ t k is still p h. goes-quiet c p _ _ [] (record { suits = h.suits; place = h.place }) tt;
  asks_map = λ t m on at p h. asks-by (m.conn == c) c p m t refl at (among-all (Suits c p) m t.members on h.suits) on h;
  enters_game = λ t m on at p h. enters-by (m.conn == c) c p m t refl h;
  goes = λ t m farewell on is p h. leaves-by (m.conn == c) c p m farewell t refl h;
  settles = λ t a b on is p h. goes-quiet c p _ _ [] (record { suits = h.suits; place = h.place }) tt;
  goes_aside = λ t a on p h. goes-quiet c p _ _ _ (record { suits = h.suits; place = h.place }) (refl, tt);
}

run-goes : (b : Bool) (c : ℕ) (o : Origin) (t : Table) → Further c t [] (running b o t)
run-goes true c o t p h = goes-quiet c p _ _ [] (record { suits = h.suits; place = h.place }) tt
run-goes false c o t p h = goes-quiet c p _ _ [] (record { suits = h.suits; place = h.place }) tt

further-ticks : (c : ℕ) (o : Origin) (e : Event) → Ticks o e (Further c)
further-ticks c o e = record {
  stamping = λ t p h. goes-quiet c p _ _ [] (record {
    suits = all-map (Suits c p) (Suits c p) drawn t.members (λ m s. s) h.suits;
    place = place-live p c t.queue (conns t.members) (conns (map drawn t.members)) (ap (λ (xs : List ℕ). list_any (λ x. x == c) xs)
        (map-same (λ (m : Member). m.conn) drawn t.members (λ m. refl))) h.place;
  }) tt;
  behind = behind-of o e (Further c) (further-turns c o e);
  running = λ t b is. run-goes b c o t;
}

further-closing : (c : ℕ) (o : Origin) (e : Event) → Closing o e (Further c)
further-closing c o e = record {
  charges = λ t p h. goes-quiet c p _ _ [] (record { suits = h.suits; place = h.place }) tt;
  closes = λ t p h. record { to = InGame; later = later-end p; holds = record { suits = tt; place = tt }; quiet = tt };
}

-- ---- a connection that is opened comes in early

any-front-by : (b p q : Bool) → (b || p) ≡ true → (p ≡ true → q ≡ true) → (b || q) ≡ true
any-front-by true p q is next = refl
any-front-by false p q is next = next is

any-front : (c : ℕ) (ms : List Member) (n : Member) → list_any (λ y. y == c) (conns ms) ≡ true
    → list_any (λ y. y == c) (conns (ms ++ n ∷ [])) ≡ true
any-front c [] n is = absurd cc
any-front c (m ∷ ms) n is = any-front-by (m.conn == c) (list_any (λ y. y == c) (conns ms)) (list_any (λ y. y == c) (conns (ms ++ n ∷ [])))
    is (λ later. any-front c ms n later)

place-arrived : (p : Phase) (c : ℕ) (q : List ℕ) (ms : List Member) (n : Member) → Place p c q (conns ms)
    → Place p c q (conns (ms ++ n ∷ []))
place-arrived Early c q ms n h = h
place-arrived Queued c q ms n h = (h.0, any-front c ms n h.1)
place-arrived InGame c q ms n h = h

early-fits : (p : Phase) (r : ℕ) → r ≤ 4 → p ≡ Early → fits p r
early-fits Early r low is = low
early-fits Queued r low is = absurd cc
early-fits InGame r low is = absurd cc

arrives-goes : (full : Bool) (c : ℕ) (p : Phase) (t : Table) → ((t.openings + 1 == c) ≡ true → p ≡ Early) → Has c p t
    → GoesBy c p (arrives full (counted_in t))
arrives-goes true c p t early h = goes-quiet c p _ _ _ (record { suits = h.suits; place = h.place }) (refl, (refl, tt))
arrives-goes false c p t early h =
    let n : Member = new_member (t.openings + 1) (t.clients + 1) t.frame in
    goes-quiet c p _ _ [] (record {
      suits = all-append (Suits c p) t.members (n ∷ []) h.suits (
        λ own. early-fits p 0 (omega arith)
            (early own),
        tt,
      );
      place = place-arrived p c t.queue t.members n h.place;
    }) tt

aside-goes : (full : Bool) (c : ℕ) (p : Phase) (t : Table) → Has c p t → GoesBy c p (admin_arrives full (counted_aside t))
aside-goes true c p t h = goes-quiet c p _ _ _ (record { suits = h.suits; place = h.place }) (refl, (refl, tt))
aside-goes false c p t h = goes-quiet c p _ _ [] (record { suits = h.suits; place = h.place }) tt

-- where it may be that an event opens it, it is early
abbrev pub Opens : ℕ → Phase → Table → Event → Type 0
Opens c p t (Open Main peer) = (t.openings + 1 == c) ≡ true → p ≡ Early
Opens c p t other = Unit

event-goes : (c : ℕ) (p : Phase) (o : Origin) (e : Event) (t : Table) → Opens c p t e → Has c p t → GoesBy c p (by_event o e t)
event-goes c p o (Open Main peer) t early h = arrives-goes (nat_le o.setup.max_clients (length t.members)) c p t early h
event-goes c p o (Open Side peer) t early h = aside-goes (nat_le most_admins (length t.admins)) c p t h
event-goes c p o (Packet conn kind body) t early h = of-event o (Packet conn kind body) (Further c)
    (further-walk c o (Packet conn kind body)) t refl refl p h
event-goes c p o (Broken conn) t early h = of-event o (Broken conn) (Further c) (further-walk c o (Broken conn)) t refl refl p h
event-goes c p o (Shut conn) t early h = of-event o (Shut conn) (Further c) (further-walk c o (Shut conn)) t refl refl p h
event-goes c p o Tick t early h = of-ticked o Tick (Further c) (further-walk c o Tick) (further-ticks c o Tick) t p h
event-goes c p o Stop t early h = goes-quiet c p _ _ [] h tt

closed-goes : (b : Bool) (c : ℕ) (o : Origin) (e : Event) (t : Table) → Further c t (where_ b shut_down t).told (where_ b shut_down t).table
closed-goes true c o e t = (further-closing c o e).closes t
closed-goes false c o e t = (further-base c o e).still t

taken-goes : (c : ℕ) (p : Phase) (o : Origin) (e : Event) (t : Table) → Opens c p t e → Has c p t → GoesBy c p (taken o e t)
taken-goes c p o e t early h =
    let d : Deed = by_event o e t ▹ charged e in
    then-goes c p d (closed o (stops o e t)) (then-goes c p (by_event o e t) (charged e) (event-goes c p o e t early h)
    (λ q k. (further-closing c o e).charges (by_event o e t).table q k))
    (λ q k. closed-goes (stops o e t || nat_le o.setup.cost d.table.cost || (d.table.frame == last_frame)) c o e d.table q k)

pub deed-goes : (c : ℕ) (p : Phase) (o : Origin) (e : Event) (t : Table) → Opens c p t e → Has c p t → GoesBy c p (deed o e t)
deed-goes c p o e t early h = where-goes c p (takes t e) (taken o e) t h (taken-goes c p o e t early h)
