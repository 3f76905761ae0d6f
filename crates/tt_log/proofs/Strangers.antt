-- An admin that has not joined is told nothing but how it is let in or why it ends; and there are at most sixteen admins.
use Rattle.std.proofs.Common.{◌≡◌, ◌⊎◌, inl, inr, ℕ, ◌+◌, ◌≤◌, ◌<◌, List, [], ◌∷◌, ◌++◌, refl, ap, ap₂, sym, ◌∙◌, subst, true, false, Bool}
use Rattle.std.proofs.Common.{Option, Some, None, arith}
use Rattle.std.specs.Prelude.{◌==◌, ◌&&◌, ◌||◌, not, cond, filter, find, length, nat_le}
use Rattle.std.specs.List.{AllByRecursion}
use Rattle.std.proofs.lemmas.Bool.{eqb-true, eq-eqb, ne_eqb, leb-false}
use Rattle.std.proofs.lemmas.List.{length-append, length-map}
use Rattle.tt_edge.specs.declared.event.Door.TheVariants.{Main, Side}
use Rattle.tt_edge.specs.declared.event.Event.{Event}
use Rattle.tt_edge.specs.declared.event.Peer.{Peer}
use Rattle.tt_edge.specs.declared.event.Event.TheVariants.{Open, Packet, Broken, Shut, Tick, Stop}
use Rattle.tt_admin.specs.declared.message.AdminMsg.{AdminMsg}
use Rattle.tt_admin.specs.declared.message.AdminMsg.TheVariants as admins
use Rattle.tt_rules.specs.Verdict.{verdict_of}
use Rattle.tt_log.specs.declared.deed.Step.{Step}
use Rattle.tt_log.specs.declared.deed.What.{What}
use Rattle.tt_log.specs.declared.deed.What.TheVariants.{Msg, ToAdmin, MapBegin, MapPieces, Sync, Entries, Stamp, End}
use Rattle.tt_log.specs.declared.report.Report.{Report}
use Rattle.tt_log.specs.declared.report.Report.TheVariants.{Message, Welcome, Date, CompanyInfo, CompanyEconomy, CompanyStats, CompanyLines}
use Rattle.tt_log.specs.declared.report.Report.TheVariants.{CompanyNews}
use Rattle.tt_log.specs.Origin.{Origin}
use Rattle.tt_log.specs.Member.{Member}
use Rattle.tt_log.specs.Admin.{Admin, new_admin}
use Rattle.tt_log.specs.Table.{Table, first, member_of, admin_of, is_admin_on}
use Rattle.tt_log.specs.Deed.{Deed, ◌▹◌, where_}
use Rattle.tt_log.specs.Desk.{admin_arrives, counted_aside, most_admins, admin_join_refused, admin_ends, behind_join, read_admin}
use Rattle.tt_log.specs.Desk.{by_admin_verdict, admin_hears}
use Rattle.tt_log.specs.Doors.{is_join, says_join, IsFirst, IsFirstWord}
use Rattle.tt_log.specs.Events.{arrives, counted_in, read_msg, heard, to_named, by_event, charged, stops, shut_down, taken, takes, deed}
use Rattle.tt_log.specs.Events.{stepped, last_frame}
use Rattle.tt_log.specs.History.{table_of, AreRising}
use Rattle.tt_log.specs.Tellings.{Filling, filling, said_by}
use Rattle.tt_log.specs.Told.{told}
use Rattle.tt_log.proofs.Lists.{Among, Within, NotIn, all-append, all-so, all-filter, found-among, any-not}
use Rattle.tt_log.proofs.Crew.{conns, admin_conns, put_admin}
use Rattle.tt_log.proofs.Changes.{steps_with}
use Rattle.tt_log.proofs.Walk.{Turns, ahead-of, behind-of}
use Rattle.tt_log.proofs.Walk.{Base, Walk, Closing, Moves, Ticks, running, told_moved, Names, joined_conns, IsOwn, MayTell, of-asks}
use Rattle.tt_log.proofs.Walk.{of-enters, of-leaves, of-event, of-ticked, of-deed-by, of-deed}
use Rattle.tt_log.proofs.Clock.{from-all}
use Rattle.tt_log.proofs.Ordered.{Ordered, is-ordered, rising-not, under-not}
use Rattle.tt_log.proofs.Ended.{is-kept, place-gone}
use Rattle.tt_log.proofs.Malformed.{none-member}
use Rattle.tt_log.proofs.Hearing.{Says, heard-all}
use Rattle.tt_log.proofs.AdminEnds.{no-member}
use Rattle.tt_log.proofs.Families.{IsAside, IsInside, Aside, Inside, Out, Spares, with-inside, news-inside, moved-inside, out-deed}

-- ---- at most sixteen

abbrev Few : Table → List Step → Table → Type 0
Few t steps u = length t.admins ≤ 16 → length u.admins ≤ 16

fewer : {A : Type 0} (p : A → Bool) (xs : List A) → length (filter p xs) ≤ length xs
fewer p [] = omega arith
fewer p (x ∷ xs) = by (p x) (fewer p xs)
  where
    by : (b : Bool) → length (filter p xs) ≤ length xs → length (cond b (x ∷ filter p xs) (filter p xs)) ≤ length (x ∷ xs)
    by true l = omega (arith, l)
    by false l = omega (arith, l)

few-turns : (o : Origin) (e : Event) → Turns o e Few
few-turns o e k t m on may by h = h

few-base : (o : Origin) (e : Event) → Base o e Few
few-base o e = record {
  still = λ t h. h;
  joins = λ t u v xs ys a b h. b (a h);
  turns = ahead-of o e Few (few-turns o e);
  tells_one = λ t m msg on talk h. h;
  tells_some = λ t to w there news h. h;
  tells_admins = λ t to r may is h. h;
}

few-moves : (o : Origin) (e : Event) → Moves o e Few
few-moves o e = record {
  moving = λ v t m on may h. h;
  recalls = λ t m on at h. h;
  waits_on = λ t conn n there h. h;
  stands = λ t m on h. h;
  cuts = λ t place h. h;
  ends_one = λ t m on h. h;
  parts = λ t m on h. h;
  greets = λ t m on at h. h;
}

few-walk : (o : Origin) (e : Event) → Walk o e Few
few-walk o e = record {
  base = few-base o e;
  locks = λ t m digest on allowed h. h;
  orders = λ t k is still h. h;
  asks_map = λ t m on at. of-asks o e Few (few-base o e) (few-moves o e) t m on at;
  enters_game = λ t m on at. of-enters o e Few (few-base o e) (few-moves o e) t m on at;
  goes = λ t m farewell on. of-leaves o e Few (few-base o e) (few-moves o e) t m farewell on;
  settles = λ t a b on is h. let same : length (put_admin b t.admins) ≡ length t.admins =
      length-map t.admins (λ (x : Admin). cond (x.conn == b.conn) b x) in omega (arith, same, h);
  goes_aside = λ t a on h. let less : length (filter (λ b. not (is_admin_on a.conn b)) t.admins) ≤ length t.admins =
      fewer (λ b. not (is_admin_on a.conn b)) t.admins in omega (arith, less, h);
}

few-main : (full : Bool) (t : Table) → Few t (arrives full (counted_in t)).told (arrives full (counted_in t)).table
few-main true t h = h
few-main false t h = h

few-side : (full : Bool) (t : Table) → nat_le most_admins (length t.admins) ≡ full
    → Few t (admin_arrives full (counted_aside t)).told (admin_arrives full (counted_aside t)).table
few-side true t is h = h
few-side false t is h = let low : length t.admins < 16 = leb-false 16 (length t.admins) is in
    let new : Admin = new_admin (t.openings + 1) t.frame in
    let more : length (t.admins ++ new ∷ []) ≡ length t.admins + 1 = length-append t.admins (new ∷ []) in omega (arith, low, more)

few-running : (b : Bool) (o : Origin) (t : Table) → Few t [] (running b o t)
few-running true o t h = h
few-running false o t h = h

few-step : (o : Origin) (e : Event) (t : Table) → length t.admins ≤ 16 → length (stepped o t e).admins ≤ 16
few-step o e t = of-deed o e Few (few-walk o e)
    (record { stamping = λ t h. h; behind = behind-of o e Few (few-turns o e); running = λ t b is. few-running b o t })
    (record {
      comes = λ t. few-main (nat_le o.setup.max_clients (length t.members)) t;
      comes_aside = λ t. few-side (nat_le most_admins (length t.admins)) t refl;
    })
    (record { charges = λ t h. h; closes = λ t h. omega arith }) t

pub at-most-sixteen : (o : Origin) (es : List Event) → length (table_of o es).admins ≤ most_admins
at-most-sixteen o es = from-all o (λ t. length t.admins ≤ 16) (λ e t h. few-step o e t h) es (first o) (omega arith)

-- ---- what one that has not joined is told

abbrev IsFirstOf : Bool → What → Type 0
IsFirstOf joins (ToAdmin (Message m)) = IsFirst joins m
IsFirstOf joins (ToAdmin Welcome) = joins ≡ true
IsFirstOf joins End = Unit
IsFirstOf joins other = ⊥

first-says : (joins : Bool) (w : What) (o : Origin) (f : Filling) → IsFirstOf joins w → AllByRecursion (IsFirstWord joins) (said_by o f w)
first-says joins (ToAdmin (Message m)) o f is = (is, tt)
first-says joins (ToAdmin Welcome) o f is = (is, tt)
first-says joins End o f is = tt
first-says joins (ToAdmin Date) o f is = absurd is
first-says joins (ToAdmin (CompanyInfo id)) o f is = absurd is
first-says joins (ToAdmin (CompanyEconomy id)) o f is = absurd is
first-says joins (ToAdmin (CompanyStats id)) o f is = absurd is
first-says joins (ToAdmin CompanyLines) o f is = absurd is
first-says joins (ToAdmin CompanyNews) o f is = absurd is
first-says joins (Msg m) o f is = absurd is
first-says joins MapBegin o f is = absurd is
first-says joins MapPieces o f is = absurd is
first-says joins Sync o f is = absurd is
first-says joins (Entries frame) o f is = absurd is
first-says joins (Stamp e) o f is = absurd is

-- of what is for admins, a step is for others, or tells a first word
abbrev Shy : Bool → ℕ → Step → Type 0
Shy joins c s = IsAside s.what → NotIn c s.to ⊎ IsFirstOf joins s.what

-- what is for players is nothing of this
inside-shy : (joins : Bool) (c : ℕ) (to : List ℕ) (w : What) → NotIn c to ⊎ IsInside w → IsAside w → NotIn c to ⊎ IsFirstOf joins w
inside-shy joins c to w (inl others) aside = inl others
inside-shy joins c to (ToAdmin r) (inr is) aside = absurd is
inside-shy joins c to End (inr is) aside = inr tt
inside-shy joins c to (Msg m) (inr is) aside = absurd aside
inside-shy joins c to MapBegin (inr is) aside = absurd aside
inside-shy joins c to MapPieces (inr is) aside = absurd aside
inside-shy joins c to Sync (inr is) aside = absurd aside
inside-shy joins c to (Entries frame) (inr is) aside = absurd aside
inside-shy joins c to (Stamp e) (inr is) aside = absurd aside

all-shy : (joins : Bool) (c : ℕ) (steps : List Step) → AllByRecursion (Inside c) steps → AllByRecursion (Shy joins c) steps
all-shy joins c steps a = all-so (Inside c) (Shy joins c) steps (λ s is. inside-shy joins c s.to s.what is) a

-- no admin on the connection has joined
abbrev Stranger : ℕ → List Admin → Type 0
Stranger c admins = AllByRecursion (λ (a : Admin). (a.conn == c) ≡ true → a.joined ≡ false) admins

-- the event is not its own, and so nobody tells it more
abbrev KeepsShy : Bool → ℕ → Event → Table → List Step → Table → Type 0
KeepsShy joins c e t steps u = (Names e c → ⊥) → Stranger c t.admins → Stranger c u.admins × AllByRecursion (Shy joins c) steps

not-joined : (c : ℕ) (admins : List Admin) → Stranger c admins → NotIn c (admin_conns (filter (λ a. a.joined) admins))
not-joined c [] h = tt
not-joined c (x ∷ xs) h = by x.joined (x.conn == c) refl refl h.0 (not-joined c xs h.1)
  where
    by : (j b : Bool) → x.joined ≡ j → (x.conn == c) ≡ b → ((x.conn == c) ≡ true → x.joined ≡ false)
        → NotIn c (admin_conns (filter (λ a. a.joined) xs))
        → NotIn c (admin_conns (cond j (x ∷ filter (λ a. a.joined) xs) (filter (λ a. a.joined) xs)))
    by true true joined at none rest = absurd (let off : x.joined ≡ false = none at in cc)
    by true false joined at none rest = (at, rest)
    by false b joined at none rest = rest

own-shy : (joins : Bool) (c : ℕ) (e : Event) (to : List ℕ) (r : Report) → (Names e c → ⊥) → IsOwn e to r
    → NotIn c to ⊎ IsFirstOf joins (ToAdmin r)
own-shy joins c e to r apart (d, at, inl named) = by (d == c) refl
  where
    by : (b : Bool) → (d == c) ≡ b → NotIn c to ⊎ IsFirstOf joins (ToAdmin r)
    by true is = absurd (apart (subst (λ (x : ℕ). Names e x) (eqb-true d c is) named))
    by false is = inl (subst (λ (xs : List ℕ). NotIn c xs) (sym at) (is, tt))
own-shy joins c e to r apart (d, at, inr (code, is)) = inr (subst (λ (x : Report). IsFirstOf joins (ToAdmin x)) (sym is) tt)

told-shy : (joins : Bool) (c : ℕ) (e : Event) (t : Table) (to : List ℕ) (r : Report) → MayTell e t to r → (Names e c → ⊥)
    → Stranger c t.admins → NotIn c to ⊎ IsFirstOf joins (ToAdmin r)
told-shy joins c e t to r may apart h = by may.turn
  where
    by : Within to (joined_conns t) ⊎ IsOwn e to r → NotIn c to ⊎ IsFirstOf joins (ToAdmin r)
    by (inl within) = inl (within c (not-joined c t.admins h))
    by (inr own) = own-shy joins c e to r apart own

put-stranger : (c : ℕ) (b : Admin) (admins : List Admin) → (b.conn == c) ≡ false → Stranger c admins → Stranger c (put_admin b admins)
put-stranger c b [] other h = tt
put-stranger c b (x ∷ xs) other h = (by (x.conn == b.conn), put-stranger c b xs other h.1)
  where
    by : (d : Bool) → ((cond d b x).conn == c) ≡ true → (cond d b x).joined ≡ false
    by true at = absurd cc
    by false at = h.0 at

other-conn : (c d : ℕ) (e : Event) → (Names e c → ⊥) → Names e d → (d == c) ≡ false
other-conn c d e apart own = by (d == c) refl
  where
    by : (b : Bool) → (d == c) ≡ b → (d == c) ≡ false
    by true is = absurd (apart (subst (λ (x : ℕ). Names e x) (eqb-true d c is) own))
    by false is = is

shy-turns : (joins : Bool) (c : ℕ) (o : Origin) (e : Event) → Turns o e (KeepsShy joins c e)
shy-turns joins c o e k t m on may by apart h = (h, all-shy joins c (steps_with k o t m) (with-inside k c o t m))

shy-base : (joins : Bool) (c : ℕ) (o : Origin) (e : Event) → Base o e (KeepsShy joins c e)
shy-base joins c o e = record {
  still = λ t apart h. (h, tt);
  joins = λ t u v xs ys a b apart h. let p = a apart h in let q = b apart p.0 in (q.0, all-append (Shy joins c) xs ys p.1 q.1);
  turns = ahead-of o e (KeepsShy joins c e) (shy-turns joins c o e);
  tells_one = λ t m msg on talk apart h. (h, (λ aside. absurd aside, tt));
  tells_some = λ t to w there news apart h. (h, (inside-shy joins c to w (inr (news-inside o e t w news)), tt));
  tells_admins = λ t to r may is apart h. (h, (λ aside. told-shy joins c e t to r may apart h, tt));
}

shy-moves : (joins : Bool) (c : ℕ) (o : Origin) (e : Event) → Moves o e (KeepsShy joins c e)
shy-moves joins c o e = record {
  moving = λ v t m on may apart h. (h, all-shy joins c (told_moved v m) (moved-inside c v m));
  recalls = λ t m on at apart h. (h, (λ aside. absurd aside, tt));
  waits_on = λ t conn n there apart h. (h, (λ aside. absurd aside, tt));
  stands = λ t m on apart h. (h, tt);
  cuts = λ t place apart h. (h, tt);
  ends_one = λ t m on apart h. (h, (λ aside. inr tt, tt));
  parts = λ t m on apart h. (h, tt);
  greets = λ t m on at apart h. (h, (λ aside. absurd aside, tt));
}

shy-walk : (joins : Bool) (c : ℕ) (o : Origin) (e : Event) → Walk o e (KeepsShy joins c e)
shy-walk joins c o e = record {
  base = shy-base joins c o e;
  locks = λ t m digest on allowed apart h. (h, tt);
  orders = λ t k is still apart h. (h, tt);
  asks_map = λ t m on at. of-asks o e (KeepsShy joins c e) (shy-base joins c o e) (shy-moves joins c o e) t m on at;
  enters_game = λ t m on at. of-enters o e (KeepsShy joins c e) (shy-base joins c o e) (shy-moves joins c o e) t m on at;
  goes = λ t m farewell on. of-leaves o e (KeepsShy joins c e) (shy-base joins c o e) (shy-moves joins c o e) t m farewell on;
  settles = λ t a b on is apart h. (
    put-stranger c b t.admins (other-conn c b.conn e apart (subst (λ (x : ℕ). Names e x) (sym is.0) is.2)) h,
    tt,
  );
  goes_aside = λ t a on apart h. (
    all-filter (λ (x : Admin). (x.conn == c) ≡ true → x.joined ≡ false) (λ b. not (is_admin_on a.conn b)) t.admins h,
    (λ aside. inr tt, tt),
  );
}

shy-running : (b joins : Bool) (c : ℕ) (o : Origin) (e : Event) (t : Table) → KeepsShy joins c e t [] (running b o t)
shy-running true joins c o e t apart h = (h, tt)
shy-running false joins c o e t apart h = (h, tt)

shy-ticks : (joins : Bool) (c : ℕ) (o : Origin) (e : Event) → Ticks o e (KeepsShy joins c e)
shy-ticks joins c o e = record {
  stamping = λ t apart h. (h, tt);
  behind = behind-of o e (KeepsShy joins c e) (shy-turns joins c o e);
  running = λ t b is. shy-running b joins c o e t;
}

shy-closing : (joins : Bool) (c : ℕ) (o : Origin) (e : Event) → Closing o e (KeepsShy joins c e)
shy-closing joins c o e = record {
  charges = λ t apart h. (h, tt);
  closes = λ t apart h. (tt, (λ aside. absurd aside, (λ aside. inr tt, (λ aside. inr tt, tt))));
}

-- ---- an event that is not its own

shy-main : (full joins : Bool) (c : ℕ) (e : Event) (t : Table) → KeepsShy joins c e t (arrives full (counted_in t)).told
    (arrives full (counted_in t)).table
shy-main true joins c e t apart h = (h, (λ aside. absurd aside, (λ aside. inr tt, tt)))
shy-main false joins c e t apart h = (h, tt)

shy-side : (full joins : Bool) (c : ℕ) (e : Event) (t : Table) → KeepsShy joins c e t (admin_arrives full (counted_aside t)).told
    (admin_arrives full (counted_aside t)).table
shy-side true joins c e t apart h = (h, (λ aside. inr tt, (λ aside. inr tt, tt)))
shy-side false joins c e t apart h = (
  all-append (λ (x : Admin). (x.conn == c) ≡ true → x.joined ≡ false) t.admins _ h
      (λ at. refl, tt),
  tt,
)

shy-event : (joins : Bool) (c : ℕ) (o : Origin) (e : Event) (t : Table) → KeepsShy joins c e t (by_event o e t).told (by_event o e t).table
shy-event joins c o (Open Main peer) t = shy-main (nat_le o.setup.max_clients (length t.members)) joins c (Open Main peer) t
shy-event joins c o (Open Side peer) t = shy-side (nat_le most_admins (length t.admins)) joins c (Open Side peer) t
shy-event joins c o (Packet conn kind body) t = let e : Event = Packet conn kind body in
    of-event o e (KeepsShy joins c e) (shy-walk joins c o e) t refl refl
shy-event joins c o (Broken conn) t = of-event o (Broken conn) (KeepsShy joins c (Broken conn)) (shy-walk joins c o (Broken conn)) t refl
    refl
shy-event joins c o (Shut conn) t = of-event o (Shut conn) (KeepsShy joins c (Shut conn)) (shy-walk joins c o (Shut conn)) t refl refl
shy-event joins c o Tick t = of-ticked o Tick (KeepsShy joins c Tick) (shy-walk joins c o Tick) (shy-ticks joins c o Tick) t
shy-event joins c o Stop t = of-event o Stop (KeepsShy joins c Stop) (shy-walk joins c o Stop) t refl refl

other-deed : (joins : Bool) (c : ℕ) (o : Origin) (e : Event) (t : Table) → (Names e c → ⊥) → Stranger c t.admins
    → AllByRecursion (Shy joins c) (deed o e t).told
other-deed joins c o e t apart h = (of-deed-by o e (KeepsShy joins c e) (shy-walk joins c o e) (shy-closing joins c o e) t
    (λ is. shy-event joins c o e t) apart h).1

-- ---- an event of its own

module _ (c : ℕ) (o : Origin) (a : Admin) (t : Table) (off : a.joined ≡ false) where
  abbrev AreShy : Bool → Deed → Type 0
  AreShy joins d = AllByRecursion (Shy joins c) d.told

  shy-ends : (joins : Bool) (code : ℕ) → AreShy joins (admin_ends a code t)
  shy-ends joins code = (λ aside. inr tt, (λ aside. inr tt, tt))

  -- all but JOIN and QUIT is refused
  shy-behind : (joins : Bool) (x : Option ℕ) (said : Option AdminMsg)
      → AreShy joins (by_admin_verdict (verdict_of (behind_join a x)) a said t)
  shy-behind joins x said = rw off (shy-ends joins 7)

  shy-join : (x : Option ℕ) (password application version : List ℕ)
      → AreShy true (by_admin_verdict (verdict_of x) a (Some (admins.AdminJoin password application version)) t)
  shy-join None password application version = (λ aside. inr refl, (λ aside. inr refl, tt))
  shy-join (Some code) password application version = shy-ends true code

  shy-word : (msg : AdminMsg) → AreShy (is_join (Some msg)) (admin_hears o (Some msg) a t)
  shy-word (admins.AdminJoin password application version) = shy-join (admin_join_refused o a password application version) password
      application version
  shy-word admins.AdminQuit = (λ aside. inr tt, tt)
  shy-word (admins.AdminUpdateFrequency kind bits) = shy-behind false _ (Some (admins.AdminUpdateFrequency kind bits))
  shy-word (admins.AdminPoll kind id) = shy-behind false _ (Some (admins.AdminPoll kind id))
  shy-word (admins.AdminChat scope to text) = shy-behind false None (Some (admins.AdminChat scope to text))
  shy-word (admins.AdminRcon text) = shy-behind false None (Some (admins.AdminRcon text))
  shy-word (admins.AdminGamescript text) = shy-behind false None (Some (admins.AdminGamescript text))
  shy-word (admins.AdminPing id) = shy-behind false None (Some (admins.AdminPing id))
  shy-word (admins.AdminExternalChat source colour user text) = shy-behind false None
      (Some (admins.AdminExternalChat source colour user text))
  shy-word other = shy-ends false 7

  shy-hears : (said : Option AdminMsg) → AreShy (is_join said) (admin_hears o said a t)
  shy-hears None = shy-ends false 4
  shy-hears (Some msg) = shy-word msg

-- ---- the whole event

closed-shy : (b joins : Bool) (c : ℕ) (t : Table) → AllByRecursion (Shy joins c) (where_ b shut_down t).told
closed-shy true joins c t = (λ aside. absurd aside, (λ aside. inr tt, (λ aside. inr tt, tt)))
closed-shy false joins c t = tt

own-deed : (b joins : Bool) (c : ℕ) (o : Origin) (e : Event) (t : Table) → AllByRecursion (Shy joins c) (by_event o e t).told
    → AllByRecursion (Shy joins c) (where_ b (taken o e) t).told
own-deed true joins c o e t h =
    let v : Table = (by_event o e t ▹ charged e).table in
    let b : Bool = stops o e t || nat_le o.setup.cost v.cost || (v.frame == last_frame) in
    all-append (Shy joins c) ((by_event o e t).told ++ []) (where_ b shut_down v).told
    (all-append (Shy joins c) (by_event o e t).told [] h tt) (closed-shy b joins c v)
own-deed false joins c o e t h = tt

at-conn : (t : Table) (c conn : ℕ) (a : Admin) → conn ≡ c → admin_of t c ≡ Some a → admin_of t conn ≡ Some a
at-conn t c conn a same is = subst (λ (k : ℕ). admin_of t k ≡ Some a) (sym same) is

-- the packet of its own
own-packet : (o : Origin) (t : Table) (a : Admin) (conn kind : ℕ) (body : List ℕ) → Ordered t → admin_of t conn ≡ Some a → a.joined ≡ false
    → (c : ℕ) → AllByRecursion (Shy (is_join (read_admin kind body)) c) (by_event o (Packet conn kind body) t).told
own-packet o t a conn kind body order is off c =
    let said : Option AdminMsg = read_admin kind body in
    let same : by_event o (Packet conn kind body) t ≡ admin_hears o said a t =
    ap₂ (λ (x : Option Member) (y : Option Admin). to_named x y (heard o (read_msg kind body)) (admin_hears o said) t)
    (no-member t conn a order is) is in
    subst (λ (d : Deed). AllByRecursion (Shy (is_join said) c) d.told) (sym same) (shy-hears c o a t off said)

own-break : (o : Origin) (t : Table) (a : Admin) (conn : ℕ) → Ordered t → admin_of t conn ≡ Some a → a.joined ≡ false
    → (c : ℕ) → AllByRecursion (Shy false c) (by_event o (Broken conn) t).told
own-break o t a conn order is off c =
    let same : by_event o (Broken conn) t ≡ admin_hears o None a t =
    ap₂ (λ (x : Option Member) (y : Option Admin). to_named x y (heard o None) (admin_hears o None) t) (no-member t conn a order is) is in
    subst (λ (d : Deed). AllByRecursion (Shy false c) d.told) (sym same) (shy-hears c o a t off None)

not-named : (conn c : ℕ) → (conn == c) ≡ false → conn ≡ c → ⊥
not-named conn c is same = let yes : (conn == c) ≡ true = eq-eqb conn c same in absurd cc

all-steps : (c : ℕ) (o : Origin) (e : Event) (t : Table) (a : Admin) → Ordered t → admin_of t c ≡ Some a → a.joined ≡ false
    → Stranger c t.admins → AllByRecursion (Shy (says_join e c) c) (deed o e t).told
all-steps c o (Packet conn kind body) t a order is off h = by (conn == c) refl
  where
    by : (b : Bool) → (conn == c) ≡ b → AllByRecursion (Shy (b && is_join (read_admin kind body)) c) (deed o (Packet conn kind body) t).told
    by true at = let e : Event = Packet conn kind body in
        own-deed (takes t e) (is_join (read_admin kind body)) c o e t (own-packet o t a conn kind body order (at-conn t c conn a
        (eqb-true conn c at) is) off c)
    by false at = other-deed false c o (Packet conn kind body) t (not-named conn c at) h
all-steps c o (Broken conn) t a order is off h = by (conn == c) refl
  where
    by : (b : Bool) → (conn == c) ≡ b → AllByRecursion (Shy false c) (deed o (Broken conn) t).told
    by true at = own-deed (takes t (Broken conn)) false c o (Broken conn) t (own-break o t a conn order (at-conn t c conn a
        (eqb-true conn c at) is) off c)
    by false at = other-deed false c o (Broken conn) t (not-named conn c at) h
all-steps c o (Shut conn) t a order is off h = other-deed false c o (Shut conn) t (λ never. never) h
all-steps c o (Open door peer) t a order is off h = other-deed false c o (Open door peer) t (λ never. never) h
all-steps c o Tick t a order is off h = other-deed false c o Tick t (λ never. never) h
all-steps c o Stop t a order is off h = other-deed false c o Stop t (λ never. never) h

-- what is told of steps that are for admins, and shy
first-one : (joins : Bool) (c : ℕ) (o : Origin) (f : Filling) (s : Step) → Aside c s → Shy joins c s → Says (IsFirstWord joins) c o f s
first-one joins c o f s (inl others) shy = inl others
first-one joins c o f s (inr aside) shy = by (shy aside)
  where
    by : NotIn c s.to ⊎ IsFirstOf joins s.what → Says (IsFirstWord joins) c o f s
    by (inl others) = inl others
    by (inr is) = inr (first-says joins s.what o f is)

first-all : (joins : Bool) (c : ℕ) (o : Origin) (f : Filling) (steps : List Step) → AllByRecursion (Aside c) steps
    → AllByRecursion (Shy joins c) steps → AllByRecursion (Says (IsFirstWord joins) c o f) steps
first-all joins c o f [] a b = tt
first-all joins c o f (s ∷ steps) a b = (first-one joins c o f s a.0 b.0, first-all joins c o f steps a.1 b.1)

-- ---- who it is

none-stranger : (c : ℕ) (xs : List Admin) → NotIn c (admin_conns xs) → Stranger c xs
none-stranger c [] a = tt
none-stranger c (x ∷ xs) a = let other : (x.conn == c) ≡ false = a.0 in (λ at. absurd cc, none-stranger c xs a.1)

strange-by : (b : Bool) (c : ℕ) (x a : Admin) (xs : List Admin) → (x.conn == c) ≡ b → AreRising x.conn (admin_conns xs) → a.joined ≡ false
    → cond b (Some x) (find (is_admin_on c) xs) ≡ Some a → (find (is_admin_on c) xs ≡ Some a → Stranger c xs) → Stranger c (x ∷ xs)
strange-by true c x a xs at rising off is later =
    let same : x ≡ a = cc in
    let own : x.conn ≡ c = eqb-true x.conn c at in (
      λ yes. ap (λ (y : Admin). y.joined) same ∙ off,
      none-stranger c xs (rising-not x.conn c (admin_conns xs) (omega (arith, own)) rising),
    )
strange-by false c x a xs at rising off is later = (λ yes. absurd cc, later is)

strange-from : (n c : ℕ) (xs : List Admin) (a : Admin) → AreRising n (admin_conns xs) → a.joined ≡ false → find (is_admin_on c) xs ≡ Some a
    → Stranger c xs
strange-from n c [] a rising off is = absurd cc
strange-from n c (x ∷ xs) a rising off is = strange-by (x.conn == c) c x a xs refl rising.1 off is
    (λ later. strange-from x.conn c xs a rising.1 off later)

low-of : (n : ℕ) (xs : List Admin) (a : Admin) → Among a xs → AllByRecursion (λ c. c ≤ n) (admin_conns xs) → a.conn ≤ n
low-of n [] a there h = absurd there
low-of n (x ∷ xs) a (inl here) h = subst (λ (y : Admin). y.conn ≤ n) here h.0
low-of n (x ∷ xs) a (inr later) h = low-of n xs a later h.1

spared : (c : ℕ) (e : Event) (t : Table) → c ≤ t.openings → Spares Main c t e
spared c (Open door peer) t low = λ same. ne_eqb (t.openings + 1) c (λ at. omega (arith, at, low))
spared c (Packet conn kind body) t low = tt
spared c (Broken conn) t low = tt
spared c (Shut conn) t low = tt
spared c Tick t low = tt
spared c Stop t low = tt

pub greeted : (o : Origin) (es : List Event) (e : Event) (a : Admin) → admin_of (table_of o es) a.conn ≡ Some a → a.joined ≡ false
    → AllByRecursion (IsFirstWord (says_join e a.conn)) (told o es e a.conn)
greeted o es e a is off =
    let t : Table = table_of o es in
    let c : ℕ = a.conn in
    let order : Ordered t = is-ordered o es in
    let none : NotIn c (conns t.members) = none-member c (member_of t c) t.members refl (no-member t c a order is) in
    let kept = is-kept c o es in
    let out : Out c t = record {
      members = none;
      queue = place-gone kept.phase c t.queue (conns t.members) (any-not c (conns t.members) none) kept.holds.place;
    } in
    let low : c ≤ t.openings = low-of t.openings t.admins a (found-among (is_admin_on c) a t.admins is) order.admins_under in
    let aside : AllByRecursion (Aside c) (deed o e t).told = (out-deed c o e t (spared c e t low) out).1 in
    let shy : AllByRecursion (Shy (says_join e c) c) (deed o e t).told = all-steps c o e t a order is off (strange-from 0 c t.admins a
    order.admins_rise off is) in
    let f : Filling = filling o t (stepped o t e) in
    heard-all (IsFirstWord (says_join e c)) c o f (deed o e t).told (first-all (says_join e c) c o f (deed o e t).told aside shy)

-- who comes in at the side is told at most that there is no room, and that the game is over
pub opened-first : (o : Origin) (es : List Event) (peer : Peer) → AllByRecursion (IsFirstWord false) (told o es (Open Side peer)
    ((table_of o es).openings + 1))
opened-first o es peer =
    let t : Table = table_of o es in
    let c : ℕ = t.openings + 1 in
    let e : Event = Open Side peer in
    let order : Ordered t = is-ordered o es in
    let none : NotIn c (conns t.members) = under-not t.openings c (conns t.members) (omega arith) order.under in
    let kept = is-kept c o es in
    let out : Out c t = record {
      members = none;
      queue = place-gone kept.phase c t.queue (conns t.members) (any-not c (conns t.members) none) kept.holds.place;
    } in
    let aside : AllByRecursion (Aside c) (deed o e t).told = (out-deed c o e t (λ same. absurd cc) out).1 in
    let shy : AllByRecursion (Shy false c) (deed o e t).told = other-deed false c o e t (λ never. never)
    (none-stranger c t.admins (under-not t.openings c (admin_conns t.admins) (omega arith) order.admins_under)) in
    let f : Filling = filling o t (stepped o t e) in
    heard-all (IsFirstWord false) c o f (deed o e t).told (first-all false c o f (deed o e t).told aside shy)
