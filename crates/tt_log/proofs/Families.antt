-- Each door has its family of messages: members hear of the game alone, and admins of the admin family alone.
use Rattle.std.proofs.Common.{◌≡◌, ◌⊎◌, inl, inr, ℕ, ◌+◌, ◌≤◌, List, [], ◌∷◌, ◌++◌, refl, ap, sym, ◌∙◌, subst, true, false, Bool}
use Rattle.std.proofs.Common.{Some, None}
use Rattle.std.proofs.Common.{arith}
use Rattle.std.specs.Prelude.{◌==◌, ◌&&◌, drop, take, length, nat_le, map, not, cond}
use Rattle.std.specs.List.{AllByRecursion}
use Rattle.std.proofs.lemmas.Bool.{ne_eqb, eqb-true}
use Rattle.tt_edge.specs.declared.event.Door.{Door}
use Rattle.tt_edge.specs.declared.event.Door.TheVariants.{Main, Side}
use Rattle.tt_edge.specs.declared.event.Event.{Event}
use Rattle.tt_edge.specs.declared.event.Event.TheVariants.{Open, Packet, Broken, Shut, Tick, Stop}
use Rattle.tt_edge.specs.Event.{is_open}
use Rattle.tt_game.specs.declared.message.GameMsg.{GameMsg}
use Rattle.tt_admin.specs.declared.message.AdminMsg.{AdminMsg}
use Rattle.tt_log.specs.declared.deed.Step.{Step}
use Rattle.tt_log.specs.declared.deed.What.{What}
use Rattle.tt_log.specs.declared.deed.What.TheVariants.{Msg, ToAdmin, MapBegin, MapPieces, Sync, Entries, Stamp, End}
use Rattle.tt_log.specs.Origin.{Origin, above}
use Rattle.tt_log.specs.Member.{Member, is_playing}
use Rattle.tt_log.specs.Admin.{Admin}
use Rattle.tt_log.specs.Table.{Table, first, is_on, is_admin_on}
use Rattle.tt_log.specs.Deed.{Said, game, admin, Deed, where_}
use Rattle.tt_log.specs.PacketRules.{told_command}
use Rattle.tt_log.specs.Desk.{admin_arrives, counted_aside, most_admins}
use Rattle.tt_log.specs.Doors.{IsOfGame, IsOfAdmins, door_from, door_of}
use Rattle.tt_log.specs.Tick.{drawn}
use Rattle.tt_log.specs.Events.{arrives, counted_in, by_event, takes, taken, names_live, deed, stepped}
use Rattle.tt_log.specs.Reports.{reported}
use Rattle.tt_log.specs.Tellings.{Filling, filling, tellings, piece_messages, said_by}
use Rattle.tt_log.specs.Told.{told_to, told_by, heard_from, heard}
use Rattle.tt_log.proofs.Going.{over-stays}
use Rattle.tt_log.proofs.Lists.{NotIn, IsOther, all-append, all-so, all-take, all-drop, all-of-filter}
use Rattle.tt_log.proofs.Crew.{put, conns, admin_conns, put-conns, put-admin-conns}
use Rattle.tt_log.proofs.Changes.{Change, wants_password, is_let_in, gets_token, gets_frame, answers, plays, commands, has_name, goes_to}
use Rattle.tt_log.proofs.Changes.{founds, gets_pieces, has_all, Move, queues, begins_map, loads, IsNews, steps_with, told_with}
use Rattle.tt_log.proofs.Changes.{turned, moved}
use Rattle.tt_log.proofs.Walk.{Turns, ahead-of, behind-of}
use Rattle.tt_log.proofs.Walk.{Base, Walk, Moves, Ticks, Closing, running, told_moved, of-asks, of-enters, of-leaves, of-event, of-ticked}
use Rattle.tt_log.proofs.Walk.{of-deed-by}
use Rattle.tt_log.proofs.Ordered.{map-same, all-more}
use Rattle.tt_log.proofs.Apart.{Misses, among-not, own-missed, moved-missed}
use Rattle.tt_log.proofs.Counting.{one_if, taken-counts}
use Rattle.tt_log.proofs.Hearing.{Says, heard-all}

-- ---- what is for which family

abbrev pub IsAside : What → Type 0
IsAside (ToAdmin r) = Unit
IsAside End = Unit
IsAside other = ⊥

abbrev pub IsInside : What → Type 0
IsInside (ToAdmin r) = ⊥
IsInside other = Unit

all-admins : (said : List AdminMsg) → AllByRecursion IsOfAdmins (map admin said)
all-admins [] = tt
all-admins (m ∷ said) = (tt, all-admins said)

all-game : (said : List GameMsg) → AllByRecursion IsOfGame (map game said)
all-game [] = tt
all-game (m ∷ said) = (tt, all-game said)

mapped-game : {A : Type 0} (f : A → GameMsg) (xs : List A) → AllByRecursion IsOfGame (map (λ x. game (f x)) xs)
mapped-game f [] = tt
mapped-game f (x ∷ xs) = (tt, mapped-game f xs)

aside-says : (w : What) (o : Origin) (f : Filling) → IsAside w → AllByRecursion IsOfAdmins (said_by o f w)
aside-says (ToAdmin r) o f is = all-admins (reported o f r)
aside-says End o f is = tt
aside-says (Msg m) o f is = absurd is
aside-says MapBegin o f is = absurd is
aside-says MapPieces o f is = absurd is
aside-says Sync o f is = absurd is
aside-says (Entries frame) o f is = absurd is
aside-says (Stamp e) o f is = absurd is

inside-says : (w : What) (o : Origin) (f : Filling) → IsInside w → AllByRecursion IsOfGame (said_by o f w)
inside-says (ToAdmin r) o f is = absurd is
inside-says End o f is = tt
inside-says (Msg m) o f is = (tt, tt)
inside-says MapBegin o f is = (tt, (tt, tt))
inside-says MapPieces o f is = all-game (piece_messages f.left)
inside-says Sync o f is = (tt, tt)
inside-says (Entries frame) o f is = mapped-game told_command (above o frame f.journal)
inside-says (Stamp e) o f is = (tt, tt)

-- a step is for others, or tells of its family
abbrev pub Aside : ℕ → Step → Type 0
Aside c s = NotIn c s.to ⊎ IsAside s.what

abbrev pub Inside : ℕ → Step → Type 0
Inside c s = NotIn c s.to ⊎ IsInside s.what

-- ---- who is no member, and does not wait, hears nothing of the game

pub record IsOut (c : ℕ) (ms q : List ℕ) : Type 0 where
  pub members : NotIn c ms
  pub queue : NotIn c q

abbrev pub Out : ℕ → Table → Type 0
Out c t = IsOut c (conns t.members) t.queue

abbrev pub KeepsOut : ℕ → Table → List Step → Table → Type 0
KeepsOut c t steps u = Out c t → Out c u × AllByRecursion (Aside c) steps

put-out : (c : ℕ) (n : Member) (t : Table) → Out c t → IsOut c (conns (put n t.members)) t.queue
put-out c n t h = record { members = subst (λ (xs : List ℕ). NotIn c xs) (sym (put-conns n t.members)) h.members; queue = h.queue }

all-aside : (c : ℕ) (steps : List Step) → Misses c steps → AllByRecursion (Aside c) steps
all-aside c steps a = all-so (λ (s : Step). NotIn c s.to) (Aside c) steps (λ s missed. inl missed) a

out-turns : (c : ℕ) (o : Origin) (e : Event) → Turns o e (KeepsOut c)
out-turns c o e k t m on may by h = (
  put-out c (turned k t m) t h,
  all-aside c (steps_with k o t m) (own-missed c m.conn (told_with k o t m) (among-not c m t.members on h.members)),
)

out-base : (c : ℕ) (o : Origin) (e : Event) → Base o e (KeepsOut c)
out-base c o e = record {
  still = λ t h. (h, tt);
  joins = λ t u v xs ys a b h. let p = a h in let q = b p.0 in (q.0, all-append (Aside c) xs ys p.1 q.1);
  turns = ahead-of o e (KeepsOut c) (out-turns c o e);
  tells_one = λ t m msg on talk h. (h, (inl (among-not c m t.members on h.members, tt), tt));
  tells_some = λ t to w there news h. (h, (inl (there c (all-of-filter (λ (m : Member). m.conn) is_playing c t.members h.members)), tt));
  tells_admins = λ t to r there is h. (h, (inr tt, tt));
}

out-moves : (c : ℕ) (o : Origin) (e : Event) → Moves o e (KeepsOut c)
out-moves c o e = record {
  moving = λ v t m on may h. (
    put-out c (moved v t m) t h,
    all-aside c (told_moved v m) (moved-missed c v m
        (among-not c m t.members on h.members)),
  );
  recalls = λ t m on at h. (h, (inl (among-not c m t.members on h.members, tt), tt));
  waits_on = λ t conn n there h. (h, (inl (there c h.queue), tt));
  stands = λ t m on h. (
    record {
      members = h.members;
      queue = all-append (IsOther c) t.queue (m.conn ∷ []) h.queue (among-not c m t.members on h.members, tt);
    },
    tt,
  );
  cuts = λ t place h. (
    record {
      members = h.members;
      queue = all-append (IsOther c) (take place t.queue) (drop (place + 1) t.queue)
          (all-take (IsOther c) place t.queue h.queue) (all-drop (IsOther c) (place + 1) t.queue h.queue);
    },
    tt,
  );
  ends_one = λ t m on h. (h, (inr tt, tt));
  parts = λ t m on h. (
    record {
      members = all-of-filter (λ (n : Member). n.conn) (λ n. not (is_on m.conn n)) c t.members h.members;
      queue = h.queue;
    },
    tt,
  );
  greets = λ t m on at h. (put-out c _ t h, (inl (among-not c m t.members on h.members, tt), tt));
}

out-walk : (c : ℕ) (o : Origin) (e : Event) → Walk o e (KeepsOut c)
out-walk c o e = record {
  base = out-base c o e;
  locks = λ t m digest on allowed h. (record { members = h.members; queue = h.queue }, tt);
  orders = λ t k is still h. (record { members = h.members; queue = h.queue }, tt);
  asks_map = λ t m on at. of-asks o e (KeepsOut c) (out-base c o e) (out-moves c o e) t m on at;
  enters_game = λ t m on at. of-enters o e (KeepsOut c) (out-base c o e) (out-moves c o e) t m on at;
  goes = λ t m farewell on is. of-leaves o e (KeepsOut c) (out-base c o e) (out-moves c o e) t m farewell on is;
  settles = λ t a b on is h. (record { members = h.members; queue = h.queue }, tt);
  goes_aside = λ t a on h. (record { members = h.members; queue = h.queue }, (inr tt, tt));
}

run-out : (b : Bool) (c : ℕ) (o : Origin) (t : Table) → KeepsOut c t [] (running b o t)
run-out true c o t h = (record { members = h.members; queue = h.queue }, tt)
run-out false c o t h = (record { members = h.members; queue = h.queue }, tt)

out-ticks : (c : ℕ) (o : Origin) (e : Event) → Ticks o e (KeepsOut c)
out-ticks c o e = record {
  stamping = λ t h. (
    record {
      members = subst (λ (xs : List ℕ). NotIn c xs) (sym (map-same (λ (m : Member). m.conn) drawn t.members (λ m. refl))) h.members;
      queue = h.queue;
    },
    tt,
  );
  behind = behind-of o e (KeepsOut c) (out-turns c o e);
  running = λ t b is. run-out b c o t;
}

out-closing : (c : ℕ) (o : Origin) (e : Event) → Closing o e (KeepsOut c)
out-closing c o e = record {
  charges = λ t h. (record { members = h.members; queue = h.queue }, tt);
  closes = λ t h. (record { members = tt; queue = tt }, (inl h.members, (inr tt, (inr tt, tt))));
}

-- an opening at the door is one of another connection
abbrev pub Spares : Door → ℕ → Table → Event → Type 0
Spares d c t (Open door peer) = door ≡ d → (t.openings + 1 == c) ≡ false
Spares d c t other = Unit

come-out : (full : Bool) (c : ℕ) (t : Table) → (t.openings + 1 == c) ≡ false
    → KeepsOut c t (arrives full (counted_in t)).told (arrives full (counted_in t)).table
come-out true c t ne h = (record { members = h.members; queue = h.queue }, (inl (ne, tt), (inl (ne, tt), tt)))
come-out false c t ne h = (
  record {
    members = all-more (IsOther c) (λ (m : Member). m.conn) t.members _ h.members ne;
    queue = h.queue;
  },
  tt,
)

aside-out : (full : Bool) (c : ℕ) (t : Table) → KeepsOut c t (admin_arrives full (counted_aside t)).told
    (admin_arrives full (counted_aside t)).table
aside-out true c t h = (record { members = h.members; queue = h.queue }, (inr tt, (inr tt, tt)))
aside-out false c t h = (record { members = h.members; queue = h.queue }, tt)

out-event : (c : ℕ) (o : Origin) (e : Event) (t : Table) → Spares Main c t e → KeepsOut c t (by_event o e t).told (by_event o e t).table
out-event c o (Open Main peer) t spares = come-out (nat_le o.setup.max_clients (length t.members)) c t (spares refl)
out-event c o (Open Side peer) t spares = aside-out (nat_le most_admins (length t.admins)) c t
out-event c o (Packet conn kind body) t spares = of-event o (Packet conn kind body) (KeepsOut c) (out-walk c o (Packet conn kind body)) t
    refl refl
out-event c o (Broken conn) t spares = of-event o (Broken conn) (KeepsOut c) (out-walk c o (Broken conn)) t refl refl
out-event c o (Shut conn) t spares = of-event o (Shut conn) (KeepsOut c) (out-walk c o (Shut conn)) t refl refl
out-event c o Tick t spares = of-ticked o Tick (KeepsOut c) (out-walk c o Tick) (out-ticks c o Tick) t
out-event c o Stop t spares = of-event o Stop (KeepsOut c) (out-walk c o Stop) t refl refl

-- what is said of steps that are for one family
says-aside : (c : ℕ) (o : Origin) (f : Filling) (s : Step) → Aside c s → Says IsOfAdmins c o f s
says-aside c o f s (inl others) = inl others
says-aside c o f s (inr is) = inr (aside-says s.what o f is)

pub out-deed : (c : ℕ) (o : Origin) (e : Event) (t : Table) → Spares Main c t e → KeepsOut c t (deed o e t).told (stepped o t e)
out-deed c o e t spares = of-deed-by o e (KeepsOut c) (out-walk c o e) (out-closing c o e) t (λ is. out-event c o e t spares)

out-step : (c : ℕ) (o : Origin) (e : Event) (t : Table) → Spares Main c t e → Out c t → Out c (stepped o t e)
    × AllByRecursion IsOfAdmins (told_by o t e c)
out-step c o e t spares h =
    let d = out-deed c o e t spares h in
    let f : Filling = filling o t (stepped o t e) in (
      d.0,
      heard-all IsOfAdmins c o f (deed o e t).told (all-so (Aside c) (Says IsOfAdmins c o f) (deed o e t).told
          (λ s. says-aside c o f s) d.1),
    )

-- ---- who is no admin hears nothing of theirs

abbrev KeepsIn : ℕ → Table → List Step → Table → Type 0
KeepsIn c t steps u = NotIn c (admin_conns t.admins) → NotIn c (admin_conns u.admins) × AllByRecursion (Inside c) steps

pub with-inside : (k : Change) (c : ℕ) (o : Origin) (t : Table) (m : Member) → AllByRecursion (Inside c) (steps_with k o t m)
with-inside (wants_password true name asked) c o t m = (inr tt, tt)
with-inside (wants_password false name asked) c o t m = (inr tt, tt)
with-inside (is_let_in name asked) c o t m = (inr tt, tt)
with-inside gets_token c o t m = (inr tt, tt)
with-inside gets_frame c o t m = (inr tt, tt)
with-inside (gets_pieces left) c o t m = (inr tt, tt)
with-inside (answers frame token) c o t m = tt
with-inside plays c o t m = tt
with-inside (commands company code number to text command) c o t m = tt
with-inside (has_name name) c o t m = tt
with-inside (goes_to company digest) c o t m = tt
with-inside (founds company) c o t m = tt
with-inside has_all c o t m = tt

pub news-inside : (o : Origin) (e : Event) (t : Table) (w : What) → IsNews o e t w → IsInside w
news-inside o e t (Msg m) news = tt
news-inside o e t (Stamp x) news = tt
news-inside o e t Sync news = tt
news-inside o e t (ToAdmin r) news = absurd news
news-inside o e t MapBegin news = tt
news-inside o e t MapPieces news = tt
news-inside o e t (Entries frame) news = tt
news-inside o e t End news = tt

pub moved-inside : (c : ℕ) (v : Move) (m : Member) → AllByRecursion (Inside c) (told_moved v m)
moved-inside c queues m = tt
moved-inside c begins_map m = (inr tt, tt)
moved-inside c loads m = tt

in-turns : (c : ℕ) (o : Origin) (e : Event) → Turns o e (KeepsIn c)
in-turns c o e k t m on may by h = (h, with-inside k c o t m)

in-base : (c : ℕ) (o : Origin) (e : Event) → Base o e (KeepsIn c)
in-base c o e = record {
  still = λ t h. (h, tt);
  joins = λ t u v xs ys a b h. let p = a h in let q = b p.0 in (q.0, all-append (Inside c) xs ys p.1 q.1);
  turns = ahead-of o e (KeepsIn c) (in-turns c o e);
  tells_one = λ t m msg on talk h. (h, (inr tt, tt));
  tells_some = λ t to w there news h. (h, (inr (news-inside o e t w news), tt));
  tells_admins = λ t to r may is h. (h, (inl (may.within c h), tt));
}

in-moves : (c : ℕ) (o : Origin) (e : Event) → Moves o e (KeepsIn c)
in-moves c o e = record {
  moving = λ v t m on may h. (h, moved-inside c v m);
  recalls = λ t m on at h. (h, (inr tt, tt));
  waits_on = λ t conn n there h. (h, (inr tt, tt));
  stands = λ t m on h. (h, tt);
  cuts = λ t place h. (h, tt);
  ends_one = λ t m on h. (h, (inr tt, tt));
  parts = λ t m on h. (h, tt);
  greets = λ t m on at h. (h, (inr tt, tt));
}

in-walk : (c : ℕ) (o : Origin) (e : Event) → Walk o e (KeepsIn c)
in-walk c o e = record {
  base = in-base c o e;
  locks = λ t m digest on allowed h. (h, tt);
  orders = λ t k is still h. (h, tt);
  asks_map = λ t m on at. of-asks o e (KeepsIn c) (in-base c o e) (in-moves c o e) t m on at;
  enters_game = λ t m on at. of-enters o e (KeepsIn c) (in-base c o e) (in-moves c o e) t m on at;
  goes = λ t m farewell on is. of-leaves o e (KeepsIn c) (in-base c o e) (in-moves c o e) t m farewell on is;
  settles = λ t a b on is h. (subst (λ (xs : List ℕ). NotIn c xs) (sym (put-admin-conns b t.admins)) h, tt);
  goes_aside = λ t a on h. (all-of-filter (λ (d : Admin). d.conn) (λ d. not (is_admin_on a.conn d)) c t.admins h, (inr tt, tt));
}

run-in : (b : Bool) (c : ℕ) (o : Origin) (t : Table) → KeepsIn c t [] (running b o t)
run-in true c o t h = (h, tt)
run-in false c o t h = (h, tt)

in-ticks : (c : ℕ) (o : Origin) (e : Event) → Ticks o e (KeepsIn c)
in-ticks c o e = record {
  stamping = λ t h. (h, tt);
  behind = behind-of o e (KeepsIn c) (in-turns c o e);
  running = λ t b is. run-in b c o t;
}

in-closing : (c : ℕ) (o : Origin) (e : Event) → Closing o e (KeepsIn c)
in-closing c o e = record { charges = λ t h. (h, tt); closes = λ t h. (tt, (inr tt, (inl h, (inr tt, tt)))) }

come-in : (full : Bool) (c : ℕ) (t : Table) → KeepsIn c t (arrives full (counted_in t)).told (arrives full (counted_in t)).table
come-in true c t h = (h, (inr tt, (inr tt, tt)))
come-in false c t h = (h, tt)

aside-in : (full : Bool) (c : ℕ) (t : Table) → (t.openings + 1 == c) ≡ false → KeepsIn c t (admin_arrives full (counted_aside t)).told
    (admin_arrives full (counted_aside t)).table
aside-in true c t ne h = (h, (inl (ne, tt), (inl (ne, tt), tt)))
aside-in false c t ne h = (all-more (IsOther c) (λ (a : Admin). a.conn) t.admins _ h ne, tt)

in-event : (c : ℕ) (o : Origin) (e : Event) (t : Table) → Spares Side c t e → KeepsIn c t (by_event o e t).told (by_event o e t).table
in-event c o (Open Main peer) t spares = come-in (nat_le o.setup.max_clients (length t.members)) c t
in-event c o (Open Side peer) t spares = aside-in (nat_le most_admins (length t.admins)) c t (spares refl)
in-event c o (Packet conn kind body) t spares = of-event o (Packet conn kind body) (KeepsIn c) (in-walk c o (Packet conn kind body)) t
    refl refl
in-event c o (Broken conn) t spares = of-event o (Broken conn) (KeepsIn c) (in-walk c o (Broken conn)) t refl refl
in-event c o (Shut conn) t spares = of-event o (Shut conn) (KeepsIn c) (in-walk c o (Shut conn)) t refl refl
in-event c o Tick t spares = of-ticked o Tick (KeepsIn c) (in-walk c o Tick) (in-ticks c o Tick) t
in-event c o Stop t spares = of-event o Stop (KeepsIn c) (in-walk c o Stop) t refl refl

says-inside : (c : ℕ) (o : Origin) (f : Filling) (s : Step) → Inside c s → Says IsOfGame c o f s
says-inside c o f s (inl others) = inl others
says-inside c o f s (inr is) = inr (inside-says s.what o f is)

in-step : (c : ℕ) (o : Origin) (e : Event) (t : Table) → Spares Side c t e → NotIn c (admin_conns t.admins)
    → NotIn c (admin_conns (stepped o t e).admins) × AllByRecursion IsOfGame (told_by o t e c)
in-step c o e t spares h =
    let d = of-deed-by o e (KeepsIn c) (in-walk c o e) (in-closing c o e) t (λ is. in-event c o e t spares) h in
    let f : Filling = filling o t (stepped o t e) in (
      d.0,
      heard-all IsOfGame c o f (deed o e t).told (all-so (Inside c) (Says IsOfGame c o f) (deed o e t).told
          (λ s. says-inside c o f s) d.1),
    )

-- ---- openings

-- where the game is over nothing is told
over-silent : (o : Origin) (es : List Event) (t : Table) (c : ℕ) → t.over ≡ true → heard_from o t es c ≡ []
over-silent o [] t c over = refl
over-silent o (e ∷ es) t c over = ap (λ (d : Deed). told_to c (tellings o t d) ++ heard_from o d.table es c) (over-stays o t e over)
    ∙ over-silent o es t c over

-- an opening counts, as long as the game goes on
counted : (o : Origin) (e : Event) (t : Table) → ((stepped o t e).over ≡ true)
    ⊎ ((stepped o t e).openings ≡ t.openings + one_if (is_open e))
counted o e t = by t.over refl
  where
    untaken : (d : Event) → (false ≡ true) ⊎ (is_open d ≡ true → names_live t d ≡ true)
    untaken (Open door peer) = inr (λ is. refl)
    untaken (Packet conn kind body) = inr (λ is. absurd cc)
    untaken (Broken conn) = inr (λ is. absurd cc)
    untaken (Shut conn) = inr (λ is. absurd cc)
    untaken Tick = inr (λ is. absurd cc)
    untaken Stop = inr (λ is. absurd cc)

    stays : (b : Bool) → is_open e ≡ b → (b ≡ true → names_live t e ≡ true) → names_live t e ≡ false → t.openings ≡ t.openings + one_if b
    stays true is live off = absurd (let l : names_live t e ≡ true = live refl in cc)
    stays false is live off = omega arith

    opens : (false ≡ true) ⊎ (is_open e ≡ true → names_live t e ≡ true) → is_open e ≡ true → names_live t e ≡ true
    opens (inl never) is = absurd cc
    opens (inr live) is = live is

    going : (b : Bool) → takes t e ≡ b → (b ≡ false → names_live t e ≡ false) → (where_ b (taken o e) t).table.openings
        ≡ t.openings + one_if (is_open e)
    going true is off = (taken-counts true o e t refl).0
    going false is off = stays (is_open e) refl (opens (untaken e)) (off refl)

    by : (b : Bool) → t.over ≡ b → ((stepped o t e).over ≡ true) ⊎ ((stepped o t e).openings ≡ t.openings + one_if (is_open e))
    by true over = inl (ap (λ (d : Deed). d.table.over) (over-stays o t e over) ∙ over)
    by false over = inr (going (takes t e) refl (λ off. ap (λ (b : Bool). not b && names_live t e) (sym over) ∙ off))

-- who was opened before is not opened again
door-none : (es : List Event) (n c : ℕ) → c ≤ n → door_from n es c ≡ None
door-none [] n c l = refl
door-none (Open door peer ∷ es) n c l = rw (ne_eqb (n + 1) c (λ e. omega (arith, e, l))) (door-none es (n + 1) c (omega (arith, l)))
door-none (Packet conn kind body ∷ es) n c l = door-none es n c l
door-none (Broken conn ∷ es) n c l = door-none es n c l
door-none (Shut conn ∷ es) n c l = door-none es n c l
door-none (Tick ∷ es) n c l = door-none es n c l
door-none (Stop ∷ es) n c l = door-none es n c l

-- what holds of a connection until it is opened at a door holds of one that is not
module _ (o : Origin) (c : ℕ) (d : Door) (K : Table → Type 0) (P : Said → Type 0) (one : (e : Event) (t : Table) → Spares d c t e → K t
    → K (stepped o t e) × AllByRecursion P (told_by o t e c)) where
  abbrev Goal : Table → List Event → Type 0
  Goal t es = AllByRecursion P (heard_from o t es c)

  silent : (t : Table) (es : List Event) → t.over ≡ true → Goal t es
  silent t es over = subst (λ (said : List Said). AllByRecursion P said) (sym (over-silent o es t c over)) tt

  -- so many openings more
  then_ : (e : Event) (t : Table) (n m : ℕ) → t.openings ≡ n → n + one_if (is_open e) ≡ m → ((stepped o t e).over ≡ true)
      ⊎ ((stepped o t e).openings ≡ m)
  then_ e t n m at more = by (counted o e t)
    where
      by : ((stepped o t e).over ≡ true) ⊎ ((stepped o t e).openings ≡ t.openings + one_if (is_open e)) → ((stepped o t e).over ≡ true)
          ⊎ ((stepped o t e).openings ≡ m)
      by (inl over) = inl over
      by (inr is) = inr (is ∙ ap (λ (k : ℕ). k + one_if (is_open e)) at ∙ more)

  next : (e : Event) (es : List Event) (t : Table) (n m : ℕ) → t.openings ≡ n → n + one_if (is_open e) ≡ m → Spares d c t e → K t
      → (((stepped o t e).over ≡ true) ⊎ ((stepped o t e).openings ≡ m) → K (stepped o t e) → Goal (stepped o t e) es) → Goal t (e ∷ es)
  next e es t n m at more spares k rest =
      let s = one e t spares k in
      all-append P (told_by o t e c) (heard_from o (stepped o t e) es c) s.1 (rest (then_ e t n m at more) s.0)

  opened-by : (b : Bool) (door : Door) (n : ℕ) (es : List Event) → (n + 1 == c) ≡ b → (cond b (Some door) (door_from (n + 1) es c) ≡ Some d
      → ⊥) → (door_from (n + 1) es c ≡ Some d → ⊥)
  opened-by true door n es is apart = λ later. let none : door_from (n + 1) es c ≡ None = door-none es (n + 1) c
      (let same : n + 1 ≡ c = eqb-true (n + 1) c is in omega (arith, same)) in absurd cc
  opened-by false door n es is apart = apart

  spared-by : (b : Bool) (door : Door) (n : ℕ) (es : List Event) → (n + 1 == c) ≡ b → (cond b (Some door) (door_from (n + 1) es c) ≡ Some d
      → ⊥) → door ≡ d → (n + 1 == c) ≡ false
  spared-by true door n es is apart same = absurd (apart (ap (λ (x : Door). Some x) same))
  spared-by false door n es is apart same = is

  from-door : (es : List Event) (t : Table) (n : ℕ) → (t.over ≡ true) ⊎ (t.openings ≡ n) → K t → (door_from n es c ≡ Some d → ⊥) → Goal t es
  from-door [] t n at k apart = tt
  from-door (e ∷ es) t n (inl over) k apart = silent t (e ∷ es) over
  from-door (Open door peer ∷ es) t n (inr at) k apart =
      next (Open door peer) es t n (n + 1) at refl (λ same. ap (λ (m : ℕ). m + 1 == c) at
      ∙ spared-by (n + 1 == c) door n es refl apart same) k
      (λ on h. from-door es (stepped o t (Open door peer)) (n + 1) on h (opened-by (n + 1 == c) door n es refl apart))
  from-door (Packet conn kind body ∷ es) t n (inr at) k apart = next (Packet conn kind body) es t n n at (omega arith) tt k
      (λ on h. from-door es (stepped o t (Packet conn kind body)) n on h apart)
  from-door (Broken conn ∷ es) t n (inr at) k apart = next (Broken conn) es t n n at (omega arith) tt k
      (λ on h. from-door es (stepped o t (Broken conn)) n on h apart)
  from-door (Shut conn ∷ es) t n (inr at) k apart = next (Shut conn) es t n n at (omega arith) tt k
      (λ on h. from-door es (stepped o t (Shut conn)) n on h apart)
  from-door (Tick ∷ es) t n (inr at) k apart = next Tick es t n n at (omega arith) tt k
      (λ on h. from-door es (stepped o t Tick) n on h apart)
  from-door (Stop ∷ es) t n (inr at) k apart = next Stop es t n n at (omega arith) tt k
      (λ on h. from-door es (stepped o t Stop) n on h apart)

pub not-of-game : (o : Origin) (es : List Event) (c : ℕ) → (door_of es c ≡ Some Main → ⊥) → AllByRecursion IsOfAdmins (heard o es c)
not-of-game o es c apart = from-door o c Main (Out c) IsOfAdmins (λ e t spares k. out-step c o e t spares k) es (first o) 0 (inr refl)
    (record { members = tt; queue = tt }) apart

pub not-of-admins : (o : Origin) (es : List Event) (c : ℕ) → (door_of es c ≡ Some Side → ⊥) → AllByRecursion IsOfGame (heard o es c)
not-of-admins o es c apart = from-door o c Side (λ t. NotIn c (admin_conns t.admins)) IsOfGame (λ e t spares k. in-step c o e t spares k) es
    (first o) 0 (inr refl) tt apart
