-- An event that ends a member with a code ends nobody else, but where the game is over by it.
use Rattle.std.proofs.Common.{◌≡◌, ◌⊎◌, inl, inr, ℕ, ◌+◌, List, [], ◌∷◌, ◌++◌, refl, ap, ap₂, sym, ◌∙◌, subst, true, false, Bool, Option}
use Rattle.std.proofs.Common.{Some, None, zero, suc}
use Rattle.std.specs.Prelude.{◌==◌, drop, take, length, nat_lt, nat_le, map, find, cond, not, ◌&&◌, ◌||◌, position, is_some}
use Rattle.std.specs.List.{AllByRecursion, list_any}
use Rattle.std.proofs.lemmas.Bool.{eqb-true, eq-eqb}
use Rattle.tt_edge.specs.declared.event.Event.{Event}
use Rattle.tt_edge.specs.declared.event.Event.TheVariants.{Open, Packet, Broken, Shut, Tick, Stop}
use Rattle.tt_edge.specs.Event.{event_cost}
use Rattle.tt_game.specs.declared.message.GameMsg.TheVariants.{ServerError}
use Rattle.tt_rules.specs.declared.status.Status.TheVariants.{Map, MapWait}
use Rattle.tt_rules.specs.declared.status.Verdict.{Verdict}
use Rattle.tt_log.specs.declared.deed.Step.{Step}
use Rattle.tt_log.specs.declared.deed.What.{What}
use Rattle.tt_log.specs.declared.deed.What.TheVariants.{End}
use Rattle.tt_log.specs.Origin.{Origin}
use Rattle.tt_log.specs.Member.{Member, is_in, is_playing, is_welcomed}
use Rattle.tt_log.specs.Admin.{Admin, is_automatic, client_updates}
use Rattle.tt_log.specs.Table.{Table, member_of, admin_of, is_live, with_member, without_member, is_on, is_admin_on}
use Rattle.tt_log.specs.Deed.{Said, game, Deed, ◌▹◌, where_, where_some}
use Rattle.tt_log.specs.Queue.{moved_up, left_place, leaves_queue, begins, begins_for, begins_where, downloading}
use Rattle.tt_log.specs.Ending.{Failing, tells_farewell, leaves, ends}
use Rattle.tt_log.specs.Desk.{read_admin, admin_hears}
use Rattle.tt_log.specs.Events.{read_msg, heard, to_named, by_verdict, by_event, charged, stops, closed, shut_down, taken}
use Rattle.tt_log.specs.Events.{takes, deed, stepped, last_frame}
use Rattle.tt_log.specs.History.{table_of}
use Rattle.tt_log.specs.Tellings.{Filling, Telling, telling, filled, said_by, filling}
use Rattle.tt_log.specs.Told.{kept_if, told_to, told}
use Rattle.tt_log.specs.Endings.{EndsWith, IsEcho, StaysButForQueue, IsSameGame}
use Rattle.tt_log.proofs.Lists.{IsOther, NotIn, all-append, any-not, all-of-filter}
use Rattle.tt_log.proofs.Crew.{On, put, put-conns, conns, admin_conns, live-conns, live-admins, found-on, on-found, find-put-here}
use Rattle.tt_log.proofs.Crew.{find-put-other, find-others, none-left}
use Rattle.tt_log.proofs.Changes.{step, turned, moved}
use Rattle.tt_log.proofs.Walk.{Turns, ahead-of}
use Rattle.tt_log.proofs.Walk.{Base, Moves, of-leaves-queue}
use Rattle.tt_log.proofs.Clock.{SameClock, KeepsClock, same-base, same-moves, over-is-empty}
use Rattle.tt_log.proofs.Ordered.{is-ordered, no-admin}
use Rattle.tt_log.proofs.Phases.{OnceIn, place_in, removed-is, cut-none, none-behind, place-once}
use Rattle.tt_log.proofs.Ended.{is-kept, none-there}
use Rattle.tt_log.proofs.Refusing.{table-snoc}

-- ---- what is not heard

-- a step that a connection hears nothing of: it is not told, or the step tells nothing
abbrev pub IsSilent : ℕ → Step → Type 0
IsSilent c s = NotIn c s.to ⊎ (s.what ≡ End)

abbrev pub Silent : ℕ → List Step → Type 0
Silent c steps = AllByRecursion (IsSilent c) steps

missed-front : (c : ℕ) (to : List ℕ) (said : List Said) (more : List Telling) → list_any (λ x. x == c) to ≡ false
    → told_to c (map (telling to) said ++ more) ≡ told_to c more
missed-front c to [] more is = refl
missed-front c to (s ∷ said) more is = rw is (missed-front c to said more is)

silent-step : (c : ℕ) (o : Origin) (f : Filling) (s : Step) (more : List Telling) → IsSilent c s → told_to c more ≡ []
    → told_to c (map (telling s.to) (said_by o f s.what) ++ more) ≡ []
silent-step c o f s more (inl none) rest = missed-front c s.to (said_by o f s.what) more (any-not c s.to none) ∙ rest
silent-step c o f s more (inr is) rest = ap (λ (w : What). told_to c (map (telling s.to) (said_by o f w) ++ more)) is ∙ rest

pub silent-told : (c : ℕ) (o : Origin) (f : Filling) (steps : List Step) → Silent c steps → told_to c (filled o f steps) ≡ []
silent-told c o f [] a = refl
silent-told c o f (s ∷ steps) a = silent-step c o f s (filled o f steps) a.0 (silent-told c o f steps a.1)

-- ---- the queue moves

where-silent : (b : Bool) (c : ℕ) (m : Member) (t : Table) → IsOther c m.conn → Silent c (where_ b (begins_for m) t).told
where-silent true c m t other = (inl (other, tt), tt)
where-silent false c m t other = tt

begun-silent : (x : Option Member) (c conn : ℕ) (t : Table) → member_of t conn ≡ x → IsOther c conn
    → Silent c (where_some x begins_where t).told
begun-silent None c conn t is other = tt
begun-silent (Some m) c conn t is other = where-silent (is_in MapWait m) c m t (ap (λ (y : ℕ). y == c) (found-on conn t.members m is)
    ∙ other)

moved-silent : (c place : ℕ) (xs : List ℕ) (t : Table) → NotIn c xs → Silent c (moved_up place xs t).told
moved-silent c place [] t none = tt
moved-silent c zero (x ∷ xs) t none = all-append (IsSilent c) (begins x t).told (moved_up 1 xs (begins x t).table).told
    (begun-silent (member_of t x) c x t refl none.0) (moved-silent c 1 xs (begins x t).table none.1)
moved-silent c (suc place) (x ∷ xs) t none = (inl (none.0, tt), moved-silent c (suc (suc place)) xs t none.1)

left-silent : (b : Bool) (c : ℕ) (t : Table) → OnceIn c t.queue ⊎ NotIn c t.queue
    → Silent c (where_some (cond b (Some (place_in c t.queue)) None) left_place t).told
left-silent true c t once =
    let k : ℕ = place_in c t.queue in
    let behind : List ℕ = drop (k + 1) t.queue in
    let none : NotIn c (take k t.queue ++ behind) = rw (removed-is c t.queue) (cut-none c t.queue once) in
    moved-silent c k behind (record t { queue = take k t.queue ++ behind }) (none-behind c (take k t.queue) behind none)
left-silent false c t once = tt

-- what the queue's moves leave as it was
record Rest (c : ℕ) (t u : Table) : Type 0 where
  admins : u.admins ≡ t.admins
  own : u.own ≡ t.own
  digests : u.digests ≡ t.digests
  away : NotIn c (conns t.members) → NotIn c (conns u.members)

abbrev KeepsRest : ℕ → Table → List Step → Table → Type 0
KeepsRest c t steps u = Rest c t u

rest-put : (c : ℕ) (n : Member) (t : Table) → NotIn c (conns t.members) → NotIn c (conns (put n t.members))
rest-put c n t a = subst (λ (xs : List ℕ). NotIn c xs) (sym (put-conns n t.members)) a

rest-turns : (c : ℕ) (o : Origin) (e : Event) → Turns o e (KeepsRest c)
rest-turns c o e k t m on may by = record { admins = refl; own = refl; digests = refl; away = λ a. rest-put c (turned k t m) t a }

rest-base : (c : ℕ) (o : Origin) (e : Event) → Base o e (KeepsRest c)
rest-base c o e = record {
  still = λ t. record { admins = refl; own = refl; digests = refl; away = λ a. a };
  joins = λ t u v xs ys a b. record {
    admins = b.admins ∙ a.admins;
    own = b.own ∙ a.own;
    digests = b.digests ∙ a.digests;
    away =
        λ h. b.away (a.away h);
  };
  turns = ahead-of o e (KeepsRest c) (rest-turns c o e);
  tells_one = λ t m msg on talk. record { admins = refl; own = refl; digests = refl; away = λ a. a };
  tells_some = λ t to w there news. record { admins = refl; own = refl; digests = refl; away = λ a. a };
  tells_admins = λ t to r may is. record { admins = refl; own = refl; digests = refl; away = λ a. a };
}

rest-moves : (c : ℕ) (o : Origin) (e : Event) → Moves o e (KeepsRest c)
rest-moves c o e = record {
  moving = λ v t m on may. record { admins = refl; own = refl; digests = refl; away = λ a. rest-put c (moved v t m) t a };
  recalls = λ t m on at. record { admins = refl; own = refl; digests = refl; away = λ a. a };
  waits_on = λ t conn n there. record { admins = refl; own = refl; digests = refl; away = λ a. a };
  stands = λ t m on. record { admins = refl; own = refl; digests = refl; away = λ a. a };
  cuts = λ t place. record { admins = refl; own = refl; digests = refl; away = λ a. a };
  ends_one = λ t m on. record { admins = refl; own = refl; digests = refl; away = λ a. a };
  parts = λ t m on. record {
    admins = refl;
    own = refl;
    digests = refl;
    away = λ a. all-of-filter (λ (n : Member). n.conn)
        (λ n. not (is_on m.conn n)) c t.members a;
  };
  greets = λ t m on at. record { admins = refl; own = refl; digests = refl; away = λ a. rest-put c _ t a };
}

-- ---- a member goes: what it hears, and what others do

-- the table without it, and behind the farewell
abbrev gone : Member → Table → Table
gone m t = without_member m.conn t

farewell-told : (b : Bool) (m : Member) (code : ℕ) (t : Table) → (where_ b (tells_farewell (Failing code) m) t).table ≡ t
farewell-told true m code t = refl
farewell-told false m code t = refl

farewell-silent : (b : Bool) (c : ℕ) (m : Member) (code : ℕ) (t : Table) → NotIn c (conns t.members) → NotIn c (admin_conns t.admins)
    → Silent c (where_ b (tells_farewell (Failing code) m) t).told
farewell-silent true c m code t none apart = (
  inl (all-of-filter (λ (n : Member). n.conn) is_playing c t.members none),
  (inl (all-of-filter (λ (a : Admin). a.conn) (is_automatic client_updates) c t.admins apart), tt),
)
farewell-silent false c m code t none apart = tt

farewell-queue : (b : Bool) (m : Member) (code : ℕ) (t : Table) (steps : Table → List Step) (P : List Step → Type 0) → P (steps t)
    → P (steps (where_ b (tells_farewell (Failing code) m) t).table)
farewell-queue true m code t steps P h = h
farewell-queue false m code t steps P h = h

leaves-silent : (t : Table) (m : Member) (code : ℕ) → NotIn m.conn (admin_conns t.admins) → OnceIn m.conn t.queue ⊎ NotIn m.conn t.queue
    → Silent m.conn (leaves m (Failing code) t).told
leaves-silent t m code apart once =
    let u : Table = gone m t in
    let b : Bool = is_welcomed m in
    let first : Silent m.conn (step (m.conn ∷ []) End ∷ (where_ b (tells_farewell (Failing code) m) u).told) =
    (inr refl, farewell-silent b m.conn m code u (none-left m.conn t.members) apart) in
    all-append (IsSilent m.conn) (step (m.conn ∷ []) End ∷ (where_ b (tells_farewell (Failing code) m) u).told)
    (leaves_queue m.conn (where_ b (tells_farewell (Failing code) m) u).table).told first
    (farewell-queue b m code u (λ v. (leaves_queue m.conn v).told) (λ steps. Silent m.conn steps)
    (left-silent (nat_lt (place_in m.conn t.queue) (length t.queue)) m.conn u once))

-- ---- what others are told

abbrev Echoes : Member → ℕ → Bool → Origin → Filling → Step → Type 0
Echoes m code over o f s = AllByRecursion (IsEcho m code over) (said_by o f s.what)

echo-kept : (b : Bool) (m : Member) (code : ℕ) (over : Bool) (s : Said) (rest : List Said) → IsEcho m code over s
    → AllByRecursion (IsEcho m code over) rest → AllByRecursion (IsEcho m code over) (kept_if b s rest)
echo-kept true m code over s rest is a = (is, a)
echo-kept false m code over s rest is a = a

echo-one : (c : ℕ) (m : Member) (code : ℕ) (over : Bool) (to : List ℕ) (said : List Said) (more : List Telling)
    → AllByRecursion (IsEcho m code over) said → AllByRecursion (IsEcho m code over) (told_to c more) → AllByRecursion (IsEcho m code over)
    (told_to c (map (telling to) said ++ more))
echo-one c m code over to [] more is a = a
echo-one c m code over to (s ∷ said) more is a = echo-kept (list_any (λ x. x == c) to) m code over s
    (told_to c (map (telling to) said ++ more)) is.0 (echo-one c m code over to said more is.1 a)

echo-told : (c : ℕ) (m : Member) (code : ℕ) (over : Bool) (o : Origin) (f : Filling) (steps : List Step)
    → AllByRecursion (Echoes m code over o f) steps → AllByRecursion (IsEcho m code over) (told_to c (filled o f steps))
echo-told c m code over o f [] a = tt
echo-told c m code over o f (s ∷ steps) a = echo-one c m code over s.to (said_by o f s.what) (filled o f steps) a.0
    (echo-told c m code over o f steps a.1)

module _ (m : Member) (code : ℕ) (over : Bool) (o : Origin) (f : Filling) where
  abbrev AllEcho : List Step → Type 0
  AllEcho steps = AllByRecursion (Echoes m code over o f) steps

  where-echo : (b : Bool) (n : Member) (t : Table) → AllEcho (where_ b (begins_for n) t).told
  where-echo true n t = ((tt, (tt, tt)), tt)
  where-echo false n t = tt

  begun-echo : (x : Option Member) (t : Table) → AllEcho (where_some x begins_where t).told
  begun-echo None t = tt
  begun-echo (Some n) t = where-echo (is_in MapWait n) n t

  moved-echo : (place : ℕ) (xs : List ℕ) (t : Table) → AllEcho (moved_up place xs t).told
  moved-echo place [] t = tt
  moved-echo zero (x ∷ xs) t = all-append (Echoes m code over o f) (begins x t).told (moved_up 1 xs (begins x t).table).told
      (begun-echo (member_of t x) t) (moved-echo 1 xs (begins x t).table)
  moved-echo (suc place) (x ∷ xs) t = ((tt, tt), moved-echo (suc (suc place)) xs t)

  left-echo : (x : Option ℕ) (t : Table) → AllEcho (where_some x left_place t).told
  left-echo None t = tt
  left-echo (Some place) t = moved-echo place (drop (place + 1) t.queue) (record t {
    queue = take place t.queue
        ++ drop (place + 1) t.queue;
  })

  farewell-echo : (b : Bool) (t : Table) → AllEcho (where_ b (tells_farewell (Failing code) m) t).told
  farewell-echo true t = (((refl, refl), tt), (((refl, refl), tt), tt))
  farewell-echo false t = tt

  leaves-echo : (t : Table) → AllEcho (leaves m (Failing code) t).told
  leaves-echo t =
      let u : Table = gone m t in
      let v : Table = (where_ (is_welcomed m) (tells_farewell (Failing code) m) u).table in
      all-append (Echoes m code over o f) (step (m.conn ∷ []) End ∷ (where_ (is_welcomed m) (tells_farewell (Failing code) m) u).told)
      (leaves_queue m.conn v).told (tt, farewell-echo (is_welcomed m) u)
      (left-echo (position (λ c. c == m.conn) v.queue) v)

  closed-echo : (b : Bool) (t : Table) → (b ≡ true → over ≡ true) → AllEcho (where_ b shut_down t).told
  closed-echo true t is = ((is refl, tt), ((is refl, tt), (tt, tt)))
  closed-echo false t is = tt

-- ---- how others stand then

abbrev Stays : ℕ → Table → Table → Table → Type 0
Stays c t u v = (n : Member) → member_of u c ≡ Some n → (k : Member) × (member_of v c ≡ Some k) × StaysButForQueue t n k

begun-here : (b : Bool) (c conn : ℕ) (t u : Table) (m n : Member) → u.frame ≡ t.frame → (m.conn == c) ≡ b → member_of u conn ≡ Some m
    → member_of u c ≡ Some n → (k : Member) × (member_of (with_member (downloading u m) u) c ≡ Some k) × StaysButForQueue t n k
begun-here true c conn t u m n frame is found there =
    let at : m.conn ≡ c = eqb-true m.conn c is in
    let own : member_of u m.conn ≡ Some m = subst (λ k. member_of u k ≡ Some m) (sym (found-on conn u.members m found)) found in
    let same : m ≡ n = cc in (
      downloading u m,
      subst (λ k. find (is_on k) (put (downloading u m) u.members) ≡ Some (downloading u m)) at
          (find-put-here (downloading u m) m u.members own),
      inr (ap₂ (λ (f : ℕ) (k : Member). record k { status = Map; since = f; map_frame = f; pieces = 0 }) frame same),
    )
begun-here false c conn t u m n frame is found there = (n, find-put-other (downloading u m) c u.members is ∙ there, inl refl)

where-stays : (b : Bool) (c conn : ℕ) (t u : Table) (m : Member) → u.frame ≡ t.frame → member_of u conn ≡ Some m
    → Stays c t u (where_ b (begins_for m) u).table
where-stays true c conn t u m frame is = λ n there. begun-here (m.conn == c) c conn t u m n frame refl is there
where-stays false c conn t u m frame is = λ n there. (n, there, inl refl)

begun-stays : (x : Option Member) (c conn : ℕ) (t u : Table) → u.frame ≡ t.frame → member_of u conn ≡ x
    → Stays c t u (where_some x begins_where u).table
begun-stays None c conn t u frame is = λ n there. (n, there, inl refl)
begun-stays (Some m) c conn t u frame is = where-stays (is_in MapWait m) c conn t u m frame is

pub later-stays : (c place : ℕ) (xs : List ℕ) (t : Table) → (moved_up (suc place) xs t).table ≡ t
later-stays c place [] t = refl
later-stays c place (x ∷ xs) t = later-stays c (suc place) xs t

moved-stays : (c place : ℕ) (xs : List ℕ) (t u : Table) → u.frame ≡ t.frame → Stays c t u (moved_up place xs u).table
moved-stays c place [] t u frame = λ n there. (n, there, inl refl)
moved-stays c zero (x ∷ xs) t u frame = subst (λ (v : Table). Stays c t u v) (sym (later-stays c 0 xs (begins x u).table))
    (begun-stays (member_of u x) c x t u frame refl)
moved-stays c (suc place) (x ∷ xs) t u frame = subst (λ (v : Table). Stays c t u v) (sym (later-stays c (suc place) xs u))
    (λ n there. (n, there, inl refl))

left-stays : (x : Option ℕ) (c : ℕ) (t u : Table) → u.frame ≡ t.frame → Stays c t u (where_some x left_place u).table
left-stays None c t u frame = λ n there. (n, there, inl refl)
left-stays (Some place) c t u frame = moved-stays c place (drop (place + 1) u.queue) t (record u {
  queue = take place u.queue
      ++ drop (place + 1) u.queue;
}) frame

leaves-stays : (t : Table) (m : Member) (code c : ℕ) → (m.conn == c) ≡ false → Stays c t t (leaves m (Failing code) t).table
leaves-stays t m code c apart n there =
    let u : Table = gone m t in
    let same : (where_ (is_welcomed m) (tells_farewell (Failing code) m) u).table ≡ u = farewell-told (is_welcomed m) m code u in
    let v : Table = (where_ (is_welcomed m) (tells_farewell (Failing code) m) u).table in
    subst (λ (w : Table). (k : Member) × (member_of (leaves_queue m.conn w).table c ≡ Some k) × StaysButForQueue t n k) (sym same)
    (left-stays (position (λ x. x == m.conn) u.queue) c t u refl n (find-others m.conn c t.members apart ∙ there))

-- ---- the whole event

pub closed-silent : (b : Bool) (c : ℕ) (t : Table) → NotIn c (conns t.members) → NotIn c (admin_conns t.admins)
    → Silent c (where_ b shut_down t).told
closed-silent true c t none apart = (inl none, (inl apart, (inr refl, tt)))
closed-silent false c t none apart = tt

pub closed-gone : (b : Bool) (c : ℕ) (t : Table) → NotIn c (conns t.members) → NotIn c (admin_conns t.admins)
    → is_live (where_ b shut_down t).table c ≡ false
closed-gone true c t none apart = refl
closed-gone false c t none apart = neither (live-conns c t.members ∙ any-not c (conns t.members) none) (live-admins c t.admins
    ∙ any-not c (admin_conns t.admins) apart)
  where
    neither : {x y : Bool} → x ≡ false → y ≡ false → (x || y) ≡ false
    neither p q = rw (p, q) refl

pub closed-not : (b : Bool) (t : Table) → (where_ b shut_down t).table.over ≡ false → (where_ b shut_down t).table ≡ t
closed-not true t going = absurd cc
closed-not false t going = refl

closed-game : (b : Bool) (t : Table) → IsSameGame t (where_ b shut_down t).table
closed-game true t = record { frame = refl; top = refl; journal = refl; own = refl; digests = refl; tokens = refl }
closed-game false t = record { frame = refl; top = refl; journal = refl; own = refl; digests = refl; tokens = refl }

where-tokens : (b : Bool) (m : Member) (t : Table) → (where_ b (begins_for m) t).table.tokens ≡ t.tokens
where-tokens true m t = refl
where-tokens false m t = refl

begun-tokens : (x : Option Member) (t : Table) → (where_some x begins_where t).table.tokens ≡ t.tokens
begun-tokens None t = refl
begun-tokens (Some m) t = where-tokens (is_in MapWait m) m t

moved-tokens : (place : ℕ) (xs : List ℕ) (t : Table) → (moved_up place xs t).table.tokens ≡ t.tokens
moved-tokens place [] t = refl
moved-tokens zero (x ∷ xs) t = moved-tokens 1 xs (begins x t).table ∙ begun-tokens (member_of t x) t
moved-tokens (suc place) (x ∷ xs) t = moved-tokens (suc (suc place)) xs t

left-tokens : (x : Option ℕ) (t : Table) → (where_some x left_place t).table.tokens ≡ t.tokens
left-tokens None t = refl
left-tokens (Some place) t = moved-tokens place (drop (place + 1) t.queue) (record t {
  queue = take place t.queue
      ++ drop (place + 1) t.queue;
})

pub none-member : (c : ℕ) (x : Option Member) (ms : List Member) → find (is_on c) ms ≡ x → x ≡ None → NotIn c (conns ms)
none-member c x ms is none = none-there c (conns ms) (sym (live-conns c ms) ∙ ap (λ (y : Option Member). is_some y) (is ∙ none))

module _ (o : Origin) (t : Table) (m : Member) (code : ℕ) (on : On t m) (apart : NotIn m.conn (admin_conns t.admins))
    (once : OnceIn m.conn t.queue ⊎ NotIn m.conn t.queue) where
  abbrev Left : Table
  Left = (leaves m (Failing code) t).table

  rest-of : (c : ℕ) → Rest c (gone m t) Left
  rest-of c =
      let u : Table = gone m t in
      subst (λ (v : Table). Rest c u (leaves_queue m.conn v).table) (sym (farewell-told (is_welcomed m) m code u))
      (of-leaves-queue o Stop (KeepsRest c) (rest-base c o Stop) (rest-moves c o Stop) m.conn u)

  left-none : NotIn m.conn (conns Left.members)
  left-none = (rest-of m.conn).away (none-left m.conn t.members)

  left-apart : NotIn m.conn (admin_conns Left.admins)
  left-apart = subst (λ (xs : List Admin). NotIn m.conn (admin_conns xs)) (sym (rest-of m.conn).admins) apart

  left-game : IsSameGame t Left
  left-game =
      let u : Table = gone m t in
      let clock : SameClock u Left = subst (λ (v : Table). SameClock u (leaves_queue m.conn v).table)
      (sym (farewell-told (is_welcomed m) m code u)) (of-leaves-queue o Stop KeepsClock (same-base o Stop) (same-moves o Stop) m.conn u) in
      let rest : Rest 0 u Left = rest-of 0 in
      record {
        frame = clock.frame;
        top = clock.top;
        journal = clock.journal;
        own = rest.own;
        digests = rest.digests;
        tokens = ap (λ (v : Table). (leaves_queue m.conn v).table.tokens) (farewell-told (is_welcomed m) m code u)
            ∙ left-tokens (position (λ c. c == m.conn) u.queue) u;
      }

  -- one that was not there is not there
  left-away : (c : ℕ) → NotIn c (conns t.members) → NotIn c (conns Left.members)
  left-away c none = (rest-of c).away (all-of-filter (λ (n : Member). n.conn) (λ n. not (is_on m.conn n)) c t.members none)

  left-live-by : (c : ℕ) (x : Option Member) → (m.conn == c) ≡ false → member_of t c ≡ x → is_some (member_of Left c) ≡ is_some x
  left-live-by c None other is = live-conns c Left.members
      ∙ any-not c (conns Left.members) (left-away c (none-member c (member_of t c) t.members refl is))
  left-live-by c (Some n) other is = let k = leaves-stays t m code c other n is in ap (λ (y : Option Member). is_some y) k.1

  left-live : (c : ℕ) → (m.conn == c) ≡ false → is_live Left c ≡ is_live t c
  left-live c other =
      ap₂ (λ (x : Bool) (admins : List Admin). x || is_some (find (is_admin_on c) admins)) (left-live-by c (member_of t c) other refl)
      (rest-of c).admins

  -- what the event does
  abbrev pub Ended : Event → Bool → Deed
  Ended e stopped = ends m code t ▹ charged e ▹ closed o stopped

  abbrev Behind : Event → Table
  Behind e = record Left { cost = Left.cost + event_cost e }

  abbrev Closes : Event → Bool → Bool
  Closes e stopped = stopped || nat_le o.setup.cost (Behind e).cost || ((Behind e).frame == last_frame)

  own-told : (e : Event) (stopped : Bool) (f : Filling) → told_to m.conn (filled o f (Ended e stopped).told) ≡ game (ServerError code) ∷ []
  own-told e stopped f =
      let silent : Silent m.conn (((leaves m (Failing code) t).told ++ []) ++ (where_ (Closes e stopped) shut_down (Behind e)).told) =
      all-append (IsSilent m.conn) ((leaves m (Failing code) t).told ++ []) (where_ (Closes e stopped) shut_down (Behind e)).told
      (all-append (IsSilent m.conn) (leaves m (Failing code) t).told [] (leaves-silent t m code apart once) tt)
      (closed-silent (Closes e stopped) m.conn (Behind e) left-none left-apart) in
      ap (λ (b : Bool). kept_if (b || false) (game (ServerError code)) (told_to m.conn (filled o f (((leaves m (Failing code) t).told ++ [])
      ++ (where_ (Closes e stopped) shut_down (Behind e)).told)))) (eq-eqb m.conn m.conn refl)
      ∙ ap (λ (said : List Said). game (ServerError code) ∷ said) (silent-told m.conn o f (((leaves m (Failing code) t).told ++ [])
      ++ (where_ (Closes e stopped) shut_down (Behind e)).told) silent)

  others-told : (e : Event) (stopped : Bool) (f : Filling) (c : ℕ) → (m.conn == c) ≡ false
      → AllByRecursion (IsEcho m code (Ended e stopped).table.over) (told_to c (filled o f (Ended e stopped).told))
  others-told e stopped f c other =
      let over : Bool = (Ended e stopped).table.over in
      let rest : List Step = ((leaves m (Failing code) t).told ++ []) ++ (where_ (Closes e stopped) shut_down (Behind e)).told in
      let echo : AllEcho m code over o f rest =
      all-append (Echoes m code over o f) ((leaves m (Failing code) t).told ++ []) (where_ (Closes e stopped) shut_down (Behind e)).told
      (all-append (Echoes m code over o f) (leaves m (Failing code) t).told [] (leaves-echo m code over o f t) tt)
      (closed-echo m code over o f (Closes e stopped) (Behind e) (λ is. rw is refl)) in
      subst (λ (b : Bool). AllByRecursion (IsEcho m code over) (kept_if (b || false) (game (ServerError code))
      (told_to c (filled o f rest)))) (sym other) (echo-told c m code over o f rest echo)

  -- all that the law says, of what the event does
  pub record EndsSo (d : Deed) : Type 0 where
    pub own : (f : Filling) → told_to m.conn (filled o f d.told) ≡ game (ServerError code) ∷ []
    pub ended : is_live d.table m.conn ≡ false
    pub told : (f : Filling) (c : ℕ) → (m.conn == c) ≡ false → AllByRecursion (IsEcho m code d.table.over) (told_to c (filled o f d.told))
    pub live : d.table.over ≡ false → (c : ℕ) → (m.conn == c) ≡ false → is_live d.table c ≡ is_live t c
    pub stand : d.table.over ≡ false → (c : ℕ) → (m.conn == c) ≡ false → Stays c t t d.table
    pub admins : d.table.over ≡ false → d.table.admins ≡ t.admins
    pub game : IsSameGame t d.table

  game-then : (u v : Table) → IsSameGame t u → IsSameGame u v → IsSameGame t v
  game-then u v a b = record {
    frame = b.frame ∙ a.frame;
    top = b.top ∙ a.top;
    journal = b.journal ∙ a.journal;
    own = b.own
        ∙ a.own;
    digests = b.digests ∙ a.digests;
    tokens = b.tokens ∙ a.tokens;
  }

  pub ends-so : (e : Event) (stopped : Bool) → EndsSo (Ended e stopped)
  ends-so e stopped =
      let b : Bool = Closes e stopped in
      let v : Table = Behind e in
      record {
        own = own-told e stopped;
        ended = closed-gone b m.conn v left-none left-apart;
        told = λ f c other. others-told e stopped f c other;
        live = λ going c other. ap (λ (w : Table). is_live w c) (closed-not b v going) ∙ left-live c other;
        stand = λ going c other. subst (λ (w : Table). Stays c t t w) (sym (closed-not b v going))
            (λ n there. leaves-stays t m code c other n there);
        admins = λ going. ap (λ (w : Table). w.admins) (closed-not b v going) ∙ (rest-of 0).admins;
        game = game-then v _ (record {
          frame = left-game.frame;
          top = left-game.top;
          journal = left-game.journal;
          own =
              left-game.own;
          digests = left-game.digests;
          tokens = left-game.tokens;
        }) (closed-game b v);
      }

-- ---- the event is that of a member that ends

ends-event : (o : Origin) (t : Table) (e : Event) (m : Member) (code : ℕ) → EndsWith o t e m code → by_event o e t ≡ ends m code t
ends-event o t (Packet conn kind body) m code is =
    ap (λ (x : Option Member). to_named x (admin_of t conn) (heard o (read_msg kind body)) (admin_hears o (read_admin kind body)) t) is.0
    ∙ ap (λ (v : Verdict). by_verdict v o m (read_msg kind body) t) is.1
ends-event o t (Broken conn) m code is =
    ap (λ (x : Option Member). to_named x (admin_of t conn) (heard o None) (admin_hears o None) t) is.0
    ∙ ap (λ (v : Verdict). by_verdict v o m None t) is.1
ends-event o t (Open door peer) m code is = absurd is
ends-event o t (Shut conn) m code is = absurd is
ends-event o t Tick m code is = absurd is
ends-event o t Stop m code is = absurd is

-- its member is there, so the game is not over, and the event is taken
there-taken : (t : Table) (conn : ℕ) (m : Member) → ((t.over ≡ true) → (t.members ≡ []) × (t.admins ≡ []) × (t.queue ≡ []))
    → member_of t conn ≡ Some m → (not t.over && is_live t conn) ≡ true
there-taken t conn m empty is = by t.over refl
  where
    by : (b : Bool) → t.over ≡ b → (not b && is_live t conn) ≡ true
    by true over = let none : find (is_on conn) t.members ≡ None = ap (λ (ms : List Member). find (is_on conn) ms) (empty over).0 in
        absurd (cc (none, is))
    by false over = rw is refl

ends-taken : (o : Origin) (t : Table) (e : Event) (m : Member) (code : ℕ) → EndsWith o t e m code → ((t.over ≡ true) → (t.members ≡ [])
    × (t.admins ≡ []) × (t.queue ≡ [])) → takes t e ≡ true
ends-taken o t (Packet conn kind body) m code is empty = there-taken t conn m empty is.0
ends-taken o t (Broken conn) m code is empty = there-taken t conn m empty is.0
ends-taken o t (Open door peer) m code is empty = absurd is
ends-taken o t (Shut conn) m code is empty = absurd is
ends-taken o t Tick m code is empty = absurd is
ends-taken o t Stop m code is empty = absurd is

ends-found : (o : Origin) (t : Table) (e : Event) (m : Member) (code : ℕ) → EndsWith o t e m code → member_of t m.conn ≡ Some m
ends-found o t (Packet conn kind body) m code is = subst (λ k. member_of t k ≡ Some m) (sym (found-on conn t.members m is.0)) is.0
ends-found o t (Broken conn) m code is = subst (λ k. member_of t k ≡ Some m) (sym (found-on conn t.members m is.0)) is.0
ends-found o t (Open door peer) m code is = absurd is
ends-found o t (Shut conn) m code is = absurd is
ends-found o t Tick m code is = absurd is
ends-found o t Stop m code is = absurd is

pub where-taken : (b : Bool) (rule : Table → Deed) (t : Table) → b ≡ true → where_ b rule t ≡ rule t
where-taken true rule t is = refl
where-taken false rule t is = absurd cc

admins-none : (c : ℕ) (t : Table) → admin_of t c ≡ None → NotIn c (admin_conns t.admins)
admins-none c t is = none-there c (admin_conns t.admins) (sym (live-admins c t.admins) ∙ ap (λ (x : Option Admin). is_some x) is)

module _ (o : Origin) (es : List Event) (e : Event) (m : Member) (code : ℕ) (is : EndsWith o (table_of o es) e m code) where
  abbrev pub At : Table
  At = table_of o es

  at-found : member_of At m.conn ≡ Some m
  at-found = ends-found o At e m code is

  pub at-on : On At m
  at-on = on-found At m.conn m at-found

  pub at-apart : NotIn m.conn (admin_conns At.admins)
  at-apart = admins-none m.conn At (no-admin At m.conn m (is-ordered o es) at-found)

  pub at-once : OnceIn m.conn At.queue ⊎ NotIn m.conn At.queue
  at-once = let kept = is-kept m.conn o es in place-once kept.phase m.conn At.queue (conns At.members) kept.holds.place

  deed-is : deed o e At ≡ Ended o At m code at-on at-apart at-once e (stops o e At)
  deed-is = where-taken (takes At e) (taken o e) At (ends-taken o At e m code is (over-is-empty o es))
      ∙ ap (λ (d : Deed). d ▹ charged e ▹ closed o (stops o e At)) (ends-event o At e m code is)

  pub all-so : EndsSo o At m code at-on at-apart at-once (deed o e At)
  all-so = subst (λ (d : Deed). EndsSo o At m code at-on at-apart at-once d) (sym deed-is) (ends-so o At m code at-on at-apart at-once e
      (stops o e At))

  behind-is : table_of o (es ++ e ∷ []) ≡ stepped o At e
  behind-is = table-snoc o es e

  pub own-is-told : told o es e m.conn ≡ game (ServerError code) ∷ []
  own-is-told = all-so.own (filling o At (stepped o At e))

  pub own-ends : is_live (table_of o (es ++ e ∷ [])) m.conn ≡ false
  own-ends = ap (λ (t : Table). is_live t m.conn) behind-is ∙ all-so.ended

  pub others-hear : (c : ℕ) → (m.conn == c) ≡ false → AllByRecursion (IsEcho m code (table_of o (es ++ e ∷ [])).over) (told o es e c)
  others-hear c other = subst (λ (t : Table). AllByRecursion (IsEcho m code t.over) (told o es e c)) (sym behind-is)
      (all-so.told (filling o At (stepped o At e)) c other)

  pub others-live : (table_of o (es ++ e ∷ [])).over ≡ false → (c : ℕ) → (m.conn == c) ≡ false → is_live (table_of o (es ++ e ∷ [])) c
      ≡ is_live At c
  others-live going c other = ap (λ (t : Table). is_live t c) behind-is ∙ all-so.live (ap (λ (t : Table). t.over) (sym behind-is)
      ∙ going) c other

  pub others-stand : (table_of o (es ++ e ∷ [])).over ≡ false → (c : ℕ) → (m.conn == c) ≡ false → (n : Member) → member_of At c ≡ Some n
      → (k : Member) × (member_of (table_of o (es ++ e ∷ [])) c ≡ Some k) × StaysButForQueue At n k
  others-stand going c other n there =
      let k = all-so.stand (ap (λ (t : Table). t.over) (sym behind-is) ∙ going) c other n there in
      (k.0, ap (λ (t : Table). member_of t c) behind-is ∙ k.1, k.2)

  pub admins-stand : (table_of o (es ++ e ∷ [])).over ≡ false → (table_of o (es ++ e ∷ [])).admins ≡ At.admins
  admins-stand going = ap (λ (t : Table). t.admins) behind-is ∙ all-so.admins (ap (λ (t : Table). t.over) (sym behind-is) ∙ going)

  pub game-stands : IsSameGame At (table_of o (es ++ e ∷ []))
  game-stands = subst (λ (t : Table). IsSameGame At t) (sym behind-is) all-so.game
