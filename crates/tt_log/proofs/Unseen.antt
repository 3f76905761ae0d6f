-- What admins do players do not see, but for chats and what the console does.
use Rattle.std.proofs.Common.{◌≡◌, ℕ, List, [], ◌∷◌, ◌++◌, refl, ap, ap₂, sym, ◌∙◌, subst, true, false, Bool, Option, Some, None}
use Rattle.std.proofs.Common.{append-nil}
use Rattle.std.specs.Prelude.{◌==◌, ◌||◌, not, cond, fold, length, map, nat_le, is_some}
use Rattle.std.specs.List.{AllByRecursion, list_any}
use Rattle.tt_edge.specs.declared.event.Door.TheVariants.{Main, Side}
use Rattle.tt_edge.specs.declared.event.Event.{Event}
use Rattle.tt_edge.specs.declared.event.Event.TheVariants.{Open, Packet, Broken, Shut, Tick, Stop}
use Rattle.tt_game.specs.declared.message.GameMsg.{GameMsg}
use Rattle.tt_admin.specs.declared.message.AdminMsg.{AdminMsg}
use Rattle.tt_admin.specs.declared.message.AdminMsg.TheVariants as admins
use Rattle.tt_rules.specs.declared.status.Verdict.{Verdict}
use Rattle.tt_rules.specs.declared.status.Verdict.TheVariants.{Allowed, Ends}
use Rattle.tt_log.specs.declared.deed.Step.{Step}
use Rattle.tt_log.specs.declared.deed.What.{What}
use Rattle.tt_log.specs.declared.deed.What.TheVariants.{Msg, ToAdmin, MapBegin, MapPieces, Sync, Entries, Stamp, End}
use Rattle.tt_log.specs.declared.report.Report.{Report}
use Rattle.tt_log.specs.declared.report.Report.TheVariants.{Message}
use Rattle.tt_log.specs.Origin.{Origin, above}
use Rattle.tt_log.specs.Member.{Member}
use Rattle.tt_log.specs.Admin.{Admin}
use Rattle.tt_log.specs.Table.{Table, first, member_of, admin_of, member_with, world_of}
use Rattle.tt_log.specs.Deed.{Said, game, admin, Deed, ◌▹◌, becomes, where_}
use Rattle.tt_log.specs.Watching.{sees_console}
use Rattle.tt_log.specs.Ending.{Failing, ends_untold}
use Rattle.tt_log.specs.PacketRules.{told_command, chats}
use Rattle.tt_log.specs.Polls.{tells_admin, poll_answers}
use Rattle.tt_log.specs.Console.{ConsoleCommand, pauses, kicks, announces, clients, companies, quits, unknown, command_in, lines_of}
use Rattle.tt_log.specs.Console.{kicks_out, console_does, obeys}
use Rattle.tt_log.specs.Desk.{admin_arrives, counted_aside, most_admins, admin_leaves, read_admin, admin_judged, admin_does}
use Rattle.tt_log.specs.Desk.{by_admin_verdict, admin_hears}
use Rattle.tt_log.specs.Tick.{ticked}
use Rattle.tt_log.specs.Events.{read_msg, opened, heard, to_named, by_event, charged, stops, shut_down, taken, takes, deed, stepped}
use Rattle.tt_log.specs.Events.{last_frame}
use Rattle.tt_log.specs.History.{table_of}
use Rattle.tt_log.specs.Reports.{reported}
use Rattle.tt_log.specs.Tellings.{Filling, Telling, telling, filled, filling, piece_messages, said_by}
use Rattle.tt_log.specs.Told.{kept_if, told_to, told_by, heard_from}
use Rattle.tt_log.specs.Told as told
use Rattle.tt_log.specs.Doors.{IsOfGame, door_of}
use Rattle.tt_log.specs.Quiet.{bare, is_of_game, of_game, does_something, is_loud, is_loud_where, is_quiet_at, is_quiet, loud_from, loud}
use Rattle.tt_log.proofs.Going.{over-stays, over-from}
use Rattle.tt_log.proofs.Refusing.{table-snoc}
use Rattle.tt_log.proofs.Families.{not-of-admins}
use Rattle.tt_log.proofs.Bare.{is_inside, inside, still, Like, Bares, like-then, same, some-bares, reports-none, reports-like, left-bare}
use Rattle.tt_log.proofs.Bare.{leaves-bares, ends-bares, heard-bares, ticked-bares, opened-bares}

-- ---- the console

console-bares : (command : ConsoleCommand) → Bares (console_does command)
console-bares (pauses paused) t = refl
console-bares (kicks client) t = some-bares (member_with client t) kicks_out t (λ m. ends-bares m 12 t)
console-bares (announces text) t = refl
console-bares other t = refl

-- what the console shows and answers is for admins alone
answered-like : (conn : ℕ) (text : List ℕ) (reports : List Report) (t : Table) → Like (sees_console text t ▹ tells_admin conn reports)
    (becomes t)
answered-like conn text reports t = ap (λ (xs : List Step). record { table = bare t; told = xs }) (reports-none conn reports)

obeys-like : (command : ConsoleCommand) (conn : ℕ) (text : List ℕ) (t : Table) → Like (obeys command conn text t) (console_does command t)
obeys-like command conn text t =
    let reports : List Report = lines_of command t ++ Message (admins.ServerRconEnd text) ∷ [] in
    like-then (sees_console text t ▹ tells_admin conn reports) (becomes t) (console_does command) (console_does command)
    (answered-like conn text reports t) (same (console_does command) (console-bares command))

-- ---- an admin's packet that players do not see

quiet-line : (command : ConsoleCommand) → not (does_something command) ≡ true → (t : Table) → Like (console_does command t) (becomes t)
quiet-line (pauses paused) quiet t = absurd cc
quiet-line (kicks client) quiet t = absurd cc
quiet-line (announces text) quiet t = absurd cc
quiet-line clients quiet t = refl
quiet-line companies quiet t = refl
quiet-line quits quiet t = absurd cc
quiet-line unknown quiet t = refl

quiet-word : (msg : AdminMsg) → not (is_loud msg) ≡ true → (a : Admin) (t : Table) → Like (admin_does a msg t) (becomes t)
quiet-word (admins.AdminPoll kind id) quiet a t = reports-like a.conn (poll_answers kind id t) t
quiet-word (admins.AdminChat scope to text) quiet a t = absurd cc
quiet-word (admins.AdminRcon text) quiet a t = obeys-like (command_in text) a.conn text t ∙ quiet-line (command_in text) quiet t
quiet-word other quiet a t = refl

quiet-verdict : (v : Verdict) (said : Option AdminMsg) → not (is_loud_where v said) ≡ true → (a : Admin) (t : Table)
    → Like (by_admin_verdict v a said t) (becomes t)
quiet-verdict Allowed None quiet a t = refl
quiet-verdict Allowed (Some msg) quiet a t = quiet-word msg quiet a t
quiet-verdict (Ends code) said quiet a t = refl

quiet-at : (x : Option Member) (y : Option Admin) (o : Origin) (msg : Option GameMsg) (said : Option AdminMsg) (t : Table)
    → is_quiet_at x y o said ≡ true → Like (to_named x y (heard o msg) (admin_hears o said) t) (becomes t)
quiet-at (Some m) y o msg said t quiet = absurd cc
quiet-at None None o msg said t quiet = refl
quiet-at None (Some a) o msg said t quiet = quiet-verdict (admin_judged o a said) said quiet a t

gone-at : (x : Option Member) (y : Option Admin) (o : Origin) (t : Table) → is_quiet_at x y o None ≡ true
    → Like (to_named x y (λ m. ends_untold m 3) admin_leaves t) (becomes t)
gone-at (Some m) y o t quiet = absurd cc
gone-at None None o t quiet = refl
gone-at None (Some a) o t quiet = refl

quiet-event : (o : Origin) (e : Event) (t : Table) → is_quiet o t e ≡ true → Like (by_event o e t) (becomes t)
quiet-event o (Packet conn kind body) t quiet = quiet-at (member_of t conn) (admin_of t conn) o (read_msg kind body)
    (read_admin kind body) t quiet
quiet-event o (Broken conn) t quiet = quiet-at (member_of t conn) (admin_of t conn) o None None t quiet
quiet-event o (Shut conn) t quiet = gone-at (member_of t conn) (admin_of t conn) o t quiet
quiet-event o (Open door peer) t quiet = absurd cc
quiet-event o Tick t quiet = absurd cc
quiet-event o Stop t quiet = absurd cc

-- ---- the other events do the same to players, whatever admins are there

is-loud : (b : Bool) → not b ≡ false → b ≡ true
is-loud true is = refl
is-loud false is = absurd cc

loud-word : (msg : AdminMsg) → is_loud msg ≡ true → (a b : Admin) (t u : Table) → bare t ≡ bare u
    → Like (admin_does a msg t) (admin_does b msg u)
loud-word (admins.AdminChat scope to text) is a b t u e = same (chats 1 scope to text) (λ v. refl) t u e
loud-word (admins.AdminRcon text) is a b t u e =
    let command : ConsoleCommand = command_in text in
    obeys-like command a.conn text t ∙ same (console_does command) (console-bares command) t u e ∙ sym (obeys-like command b.conn text u)
loud-word other is a b t u e = absurd cc

loud-verdict : (v w : Verdict) (said : Option AdminMsg) → not (is_loud_where v said) ≡ false → not (is_loud_where w said) ≡ false
    → (a b : Admin) (t u : Table) → bare t ≡ bare u → Like (by_admin_verdict v a said t) (by_admin_verdict w b said u)
loud-verdict Allowed Allowed (Some msg) p q a b t u e = loud-word msg (is-loud (is_loud msg) p) a b t u e
loud-verdict Allowed Allowed None p q a b t u e = absurd cc
loud-verdict (Ends code) w said p q a b t u e = absurd cc
loud-verdict Allowed (Ends code) said p q a b t u e = absurd cc

loud-at : (x : Option Member) (y z : Option Admin) (o : Origin) (msg : Option GameMsg) (said : Option AdminMsg) (t u : Table)
    → bare t ≡ bare u → is_quiet_at x y o said ≡ false → is_quiet_at x z o said ≡ false
    → Like (to_named x y (heard o msg) (admin_hears o said) t) (to_named x z (heard o msg) (admin_hears o said) u)
loud-at (Some m) y z o msg said t u e p q = same (heard o msg m) (heard-bares o msg m) t u e
loud-at None None z o msg said t u e p q = absurd cc
loud-at None (Some a) None o msg said t u e p q = absurd cc
loud-at None (Some a) (Some b) o msg said t u e p q =
    loud-verdict (admin_judged o a said) (admin_judged o b said) said p q a b t u e

shut-at : (x : Option Member) (y z : Option Admin) (o : Origin) (t u : Table) → bare t ≡ bare u → is_quiet_at x y o None ≡ false
    → Like (to_named x y (λ m. ends_untold m 3) admin_leaves t) (to_named x z (λ m. ends_untold m 3) admin_leaves u)
shut-at (Some m) y z o t u e p = same (ends_untold m 3) (leaves-bares m (Failing 3)) t u e
shut-at None None z o t u e p = absurd cc
shut-at None (Some a) z o t u e p = absurd cc

aside-like : (full : Bool) (t : Table) → Like (admin_arrives full (counted_aside t)) (becomes (counted_aside (bare t)))
aside-like true t = refl
aside-like false t = refl

loud-event : (o : Origin) (e : Event) (t u : Table) → bare t ≡ bare u → is_quiet o t e ≡ false → is_quiet o u e ≡ false
    → Like (by_event o e t) (by_event o e u)
loud-event o (Packet conn kind body) t u e p q =
    let said : Option AdminMsg = read_admin kind body in
    let msg : Option GameMsg = read_msg kind body in
    subst (λ (x : Option Member). is_quiet_at x (admin_of u conn) o said ≡ false → Like (by_event o (Packet conn kind body) t)
    (to_named x (admin_of u conn) (heard o msg) (admin_hears o said) u)) (ap (λ (v : Table). member_of v conn) e)
    (λ r. loud-at (member_of t conn) (admin_of t conn) (admin_of u conn) o msg said t u e p r) q
loud-event o (Broken conn) t u e p q =
    subst (λ (x : Option Member). is_quiet_at x (admin_of u conn) o None ≡ false → Like (by_event o (Broken conn) t)
    (to_named x (admin_of u conn) (heard o None) (admin_hears o None) u)) (ap (λ (v : Table). member_of v conn) e)
    (λ r. loud-at (member_of t conn) (admin_of t conn) (admin_of u conn) o None None t u e p r) q
loud-event o (Shut conn) t u e p q =
    subst (λ (x : Option Member). Like (by_event o (Shut conn) t) (to_named x (admin_of u conn) (λ m. ends_untold m 3) admin_leaves u))
    (ap (λ (v : Table). member_of v conn) e) (shut-at (member_of t conn) (admin_of t conn) (admin_of u conn) o t u e p)
loud-event o (Open Main peer) t u e p q = same (opened o) (opened-bares o) t u e
loud-event o (Open Side peer) t u e p q =
    aside-like (nat_le most_admins (length t.admins)) t ∙ ap (λ (x : Table). still (bare (counted_aside x))) e
    ∙ sym (aside-like (nat_le most_admins (length u.admins)) u)
loud-event o Tick t u e p q = same (ticked o) (ticked-bares o) t u e
loud-event o Stop t u e p q = ap (λ (x : Table). still x) e

-- ---- what follows the rule of an event, where the game goes on

closed-like : (b : Bool) (d : Deed) (e : Event) → (where_ b shut_down (d ▹ charged e).table).table.over ≡ false
    → Like (d ▹ charged e ▹ where_ b shut_down) d
closed-like true d e going = absurd cc
closed-like false d e going = ap (λ (xs : List Step). record { table = bare d.table; told = inside xs }) (append-nil (d.told ++ [])
    ∙ append-nil d.told)

taken-like : (o : Origin) (e : Event) (t : Table) → (taken o e t).table.over ≡ false → Like (taken o e t) (by_event o e t)
taken-like o e t going =
    let d : Deed = by_event o e t in
    let v : Table = (d ▹ charged e).table in
    closed-like (stops o e t || nat_le o.setup.cost v.cost || (v.frame == last_frame)) d e going

going-before : (o : Origin) (e : Event) (t : Table) → (stepped o t e).over ≡ false → t.over ≡ false
going-before o e t going = by t.over refl
  where
    by : (b : Bool) → t.over ≡ b → t.over ≡ false
    by true over = absurd (let still_over : (stepped o t e).over ≡ true = ap (λ (d : Deed). d.table.over) (over-stays o t e over)
        ∙ over in cc)
    by false off = off

-- an event that players see is taken
loud-named : (x : Option Member) (y : Option Admin) (o : Origin) (said : Option AdminMsg) → is_quiet_at x y o said ≡ false
    → (is_some x || is_some y) ≡ true
loud-named (Some m) y o said p = refl
loud-named None (Some a) o said p = refl
loud-named None None o said p = absurd cc

loud-taken : (o : Origin) (e : Event) (t : Table) → t.over ≡ false → is_quiet o t e ≡ false → takes t e ≡ true
loud-taken o (Packet conn kind body) t going p = rw going (loud-named (member_of t conn) (admin_of t conn) o (read_admin kind body) p)
loud-taken o (Broken conn) t going p = rw going (loud-named (member_of t conn) (admin_of t conn) o None p)
loud-taken o (Shut conn) t going p = rw going (loud-named (member_of t conn) (admin_of t conn) o None p)
loud-taken o (Open door peer) t going p = rw going refl
loud-taken o Tick t going p = rw going refl
loud-taken o Stop t going p = rw going refl

settled : (b : Bool) (o : Origin) (e : Event) (t : Table) → b ≡ true → (where_ b (taken o e) t).table.over ≡ false
    → Like (where_ b (taken o e) t) (by_event o e t)
settled true o e t is going = taken-like o e t going
settled false o e t is going = absurd cc

quiet-by : (b : Bool) (o : Origin) (e : Event) (t : Table) → is_quiet o t e ≡ true → (where_ b (taken o e) t).table.over ≡ false
    → Like (where_ b (taken o e) t) (becomes t)
quiet-by true o e t quiet going = taken-like o e t going ∙ quiet-event o e t quiet
quiet-by false o e t quiet going = refl

pub quiet-step : (o : Origin) (e : Event) (t : Table) → is_quiet o t e ≡ true → (stepped o t e).over ≡ false → Like (deed o e t) (becomes t)
quiet-step o e t quiet going = quiet-by (takes t e) o e t quiet going

loud-step : (o : Origin) (e : Event) (t u : Table) → bare t ≡ bare u → is_quiet o t e ≡ false → is_quiet o u e ≡ false
    → (stepped o t e).over ≡ false → (stepped o u e).over ≡ false → Like (deed o e t) (deed o e u)
loud-step o e t u same_ p q going here =
    settled (takes t e) o e t (loud-taken o e t (going-before o e t going) p) going
    ∙ loud-event o e t u same_ p q
    ∙ sym (settled (takes u e) o e u (loud-taken o e u (going-before o e u here) q) here)

-- ---- what is told of it

abbrev AllGame : List Said → Type 0
AllGame said = AllByRecursion (λ (s : Said). is_of_game s ≡ true) said

abbrev AllAside : List Said → Type 0
AllAside said = AllByRecursion (λ (s : Said). is_of_game s ≡ false) said

mapped-game : {A : Type 0} (f : A → GameMsg) (xs : List A) → AllGame (map (λ x. game (f x)) xs)
mapped-game f [] = tt
mapped-game f (x ∷ xs) = (refl, mapped-game f xs)

pieces-game : (said : List GameMsg) → AllGame (map game said)
pieces-game [] = tt
pieces-game (m ∷ said) = (refl, pieces-game said)

reports-aside : (said : List AdminMsg) → AllAside (map admin said)
reports-aside [] = tt
reports-aside (m ∷ said) = (refl, reports-aside said)

inside-says : (w : What) (o : Origin) (f : Filling) → is_inside w ≡ true → AllGame (said_by o f w)
inside-says (Msg m) o f is = (refl, tt)
inside-says MapBegin o f is = (refl, (refl, tt))
inside-says MapPieces o f is = pieces-game (piece_messages f.left)
inside-says Sync o f is = (refl, tt)
inside-says (Entries frame) o f is = mapped-game told_command (above o frame f.journal)
inside-says (Stamp e) o f is = (refl, tt)
inside-says (ToAdmin r) o f is = absurd cc
inside-says End o f is = tt

outside-says : (w : What) (o : Origin) (f : Filling) → is_inside w ≡ false → AllAside (said_by o f w)
outside-says (ToAdmin r) o f is = reports-aside (reported o f r)
outside-says End o f is = tt
outside-says (Msg m) o f is = absurd cc
outside-says MapBegin o f is = absurd cc
outside-says MapPieces o f is = absurd cc
outside-says Sync o f is = absurd cc
outside-says (Entries frame) o f is = absurd cc
outside-says (Stamp e) o f is = absurd cc

kept-game : (b : Bool) (s : Said) (rest few : List Said) → is_of_game s ≡ true → of_game rest ≡ few → of_game (kept_if b s rest)
    ≡ kept_if b s few
kept-game true s rest few is h = rw is (ap (λ (xs : List Said). s ∷ xs) h)
kept-game false s rest few is h = h

kept-aside : (b : Bool) (s : Said) (rest : List Said) → is_of_game s ≡ false → of_game (kept_if b s rest) ≡ of_game rest
kept-aside true s rest is = rw is refl
kept-aside false s rest is = refl

game-told : (c : ℕ) (to : List ℕ) (said : List Said) (more few : List Telling) → AllGame said → of_game (told_to c more) ≡ told_to c few
    → of_game (told_to c (map (telling to) said ++ more)) ≡ told_to c (map (telling to) said ++ few)
game-told c to [] more few a h = h
game-told c to (s ∷ said) more few a h = kept-game (list_any (λ x. x == c) to) s (told_to c (map (telling to) said ++ more))
    (told_to c (map (telling to) said ++ few)) a.0 (game-told c to said more few a.1 h)

aside-told : (c : ℕ) (to : List ℕ) (said : List Said) (more : List Telling) → AllAside said
    → of_game (told_to c (map (telling to) said ++ more)) ≡ of_game (told_to c more)
aside-told c to [] more a = refl
aside-told c to (s ∷ said) more a = kept-aside (list_any (λ x. x == c) to) s (told_to c (map (telling to) said ++ more)) a.0
    ∙ aside-told c to said more a.1

step-told : (b : Bool) (c : ℕ) (o : Origin) (f : Filling) (s : Step) (steps : List Step) → is_inside s.what ≡ b
    → of_game (told_to c (filled o f steps)) ≡ told_to c (filled o f (inside steps))
    → of_game (told_to c (map (telling s.to) (said_by o f s.what) ++ filled o f steps))
    ≡ told_to c (filled o f (cond b (s ∷ inside steps) (inside steps)))
step-told true c o f s steps is h = game-told c s.to (said_by o f s.what) (filled o f steps) (filled o f (inside steps))
    (inside-says s.what o f is) h
step-told false c o f s steps is h = aside-told c s.to (said_by o f s.what) (filled o f steps) (outside-says s.what o f is) ∙ h

-- what of the game is told is what the steps inside tell
inside-told : (c : ℕ) (o : Origin) (f : Filling) (steps : List Step) → of_game (told_to c (filled o f steps))
    ≡ told_to c (filled o f (inside steps))
inside-told c o f [] = refl
inside-told c o f (s ∷ steps) = step-told (is_inside s.what) c o f s steps refl (inside-told c o f steps)

pub quiet-told : (o : Origin) (e : Event) (t : Table) (c : ℕ) → is_quiet o t e ≡ true → (stepped o t e).over ≡ false
    → of_game (told_by o t e c) ≡ []
quiet-told o e t c quiet going =
    let f : Filling = filling o t (stepped o t e) in
    inside-told c o f (deed o e t).told ∙ ap (λ (d : Deed). told_to c (filled o f d.told)) (quiet-step o e t quiet going)

filling-bare : (o : Origin) (t s : Table) → filling o t s ≡ filling o (bare t) (bare s)
filling-bare o t s = ap (λ (left : List ℕ). record {
  frame = s.frame;
  world = world_of o s;
  before = world_of o t;
  journal = s.journal;
  digests = s.digests;
  left = left;
}) (left-bare o t)

loud-told : (o : Origin) (e : Event) (t u : Table) (c : ℕ) → bare t ≡ bare u → Like (deed o e t) (deed o e u)
    → of_game (told_by o t e c) ≡ of_game (told_by o u e c)
loud-told o e t u c same_ like =
    let f : Filling = filling o t (stepped o t e) in
    let g : Filling = filling o u (stepped o u e) in
    let fillings : f ≡ g = filling-bare o t (stepped o t e) ∙ ap₂ (λ (x y : Table). filling o x y) same_ (ap (λ (d : Deed). d.table) like)
    ∙ sym (filling-bare o u (stepped o u e)) in
    inside-told c o f (deed o e t).told
    ∙ ap₂ (λ (h : Filling) (steps : List Step). told_to c (filled o h steps)) fillings (ap (λ (d : Deed). d.told) like)
    ∙ sym (inside-told c o g (deed o e u).told)

-- ---- lists of events

of-game-append : (xs ys : List Said) → of_game (xs ++ ys) ≡ of_game xs ++ of_game ys
of-game-append [] ys = refl
of-game-append (x ∷ xs) ys = elim (is_of_game x) as (λ b. cond b (x ∷ of_game (xs ++ ys)) (of_game (xs ++ ys))
    ≡ cond b (x ∷ of_game xs) (of_game xs) ++ of_game ys) [
      | true ↦ ap (λ (zs : List Said). x ∷ zs) (of-game-append xs ys)
      | false ↦ of-game-append xs ys
    ]

going-early : (o : Origin) (es : List Event) (t : Table) → (fold (stepped o) t es).over ≡ false → t.over ≡ false
going-early o es t going = by t.over refl
  where
    by : (b : Bool) → t.over ≡ b → t.over ≡ false
    by true over = absurd (let still_over : (fold (stepped o) t es).over ≡ true = ap (λ (u : Table). u.over) (over-from o es t over)
        ∙ over in cc)
    by false off = off

-- where no event is seen
abbrev Unseen : Origin → Table → List Event → Type 0
Unseen o u fs = (bare (fold (stepped o) u fs) ≡ bare u) × ((c : ℕ) → of_game (heard_from o u fs c) ≡ [])

none-by : (b : Bool) (o : Origin) (f : Event) (fs : List Event) (u : Table) → is_quiet o u f ≡ b
    → (fold (stepped o) (stepped o u f) fs).over ≡ false
    → cond b (loud_from o (stepped o u f) fs) (f ∷ loud_from o (stepped o u f) fs) ≡ []
    → (loud_from o (stepped o u f) fs ≡ [] → Unseen o (stepped o u f) fs) → Unseen o u (f ∷ fs)
none-by true o f fs u quiet going none next =
    let s : Table = stepped o u f in
    let here : s.over ≡ false = going-early o fs s going in
    let rest : Unseen o s fs = next none in (
      rest.0 ∙ ap (λ (d : Deed). d.table) (quiet-step o f u quiet here),
      λ c. of-game-append (told_by o u f c) (heard_from o s fs c) ∙ ap₂ (λ (xs ys : List Said). xs ++ ys) (quiet-told o f u c quiet here)
          (rest.1 c),
    )
none-by false o f fs u quiet going none next = absurd cc

none-seen : (o : Origin) (fs : List Event) (u : Table) → (fold (stepped o) u fs).over ≡ false → loud_from o u fs ≡ [] → Unseen o u fs
none-seen o [] u going is = (refl, λ c. refl)
none-seen o (f ∷ fs) u going is = none-by (is_quiet o u f) o f fs u refl going is (λ none. none-seen o fs (stepped o u f) going none)

-- the first event that is seen, and what stands behind it
record Found (o : Origin) (u : Table) (fs : List Event) (e : Event) (rest : List Event) : Type 0 where
  at : Table
  behind : List Event
  alike : bare at ≡ bare u
  seen : is_quiet o at e ≡ false
  going : (fold (stepped o) (stepped o at e) behind).over ≡ false
  later : loud_from o (stepped o at e) behind ≡ rest
  comes : fold (stepped o) u fs ≡ fold (stepped o) (stepped o at e) behind
  hears : (c : ℕ) → of_game (heard_from o u fs c) ≡ of_game (told_by o at e c) ++ of_game (heard_from o (stepped o at e) behind c)

finds-by : (b : Bool) (o : Origin) (f : Event) (fs : List Event) (u : Table) (e : Event) (rest : List Event) → is_quiet o u f ≡ b
    → (fold (stepped o) (stepped o u f) fs).over ≡ false
    → e ∷ rest ≡ cond b (loud_from o (stepped o u f) fs) (f ∷ loud_from o (stepped o u f) fs)
    → (e ∷ rest ≡ loud_from o (stepped o u f) fs → Found o (stepped o u f) fs e rest) → Found o u (f ∷ fs) e rest
finds-by true o f fs u e rest quiet going is next =
    let s : Table = stepped o u f in
    let here : s.over ≡ false = going-early o fs s going in
    let r : Found o s fs e rest = next is in
    record {
      at = r.at;
      behind = r.behind;
      alike = r.alike ∙ ap (λ (d : Deed). d.table) (quiet-step o f u quiet here);
      seen = r.seen;
      going = r.going;
      later = r.later;
      comes = r.comes;
      hears = λ c. of-game-append (told_by o u f c) (heard_from o s fs c)
          ∙ ap (λ (xs : List Said). xs ++ of_game (heard_from o s fs c)) (quiet-told o f u c quiet here) ∙ r.hears c;
    }
finds-by false o f fs u e rest quiet going is next =
    let s : Table = stepped o u f in
    let one : f ≡ e = cc in
    let more : loud_from o s fs ≡ rest = cc in
    subst (λ (x : Event). Found o u (f ∷ fs) x rest) one (record {
      at = u;
      behind = fs;
      alike = refl;
      seen = quiet;
      going = going;
      later = more;
      comes = refl;
      hears = λ c. of-game-append (told_by o u f c) (heard_from o s fs c);
    })

finds : (o : Origin) (fs : List Event) (u : Table) (e : Event) (rest : List Event) → (fold (stepped o) u fs).over ≡ false
    → e ∷ rest ≡ loud_from o u fs → Found o u fs e rest
finds o [] u e rest going is = absurd cc
finds o (f ∷ fs) u e rest going is = finds-by (is_quiet o u f) o f fs u e rest refl going is
    (λ later. finds o fs (stepped o u f) e rest going later)

-- two tables that are alike, and events from each of which the same are seen
abbrev Agree : Origin → Table → List Event → Table → List Event → Type 0
Agree o t es u fs = (bare (fold (stepped o) t es) ≡ bare (fold (stepped o) u fs))
    × ((c : ℕ) → of_game (heard_from o t es c) ≡ of_game (heard_from o u fs c))

agree-by : (b : Bool) (o : Origin) (e : Event) (es : List Event) (t : Table) (fs : List Event) (u : Table) → is_quiet o t e ≡ b
    → bare t ≡ bare u → (fold (stepped o) (stepped o t e) es).over ≡ false → (fold (stepped o) u fs).over ≡ false
    → cond b (loud_from o (stepped o t e) es) (e ∷ loud_from o (stepped o t e) es) ≡ loud_from o u fs
    → ((gs : List Event) (v : Table) → bare (stepped o t e) ≡ bare v → (fold (stepped o) v gs).over ≡ false
    → loud_from o (stepped o t e) es ≡ loud_from o v gs → Agree o (stepped o t e) es v gs) → Agree o t (e ∷ es) u fs
agree-by true o e es t fs u quiet alike going here is next =
    let s : Table = stepped o t e in
    let early : s.over ≡ false = going-early o es s going in
    let rest : Agree o s es u fs = next fs u (ap (λ (d : Deed). d.table) (quiet-step o e t quiet early) ∙ alike) here is in (
      rest.0,
      λ c. of-game-append (told_by o t e c) (heard_from o s es c)
          ∙ ap (λ (xs : List Said). xs ++ of_game (heard_from o s es c)) (quiet-told o e t c quiet early) ∙ rest.1 c,
    )
agree-by false o e es t fs u quiet alike going here is next =
    let s : Table = stepped o t e in
    let r : Found o u fs e (loud_from o s es) = finds o fs u e (loud_from o s es) here is in
    let v : Table = stepped o r.at e in
    let apart : bare t ≡ bare r.at = alike ∙ sym r.alike in
    let like : Like (deed o e t) (deed o e r.at) = loud-step o e t r.at apart quiet r.seen (going-early o es s going)
    (going-early o r.behind v r.going) in
    let rest : Agree o s es v r.behind = next r.behind v (ap (λ (d : Deed). d.table) like) r.going (sym r.later) in (
      rest.0 ∙ ap (λ (x : Table). bare x) (sym r.comes),
      λ c. of-game-append (told_by o t e c) (heard_from o s es c)
          ∙ ap₂ (λ (xs ys : List Said). xs ++ ys) (loud-told o e t r.at c apart like) (rest.1 c) ∙ sym (r.hears c),
    )

agree : (o : Origin) (es : List Event) (t : Table) (fs : List Event) (u : Table) → bare t ≡ bare u → (fold (stepped o) t es).over ≡ false
    → (fold (stepped o) u fs).over ≡ false → loud_from o t es ≡ loud_from o u fs → Agree o t es u fs
agree o [] t fs u alike going here is = let n : Unseen o u fs = none-seen o fs u here (sym is) in (alike ∙ sym n.0, λ c. sym (n.1 c))
agree o (e ∷ es) t fs u alike going here is = agree-by (is_quiet o t e) o e es t fs u refl alike going here is
    (λ gs v same_ on more. agree o es (stepped o t e) gs v same_ going on more)

-- from the start on
pub agree-all : (o : Origin) (es fs : List Event) → (table_of o es).over ≡ false → (table_of o fs).over ≡ false → loud o es ≡ loud o fs
    → (bare (table_of o es) ≡ bare (table_of o fs)) × ((c : ℕ) → of_game (told.heard o es c) ≡ of_game (told.heard o fs c))
agree-all o es fs going here is = agree o es (first o) fs (first o) refl going here is

-- what is told of the game alone is all of it
all-of-game : (said : List Said) → AllByRecursion IsOfGame said → of_game said ≡ said
all-of-game [] a = refl
all-of-game (game m ∷ said) a = ap (λ (xs : List Said). game m ∷ xs) (all-of-game said a.1)
all-of-game (admin m ∷ said) a = absurd a.0

pub players-agree : (o : Origin) (es fs : List Event) (c : ℕ) → (table_of o es).over ≡ false → (table_of o fs).over ≡ false
    → loud o es ≡ loud o fs → (door_of es c ≡ Some Side → ⊥) → (door_of fs c ≡ Some Side → ⊥) → told.heard o es c ≡ told.heard o fs c
players-agree o es fs c going here is apart away =
    sym (all-of-game (told.heard o es c) (not-of-admins o es c apart)) ∙ (agree-all o es fs going here is).1 c
    ∙ all-of-game (told.heard o fs c) (not-of-admins o fs c away)

-- one event behind others
pub quiet-table : (o : Origin) (es : List Event) (e : Event) → is_quiet o (table_of o es) e ≡ true
    → (table_of o (es ++ e ∷ [])).over ≡ false → bare (table_of o (es ++ e ∷ [])) ≡ bare (table_of o es)
quiet-table o es e quiet going =
    let behind : table_of o (es ++ e ∷ []) ≡ stepped o (table_of o es) e = table-snoc o es e in
    ap (λ (x : Table). bare x) behind ∙ ap (λ (d : Deed). d.table) (quiet-step o e (table_of o es) quiet
    (ap (λ (x : Table). x.over) (sym behind) ∙ going))

pub quiet-silent : (o : Origin) (es : List Event) (e : Event) (c : ℕ) → is_quiet o (table_of o es) e ≡ true
    → (table_of o (es ++ e ∷ [])).over ≡ false → of_game (told.told o es e c) ≡ []
quiet-silent o es e c quiet going = quiet-told o e (table_of o es) c quiet (ap (λ (x : Table). x.over) (sym (table-snoc o es e)) ∙ going)
