-- Who downloads behind an event that is no tick: the queue moves at most once in it.
use Rattle.std.proofs.Common.{◌≡◌, ℕ, ◌+◌, List, [], ◌∷◌, ◌++◌, refl, ap, sym, ◌∙◌, subst, true, false, Bool, Option, Some, None, arith}
use Rattle.std.specs.Prelude.{◌==◌, cond, filter, find, length, nat_le, not}
use Rattle.tt_edge.specs.declared.event.Door.TheVariants.{Main, Side}
use Rattle.tt_edge.specs.declared.event.Event.{Event}
use Rattle.tt_edge.specs.declared.event.Event.TheVariants.{Open, Packet, Broken, Shut, Tick, Stop}
use Rattle.tt_edge.specs.Event.{is_tick}
use Rattle.tt_game.specs.declared.message.GameMsg.{GameMsg}
use Rattle.tt_game.specs.declared.message.GameMsg.TheVariants.{ClientJoin, ClientGameInfo, ClientGamePassword, ClientCompanyPassword}
use Rattle.tt_game.specs.declared.message.GameMsg.TheVariants.{ClientGetmap, ClientMapOk, ClientAck, ClientCommand, ClientChat}
use Rattle.tt_game.specs.declared.message.GameMsg.TheVariants.{ClientSetName, ClientSetPassword, ClientMove, ClientError, ClientQuit}
use Rattle.tt_game.specs.declared.message.GameMsg.TheVariants.{ServerJoin}
use Rattle.tt_admin.specs.declared.message.AdminMsg.{AdminMsg}
use Rattle.tt_admin.specs.declared.message.AdminMsg.TheVariants as admins
use Rattle.tt_world.specs.declared.command.Command.{Command}
use Rattle.tt_rules.specs.Commands.{command_of}
use Rattle.tt_rules.specs.Statuses.{rank}
use Rattle.tt_rules.specs.declared.status.Verdict.{Verdict}
use Rattle.tt_rules.specs.declared.status.Verdict.TheVariants.{Allowed, Ends}
use Rattle.tt_rules.specs.declared.status.Status.TheVariants.{Active}
use Rattle.tt_log.specs.declared.report.Report.{Report}
use Rattle.tt_log.specs.declared.report.Report.TheVariants.{Message}
use Rattle.tt_log.specs.Origin.{Origin}
use Rattle.tt_log.specs.Admin.{Admin}
use Rattle.tt_log.specs.Member.{Member, new_member}
use Rattle.tt_log.specs.Table.{Table, admin_of, digest_of, is_on, member_of, member_with, now_in, playing, with_member}
use Rattle.tt_log.specs.Watching.{sees_active, sees_console}
use Rattle.tt_log.specs.Deed.{Deed, ◌▹◌, tells, where_, where_some}
use Rattle.tt_log.specs.Names.{given_name}
use Rattle.tt_log.specs.Judged.{judged, founder}
use Rattle.tt_log.specs.Ending.{Quitting, Failing}
use Rattle.tt_log.specs.PacketRules.{acknowledged, acknowledges, asks_company, becomes_active, closed_token, command_waits, company_step_by}
use Rattle.tt_log.specs.PacketRules.{does, has_caught_up, password_step_by}
use Rattle.tt_log.specs.Polls.{poll_answers, tells_admin}
use Rattle.tt_log.specs.Console.{ConsoleCommand, announces, command_in, console_does, kicks, kicks_out, lines_of, obeys, pauses}
use Rattle.tt_log.specs.Desk.{admin_arrives, admin_does, admin_judged, by_admin_verdict, counted_aside, most_admins, read_admin}
use Rattle.tt_log.specs.Events.{arrives, by_event, by_verdict, counted_in, on_conn, read_msg, to_named}
use Rattle.tt_outgoing.specs.Carrying.{begins_map}
use Rattle.tt_outgoing.proofs.Loaders.{Alone, Calm, as-before, calm-still, calm-then, idle-calm, quiet-front}
use Rattle.tt_outgoing.proofs.Loaders.{kept-calm, own-found, same-calm, told-quiet}
use Rattle.tt_outgoing.proofs.Parting.{Whole, WholeBy, asks-whole, ends-whole, enters-whole, leaves-whole, whole-calm}

-- ---- packets of members

company-whole : (digest : Option (List ℕ)) (o : Origin) (m : Member) (t : Table) → Alone t t.queue
    → WholeBy t (company_step_by digest o m t)
company-whole None o m t a = whole-calm t _ refl (idle-calm t _ (λ at. absurd (omega (arith, at)))) a
company-whole (Some digest) o m t a = whole-calm t _ refl (idle-calm t _ (λ at. absurd (omega (arith, at)))) a

password-whole : (password : List ℕ) (o : Origin) (m : Member) (t : Table) → Alone t t.queue
    → WholeBy t (password_step_by password o m t)
password-whole [] o m t a = company-whole (digest_of t m.asked) o m t a
password-whole (b ∷ bs) o m t a = whole-calm t _ refl (idle-calm t _ (λ at. absurd (omega (arith, at)))) a

acked-same : (b : Bool) (frame : ℕ) (t : Table) (m : Member) → member_of t m.conn ≡ Some m
    → Calm t (with_member (record (cond b m (closed_token m)) { acked = frame }) t)
acked-same true frame t m is = kept-calm t m _ is refl refl refl refl
acked-same false frame t m is = kept-calm t m _ is refl refl refl refl

active-by : (b : Bool) (n : Member) (t u : Table) → u.frame ≡ t.frame → Calm t u → Alone t t.queue
    → WholeBy t (tells (filter (λ c. not (c == n.conn)) (playing u)) (ServerJoin n.client) (with_member (now_in Active u n) u)
    ▹ sees_active (now_in Active u n) ▹ where_ b (asks_company (now_in Active u n)))
active-by true n t u frame calm a =
    let v : Table = with_member (now_in Active u n) u in
    whole-calm t _ frame (calm-then t v _ (calm-then t u v calm (idle-calm u (now_in Active u n) (λ at. absurd (omega (arith, at)))))
    (same-calm v _ refl refl)) a
active-by false n t u frame calm a =
    whole-calm t _ frame (calm-then t u _ calm (idle-calm u (now_in Active u n) (λ at. absurd (omega (arith, at))))) a

active-whole : (b : Bool) (n : Member) (t u : Table) → u.frame ≡ t.frame → Calm t u → Alone t t.queue
    → WholeBy t (where_ b (becomes_active n) u)
active-whole true n t u frame calm a = active-by (n.asked == founder) n t u frame calm a
active-whole false n t u frame calm a = whole-calm t u frame calm a

acknowledges-whole : (m : Member) (frame token : ℕ) (t : Table) → member_of t m.conn ≡ Some m → Alone t t.queue
    → WholeBy t (acknowledges m frame token t)
acknowledges-whole m frame token t is a =
    let n : Member = acknowledged frame token m in
    active-whole (has_caught_up frame t m) n t (with_member n t) refl (acked-same (token == 0) frame t m is) a

command-whole : (x : Option Command) (m : Member) (company : ℕ) (t : Table) → member_of t m.conn ≡ Some m → Alone t t.queue
    → WholeBy t (where_some x (command_waits m company) t)
command-whole None m company t is a = whole-calm t t refl (calm-still t) a
command-whole (Some command) m company t is a = whole-calm t _ refl (kept-calm t m _ is refl refl refl refl) a

does-whole : (o : Origin) (m : Member) (msg : GameMsg) (t : Table) → member_of t m.conn ≡ Some m → Alone t t.queue
    → WholeBy t (does o m msg t)
does-whole o m (ClientJoin revision grf name company) t is a =
    password-whole o.setup.password o (record m { name = given_name t m.conn name; asked = company }) t a
does-whole o m ClientGameInfo t is a = whole-calm t t refl (calm-still t) a
does-whole o m (ClientGamePassword digest) t is a = company-whole (digest_of t m.asked) o m t a
does-whole o m (ClientCompanyPassword digest) t is a = whole-calm t _ refl (idle-calm t _ (λ at. absurd (omega (arith, at)))) a
does-whole o m ClientGetmap t is a = asks-whole m t a
does-whole o m ClientMapOk t is a = enters-whole m t a
does-whole o m (ClientAck frame token) t is a = acknowledges-whole m frame token t is a
does-whole o m (ClientCommand company code number to text) t is a = command-whole (command_of code number to text) m company t is a
does-whole o m (ClientChat scope to text) t is a = whole-calm t t refl (calm-still t) a
does-whole o m (ClientSetName name) t is a = whole-calm t _ refl (kept-calm t m _ is refl refl refl refl) a
does-whole o m (ClientSetPassword digest) t is a = whole-calm t _ refl (same-calm t _ refl refl) a
does-whole o m (ClientMove company digest) t is a = whole-calm t _ refl (kept-calm t m _ is refl refl refl refl) a
does-whole o m (ClientError code) t is a = leaves-whole m (Failing code) t a
does-whole o m ClientQuit t is a = leaves-whole m Quitting t a
does-whole o m other t is a = whole-calm t t refl (calm-still t) a

said-whole : (said : Option GameMsg) (o : Origin) (m : Member) (t : Table) → member_of t m.conn ≡ Some m → Alone t t.queue
    → WholeBy t (where_some said (does o m) t)
said-whole None o m t is a = whole-calm t t refl (calm-still t) a
said-whole (Some msg) o m t is a = does-whole o m msg t is a

verdict-whole : (v : Verdict) (o : Origin) (m : Member) (said : Option GameMsg) (t : Table) → member_of t m.conn ≡ Some m
    → Alone t t.queue → WholeBy t (by_verdict v o m said t)
verdict-whole Allowed o m said t is a = said-whole said o m t is a
verdict-whole (Ends code) o m said t is a = ends-whole m code t a

-- ---- packets of admins

kicks-whole : (x : Option Member) (t : Table) → Alone t t.queue → WholeBy t (where_some x kicks_out t)
kicks-whole None t a = whole-calm t t refl (calm-still t) a
kicks-whole (Some m) t a = ends-whole m 12 t a

console-whole : (command : ConsoleCommand) (t : Table) → Alone t t.queue → WholeBy t (console_does command t)
console-whole (pauses paused) t a = whole-calm t _ refl (same-calm t _ refl refl) a
console-whole (kicks client) t a = kicks-whole (member_with client t) t a
console-whole (announces text) t a = whole-calm t t refl (calm-still t) a
console-whole other t a = whole-calm t t refl (calm-still t) a

obeys-whole : (command : ConsoleCommand) (conn : ℕ) (text : List ℕ) (t : Table) → Alone t t.queue → WholeBy t (obeys command conn text t)
obeys-whole command conn text t a =
    let reports : List Report = lines_of command t ++ Message (admins.ServerRconEnd text) ∷ [] in
    let d : Deed = sees_console text t ▹ tells_admin conn reports in
    let quiet : begins_map d.told ≡ false = told-quiet conn reports t in
    subst (λ (b : Bool). Whole t (console_does command t).table b) (sym (quiet-front d.told (console_does command t).told quiet))
    (console-whole command t a)

admin-does-whole : (b : Admin) (msg : AdminMsg) (t : Table) → Alone t t.queue → WholeBy t (admin_does b msg t)
admin-does-whole b (admins.AdminJoin password application version) t a = whole-calm t _ refl (same-calm t _ refl refl) a
admin-does-whole b admins.AdminQuit t a = whole-calm t _ refl (same-calm t _ refl refl) a
admin-does-whole b (admins.AdminUpdateFrequency kind bits) t a = whole-calm t _ refl (same-calm t _ refl refl) a
admin-does-whole b (admins.AdminPoll kind id) t a = subst (λ (c : Bool). Whole t t c) (sym (told-quiet b.conn (poll_answers kind id t) t))
    (whole-calm t t refl (calm-still t) a)
admin-does-whole b (admins.AdminChat scope to text) t a = whole-calm t t refl (calm-still t) a
admin-does-whole b (admins.AdminRcon text) t a = obeys-whole (command_in text) b.conn text t a
admin-does-whole b (admins.AdminPing id) t a = whole-calm t t refl (calm-still t) a
admin-does-whole b other t a = whole-calm t t refl (calm-still t) a

admin-said-whole : (said : Option AdminMsg) (b : Admin) (t : Table) → Alone t t.queue → WholeBy t (where_some said (admin_does b) t)
admin-said-whole None b t a = whole-calm t t refl (calm-still t) a
admin-said-whole (Some msg) b t a = admin-does-whole b msg t a

admin-whole : (v : Verdict) (b : Admin) (said : Option AdminMsg) (t : Table) → Alone t t.queue → WholeBy t (by_admin_verdict v b said t)
admin-whole Allowed b said t a = admin-said-whole said b t a
admin-whole (Ends code) b said t a = whole-calm t _ refl (same-calm t _ refl refl) a

-- ---- events

named-whole : (x : Option Member) (y : Option Admin) (f : Member → Table → Deed) (g : Admin → Table → Deed) (t : Table) → Alone t t.queue
    → ((m : Member) → x ≡ Some m → WholeBy t (f m t)) → ((b : Admin) → WholeBy t (g b t)) → WholeBy t (to_named x y f g t)
named-whole (Some m) y f g t a p q = p m refl
named-whole None None f g t a p q = whole-calm t t refl (calm-still t) a
named-whole None (Some b) f g t a p q = q b

conn-whole : (conn : ℕ) (f : Member → Table → Deed) (g : Admin → Table → Deed) (t : Table) → Alone t t.queue
    → ((m : Member) → member_of t m.conn ≡ Some m → WholeBy t (f m t)) → ((b : Admin) → WholeBy t (g b t))
    → WholeBy t (on_conn conn f g t)
conn-whole conn f g t a p q = named-whole (member_of t conn) (admin_of t conn) f g t a
    (λ m is. p m (own-found t conn m is)) q

-- one more member, which has not asked for the map
come-found : (ms : List Member) (new : Member) (d : ℕ) (n : Member) → (rank new.status ≡ 6 → ⊥) → find (is_on d) (ms ++ new ∷ []) ≡ Some n
    → rank n.status ≡ 6 → find (is_on d) ms ≡ Some n
come-found [] new d n never is at = last (new.conn == d) is
  where
    last : (b : Bool) → cond b (Some new) None ≡ Some n → None ≡ Some n
    last true same = let e : new ≡ n = cc in absurd (never (ap (λ (m : Member). rank m.status) e ∙ at))
    last false same = same
come-found (x ∷ xs) new d n never is at = by (x.conn == d) (come-found xs new d n never) is
  where
    by : (b : Bool) → (find (is_on d) (xs ++ new ∷ []) ≡ Some n → rank n.status ≡ 6 → find (is_on d) xs ≡ Some n)
        → cond b (Some x) (find (is_on d) (xs ++ new ∷ [])) ≡ Some n → cond b (Some x) (find (is_on d) xs) ≡ Some n
    by true later same = same
    by false later same = later same at

arrives-whole : (full : Bool) (t : Table) → Alone t t.queue → WholeBy t (arrives full (counted_in t))
arrives-whole true t a = whole-calm t _ refl (same-calm t _ refl refl) a
arrives-whole false t a = whole-calm t _ refl (record {
  queue = refl;
  each = λ d n is at. as-before (member_of t d) n (come-found t.members (new_member (t.openings + 1) (t.clients + 1) t.frame) d n
      (λ low. absurd (omega (arith, low))) is at) at;
}) a

aside-whole : (full : Bool) (t : Table) → Alone t t.queue → WholeBy t (admin_arrives full (counted_aside t))
aside-whole true t a = whole-calm t _ refl (same-calm t _ refl refl) a
aside-whole false t a = whole-calm t _ refl (same-calm t _ refl refl) a

pub event-whole : (o : Origin) (e : Event) (t : Table) → is_tick e ≡ false → Alone t t.queue → WholeBy t (by_event o e t)
event-whole o (Open Main peer) t still a = arrives-whole (nat_le o.setup.max_clients (length t.members)) t a
event-whole o (Open Side peer) t still a = aside-whole (nat_le most_admins (length t.admins)) t a
event-whole o (Packet conn kind body) t still a = conn-whole conn _ _ t a
    (λ m is. verdict-whole (judged o t m (read_msg kind body)) o m (read_msg kind body) t is a)
    (λ b. admin-whole (admin_judged o b (read_admin kind body)) b (read_admin kind body) t a)
event-whole o (Broken conn) t still a = conn-whole conn _ _ t a (λ m is. verdict-whole (judged o t m None) o m None t is a)
    (λ b. admin-whole (admin_judged o b None) b None t a)
event-whole o (Shut conn) t still a = conn-whole conn _ _ t a (λ m is. leaves-whole m (Failing 3) t a)
    (λ b. whole-calm t _ refl (same-calm t _ refl refl) a)
event-whole o Tick t still a = absurd cc
event-whole o Stop t still a = whole-calm t t refl (calm-still t) a
