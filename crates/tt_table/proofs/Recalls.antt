-- A tick tells nobody the entries behind a map: only who enters the game is told them, and that comes with a packet.
use Rattle.std.proofs.Common.{ℕ, zero, suc, ◌+◌, Bool, true, false, List, [], ◌∷◌, ◌++◌, Option, Some, None}
use Rattle.std.specs.Prelude.{not, nat_lt, drop, position, ◌==◌, ◌%◌, ◌*◌, length}
use Rattle.std.specs.List.{AllByRecursion}
use Rattle.tt_edge.specs.declared.event.Event.{Event}
use Rattle.tt_edge.specs.declared.event.Event.TheVariants.{Tick}
use Rattle.tt_world.specs.World.{WorldState}
use Rattle.tt_rules.specs.Companies.{living}
use Rattle.tt_rules.specs.declared.status.Status.TheVariants.{MapWait}
use Rattle.tt_log.specs.declared.deed.Step.{Step}
use Rattle.tt_log.specs.declared.deed.What.{What}
use Rattle.tt_log.specs.declared.deed.What.TheVariants.{Msg, Sync, Entries, Stamp, End}
use Rattle.tt_log.specs.Admin.{Admin}
use Rattle.tt_log.specs.Deed.{Deed, ◌▹◌, where_, where_some, tells_what}
use Rattle.tt_log.specs.Desk.{admin_ends, admin_limited, admins_limited, each_admin_limited, is_slow}
use Rattle.tt_log.specs.Ending.{Farewell, Quitting, Failing, ends, leaves, tells_farewell}
use Rattle.tt_log.specs.Member.{Member, is_in, is_welcomed}
use Rattle.tt_log.specs.Origin.{Origin}
use Rattle.tt_log.specs.PacketRules.{moves}
use Rattle.tt_log.specs.Polls.{admins_told}
use Rattle.tt_log.specs.Queue.{begins, begins_for, begins_where, leaves_queue, left_place, moved_up, waits}
use Rattle.tt_log.specs.Table.{Table, admin_of, downloader, member_of, member_with, with_member, world_of, without_member}
use Rattle.tt_log.specs.Tick.{all_moved, each_limited, finishes_map, foundings, founders_moved, frame_follows, frame_runs}
use Rattle.tt_log.specs.Tick.{frame_runs_by, late, left_of, limited}
use Rattle.tt_log.specs.Tick.{mapped, next_pieces, pieces_of, stamped, stamps, synced, ticked, timed}
use Rattle.tt_log.specs.Watching.{sees_frame}
use Rattle.tt_log.specs.Origin.{at_frame}
use Rattle.tt_log.proofs.Changes.{Change, wants_password, is_let_in, gets_token, gets_frame, gets_pieces, steps_with, IsNews}
use Rattle.tt_log.proofs.Walk.{Base, of-admins-told, of-entries, of-frames, running, stamping}
use Rattle.tt_log.proofs.Lists.{last-among}

-- it is not the entries behind a map
abbrev pub IsNoRecall : What → Type 0
IsNoRecall (Entries frame) = ⊥
IsNoRecall other = Unit {0}

abbrev pub AreNoRecalls : List Step → Type 0
AreNoRecalls steps = AllByRecursion (λ (s : Step). IsNoRecall s.what) steps

abbrev Calm : Table → List Step → Table → Type 0
Calm t steps u = AreNoRecalls steps

abbrev IsCalm : Deed → Type 0
IsCalm d = AreNoRecalls d.told

both : (xs ys : List Step) → AreNoRecalls xs → AreNoRecalls ys → AreNoRecalls (xs ++ ys)
both [] ys a b = b
both (x ∷ xs) ys a b = (a.0, both xs ys a.1 b)

with-calm : (c : Change) (o : Origin) (t : Table) (m : Member) → AreNoRecalls (steps_with c o t m)
with-calm (wants_password true name asked) o t m = (tt, tt)
with-calm (wants_password false name asked) o t m = (tt, tt)
with-calm (is_let_in name asked) o t m = (tt, tt)
with-calm gets_token o t m = (tt, tt)
with-calm gets_frame o t m = (tt, tt)
with-calm (gets_pieces left) o t m = (tt, tt)
with-calm other o t m = tt

news-calm : (o : Origin) (e : Event) (t : Table) (w : What) → IsNews o e t w → IsNoRecall w
news-calm o e t (Msg m) news = tt
news-calm o e t (Stamp entry) news = tt
news-calm o e t Sync news = tt
news-calm o e t other news = absurd news

calm-base : (o : Origin) (e : Event) → Base o e Calm
calm-base o e = record {
  still = λ t. tt;
  joins = λ t u v xs ys a b. both xs ys a b;
  turns = λ c t m on may by is. with-calm c o t m;
  tells_one = λ t m msg on talk. (tt, tt);
  tells_some = λ t to w there news. (news-calm o e t w news, tt);
  tells_admins = λ t to r may is. (tt, tt);
}

-- ---- rules joined

next : (d : Deed) (rule : Table → Deed) → IsCalm d → IsCalm (rule d.table) → IsCalm (d ▹ rule)
next d rule a b = both d.told (rule d.table).told a b

if-so : (b : Bool) (rule : Table → Deed) (t : Table) → ((u : Table) → IsCalm (rule u)) → IsCalm (where_ b rule t)
if-so true rule t calm = calm t
if-so false rule t calm = tt

if-some : {A : Type 0} (x : Option A) (rule : A → Table → Deed) (t : Table) → ((y : A) (u : Table) → IsCalm (rule y u))
    → IsCalm (where_some x rule t)
if-some None rule t calm = tt
if-some (Some y) rule t calm = calm y t

-- ---- the queue

up-calm : (place : ℕ) (conns : List ℕ) (t : Table) → IsCalm (moved_up place conns t)
up-calm place [] t = tt
up-calm zero (conn ∷ conns) t = next (begins conn t) (moved_up 1 conns)
    (if-some (member_of t conn) begins_where t (λ m u. if-so (is_in MapWait m) (begins_for m) u (λ v. (tt, tt))))
    (up-calm 1 conns (begins conn t).table)
up-calm (suc place) (conn ∷ conns) t = next (waits conn (suc place) t) (moved_up (suc (suc place)) conns) (tt, tt)
    (up-calm (suc (suc place)) conns (waits conn (suc place) t).table)

queue-calm : (conn : ℕ) (t : Table) → IsCalm (leaves_queue conn t)
queue-calm conn t = if-some (position (λ c. c == conn) t.queue) left_place t (λ place u. up-calm place (drop (place + 1) u.queue) _)

-- ---- ends

farewell-calm : (f : Farewell) (m : Member) (t : Table) → IsCalm (tells_farewell f m t)
farewell-calm Quitting m t = (tt, (tt, tt))
farewell-calm (Failing code) m t = (tt, (tt, tt))

leaves-calm : (m : Member) (f : Farewell) (t : Table) → IsCalm (leaves m f t)
leaves-calm m f t =
    let d : Deed = tells_what (m.conn ∷ []) End (without_member m.conn t) ▹ where_ (is_welcomed m) (tells_farewell f m) in
    next d (leaves_queue m.conn)
    (next (tells_what (m.conn ∷ []) End (without_member m.conn t)) (where_ (is_welcomed m) (tells_farewell f m)) (tt, tt)
    (if-so (is_welcomed m) (tells_farewell f m) (without_member m.conn t) (λ u. farewell-calm f m u)))
    (queue-calm m.conn d.table)

ends-calm : (m : Member) (code : ℕ) (t : Table) → IsCalm (ends m code t)
ends-calm m code t = (tt, leaves-calm m (Failing code) t)

-- ---- the steps of a tick

moves-calm : (m : Member) (company : ℕ) (t : Table) → IsCalm (moves m company t)
moves-calm m company t = (tt, (tt, tt))

founders-calm : (fs : List (ℕ × ℕ)) (t : Table) → IsCalm (all_moved fs t)
founders-calm [] t = tt
founders-calm (f ∷ fs) t = next (where_some (member_with f.0 t) (λ m. moves m f.1) t) (all_moved fs)
    (if-some (member_with f.0 t) (λ m. moves m f.1) t (λ m u. moves-calm m f.1 u))
    (founders-calm fs (where_some (member_with f.0 t) (λ m. moves m f.1) t).table)

pieces-calm : (left : List ℕ) (m : Member) (t : Table) → IsCalm (next_pieces left m t)
pieces-calm left m t =
    let told : Member = record m { pieces = m.pieces + length (pieces_of 4 left) } in
    (tt, if-so (not (nat_lt (4 * 1400) (length left))) (finishes_map told) (with_member told t) (λ u. tt))

timed-calm : (o : Origin) (ms : List Member) (t : Table) → IsCalm (each_limited o ms t)
timed-calm o [] t = tt
timed-calm o (m ∷ ms) t = next (where_some (member_of t m.conn) (limited o) t) (each_limited o ms)
    (if-some (member_of t m.conn) (limited o) t (λ n u. if-some (late o.setup u.frame n) (ends n) u (λ code v. ends-calm n code v)))
    (timed-calm o ms (where_some (member_of t m.conn) (limited o) t).table)

slow-calm : (o : Origin) (admins : List Admin) (t : Table) → IsCalm (each_admin_limited o admins t)
slow-calm o [] t = tt
slow-calm o (a ∷ admins) t = next (where_some (admin_of t a.conn) (admin_limited o) t) (each_admin_limited o admins)
    (if-some (admin_of t a.conn) (admin_limited o) t (λ b u. if-so (is_slow o u.frame b) (admin_ends b 17) u (λ v. (tt, (tt, tt)))))
    (slow-calm o admins (where_some (admin_of t a.conn) (admin_limited o) t).table)

follows-calm : (before : WorldState) (left : List ℕ) (o : Origin) (t : Table) → IsCalm (frame_follows before left o t)
follows-calm before left o t =
    let a : Deed = founders_moved o (living before) t in
    let b : Deed = a ▹ synced o in
    let c : Deed = b ▹ mapped left in
    let d : Deed = c ▹ timed o in
    let e : Deed = d ▹ admins_limited o in
    let pa : IsCalm a = founders-calm (foundings (living before) (at_frame o t.frame t.journal)) t in
    let pb : IsCalm b = next a (synced o) pa (if-so (a.table.frame % o.setup.sync_freq == 0) _ a.table (λ u. (tt, tt))) in
    let pc : IsCalm c = next b (mapped left) pb (if-some (downloader b.table) (next_pieces left) b.table (λ m u. pieces-calm left m u)) in
    let pd : IsCalm d = next c (timed o) pc (timed-calm o c.table.members c.table) in
    let pe : IsCalm e = next d (admins_limited o) pd (slow-calm o d.table.admins d.table) in
    next e (admins_told before.day o) pe (of-admins-told o Tick Calm (calm-base o Tick) before.day e.table)

runs-calm : (b : Bool) (o : Origin) (t : Table) → IsCalm (frame_runs_by b o t)
runs-calm true o t = of-frames o Tick Calm (calm-base o Tick) t.members (running true o t)
runs-calm false o t = tt

pub tick-calm : (o : Origin) (t : Table) → AreNoRecalls (ticked o t).told
tick-calm o t =
    let a : Deed = stamped t in
    let b : Deed = a ▹ frame_runs o in
    let c : Deed = b ▹ sees_frame in
    let pa : IsCalm a = of-entries o Tick Calm (calm-base o Tick) (stamps t) (stamping t) (last-among t.journal (stamps t)) in
    let pb : IsCalm b = next a (frame_runs o) pa (runs-calm (nat_lt a.table.top (a.table.frame + 1)) o a.table) in
    next c (frame_follows (world_of o t) (left_of o t) o) (next b sees_frame pb (tt, tt))
    (follows-calm (world_of o t) (left_of o t) o c.table)
