-- Rules do to players what they do where no admin is there: each rule of a table is, to players, that of the bare table.
use Rattle.std.proofs.Common.{◌≡◌, ℕ, ◌+◌, List, [], ◌∷◌, ◌++◌, refl, ap, ap₂, sym, ◌∙◌, true, false, Bool, Option, Some, None, zero, suc}
use Rattle.std.specs.Prelude.{◌==◌, ◌*◌, ◌%◌, not, cond, drop, take, filter, length, map, nat_le, nat_lt, position}
use Rattle.tt_game.specs.declared.message.GameMsg.{GameMsg}
use Rattle.tt_game.specs.declared.message.GameMsg.TheVariants.{ClientJoin, ClientGamePassword, ClientCompanyPassword, ClientGetmap}
use Rattle.tt_game.specs.declared.message.GameMsg.TheVariants.{ClientMapOk, ClientAck, ClientCommand, ClientError, ClientQuit}
use Rattle.tt_game.specs.declared.message.GameMsg.TheVariants.{ServerError, ServerJoin}
use Rattle.tt_world.specs.declared.command.Entry.{Entry}
use Rattle.tt_world.specs.World.{WorldState}
use Rattle.tt_rules.specs.Commands.{command_of}
use Rattle.tt_rules.specs.Companies.{living}
use Rattle.tt_rules.specs.declared.status.Status.TheVariants.{MapWait, PreActive, Active}
use Rattle.tt_rules.specs.declared.status.Verdict.{Verdict}
use Rattle.tt_rules.specs.declared.status.Verdict.TheVariants.{Allowed, Ends}
use Rattle.tt_log.specs.declared.deed.Step.{Step}
use Rattle.tt_log.specs.declared.deed.What.{What}
use Rattle.tt_log.specs.declared.deed.What.TheVariants.{ToAdmin, MapPieces, Sync, Entries, Stamp, End}
use Rattle.tt_log.specs.declared.report.Report.{Report}
use Rattle.tt_log.specs.Origin.{Origin, at_frame}
use Rattle.tt_log.specs.Member.{Member, is_in, is_playing, is_welcomed}
use Rattle.tt_log.specs.Admin.{Admin}
use Rattle.tt_log.specs.Table.{Table, member_of, admin_of, member_with, with_member, without_member, now_in, digest_of, welcomed, playing}
use Rattle.tt_log.specs.Table.{world_of, downloader, first_loading}
use Rattle.tt_log.specs.Deed.{Deed, ◌▹◌, becomes, where_, where_some, tells, tells_what, tells_each}
use Rattle.tt_log.specs.Watching.{sees_active, sees_stamp, sees_frame}
use Rattle.tt_log.specs.Names.{given_name}
use Rattle.tt_log.specs.Frames.{tells_fresh, tells_frame_by, tells_frame, frames_told}
use Rattle.tt_log.specs.Queue.{begins, begins_for, begins_where, waits, moved_up, asks, left_place, leaves_queue}
use Rattle.tt_log.specs.Judged.{judged, founder}
use Rattle.tt_log.specs.Ending.{Farewell, Quitting, Failing, tells_farewell, leaves, ends}
use Rattle.tt_log.specs.PacketRules.{client_info, company_step_by, company_step, password_step_by, enters, asks_company}
use Rattle.tt_log.specs.PacketRules.{becomes_active, acknowledged, acknowledges, has_caught_up, command_waits, moves, does}
use Rattle.tt_log.specs.Polls.{tells_admin, each_told, day_told, due_reports, admins_told}
use Rattle.tt_log.specs.Desk.{is_slow, admin_ends, admin_limited, each_admin_limited, admins_limited}
use Rattle.tt_log.specs.Quiet.{bare}
use Rattle.tt_log.specs.Tick.{stamps, tells_entries, stamped, frame_runs_by, frame_runs, foundings, all_moved, founders_moved, synced}
use Rattle.tt_log.specs.Tick.{finishes_map, next_pieces, mapped, left_by, left_of, late, limited, each_limited, timed, frame_follows}
use Rattle.tt_log.specs.Tick.{ticked, pieces_of}
use Rattle.tt_log.specs.Events.{by_verdict, heard, arrives, counted_in, opened}
use Rattle.tt_log.proofs.Walk.{stamping, running}

-- ---- what players see of a deed

abbrev pub is_inside : What → Bool
is_inside (ToAdmin r) = false
is_inside End = false
is_inside other = true

abbrev pub inside : List Step → List Step
inside steps = filter (λ s. is_inside s.what) steps

abbrev pub strip : Deed → Deed
strip d = record { table = bare d.table; told = inside d.told }

-- two deeds are alike to players
abbrev pub Like : Deed → Deed → Type 0
Like d e = strip d ≡ strip e

-- a rule does the same where no admin is there
abbrev pub Bares : (Table → Deed) → Type 0
Bares r = (t : Table) → Like (r t) (r (bare t))

pub inside-append : (xs ys : List Step) → inside (xs ++ ys) ≡ inside xs ++ inside ys
inside-append [] ys = refl
inside-append (x ∷ xs) ys = elim (is_inside x.what) as (λ b. cond b (x ∷ inside (xs ++ ys)) (inside (xs ++ ys))
    ≡ cond b (x ∷ inside xs) (inside xs) ++ inside ys) [
      | true ↦ ap (λ (zs : List Step). x ∷ zs) (inside-append xs ys)
      | false ↦ inside-append xs ys
    ]

pub like-then : (d e : Deed) (r q : Table → Deed) → Like d e → ((v w : Table) → bare v ≡ bare w → Like (r v) (q w)) → Like (d ▹ r) (e ▹ q)
like-then d e r q a b =
    let next : Like (r d.table) (q e.table) = b d.table e.table (ap (λ (x : Deed). x.table) a) in
    let told : inside (d.told ++ (r d.table).told) ≡ inside (e.told ++ (q e.table).told) =
    inside-append d.told (r d.table).told
    ∙ ap₂ (λ (xs ys : List Step). xs ++ ys) (ap (λ (x : Deed). x.told) a) (ap (λ (x : Deed). x.told) next)
    ∙ sym (inside-append e.told (q e.table).told) in
    ap₂ (λ (t : Table) (xs : List Step). record { table = t; told = xs }) (ap (λ (x : Deed). x.table) next) told

pub same : (r : Table → Deed) → Bares r → (v w : Table) → bare v ≡ bare w → Like (r v) (r w)
same r b v w e = b v ∙ ap (λ (x : Table). strip (r x)) e ∙ sym (b w)

pub seq : (a r : Table → Deed) (t : Table) → Like (a t) (a (bare t)) → Bares r → Like (a t ▹ r) (a (bare t) ▹ r)
seq a r t h b = like-then (a t) (a (bare t)) r r h (same r b)

pub where-bares : (b : Bool) (r : Table → Deed) (t : Table) → Like (r t) (r (bare t)) → Like (where_ b r t) (where_ b r (bare t))
where-bares true r t h = h
where-bares false r t h = refl

pub some-bares : {A : Type 0} (x : Option A) (r : A → Table → Deed) (t : Table) → ((y : A) → Like (r y t) (r y (bare t)))
    → Like (where_some x r t) (where_some x r (bare t))
some-bares None r t h = refl
some-bares (Some y) r t h = h y

-- ---- frames and the queue

frame-by-bares : (b : Bool) (m : Member) → Bares (tells_frame_by b m)
frame-by-bares true m t = refl
frame-by-bares false m t = refl

frame-bares : (m : Member) → Bares (tells_frame m)
frame-bares m t = where-bares (is_playing m) (tells_frame_by (m.token == 0) m) t (frame-by-bares (m.token == 0) m t)

frames-bares : (ms : List Member) → Bares (frames_told ms)
frames-bares [] t = refl
frames-bares (m ∷ ms) t = seq (λ u. where_some (member_of u m.conn) tells_frame u) (frames_told ms) t
    (some-bares (member_of t m.conn) tells_frame t (λ n. frame-bares n t)) (frames-bares ms)

begins-bares : (conn : ℕ) → Bares (begins conn)
begins-bares conn t = some-bares (member_of t conn) begins_where t (λ m. where-bares (is_in MapWait m) (begins_for m) t refl)

moved-up-bares : (place : ℕ) (conns : List ℕ) → Bares (moved_up place conns)
moved-up-bares place [] t = refl
moved-up-bares zero (conn ∷ conns) t = seq (begins conn) (moved_up 1 conns) t (begins-bares conn t) (moved-up-bares 1 conns)
moved-up-bares (suc place) (conn ∷ conns) t = seq (waits conn (suc place)) (moved_up (suc (suc place)) conns) t refl
    (moved-up-bares (suc (suc place)) conns)

asks-bares : (m : Member) → Bares (asks m)
asks-bares m t =
    let asked : Table → Table = λ u. record (with_member (now_in MapWait u m) u) { queue = u.queue ++ m.conn ∷ [] } in
    same (moved_up (length t.queue) (m.conn ∷ [])) (moved-up-bares (length t.queue) (m.conn ∷ [])) (asked t) (asked (bare t)) refl

left-bares : (place : ℕ) → Bares (left_place place)
left-bares place t =
    let behind : List ℕ = drop (place + 1) t.queue in
    let cut : Table → Table = λ u. record u { queue = take place u.queue ++ behind } in
    same (moved_up place behind) (moved-up-bares place behind) (cut t) (cut (bare t)) refl

leaves-queue-bares : (conn : ℕ) → Bares (leaves_queue conn)
leaves-queue-bares conn t = some-bares (position (λ c. c == conn) t.queue) left_place t (λ place. left-bares place t)

-- ---- ends

farewell-bares : (f : Farewell) (m : Member) → Bares (tells_farewell f m)
farewell-bares Quitting m t = refl
farewell-bares (Failing code) m t = refl

pub leaves-bares : (m : Member) (f : Farewell) → Bares (leaves m f)
leaves-bares m f t =
    let gone : Table → Deed = λ u. tells_what (m.conn ∷ []) End (without_member m.conn u) in
    seq (λ u. gone u ▹ where_ (is_welcomed m) (tells_farewell f m)) (leaves_queue m.conn) t
    (seq gone (where_ (is_welcomed m) (tells_farewell f m)) t refl (λ u. where-bares (is_welcomed m) (tells_farewell f m) u
    (farewell-bares f m u))) (leaves-queue-bares m.conn)

pub ends-bares : (m : Member) (code : ℕ) → Bares (ends m code)
ends-bares m code t = seq (tells (m.conn ∷ []) (ServerError code)) (leaves m (Failing code)) t refl (leaves-bares m (Failing code))

-- ---- packets

company-by-bares : (digest : Option (List ℕ)) (o : Origin) (m : Member) → Bares (company_step_by digest o m)
company-by-bares None o m t = refl
company-by-bares (Some digest) o m t = refl

company-bares : (o : Origin) (m : Member) → Bares (company_step o m)
company-bares o m t = company-by-bares (digest_of t m.asked) o m t

password-by-bares : (password : List ℕ) (o : Origin) (m : Member) → Bares (password_step_by password o m)
password-by-bares [] o m t = company-bares o m t
password-by-bares (b ∷ bs) o m t = refl

enters-bares : (m : Member) → Bares (enters m)
enters-bares m t =
    let in_ : Member = record (now_in PreActive t m) { acked = m.map_frame; told = t.top } in
    let infos : Table → Deed = λ u. tells_each m.conn (map client_info (welcomed u)) (with_member in_ u) in
    let entries : Table → Deed = tells_what (m.conn ∷ []) (Entries m.map_frame) in
    seq (λ u. infos u ▹ entries ▹ tells_fresh in_) (leaves_queue m.conn) t
    (seq (λ u. infos u ▹ entries) (tells_fresh in_) t (seq infos entries t refl (λ u. refl)) (λ u. refl)) (leaves-queue-bares m.conn)

active-bares : (m : Member) → Bares (becomes_active m)
active-bares m t =
    let in_ : Member = now_in Active t m in
    let others : Table → Deed = λ u. tells (filter (λ c. not (c == m.conn)) (playing u)) (ServerJoin m.client) (with_member in_ u) in
    seq (λ u. others u ▹ sees_active in_) (where_ (m.asked == founder) (asks_company in_)) t refl
    (λ u. where-bares (m.asked == founder) (asks_company in_) u refl)

acknowledges-bares : (m : Member) (frame token : ℕ) → Bares (acknowledges m frame token)
acknowledges-bares m frame token t =
    let in_ : Member = acknowledged frame token m in
    let caught : Bool = has_caught_up frame t m in
    seq (λ u. becomes (with_member in_ u)) (where_ caught (becomes_active in_)) t refl
    (λ u. where-bares caught (becomes_active in_) u (active-bares in_ u))

does-bares : (o : Origin) (m : Member) (msg : GameMsg) → Bares (does o m msg)
does-bares o m (ClientJoin revision grf name company) t =
    password-by-bares o.setup.password o (record m { name = given_name t m.conn name; asked = company }) t
does-bares o m (ClientGamePassword digest) t = company-bares o m t
does-bares o m (ClientCompanyPassword digest) t = refl
does-bares o m ClientGetmap t = asks-bares m t
does-bares o m ClientMapOk t = enters-bares m t
does-bares o m (ClientAck frame token) t = acknowledges-bares m frame token t
does-bares o m (ClientCommand company code number to text) t =
    some-bares (command_of code number to text) (command_waits m company) t (λ command. refl)
does-bares o m (ClientError code) t = leaves-bares m (Failing code) t
does-bares o m ClientQuit t = leaves-bares m Quitting t
does-bares o m other t = refl

verdict-bares : (v : Verdict) (o : Origin) (m : Member) (said : Option GameMsg) → Bares (by_verdict v o m said)
verdict-bares Allowed o m said t = some-bares said (does o m) t (λ msg. does-bares o m msg t)
verdict-bares (Ends code) o m said t = ends-bares m code t

pub heard-bares : (o : Origin) (said : Option GameMsg) (m : Member) → Bares (heard o said m)
heard-bares o said m t = verdict-bares (judged o t m said) o m said t

-- ---- the side door: it does nothing to players

pub reports-none : (conn : ℕ) (reports : List Report) → inside (map (λ r. record { to = conn ∷ []; what = ToAdmin r }) reports) ≡ []
reports-none conn [] = refl
reports-none conn (r ∷ reports) = reports-none conn reports

-- a table, and that nothing is told
abbrev pub still : Table → Deed
still t = record { table = t; told = [] }

pub reports-like : (conn : ℕ) (reports : List Report) (t : Table) → Like (tells_admin conn reports t) (becomes t)
reports-like conn reports t = ap (λ (xs : List Step). record { table = bare t; told = xs }) (reports-none conn reports)

ended-like : (b : Bool) (a : Admin) (code : ℕ) (t : Table) → Like (where_ b (admin_ends a code) t) (becomes t)
ended-like true a code t = refl
ended-like false a code t = refl

limited-one : (x : Option Admin) (o : Origin) (t : Table) → Like (where_some x (admin_limited o) t) (becomes t)
limited-one None o t = refl
limited-one (Some a) o t = ended-like (is_slow o t.frame a) a 17 t

-- what does nothing to players is alike in tables that are
nothing : (t u : Table) → bare t ≡ bare u → Like (becomes t) (becomes u)
nothing t u e = ap (λ (x : Table). still x) e

limited-like : (o : Origin) (admins : List Admin) (t : Table) → Like (each_admin_limited o admins t) (becomes t)
limited-like o [] t = refl
limited-like o (a ∷ admins) t = like-then (where_some (admin_of t a.conn) (admin_limited o) t) (becomes t) (each_admin_limited o admins)
    becomes (limited-one (admin_of t a.conn) o t) (λ v w e. limited-like o admins v ∙ nothing v w e)

each-told-like : (day : ℕ) (admins : List Admin) (t : Table) → Like (each_told day admins t) (becomes t)
each-told-like day [] t = refl
each-told-like day (a ∷ admins) t = like-then (tells_admin a.conn (due_reports day a t) t) (becomes t) (each_told day admins) becomes
    (reports-like a.conn (due_reports day a t) t) (λ v w e. each-told-like day admins v ∙ nothing v w e)

day-like : (b : Bool) (day : ℕ) (t : Table) → Like (where_ b (day_told day) t) (becomes t)
day-like true day t = each-told-like day (filter (λ a. a.joined) t.admins) t
day-like false day t = refl

limits-alike : (o : Origin) (v w : Table) → bare v ≡ bare w → Like (admins_limited o v) (admins_limited o w)
limits-alike o v w e = limited-like o v.admins v ∙ nothing v w e ∙ sym (limited-like o w.admins w)

told-alike : (before : ℕ) (o : Origin) (v w : Table) → bare v ≡ bare w → Like (admins_told before o v) (admins_told before o w)
told-alike before o v w e =
    let d : ℕ = (world_of o v).day in
    let f : ℕ = (world_of o w).day in
    day-like (not (d == before)) d v ∙ nothing v w e ∙ sym (day-like (not (f == before)) f w)

-- ---- a tick

pub loading-bare : (q : List ℕ) (t : Table) → first_loading q t ≡ first_loading q (bare t)
loading-bare [] t = refl
loading-bare (conn ∷ conns) t = refl

left-by-bare : (x : Option Member) (o : Origin) (t : Table) → left_by x o t ≡ left_by x o (bare t)
left-by-bare None o t = refl
left-by-bare (Some m) o t = refl

pub left-bare : (o : Origin) (t : Table) → left_of o t ≡ left_of o (bare t)
left-bare o t = ap (λ (x : Option Member). left_by x o t) (loading-bare t.queue t) ∙ left-by-bare (downloader (bare t)) o t

entries-bares : (es : List Entry) → Bares (tells_entries es)
entries-bares [] t = refl
entries-bares (e ∷ es) t = seq (λ u. tells_what (playing u) (Stamp e) u ▹ sees_stamp e) (tells_entries es) t refl (entries-bares es)

stamped-bares : Bares stamped
stamped-bares t = same (tells_entries (stamps t)) (entries-bares (stamps t)) (stamping t) (stamping (bare t)) refl

runs-by-bares : (b : Bool) (o : Origin) → Bares (frame_runs_by b o)
runs-by-bares true o t = same (frames_told t.members) (frames-bares t.members) (running true o t) (running true o (bare t)) refl
runs-by-bares false o t = refl

runs-bares : (o : Origin) → Bares (frame_runs o)
runs-bares o t = runs-by-bares (nat_lt t.top (t.frame + 1)) o t

all-moved-bares : (fs : List (ℕ × ℕ)) → Bares (all_moved fs)
all-moved-bares [] t = refl
all-moved-bares (f ∷ fs) t = seq (λ u. where_some (member_with f.0 u) (λ m. moves m f.1) u) (all_moved fs) t
    (some-bares (member_with f.0 t) (λ m. moves m f.1) t (λ m. refl)) (all-moved-bares fs)

founders-bares : (o : Origin) (live : List Bool) → Bares (founders_moved o live)
founders-bares o live t = all-moved-bares (foundings live (at_frame o t.frame t.journal)) t

synced-bares : (o : Origin) → Bares (synced o)
synced-bares o t = where-bares (t.frame % o.setup.sync_freq == 0) (λ u. tells_what (playing u) Sync u) t refl

pieces-bares : (left : List ℕ) (m : Member) → Bares (next_pieces left m)
pieces-bares left m t =
    let told : Member = record m { pieces = m.pieces + length (pieces_of 4 left) } in
    let all : Bool = not (nat_lt (4 * 1400) (length left)) in
    seq (λ u. tells_what (m.conn ∷ []) MapPieces (with_member told u)) (where_ all (finishes_map told)) t refl
    (λ u. where-bares all (finishes_map told) u refl)

mapped-bares : (left : List ℕ) → Bares (mapped left)
mapped-bares left t = some-bares (downloader t) (next_pieces left) t (λ m. pieces-bares left m t)
    ∙ ap (λ (x : Option Member). strip (where_some x (next_pieces left) (bare t))) (loading-bare t.queue t)

limited-bares : (o : Origin) (m : Member) → Bares (limited o m)
limited-bares o m t = some-bares (late o.setup t.frame m) (ends m) t (λ code. ends-bares m code t)

each-limited-bares : (o : Origin) (ms : List Member) → Bares (each_limited o ms)
each-limited-bares o [] t = refl
each-limited-bares o (m ∷ ms) t = seq (λ u. where_some (member_of u m.conn) (limited o) u) (each_limited o ms) t
    (some-bares (member_of t m.conn) (limited o) t (λ n. limited-bares o n t)) (each-limited-bares o ms)

timed-bares : (o : Origin) → Bares (timed o)
timed-bares o t = each-limited-bares o t.members t

follows-bares : (before : WorldState) (left : List ℕ) (o : Origin) → Bares (frame_follows before left o)
follows-bares before left o t =
    let founded : Table → Deed = founders_moved o (living before) in
    let all : Table → Deed = λ u. founded u ▹ synced o ▹ mapped left ▹ timed o in
    let players : Like (all t) (all (bare t)) =
    seq (λ u. founded u ▹ synced o ▹ mapped left) (timed o) t (seq (λ u. founded u ▹ synced o) (mapped left) t
    (seq founded (synced o) t (founders-bares o (living before) t) (synced-bares o)) (mapped-bares left)) (timed-bares o) in
    like-then (all t ▹ admins_limited o) (all (bare t) ▹ admins_limited o) (admins_told before.day o) (admins_told before.day o)
    (like-then (all t) (all (bare t)) (admins_limited o) (admins_limited o) players (limits-alike o)) (told-alike before.day o)

pub ticked-bares : (o : Origin) → Bares (ticked o)
ticked-bares o t =
    let rest : Table → Deed = frame_follows (world_of o t) (left_of o t) o in
    seq (λ u. stamped u ▹ frame_runs o ▹ sees_frame) rest t
    (seq (λ u. stamped u ▹ frame_runs o) sees_frame t (seq stamped (frame_runs o) t (stamped-bares t) (runs-bares o)) (λ u. refl))
    (follows-bares (world_of o t) (left_of o t) o)
    ∙ ap (λ (left : List ℕ). strip (stamped (bare t) ▹ frame_runs o ▹ sees_frame ▹ frame_follows (world_of o t) left o)) (left-bare o t)

-- ---- the main door

arrives-bares : (full : Bool) (t : Table) → Like (arrives full (counted_in t)) (arrives full (counted_in (bare t)))
arrives-bares true t = refl
arrives-bares false t = refl

pub opened-bares : (o : Origin) → Bares (opened o)
opened-bares o t = arrives-bares (nat_le o.setup.max_clients (length t.members)) t
