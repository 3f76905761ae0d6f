-- The rules of members leave all else of a table as it is.
use Rattle.std.proofs.Common.{◌≡◌, ℕ, ◌+◌, List, [], ◌∷◌, ◌++◌, refl, ap, ◌∙◌, true, false, Bool, Option, Some, None, zero, suc}
use Rattle.std.specs.Prelude.{cond, drop, length, map, nat_le, nat_lt, position, take, ◌==◌, ◌%◌, not, ◌*◌}
use Rattle.tt_game.specs.declared.message.GameMsg.{GameMsg}
use Rattle.tt_game.specs.declared.message.GameMsg.TheVariants.{ClientJoin, ClientGameInfo, ClientGamePassword, ClientCompanyPassword}
use Rattle.tt_game.specs.declared.message.GameMsg.TheVariants.{ClientGetmap, ClientMapOk, ClientAck, ClientCommand, ClientChat}
use Rattle.tt_game.specs.declared.message.GameMsg.TheVariants.{ClientSetName, ClientSetPassword, ClientMove, ClientError, ClientQuit}
use Rattle.tt_world.specs.World.{WorldState}
use Rattle.tt_world.specs.declared.command.Command.{Command}
use Rattle.tt_world.specs.declared.command.Entry.{Entry}
use Rattle.tt_rules.specs.Codes.{connection_lost}
use Rattle.tt_rules.specs.Commands.{command_of}
use Rattle.tt_rules.specs.Companies.{living}
use Rattle.tt_rules.specs.declared.status.Status.TheVariants.{MapWait, PreActive, Active}
use Rattle.tt_rules.specs.declared.status.Verdict.{Verdict}
use Rattle.tt_rules.specs.declared.status.Verdict.TheVariants.{Allowed, Ends}
use Rattle.tt_log.specs.Console.{kicks_out}
use Rattle.tt_log.specs.Deed.{Deed, ◌▹◌, where_, where_some, tells, tells_what}
use Rattle.tt_log.specs.Ending.{Farewell, Quitting, Failing, leaves, ends, tells_farewell}
use Rattle.tt_log.specs.Events.{arrives, by_verdict, counted_in, heard, opened}
use Rattle.tt_log.specs.Frames.{frames_told, tells_frame, tells_frame_by, tells_fresh}
use Rattle.tt_log.specs.Judged.{founder, judged}
use Rattle.tt_log.specs.Member.{Member, is_in, is_playing, is_welcomed}
use Rattle.tt_log.specs.Origin.{Origin, at_frame}
use Rattle.tt_log.specs.PacketRules.{acknowledged, acknowledges, asks_company, becomes_active, command_waits, company_step, company_step_by}
use Rattle.tt_log.specs.PacketRules.{does, enters, has_caught_up, moves, password_step_by}
use Rattle.tt_log.specs.Queue.{asks, begins, begins_for, begins_where, left_place, leaves_queue, moved_up, waits}
use Rattle.tt_log.specs.Table.{Table, digest_of, downloader, member_of, member_with, now_in, with_member, without_member, world_of}
use Rattle.tt_log.specs.Tick.{all_moved, each_limited, finishes_map, foundings, founders_moved, frame_runs_by, late, left_of, limited}
use Rattle.tt_log.specs.Tick.{mapped, next_pieces, pieces_of, stamped, stamps, synced, tells_entries, timed, drawn}
use Rattle.tt_log.specs.Watching.{sees_frame}
use Rattle.tt_log.specs.Tick.{frame_runs}
use Rattle.tt_join.specs.Inputs.{by_input, members_follow, members_ticked}
use Rattle.tt_join.specs.Ties.{outside, outside_by, run}
use Rattle.tt_join.specs.declared.input.Input.{Input}
use Rattle.tt_join.specs.declared.input.Input.TheVariants.{Open, Msg, Bad, Shut, Own, Kick, Say, Tick}

-- what a rule leaves where it leaves all that isn't the members'
abbrev Leaves : Table → Deed → Type 0
Leaves t d = outside d.table ≡ outside t

-- ---- rules joined

then_ : (t : Table) (d : Deed) (rule : Table → Deed) → Leaves t d → Leaves d.table (rule d.table) → Leaves t (d ▹ rule)
then_ t d rule first second = second ∙ first

where_left : (b : Bool) (rule : Table → Deed) (t : Table) → Leaves t (rule t) → Leaves t (where_ b rule t)
where_left true rule t h = h
where_left false rule t h = refl

some_left : {A : Type 0} (x : Option A) (rule : A → Table → Deed) (t : Table) → ((y : A) → Leaves t (rule y t))
    → Leaves t (where_some x rule t)
some_left None rule t h = refl
some_left (Some y) rule t h = h y

-- ---- the queue

begins_left : (conn : ℕ) (t : Table) → Leaves t (begins conn t)
begins_left conn t = some_left (member_of t conn) begins_where t (λ m. where_left (is_in MapWait m) (begins_for m) t refl)

moved_left : (place : ℕ) (conns : List ℕ) (t : Table) → Leaves t (moved_up place conns t)
moved_left place [] t = refl
moved_left zero (conn ∷ conns) t = then_ t (begins conn t) (moved_up 1 conns) (begins_left conn t) (moved_left 1 conns (begins conn
    t).table)
moved_left (suc place) (conn ∷ conns) t = moved_left (suc (suc place)) conns t

queue_left : (conn : ℕ) (t : Table) → Leaves t (leaves_queue conn t)
queue_left conn t = some_left (position (λ c. c == conn) t.queue) left_place t (λ place. moved_left place (drop (place + 1) t.queue)
    (record t { queue = take place t.queue ++ drop (place + 1) t.queue }))

asks_left : (m : Member) (t : Table) → Leaves t (asks m t)
asks_left m t =
    moved_left (length t.queue) (m.conn ∷ []) (record (with_member (now_in MapWait t m) t) { queue = t.queue ++ m.conn ∷ [] })

-- ---- ends

farewell_left : (farewell : Farewell) (m : Member) (t : Table) → Leaves t (tells_farewell farewell m t)
farewell_left Quitting m t = refl
farewell_left (Failing code) m t = refl

leaves_left : (m : Member) (farewell : Farewell) (t : Table) → Leaves t (leaves m farewell t)
leaves_left m farewell t =
    let u : Table = without_member m.conn t in
    let v : Table = (where_ (is_welcomed m) (tells_farewell farewell m) u).table in
    queue_left m.conn v ∙ where_left (is_welcomed m) (tells_farewell farewell m) u (farewell_left farewell m u)

ends_left : (m : Member) (code : ℕ) (t : Table) → Leaves t (ends m code t)
ends_left m code t = leaves_left m (Failing code) t

-- ---- messages

company_left : (digest : Option (List ℕ)) (o : Origin) (m : Member) (t : Table) → Leaves t (company_step_by digest o m t)
company_left None o m t = refl
company_left (Some digest) o m t = refl

password_left : (password : List ℕ) (o : Origin) (m : Member) (t : Table) → Leaves t (password_step_by password o m t)
password_left [] o m t = company_left (digest_of t m.asked) o m t
password_left (b ∷ bs) o m t = refl

enters_left : (m : Member) (t : Table) → Leaves t (enters m t)
enters_left m t =
    let in_ : Member = record (now_in PreActive t m) { acked = m.map_frame; told = t.top } in
    queue_left m.conn (tells_fresh in_ (with_member in_ t)).table

active_left : (m : Member) (t : Table) → Leaves t (becomes_active m t)
active_left m t =
    let in_ : Member = now_in Active t m in where_left (m.asked == founder) (asks_company in_) (with_member in_ t) refl

acknowledges_left : (m : Member) (frame token : ℕ) (t : Table) → Leaves t (acknowledges m frame token t)
acknowledges_left m frame token t =
    let in_ : Member = acknowledged frame token m in
    let u : Table = with_member in_ t in
    where_left (has_caught_up frame t m) (becomes_active in_) u (active_left in_ u)

does_left : (msg : GameMsg) (o : Origin) (m : Member) (t : Table) → Leaves t (does o m msg t)
does_left (ClientJoin revision grf name company) o m t = password_left o.setup.password o _ t
does_left (ClientGamePassword digest) o m t = company_left (digest_of t m.asked) o m t
does_left ClientGetmap o m t = asks_left m t
does_left ClientMapOk o m t = enters_left m t
does_left (ClientAck frame token) o m t = acknowledges_left m frame token t
does_left (ClientCommand company code number to text) o m t =
    some_left (command_of code number to text) (command_waits m company) t (λ command. refl)
does_left (ClientError code) o m t = leaves_left m (Failing code) t
does_left ClientQuit o m t = leaves_left m Quitting t
does_left other o m t = refl

heard_left : (verdict : Verdict) (o : Origin) (m : Member) (said : Option GameMsg) (t : Table) → Leaves t (by_verdict verdict o m said t)
heard_left Allowed o m said t = some_left said (does o m) t (λ msg. does_left msg o m t)
heard_left (Ends code) o m said t = ends_left m code t

-- ---- an opening

arrives_left : (full : Bool) (t : Table) → Leaves t (arrives full t)
arrives_left true t = refl
arrives_left false t = refl

-- ---- a tick

entries_left : (es : List Entry) (t : Table) → Leaves t (tells_entries es t)
entries_left [] t = refl
entries_left (e ∷ es) t = entries_left es t

frame_by_left : (b : Bool) (m : Member) (t : Table) → Leaves t (tells_frame_by b m t)
frame_by_left true m t = refl
frame_by_left false m t = refl

frames_left : (ms : List Member) (t : Table) → Leaves t (frames_told ms t)
frames_left [] t = refl
frames_left (m ∷ ms) t =
    let d : Deed = where_some (member_of t m.conn) tells_frame t in
    then_ t d (frames_told ms) (some_left (member_of t m.conn) tells_frame t (λ n. where_left (is_playing n) (tells_frame_by (n.token == 0)
    n)
    t (frame_by_left (n.token == 0) n t))) (frames_left ms d.table)

-- a frame more, and how far it may be run
abbrev ran : Bool → Origin → Table → Table
ran b o t = record t { frame = t.frame + 1; top = cond b (t.frame + 1 + o.setup.frame_freq) t.top }

runs_left : (b : Bool) (o : Origin) (t : Table) → outside (frame_runs_by b o t).table ≡ ran b o (outside t)
runs_left true o t = frames_left t.members (record t { frame = t.frame + 1; top = t.frame + 1 + o.setup.frame_freq })
runs_left false o t = refl

founders_left : (fs : List (ℕ × ℕ)) (t : Table) → Leaves t (all_moved fs t)
founders_left [] t = refl
founders_left (f ∷ fs) t =
    let d : Deed = where_some (member_with f.0 t) (λ m. moves m f.1) t in
    then_ t d (all_moved fs) (some_left (member_with f.0 t) (λ m. moves m f.1) t (λ m. refl)) (founders_left fs d.table)

pieces_left : (left : List ℕ) (m : Member) (t : Table) → Leaves t (next_pieces left m t)
pieces_left left m t =
    let told : Member = record m { pieces = m.pieces + length (pieces_of 4 left) } in
    where_left (not (nat_lt (4 * 1400) (length left))) (finishes_map told) (with_member told t) refl

limited_left : (o : Origin) (ms : List Member) (t : Table) → Leaves t (each_limited o ms t)
limited_left o [] t = refl
limited_left o (m ∷ ms) t =
    let d : Deed = where_some (member_of t m.conn) (limited o) t in
    then_ t d (each_limited o ms) (some_left (member_of t m.conn) (limited o) t (λ n. some_left (late o.setup t.frame n) (ends n) t
    (λ code. ends_left n code t))) (limited_left o ms d.table)

follow_left : (before : WorldState) (left : List ℕ) (o : Origin) (t : Table) → Leaves t (members_follow before left o t)
follow_left before left o t =
    let a : Table = (founders_moved o (living before) t).table in
    let b : Table = (synced o a).table in
    let c : Table = (mapped left b).table in
    limited_left o c.members c
    ∙ some_left (downloader b) (next_pieces left) b (λ m. pieces_left left m b)
    ∙ where_left (a.frame % o.setup.sync_freq == 0) _ a refl
    ∙ founders_left (foundings (living before) (at_frame o t.frame t.journal)) t

tick_left : (o : Origin) (t : Table) → outside (members_ticked o t).table ≡ outside (run o t)
tick_left o t =
    let s : Table = (stamped t).table in
    let u : Table = (frame_runs o s).table in
    follow_left (world_of o t) (left_of o t) o u
    ∙ runs_left (nat_lt s.top (s.frame + 1)) o s
    ∙ ap (λ (x : Table). ran (nat_lt x.top (x.frame + 1)) o x) (entries_left (stamps t) (record t {
      members = map drawn t.members;
      own = [];
      journal = t.journal ++ stamps t;
    }))

-- ---- all that comes

pub all_left : (input : Input) (o : Origin) (t : Table) → outside (by_input input o t).table ≡ outside_by input o t
all_left (Open conn) o t = arrives_left (nat_le o.setup.max_clients (length t.members)) (counted_in t)
all_left (Msg conn msg) o t =
    some_left (member_of t conn) (heard o (Some msg)) t (λ m. heard_left (judged o t m (Some msg)) o m (Some msg) t)
all_left (Bad conn) o t = some_left (member_of t conn) (heard o None) t (λ m. heard_left (judged o t m None) o m None t)
all_left (Shut conn) o t = some_left (member_of t conn) _ t (λ m. leaves_left m (Failing connection_lost) t)
all_left (Own command) o t = refl
all_left (Kick client) o t = some_left (member_with client t) kicks_out t (λ m. ends_left m _ t)
all_left (Say scope to text) o t = refl
all_left Tick o t = tick_left o t
