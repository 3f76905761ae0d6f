-- Which rules tell the word of a world: the one of a tick, and no other; and none tells a ban. Each rule has a lemma, in the order in
-- which rules are built.
use Rattle.std.proofs.Common.{◌≡◌, ℕ, ◌+◌, Bool, true, false, List, [], ◌∷◌, ◌++◌, Option, Some, None, map, zero, suc, refl}
use Rattle.std.specs.Prelude.{◌*◌, ◌==◌, ◌%◌, ◌||◌, not, nat_le, nat_lt, filter, drop, take, length, position}
use Rattle.std.specs.List.{AllByRecursion}
use Rattle.tt_edge.specs.declared.event.Door.TheVariants.{Main, Side}
use Rattle.tt_edge.specs.declared.event.Event.{Event}
use Rattle.tt_edge.specs.declared.event.Event.TheVariants.{Open, Packet, Broken, Shut, Tick, Stop}
use Rattle.tt_edge.specs.Event.{event_cost}
use Rattle.tt_game.specs.declared.message.GameMsg.{GameMsg}
use Rattle.tt_game.specs.declared.message.GameMsg.TheVariants.{ClientJoin, ClientGameInfo, ClientGamePassword, ClientCompanyPassword}
use Rattle.tt_game.specs.declared.message.GameMsg.TheVariants.{ClientGetmap, ClientMapOk, ClientAck, ClientCommand, ClientChat}
use Rattle.tt_game.specs.declared.message.GameMsg.TheVariants.{ClientSetName, ClientSetPassword, ClientMove, ClientError, ClientQuit}
use Rattle.tt_game.specs.declared.message.GameMsg.TheVariants.{ServerSync, ServerBanned}
use Rattle.tt_admin.specs.declared.message.AdminMsg.{AdminMsg}
use Rattle.tt_admin.specs.declared.message.AdminMsg.TheVariants as admins
use Rattle.tt_world.specs.declared.command.Entry.{Entry}
use Rattle.tt_world.specs.World.{WorldState}
use Rattle.tt_rules.specs.Companies.{living}
use Rattle.tt_rules.specs.Commands.{command_of}
use Rattle.tt_rules.specs.Codes.{kicked, connection_lost, timeout_computer}
use Rattle.tt_rules.specs.declared.status.Status.TheVariants.{MapWait, PreActive, Active}
use Rattle.tt_rules.specs.declared.status.Verdict.{Verdict}
use Rattle.tt_rules.specs.declared.status.Verdict.TheVariants.{Allowed, Ends}
use Rattle.tt_log.specs.declared.deed.Step.{Step}
use Rattle.tt_log.specs.declared.deed.What.{What}
use Rattle.tt_log.specs.declared.deed.What.TheVariants.{Msg, Sync, Entries, End}
use Rattle.tt_log.specs.declared.report.Report.{Report}
use Rattle.tt_log.specs.declared.report.Report.TheVariants.{Message}
use Rattle.tt_log.specs.Origin.{Origin, at_frame}
use Rattle.tt_log.specs.Admin.{Admin}
use Rattle.tt_log.specs.Member.{Member, is_in, is_playing, is_welcomed}
use Rattle.tt_log.specs.Table.{Table, member_of, admin_of, member_with, with_member, without_member, digest_of, now_in, playing, welcomed}
use Rattle.tt_log.specs.Table.{world_of, downloader, with_admin}
use Rattle.tt_log.specs.Deed.{Deed, ◌▹◌, where_, where_some, tells_what, tells_each}
use Rattle.tt_log.specs.Watching.{sees_console, sees_frame}
use Rattle.tt_log.specs.Names.{given_name}
use Rattle.tt_log.specs.Frames.{tells_fresh, tells_frame_by, tells_frame, frames_told}
use Rattle.tt_log.specs.Queue.{begins, begins_for, begins_where, moved_up, left_place, leaves_queue}
use Rattle.tt_log.specs.Judged.{judged, founder}
use Rattle.tt_log.specs.Ending.{Farewell, Quitting, Failing, tells_farewell, leaves, ends}
use Rattle.tt_log.specs.PacketRules.{client_info, welcomes, company_step_by, password_step_by, enters, becomes_active, asks_company}
use Rattle.tt_log.specs.PacketRules.{acknowledged, acknowledges, has_caught_up, command_waits, moves, does}
use Rattle.tt_log.specs.Polls.{tells_admin, poll_answers, due_reports, each_told, day_told, admins_told}
use Rattle.tt_log.specs.Console.{ConsoleCommand, pauses, kicks, announces, command_in, lines_of, kicks_out, console_does, obeys}
use Rattle.tt_log.specs.Desk.{admin_judged, admin_greeting, admin_does, by_admin_verdict, admin_hears, read_admin, admin_arrives}
use Rattle.tt_log.specs.Desk.{most_admins}
use Rattle.tt_log.specs.Desk.{counted_aside, is_slow, admin_ends, admin_leaves, admin_limited, each_admin_limited, admins_limited}
use Rattle.tt_log.specs.Tick.{stamps, drawn, tells_entries, stamped, frame_runs_by, frame_runs, foundings, all_moved, founders_moved}
use Rattle.tt_log.specs.Tick.{synced, next_pieces, finishes_map, mapped, pieces_of, left_of, late, limited, each_limited, timed}
use Rattle.tt_log.specs.Tick.{frame_follows, ticked}
use Rattle.tt_log.specs.Events.{counted_in, arrives, read_msg, by_verdict, heard, to_named, by_event, charged, stops, closed}
use Rattle.tt_log.specs.Events.{shut_down, taken, takes, deed, last_frame}
use Rattle.tt_log.proofs.Lists.{all-append}

-- a message that is neither the word of a world nor a ban
abbrev pub IsUsual : GameMsg → Type 0
IsUsual (ServerSync frame word) = ⊥
IsUsual ServerBanned = ⊥
IsUsual other = Unit

-- a word is told only where this is so, and a ban nowhere
module _ (S : Type 0) where
  abbrev pub MayTell : What → Type 0
  MayTell Sync = S
  MayTell (Msg m) = IsUsual m
  MayTell other = Unit

  abbrev pub MaySay : Step → Type 0
  MaySay s = MayTell s.what

  abbrev pub Of : Deed → Type 0
  Of d = AllByRecursion MaySay d.told

  -- ---- rules joined

  of-then : (d : Deed) (rule : Table → Deed) → Of d → Of (rule d.table) → Of (d ▹ rule)
  of-then d rule a b = all-append MaySay d.told (rule d.table).told a b

  of-where : (b : Bool) (rule : Table → Deed) (t : Table) → Of (rule t) → Of (where_ b rule t)
  of-where true rule t h = h
  of-where false rule t h = tt

  of-some : {A : Type 0} (x : Option A) (rule : A → Table → Deed) (t : Table) → ((y : A) → Of (rule y t)) → Of (where_some x rule t)
  of-some None rule t h = tt
  of-some (Some y) rule t h = h y

  of-reports : (reports : List Report) (conn : ℕ) (t : Table) → Of (tells_admin conn reports t)
  of-reports [] conn t = tt
  of-reports (r ∷ reports) conn t = (tt, of-reports reports conn t)

  -- ---- the queue, and ends

  of-begins : (conn : ℕ) (t : Table) → Of (begins conn t)
  of-begins conn t = of-some (member_of t conn) begins_where t (λ m. of-where (is_in MapWait m) (begins_for m) t (tt, tt))

  of-moved-up : (place : ℕ) (conns : List ℕ) (t : Table) → Of (moved_up place conns t)
  of-moved-up place [] t = tt
  of-moved-up zero (conn ∷ conns) t = let d : Deed = begins conn t in of-then d (moved_up 1 conns) (of-begins conn t)
      (of-moved-up 1 conns d.table)
  of-moved-up (suc place) (conn ∷ conns) t = (tt, of-moved-up (suc (suc place)) conns t)

  of-leaves-queue : (conn : ℕ) (t : Table) → Of (leaves_queue conn t)
  of-leaves-queue conn t = of-some (position (λ c. c == conn) t.queue) left_place t (λ place. of-moved-up place (drop (place + 1) t.queue)
      (record t { queue = take place t.queue ++ drop (place + 1) t.queue }))

  of-farewell : (farewell : Farewell) (m : Member) (t : Table) → Of (tells_farewell farewell m t)
  of-farewell Quitting m t = (tt, (tt, tt))
  of-farewell (Failing code) m t = (tt, (tt, tt))

  of-leaves : (m : Member) (farewell : Farewell) (t : Table) → Of (leaves m farewell t)
  of-leaves m farewell t =
      let a : Deed = tells_what (m.conn ∷ []) End (without_member m.conn t) in
      let rule : Table → Deed = where_ (is_welcomed m) (tells_farewell farewell m) in
      let d : Deed = a ▹ rule in
      of-then d (leaves_queue m.conn) (of-then a rule (tt, tt) (of-where (is_welcomed m) (tells_farewell farewell m) a.table
      (of-farewell farewell m a.table))) (of-leaves-queue m.conn d.table)

  of-ends : (m : Member) (code : ℕ) (t : Table) → Of (ends m code t)
  of-ends m code t = (tt, of-leaves m (Failing code) t)

  -- ---- packets

  of-welcomes : (o : Origin) (m : Member) (t : Table) → Of (welcomes o m t)
  of-welcomes o m t = (tt, (tt, (tt, tt)))

  of-company : (digest : Option (List ℕ)) (o : Origin) (m : Member) (t : Table) → Of (company_step_by digest o m t)
  of-company None o m t = of-welcomes o m t
  of-company (Some digest) o m t = (tt, tt)

  of-password : (password : List ℕ) (o : Origin) (m : Member) (t : Table) → Of (password_step_by password o m t)
  of-password [] o m t = of-company (digest_of t m.asked) o m t
  of-password (b ∷ bs) o m t = (tt, tt)

  of-infos : (ms : List Member) (conn : ℕ) (t : Table) → Of (tells_each conn (map client_info ms) t)
  of-infos [] conn t = tt
  of-infos (m ∷ ms) conn t = (tt, of-infos ms conn t)

  of-enters : (m : Member) (t : Table) → Of (enters m t)
  of-enters m t =
      let n : Member = record (now_in PreActive t m) { acked = m.map_frame; told = t.top } in
      let a : Deed = tells_each m.conn (map client_info (welcomed t)) (with_member n t) in
      let b : Deed = a ▹ tells_what (m.conn ∷ []) (Entries m.map_frame) in
      let d : Deed = b ▹ tells_fresh n in
      of-then d (leaves_queue m.conn) (of-then b (tells_fresh n) (of-then a (tells_what (m.conn ∷ []) (Entries m.map_frame))
      (of-infos (welcomed t) m.conn a.table) (tt, tt)) (tt, tt)) (of-leaves-queue m.conn d.table)

  of-active : (m : Member) (t : Table) → Of (becomes_active m t)
  of-active m t = let n : Member = now_in Active t m in
      (tt, (tt, of-where (m.asked == founder) (asks_company n) (with_member n t) tt))

  of-acknowledges : (m : Member) (frame token : ℕ) (t : Table) → Of (acknowledges m frame token t)
  of-acknowledges m frame token t = let n : Member = acknowledged frame token m in
      of-where (has_caught_up frame t m) (becomes_active n) (with_member n t) (of-active n (with_member n t))

  of-does : (o : Origin) (m : Member) (msg : GameMsg) (t : Table) → Of (does o m msg t)
  of-does o m (ClientJoin revision grf name company) t = of-password o.setup.password o
      (record m { name = given_name t m.conn name; asked = company }) t
  of-does o m ClientGameInfo t = (tt, tt)
  of-does o m (ClientGamePassword digest) t = of-company (digest_of t m.asked) o m t
  of-does o m (ClientCompanyPassword digest) t = of-welcomes o m t
  of-does o m ClientGetmap t = of-moved-up (length t.queue) (m.conn ∷ [])
      (record (with_member (now_in MapWait t m) t) { queue = t.queue ++ m.conn ∷ [] })
  of-does o m ClientMapOk t = of-enters m t
  of-does o m (ClientAck frame token) t = of-acknowledges m frame token t
  of-does o m (ClientCommand company code number to text) t = of-some (command_of code number to text) (command_waits m company) t (λ c. tt)
  of-does o m (ClientChat scope to text) t = (tt, (tt, tt))
  of-does o m (ClientSetName name) t = (tt, (tt, tt))
  of-does o m (ClientSetPassword digest) t = tt
  of-does o m (ClientMove company digest) t = (tt, (tt, tt))
  of-does o m (ClientError code) t = of-leaves m (Failing code) t
  of-does o m ClientQuit t = of-leaves m Quitting t
  of-does o m other t = tt

  of-verdict : (v : Verdict) (o : Origin) (m : Member) (said : Option GameMsg) (t : Table) → Of (by_verdict v o m said t)
  of-verdict Allowed o m said t = of-some said (does o m) t (λ msg. of-does o m msg t)
  of-verdict (Ends code) o m said t = of-ends m code t

  -- ---- the side door

  of-console : (command : ConsoleCommand) (t : Table) → Of (console_does command t)
  of-console (pauses paused) t = tt
  of-console (kicks client) t = of-some (member_with client t) kicks_out t (λ m. of-ends m kicked t)
  of-console (announces text) t = (tt, (tt, tt))
  of-console other t = tt

  of-obeys : (command : ConsoleCommand) (conn : ℕ) (text : List ℕ) (t : Table) → Of (obeys command conn text t)
  of-obeys command conn text t =
      let reports : List Report = lines_of command t ++ Message (admins.ServerRconEnd text) ∷ [] in
      of-then (sees_console text t ▹ tells_admin conn reports) (console_does command) (tt, of-reports reports conn t) (of-console command t)

  of-admin-does : (a : Admin) (msg : AdminMsg) (t : Table) → Of (admin_does a msg t)
  of-admin-does a (admins.AdminJoin password application version) t = of-reports admin_greeting a.conn
      (with_admin (record a { joined = true }) t)
  of-admin-does a admins.AdminQuit t = (tt, tt)
  of-admin-does a (admins.AdminUpdateFrequency kind bits) t = tt
  of-admin-does a (admins.AdminPoll kind id) t = of-reports (poll_answers kind id t) a.conn t
  of-admin-does a (admins.AdminChat scope to text) t = (tt, (tt, tt))
  of-admin-does a (admins.AdminRcon text) t = of-obeys (command_in text) a.conn text t
  of-admin-does a (admins.AdminPing id) t = (tt, tt)
  of-admin-does a other t = tt

  of-admin-verdict : (v : Verdict) (a : Admin) (said : Option AdminMsg) (t : Table) → Of (by_admin_verdict v a said t)
  of-admin-verdict Allowed a said t = of-some said (admin_does a) t (λ msg. of-admin-does a msg t)
  of-admin-verdict (Ends code) a said t = (tt, (tt, tt))

  -- ---- a tick

  of-entries : (es : List Entry) (t : Table) → Of (tells_entries es t)
  of-entries [] t = tt
  of-entries (e ∷ es) t = (tt, (tt, of-entries es t))

  of-frame-by : (b : Bool) (m : Member) (t : Table) → Of (tells_frame_by b m t)
  of-frame-by true m t = (tt, tt)
  of-frame-by false m t = (tt, tt)

  of-frame : (m : Member) (t : Table) → Of (tells_frame m t)
  of-frame m t = of-where (is_playing m) (tells_frame_by (m.token == 0) m) t (of-frame-by (m.token == 0) m t)

  of-frames : (ms : List Member) (t : Table) → Of (frames_told ms t)
  of-frames [] t = tt
  of-frames (m ∷ ms) t =
      let d : Deed = where_some (member_of t m.conn) tells_frame t in
      of-then d (frames_told ms) (of-some (member_of t m.conn) tells_frame t (λ n. of-frame n t)) (of-frames ms d.table)

  of-runs : (b : Bool) (o : Origin) (t : Table) → Of (frame_runs_by b o t)
  of-runs true o t = of-frames t.members (record t { frame = t.frame + 1; top = t.frame + 1 + o.setup.frame_freq })
  of-runs false o t = tt

  of-all-moved : (founders : List (ℕ × ℕ)) (t : Table) → Of (all_moved founders t)
  of-all-moved [] t = tt
  of-all-moved (f ∷ fs) t =
      let rule : Member → Table → Deed = λ m. moves m f.1 in
      let d : Deed = where_some (member_with f.0 t) rule t in
      of-then d (all_moved fs) (of-some (member_with f.0 t) rule t (λ m. (tt, (tt, tt)))) (of-all-moved fs d.table)

  of-pieces : (left : List ℕ) (m : Member) (t : Table) → Of (next_pieces left m t)
  of-pieces left m t = let n : Member = record m { pieces = m.pieces + length (pieces_of 4 left) } in
      (tt, of-where (not (nat_lt (4 * 1400) (length left))) (finishes_map n) (with_member n t) tt)

  of-each-limited : (o : Origin) (ms : List Member) (t : Table) → Of (each_limited o ms t)
  of-each-limited o [] t = tt
  of-each-limited o (m ∷ ms) t =
      let d : Deed = where_some (member_of t m.conn) (limited o) t in
      of-then d (each_limited o ms) (of-some (member_of t m.conn) (limited o) t (λ n. of-some (late o.setup t.frame n) (ends n) t
      (λ code. of-ends n code t))) (of-each-limited o ms d.table)

  of-admins-limited : (o : Origin) (guests : List Admin) (t : Table) → Of (each_admin_limited o guests t)
  of-admins-limited o [] t = tt
  of-admins-limited o (a ∷ guests) t =
      let d : Deed = where_some (admin_of t a.conn) (admin_limited o) t in
      of-then d (each_admin_limited o guests) (of-some (admin_of t a.conn) (admin_limited o) t (λ b. of-where (is_slow o t.frame b)
      (admin_ends b timeout_computer) t (tt, (tt, tt)))) (of-admins-limited o guests d.table)

  of-each-told : (day : ℕ) (guests : List Admin) (t : Table) → Of (each_told day guests t)
  of-each-told day [] t = tt
  of-each-told day (a ∷ guests) t = let d : Deed = tells_admin a.conn (due_reports day a t) t in
      of-then d (each_told day guests) (of-reports (due_reports day a t) a.conn t) (of-each-told day guests t)

  -- the one rule that tells a word
  of-synced : (o : Origin) (t : Table) → S → Of (synced o t)
  of-synced o t s = of-where (t.frame % o.setup.sync_freq == 0) (λ u. tells_what (playing u) Sync u) t (s, tt)

  of-follows : (before : WorldState) (left : List ℕ) (o : Origin) (t : Table) → S → Of (frame_follows before left o t)
  of-follows before left o t s =
      let a : Deed = founders_moved o (living before) t in
      let b : Deed = a ▹ synced o in
      let c : Deed = b ▹ mapped left in
      let d : Deed = c ▹ timed o in
      let e : Deed = d ▹ admins_limited o in
      let day : ℕ = (world_of o e.table).day in
      let pa : Of a = of-all-moved (foundings (living before) (at_frame o t.frame t.journal)) t in
      let pb : Of b = of-then a (synced o) pa (of-synced o a.table s) in
      let pc : Of c = of-then b (mapped left) pb (of-some (downloader b.table) (next_pieces left) b.table
      (λ m. of-pieces left m b.table)) in
      let pd : Of d = of-then c (timed o) pc (of-each-limited o c.table.members c.table) in
      let pe : Of e = of-then d (admins_limited o) pd (of-admins-limited o d.table.admins d.table) in
      of-then e (admins_told before.day o) pe (of-where (not (day == before.day)) (day_told day) e.table
      (of-each-told day (filter (λ a. a.joined) e.table.admins) e.table))

  of-ticked : (o : Origin) (t : Table) → S → Of (ticked o t)
  of-ticked o t s =
      let a : Deed = stamped t in
      let b : Deed = a ▹ frame_runs o in
      let c : Deed = b ▹ sees_frame in
      let pa : Of a = of-entries (stamps t) (record t { members = map drawn t.members; own = []; journal = t.journal ++ stamps t }) in
      let pb : Of b = of-then a (frame_runs o) pa (of-runs (nat_lt a.table.top (a.table.frame + 1)) o a.table) in
      of-then c (frame_follows (world_of o t) (left_of o t) o) (of-then b sees_frame pb (tt, tt))
      (of-follows (world_of o t) (left_of o t) o c.table s)

  -- ---- an event

  of-named : (x : Option Member) (y : Option Admin) (f : Member → Table → Deed) (g : Admin → Table → Deed) (t : Table)
      → ((m : Member) → Of (f m t)) → ((a : Admin) → Of (g a t)) → Of (to_named x y f g t)
  of-named (Some m) y f g t p q = p m
  of-named None y f g t p q = of-some y g t q

  of-arrives : (full : Bool) (t : Table) → Of (arrives full t)
  of-arrives true t = (tt, (tt, tt))
  of-arrives false t = tt

  of-admin-arrives : (full : Bool) (t : Table) → Of (admin_arrives full t)
  of-admin-arrives true t = (tt, (tt, tt))
  of-admin-arrives false t = tt

  of-event : (o : Origin) (e : Event) (t : Table) → (e ≡ Tick → S) → Of (by_event o e t)
  of-event o (Open Main peer) t s = of-arrives (nat_le o.setup.max_clients (length t.members)) (counted_in t)
  of-event o (Open Side peer) t s = of-admin-arrives (nat_le most_admins (length t.admins)) (counted_aside t)
  of-event o (Packet conn kind body) t s =
      let msg : Option GameMsg = read_msg kind body in
      let note : Option AdminMsg = read_admin kind body in
      of-named (member_of t conn) (admin_of t conn) (heard o msg) (admin_hears o note) t
      (λ m. of-verdict (judged o t m msg) o m msg t) (λ a. of-admin-verdict (admin_judged o a note) a note t)
  of-event o (Broken conn) t s =
      of-named (member_of t conn) (admin_of t conn) (heard o None) (admin_hears o None) t
      (λ m. of-verdict (judged o t m None) o m None t) (λ a. of-admin-verdict (admin_judged o a None) a None t)
  of-event o (Shut conn) t s =
      of-named (member_of t conn) (admin_of t conn) (λ m. leaves m (Failing connection_lost)) admin_leaves t
      (λ m. of-leaves m (Failing connection_lost) t) (λ a. (tt, tt))
  of-event o Tick t s = of-ticked o t (s refl)
  of-event o Stop t s = tt

  pub of-deed : (o : Origin) (e : Event) (t : Table) → (e ≡ Tick → S) → Of (deed o e t)
  of-deed o e t s =
      let d : Deed = by_event o e t in
      let v : Table = record d.table { cost = d.table.cost + event_cost e } in
      let over : Bool = stops o e t || nat_le o.setup.cost v.cost || (v.frame == last_frame) in
      of-where (takes t e) (taken o e) t (of-then (d ▹ charged e) (closed o (stops o e t)) (of-then d (charged e) (of-event o e t s) tt)
      (of-where over shut_down v (tt, (tt, (tt, tt)))))
