-- Whom the rules tell: whatever a rule says, it says to connections that stand in order, so to none twice.
--
-- A rule is fair where it leaves members and admins in the order of their connections, and tells in order. Each rule is, by
-- its parts alone: none of what else is known of members, packets or frames is needed for it.
use Rattle.std.proofs.Common.{◌≡◌, ◌⊎◌, inl, inr, ℕ, zero, suc, ◌+◌, ◌≤◌, ◌<◌, List, [], ◌∷◌, ◌++◌, refl, sym, subst, true, false, Bool}
use Rattle.std.proofs.Common.{Option, Some, None, arith}
use Rattle.std.specs.Prelude.{not, ◌||◌, ◌&&◌, ◌==◌, ◌*◌, ◌%◌, cond, nat_lt, nat_le, length, map, filter, take, drop}
use Rattle.std.specs.Prelude.{position, slice_set}
use Rattle.std.specs.List.{AllByRecursion}
use Rattle.tt_edge.specs.declared.event.Door.TheVariants.{Main, Side}
use Rattle.tt_edge.specs.declared.event.Event.{Event}
use Rattle.tt_edge.specs.declared.event.Event.TheVariants.{Open, Packet, Broken, Shut, Tick, Stop}
use Rattle.tt_edge.specs.Event.{event_cost}
use Rattle.tt_game.specs.declared.message.GameMsg.{GameMsg}
use Rattle.tt_game.specs.declared.message.GameMsg.TheVariants.{ClientJoin, ClientGameInfo, ClientGamePassword, ClientCompanyPassword}
use Rattle.tt_game.specs.declared.message.GameMsg.TheVariants.{ClientGetmap, ClientMapOk, ClientAck, ClientCommand, ClientChat}
use Rattle.tt_game.specs.declared.message.GameMsg.TheVariants.{ClientSetName, ClientSetPassword, ClientMove, ClientError, ClientQuit}
use Rattle.tt_game.specs.declared.message.GameMsg.TheVariants.{ServerChat, ServerError, ServerJoin, ServerWelcome}
use Rattle.tt_admin.specs.declared.message.AdminMsg.{AdminMsg}
use Rattle.tt_admin.specs.declared.message.AdminMsg.TheVariants as admins
use Rattle.tt_world.specs.declared.command.Command.{Command}
use Rattle.tt_world.specs.declared.command.Entry.{Entry}
use Rattle.tt_world.specs.World.{WorldState}
use Rattle.tt_rules.specs.Codes.{connection_lost, kicked, timeout_computer}
use Rattle.tt_rules.specs.Commands.{command_of}
use Rattle.tt_rules.specs.Companies.{living}
use Rattle.tt_rules.specs.declared.status.Status.TheVariants.{Active, AuthCompany, AuthGame, Authorized, DoneMap, MapWait, PreActive}
use Rattle.tt_rules.specs.declared.status.Verdict.{Verdict}
use Rattle.tt_rules.specs.declared.status.Verdict.TheVariants.{Allowed, Ends}
use Rattle.tt_log.specs.declared.deed.Step.{Step}
use Rattle.tt_log.specs.declared.deed.What.{What}
use Rattle.tt_log.specs.declared.deed.What.TheVariants.{Msg, ToAdmin, Entries, MapPieces, Stamp, Sync, End}
use Rattle.tt_log.specs.declared.report.Report.{Report}
use Rattle.tt_log.specs.declared.report.Report.TheVariants.{Message, CompanyNews}
use Rattle.tt_log.specs.Origin.{Origin, at_frame}
use Rattle.tt_log.specs.Admin.{Admin, is_automatic, client_updates, company_updates, chat_updates, console_updates, command_updates}
use Rattle.tt_log.specs.Admin.{new_admin}
use Rattle.tt_log.specs.Member.{Member, is_in, is_playing, is_welcomed, new_member}
use Rattle.tt_log.specs.Table.{Table, admin_of, digest_of, downloader, is_admin_on, is_on, member_of, member_with, now_in, playing}
use Rattle.tt_log.specs.Table.{welcomed, with_admin, with_digest, with_member, without_admin, without_member, world_of}
use Rattle.tt_log.specs.Deed.{Deed, ◌▹◌, becomes, where_, where_some, tells, tells_what, tells_each, tells_playing}
use Rattle.tt_log.specs.Watching.{watching, sees_active, sees_chat, sees_console, sees_frame, sees_stamp, sees_welcome}
use Rattle.tt_log.specs.Names.{given_name}
use Rattle.tt_log.specs.Frames.{frames_told, fresh_token, opened_token, tells_frame, tells_frame_by, tells_fresh}
use Rattle.tt_log.specs.Queue.{asks, begins, begins_for, begins_where, downloading, leaves_queue, left_place, moved_up, waits}
use Rattle.tt_log.specs.Judged.{founder, judged}
use Rattle.tt_log.specs.Ending.{Farewell, Quitting, Failing, news_of, sees_farewell, tells_farewell, leaves, ends}
use Rattle.tt_log.specs.PacketRules.{acknowledged, acknowledges, asks_company, becomes_active, chats, client_info, command_waits}
use Rattle.tt_log.specs.PacketRules.{company_step_by, does, enters, first_company, has_caught_up, is_in_scope, joins, moves, new_company}
use Rattle.tt_log.specs.PacketRules.{password_step_by, renames, welcomes}
use Rattle.tt_log.specs.Polls.{admins_told, day_told, due_reports, each_told, poll_answers, tells_admin}
use Rattle.tt_log.specs.Console.{ConsoleCommand, announces, command_in, console_does, kicks, kicks_out, lines_of, obeys, pause, pauses}
use Rattle.tt_log.specs.Desk.{admin_arrives, admin_does, admin_ends, admin_greeting, admin_hears, admin_judged, admin_leaves, admin_limited}
use Rattle.tt_log.specs.Desk.{admins_limited, by_admin_verdict, counted_aside, each_admin_limited, is_slow, most_admins}
use Rattle.tt_log.specs.Desk.{read_admin}
use Rattle.tt_log.specs.Tick.{all_moved, drawn, each_limited, finishes_map, foundings, founders_moved, frame_follows, frame_runs}
use Rattle.tt_log.specs.Tick.{frame_runs_by, late, left_of, limited, mapped, next_pieces, pieces_of, stamped, stamps, synced, tells_entries}
use Rattle.tt_log.specs.Tick.{ticked, timed}
use Rattle.tt_log.specs.Events.{arrives, by_event, by_verdict, charged, closed, counted_in, deed, heard, last_frame, on_conn}
use Rattle.tt_log.specs.Events.{read_msg, shut_down, stops, taken, takes, to_named}
use Rattle.tt_log.specs.History.{AreRising}
use Rattle.tt_log.proofs.Lists.{all-append, all-so}
use Rattle.tt_log.proofs.Crew.{admin_conns, conns, put-admin-conns, put-conns}
use Rattle.tt_log.proofs.Ordered.{all-map-filter, all-more, map-same, rise-filter, rise-from, rise-more}

-- ---- what is in order

-- connections that rise, from whichever on
abbrev pub Rises : List ℕ → Type 0
Rises [] = Unit
Rises (x ∷ xs) = AreRising x xs

pub rises-of : (k : ℕ) (xs : List ℕ) → AreRising k xs → Rises xs
rises-of k [] r = tt
rises-of k (x ∷ xs) r = r.1

-- a step tells connections in order; that they end says nothing
abbrev pub IsInOrder : Step → Type 0
IsInOrder s = Rises s.to ⊎ (s.what ≡ End)

-- members and admins stand in order, each on a connection that is opened
pub record AreSeated (openings : ℕ) (members guests : List ℕ) : Type 0 where
  pub rise : AreRising 0 members
  pub low : AllByRecursion (λ c. c ≤ openings) members
  pub guests_rise : AreRising 0 guests
  pub guests_low : AllByRecursion (λ c. c ≤ openings) guests

abbrev pub Seated : Table → Type 0
Seated t = AreSeated t.openings (conns t.members) (admin_conns t.admins)

pub record Fair (d : Deed) : Type 0 where
  pub table : Seated d.table
  pub told : AllByRecursion IsInOrder d.told

abbrev pub IsFair : (Table → Deed) → Type 0
IsFair rule = (t : Table) → Seated t → Fair (rule t)

-- ---- rules joined

fair-then : (d : Deed) (rule : Table → Deed) → Fair d → IsFair rule → Fair (d ▹ rule)
fair-then d rule a next =
    let b : Fair (rule d.table) = next d.table a.table in
    record { table = b.table; told = all-append IsInOrder d.told (rule d.table).told a.told b.told }

fair-becomes : (t : Table) → Seated t → Fair (becomes t)
fair-becomes t h = record { table = h; told = tt }

fair-where : (b : Bool) (rule : Table → Deed) → IsFair rule → IsFair (where_ b rule)
fair-where true rule fair t h = fair t h
fair-where false rule fair t h = fair-becomes t h

fair-some : {A : Type 0} (x : Option A) (rule : A → Table → Deed) → ((y : A) → IsFair (rule y)) → IsFair (where_some x rule)
fair-some None rule fair t h = fair-becomes t h
fair-some (Some y) rule fair t h = fair y t h

-- ---- what is told

fair-tells : (to : List ℕ) (w : What) (t : Table) → Rises to → Seated t → Fair (tells_what to w t)
fair-tells to w t r h = record { table = h; told = (inl r, tt) }

fair-one : (c : ℕ) (w : What) → IsFair (tells_what (c ∷ []) w)
fair-one c w t h = fair-tells (c ∷ []) w t tt h

-- some of the members, or of the admins
fair-some-of : (p : Member → Bool) (w : What) (t : Table) → Seated t → Fair (tells_what (conns (filter p t.members)) w t)
fair-some-of p w t h = fair-tells (conns (filter p t.members)) w t
    (rises-of 0 (conns (filter p t.members)) (rise-filter (λ (m : Member). m.conn) p 0 t.members h.rise)) h

fair-playing : (w : What) (t : Table) → Seated t → Fair (tells_what (playing t) w t)
fair-playing w t h = fair-some-of is_playing w t h

fair-watching : (kind : ℕ) (r : Report) (t : Table) → Seated t → Fair (tells_what (watching kind t) (ToAdmin r) t)
fair-watching kind r t h = fair-tells (watching kind t) (ToAdmin r) t (rises-of 0 (watching kind t)
    (rise-filter (λ (a : Admin). a.conn) (is_automatic kind) 0 t.admins h.guests_rise)) h

-- one is told several things
told-admin : (c : ℕ) (reports : List Report) (t : Table) → AllByRecursion IsInOrder (tells_admin c reports t).told
told-admin c [] t = tt
told-admin c (r ∷ reports) t = (inl tt, told-admin c reports t)

fair-told : (c : ℕ) (reports : List Report) → IsFair (tells_admin c reports)
fair-told c reports t h = record { table = h; told = told-admin c reports t }

told-each : (c : ℕ) (msgs : List GameMsg) (t : Table) → AllByRecursion IsInOrder (tells_each c msgs t).told
told-each c [] t = tt
told-each c (msg ∷ msgs) t = (inl tt, told-each c msgs t)

fair-each : (c : ℕ) (msgs : List GameMsg) → IsFair (tells_each c msgs)
fair-each c msgs t h = record { table = h; told = told-each c msgs t }

-- ---- tables changed

with-seated : (n : Member) (t : Table) → Seated t → Seated (with_member n t)
with-seated n t h = subst (λ (xs : List ℕ). AreSeated t.openings xs (admin_conns t.admins)) (sym (put-conns n t.members)) h

admin-seated : (a : Admin) (t : Table) → Seated t → Seated (with_admin a t)
admin-seated a t h = subst (λ (xs : List ℕ). AreSeated t.openings (conns t.members) xs) (sym (put-admin-conns a t.admins)) h

without-seated : (c : ℕ) (t : Table) → Seated t → Seated (without_member c t)
without-seated c t h = record {
  rise = rise-filter (λ (m : Member). m.conn) (λ m. not (is_on c m)) 0 t.members h.rise;
  low = all-map-filter (λ x. x ≤ t.openings) (λ (m : Member). m.conn) (λ m. not (is_on c m)) t.members h.low;
  guests_rise = h.guests_rise;
  guests_low = h.guests_low;
}

admin-without : (c : ℕ) (t : Table) → Seated t → Seated (without_admin c t)
admin-without c t h = record {
  rise = h.rise;
  low = h.low;
  guests_rise = rise-filter (λ (a : Admin). a.conn) (λ a. not (is_admin_on c a)) 0 t.admins h.guests_rise;
  guests_low = all-map-filter (λ x. x ≤ t.openings) (λ (a : Admin). a.conn) (λ a. not (is_admin_on c a)) t.admins h.guests_low;
}

-- ---- FRAME

fair-fresh : (m : Member) → IsFair (tells_fresh m)
fair-fresh m t h = fair-one m.conn _ _ (with-seated (opened_token (fresh_token t.tokens) t m) t h)

fair-frame-by : (b : Bool) (m : Member) → IsFair (tells_frame_by b m)
fair-frame-by true m t h = fair-fresh m t h
fair-frame-by false m t h = fair-one m.conn _ _ (with-seated (record m { told = t.top }) t h)

fair-frame : (m : Member) → IsFair (tells_frame m)
fair-frame m t h = fair-where (is_playing m) (tells_frame_by (m.token == 0) m) (fair-frame-by (m.token == 0) m) t h

fair-frames : (ms : List Member) → IsFair (frames_told ms)
fair-frames [] t h = fair-becomes t h
fair-frames (m ∷ ms) t h = fair-then (where_some (member_of t m.conn) tells_frame t) (frames_told ms)
    (fair-some (member_of t m.conn) tells_frame fair-frame t h) (fair-frames ms)

-- ---- the queue

fair-begins-for : (m : Member) → IsFair (begins_for m)
fair-begins-for m t h = fair-one m.conn _ _ (with-seated (downloading t m) t h)

fair-begins-where : (m : Member) → IsFair (begins_where m)
fair-begins-where m t h = fair-where (is_in MapWait m) (begins_for m) (fair-begins-for m) t h

fair-begins : (c : ℕ) → IsFair (begins c)
fair-begins c t h = fair-some (member_of t c) begins_where fair-begins-where t h

fair-moved-up : (place : ℕ) (cs : List ℕ) → IsFair (moved_up place cs)
fair-moved-up place [] t h = fair-becomes t h
fair-moved-up zero (c ∷ cs) t h = fair-then (begins c t) (moved_up 1 cs) (fair-begins c t h) (fair-moved-up 1 cs)
fair-moved-up (suc place) (c ∷ cs) t h = fair-then (waits c (suc place) t) (moved_up (suc (suc place)) cs) (fair-one c _ t h)
    (fair-moved-up (suc (suc place)) cs)

fair-left-place : (place : ℕ) → IsFair (left_place place)
fair-left-place place t h =
    let behind : List ℕ = drop (place + 1) t.queue in
    fair-moved-up place behind (record t { queue = take place t.queue ++ behind }) h

fair-leaves-queue : (c : ℕ) → IsFair (leaves_queue c)
fair-leaves-queue c t h = fair-some (position (λ x. x == c) t.queue) left_place fair-left-place t h

fair-asks : (m : Member) → IsFair (asks m)
fair-asks m t h =
    let n : Member = now_in MapWait t m in
    fair-moved-up (length t.queue) (m.conn ∷ []) (record (with_member n t) { queue = t.queue ++ m.conn ∷ [] }) (with-seated n t h)

-- ---- ends

fair-sees-farewell : (f : Farewell) (m : Member) → IsFair (sees_farewell f m)
fair-sees-farewell Quitting m t h = fair-watching client_updates _ t h
fair-sees-farewell (Failing code) m t h = fair-watching client_updates _ t h

fair-farewell : (f : Farewell) (m : Member) → IsFair (tells_farewell f m)
fair-farewell f m t h = fair-then (tells_playing (news_of f m) t) (sees_farewell f m) (fair-playing (Msg (news_of f m)) t h)
    (fair-sees-farewell f m)

fair-leaves : (m : Member) (f : Farewell) → IsFair (leaves m f)
fair-leaves m f t h =
    let a : Deed = tells_what (m.conn ∷ []) End (without_member m.conn t) in
    let news : Table → Deed = where_ (is_welcomed m) (tells_farewell f m) in
    fair-then (a ▹ news) (leaves_queue m.conn) (fair-then a news (fair-one m.conn End (without_member m.conn t) (without-seated m.conn t h))
    (fair-where (is_welcomed m) (tells_farewell f m) (fair-farewell f m))) (fair-leaves-queue m.conn)

fair-ends : (m : Member) (code : ℕ) → IsFair (ends m code)
fair-ends m code t h = fair-then (tells (m.conn ∷ []) (ServerError code) t) (leaves m (Failing code)) (fair-one m.conn _ t h)
    (fair-leaves m (Failing code))

-- ---- packets

-- those that play are told something, and then admins
fair-news : (msg : GameMsg) (kind : ℕ) (r : Report)
    → IsFair (λ t. tells_playing msg t ▹ (λ u. tells_what (watching kind u) (ToAdmin r) u))
fair-news msg kind r t h = fair-then (tells_playing msg t) (λ u. tells_what (watching kind u) (ToAdmin r) u) (fair-playing (Msg msg) t h)
    (fair-watching kind r)

fair-welcomes : (o : Origin) (m : Member) → IsFair (welcomes o m)
fair-welcomes o m t h =
    let n : Member = record (now_in Authorized t m) { company = first_company m.asked } in
    let msg : GameMsg = ServerWelcome m.client o.setup.seed o.setup.id in
    let a : Deed = tells (m.conn ∷ []) msg (with_member n t) in
    fair-then (a ▹ tells_playing (client_info n)) (sees_welcome n) (fair-then a (tells_playing (client_info n))
    (fair-one m.conn (Msg msg) (with_member n t) (with-seated n t h)) (fair-playing (Msg (client_info n)))) (fair-watching client_updates _)

fair-company : (digest : Option (List ℕ)) (o : Origin) (m : Member) → IsFair (company_step_by digest o m)
fair-company None o m t h = fair-welcomes o m t h
fair-company (Some digest) o m t h = fair-one m.conn _ _ (with-seated (now_in AuthCompany t m) t h)

fair-password : (password : List ℕ) (o : Origin) (m : Member) → IsFair (password_step_by password o m)
fair-password [] o m t h = fair-company (digest_of t m.asked) o m t h
fair-password (b ∷ bs) o m t h = fair-one m.conn _ _ (with-seated (now_in AuthGame t m) t h)

fair-joins : (o : Origin) (m : Member) (name : List ℕ) (company : ℕ) → IsFair (joins o m name company)
fair-joins o m name company t h = fair-password o.setup.password o (record m { name = given_name t m.conn name; asked = company }) t h

fair-enters : (m : Member) → IsFair (enters m)
fair-enters m t h =
    let n : Member = record (now_in PreActive t m) { acked = m.map_frame; told = t.top } in
    let a : Deed = tells_each m.conn (map client_info (welcomed t)) (with_member n t) in
    let b : Deed = a ▹ tells_what (m.conn ∷ []) (Entries m.map_frame) in
    fair-then (b ▹ tells_fresh n) (leaves_queue m.conn) (fair-then b (tells_fresh n)
    (fair-then a (tells_what (m.conn ∷ []) (Entries m.map_frame)) (fair-each m.conn (map client_info (welcomed t)) (with_member n t)
    (with-seated n t h)) (fair-one m.conn (Entries m.map_frame))) (fair-fresh n)) (fair-leaves-queue m.conn)

rise-some : (p : ℕ → Bool) (k : ℕ) (xs : List ℕ) → AreRising k xs → AreRising k (filter p xs)
rise-some p k [] r = tt
rise-some p k (x ∷ xs) r = let a : k < x = r.0 in
    elim (p x) as (λ b. AreRising k (cond b (x ∷ filter p xs) (filter p xs))) [
      | true ↦ (r.0, rise-some p x xs r.1)
      | false ↦ rise-from k x (filter p xs) (omega (arith, a)) (rise-some p x xs r.1)
    ]

fair-asks-company : (m : Member) → IsFair (asks_company m)
fair-asks-company m t h = fair-becomes (record t { own = t.own ++ new_company m ∷ [] }) h

fair-active : (m : Member) → IsFair (becomes_active m)
fair-active m t h =
    let n : Member = now_in Active t m in
    let others : List ℕ = filter (λ c. not (c == m.conn)) (playing t) in
    let rise : AreRising 0 others = rise-some (λ c. not (c == m.conn)) 0 (playing t)
    (rise-filter (λ (m : Member). m.conn) is_playing 0 t.members h.rise) in
    let a : Deed = tells others (ServerJoin m.client) (with_member n t) in
    fair-then (a ▹ sees_active n) (where_ (m.asked == founder) (asks_company n)) (fair-then a (sees_active n)
    (fair-tells others (Msg (ServerJoin m.client)) (with_member n t) (rises-of 0 others rise) (with-seated n t h))
    (fair-watching client_updates _)) (fair-where (m.asked == founder) (asks_company n) (fair-asks-company n))

fair-acknowledges : (m : Member) (frame token : ℕ) → IsFair (acknowledges m frame token)
fair-acknowledges m frame token t h =
    let n : Member = acknowledged frame token m in
    fair-then (becomes (with_member n t)) (where_ (has_caught_up frame t m) (becomes_active n))
    (fair-becomes (with_member n t) (with-seated n t h)) (fair-where (has_caught_up frame t m) (becomes_active n) (fair-active n))

fair-waits : (m : Member) (company : ℕ) (command : Command) → IsFair (command_waits m company command)
fair-waits m company command t h = fair-becomes _ (with-seated (record m { waiting = m.waiting ++ (company, command) ∷ [] }) t h)

fair-chats : (client scope to : ℕ) (text : List ℕ) → IsFair (chats client scope to text)
fair-chats client scope to text t h =
    let msg : GameMsg = ServerChat client scope text in
    let hears : Member → Bool = λ m. is_playing m && is_in_scope scope to m in
    fair-then (tells (conns (filter hears t.members)) msg t) (sees_chat client scope text) (fair-some-of hears (Msg msg) t h)
    (fair-watching chat_updates _)

fair-renames : (m : Member) (name : List ℕ) → IsFair (renames m name)
fair-renames m name t h = let n : Member = record m { name = given_name t m.conn name } in
    fair-news _ client_updates _ (with_member n t) (with-seated n t h)

fair-moves : (m : Member) (company : ℕ) → IsFair (moves m company)
fair-moves m company t h = let n : Member = record m { company = company } in
    fair-news _ client_updates _ (with_member n t) (with-seated n t h)

fair-does : (o : Origin) (m : Member) (msg : GameMsg) → IsFair (does o m msg)
fair-does o m (ClientJoin revision grf name company) t h = fair-joins o m name company t h
fair-does o m ClientGameInfo t h = fair-one m.conn _ t h
fair-does o m (ClientGamePassword digest) t h = fair-company (digest_of t m.asked) o m t h
fair-does o m (ClientCompanyPassword digest) t h = fair-welcomes o m t h
fair-does o m ClientGetmap t h = fair-asks m t h
fair-does o m ClientMapOk t h = fair-enters m t h
fair-does o m (ClientAck frame token) t h = fair-acknowledges m frame token t h
fair-does o m (ClientCommand company code number to text) t h =
    fair-some (command_of code number to text) (command_waits m company) (fair-waits m company) t h
fair-does o m (ClientChat scope to text) t h = fair-chats m.client scope to text t h
fair-does o m (ClientSetName name) t h = fair-renames m name t h
fair-does o m (ClientSetPassword digest) t h = fair-becomes (with_digest m.company digest t) h
fair-does o m (ClientMove company digest) t h = fair-moves m company t h
fair-does o m (ClientError code) t h = fair-leaves m (Failing code) t h
fair-does o m ClientQuit t h = fair-leaves m Quitting t h
fair-does o m other t h = fair-becomes t h

fair-verdict : (v : Verdict) (o : Origin) (m : Member) (said : Option GameMsg) → IsFair (by_verdict v o m said)
fair-verdict Allowed o m said t h = fair-some said (does o m) (fair-does o m) t h
fair-verdict (Ends code) o m said t h = fair-ends m code t h

fair-heard : (o : Origin) (said : Option GameMsg) (m : Member) → IsFair (heard o said m)
fair-heard o said m t h = fair-verdict (judged o t m said) o m said t h

-- ---- the side door

fair-admin-leaves : (a : Admin) → IsFair (admin_leaves a)
fair-admin-leaves a t h = fair-one a.conn End (without_admin a.conn t) (admin-without a.conn t h)

fair-admin-ends : (a : Admin) (code : ℕ) → IsFair (admin_ends a code)
fair-admin-ends a code t h = let reports : List Report = Message (admins.ServerError code) ∷ [] in
    fair-then (tells_admin a.conn reports t) (admin_leaves a) (fair-told a.conn reports t h) (fair-admin-leaves a)

fair-console : (command : ConsoleCommand) → IsFair (console_does command)
fair-console (pauses paused) t h = fair-becomes (record t { own = t.own ++ pause paused ∷ [] }) h
fair-console (kicks client) t h = fair-some (member_with client t) kicks_out (λ m. fair-ends m kicked) t h
fair-console (announces text) t h = fair-chats 1 0 0 text t h
fair-console other t h = fair-becomes t h

fair-obeys : (command : ConsoleCommand) (c : ℕ) (text : List ℕ) → IsFair (obeys command c text)
fair-obeys command c text t h =
    let reports : List Report = lines_of command t ++ Message (admins.ServerRconEnd text) ∷ [] in
    fair-then (sees_console text t ▹ tells_admin c reports) (console_does command) (fair-then (sees_console text t) (tells_admin c reports)
    (fair-watching console_updates _ t h) (fair-told c reports)) (fair-console command)

fair-admin-does : (a : Admin) (msg : AdminMsg) → IsFair (admin_does a msg)
fair-admin-does a (admins.AdminJoin password application version) t h =
    let b : Admin = record a { joined = true } in fair-told a.conn admin_greeting (with_admin b t) (admin-seated b t h)
fair-admin-does a admins.AdminQuit t h = fair-admin-leaves a t h
fair-admin-does a (admins.AdminUpdateFrequency kind bits) t h =
    let b : Admin = record a { bits = slice_set a.bits kind bits } in fair-becomes (with_admin b t) (admin-seated b t h)
fair-admin-does a (admins.AdminPoll kind id) t h = fair-told a.conn (poll_answers kind id t) t h
fair-admin-does a (admins.AdminChat scope to text) t h = fair-chats 1 scope to text t h
fair-admin-does a (admins.AdminRcon text) t h = fair-obeys (command_in text) a.conn text t h
fair-admin-does a (admins.AdminPing id) t h = fair-told a.conn (Message (admins.ServerPong id) ∷ []) t h
fair-admin-does a other t h = fair-becomes t h

fair-admin-verdict : (v : Verdict) (a : Admin) (said : Option AdminMsg) → IsFair (by_admin_verdict v a said)
fair-admin-verdict Allowed a said t h = fair-some said (admin_does a) (fair-admin-does a) t h
fair-admin-verdict (Ends code) a said t h = fair-admin-ends a code t h

fair-admin-hears : (o : Origin) (said : Option AdminMsg) (a : Admin) → IsFair (admin_hears o said a)
fair-admin-hears o said a t h = fair-admin-verdict (admin_judged o a said) a said t h

-- ---- openings

low-later : (n : ℕ) (xs : List ℕ) → AllByRecursion (λ c. c ≤ n) xs → AllByRecursion (λ c. c ≤ n + 1) xs
low-later n xs a = all-so (λ (c : ℕ). c ≤ n) (λ (c : ℕ). c ≤ n + 1) xs (λ c l. omega (arith, l)) a

later-seated : (t : Table) → Seated t → AreSeated (t.openings + 1) (conns t.members) (admin_conns t.admins)
later-seated t h = record {
  rise = h.rise;
  low = low-later t.openings (conns t.members) h.low;
  guests_rise = h.guests_rise;
  guests_low = low-later t.openings (admin_conns t.admins) h.guests_low;
}

fair-arrives : (full : Bool) (t : Table) → Seated t → Fair (arrives full (counted_in t))
fair-arrives true t h = record { table = later-seated t h; told = (inl tt, (inl tt, tt)) }
fair-arrives false t h =
    let new : Member = new_member (t.openings + 1) (t.clients + 1) t.frame in
    let later = later-seated t h in
    record {
      table = record {
        rise = rise-more (λ (m : Member). m.conn) 0 t.openings t.members new h.rise h.low (omega arith) (omega arith);
        low = all-more (λ c. c ≤ t.openings + 1) (λ (m : Member). m.conn) t.members new later.low (omega arith);
        guests_rise = h.guests_rise;
        guests_low = later.guests_low;
      };
      told = tt;
    }

fair-arrives-aside : (full : Bool) (t : Table) → Seated t → Fair (admin_arrives full (counted_aside t))
fair-arrives-aside true t h = record { table = later-seated t h; told = (inl tt, (inl tt, tt)) }
fair-arrives-aside false t h =
    let new : Admin = new_admin (t.openings + 1) t.frame in
    let later = later-seated t h in
    record {
      table = record {
        rise = h.rise;
        low = later.low;
        guests_rise = rise-more (λ (a : Admin). a.conn) 0 t.openings t.admins new h.guests_rise h.guests_low (omega arith) (omega arith);
        guests_low = all-more (λ c. c ≤ t.openings + 1) (λ (a : Admin). a.conn) t.admins new later.guests_low (omega arith);
      };
      told = tt;
    }

-- ---- a tick

fair-entries : (es : List Entry) → IsFair (tells_entries es)
fair-entries [] t h = fair-becomes t h
fair-entries (e ∷ es) t h = fair-then (tells_what (playing t) (Stamp e) t ▹ sees_stamp e) (tells_entries es)
    (fair-then (tells_what (playing t) (Stamp e) t) (sees_stamp e) (fair-playing (Stamp e) t h) (fair-watching command_updates _))
    (fair-entries es)

fair-stamped : IsFair stamped
fair-stamped t h = fair-entries (stamps t) (record t { members = map drawn t.members; own = []; journal = t.journal ++ stamps t })
    (subst (λ (xs : List ℕ). AreSeated t.openings xs (admin_conns t.admins))
    (sym (map-same (λ (m : Member). m.conn) drawn t.members (λ m. refl))) h)

fair-runs-by : (b : Bool) (o : Origin) → IsFair (frame_runs_by b o)
fair-runs-by true o t h = fair-frames t.members (record t { frame = t.frame + 1; top = t.frame + 1 + o.setup.frame_freq }) h
fair-runs-by false o t h = fair-becomes (record t { frame = t.frame + 1 }) h

fair-runs : (o : Origin) → IsFair (frame_runs o)
fair-runs o t h = fair-runs-by (nat_lt t.top (t.frame + 1)) o t h

fair-all-moved : (fs : List (ℕ × ℕ)) → IsFair (all_moved fs)
fair-all-moved [] t h = fair-becomes t h
fair-all-moved (f ∷ fs) t h = let rule : Member → Table → Deed = λ m. moves m f.1 in
    fair-then (where_some (member_with f.0 t) rule t) (all_moved fs)
    (fair-some (member_with f.0 t) rule (λ m. fair-moves m f.1) t h) (fair-all-moved fs)

fair-founders : (o : Origin) (live : List Bool) → IsFair (founders_moved o live)
fair-founders o live t h = fair-all-moved (foundings live (at_frame o t.frame t.journal)) t h

fair-synced : (o : Origin) → IsFair (synced o)
fair-synced o t h = fair-where (t.frame % o.setup.sync_freq == 0) (λ u. tells_what (playing u) Sync u) (fair-playing Sync) t h

fair-finishes : (m : Member) → IsFair (finishes_map m)
fair-finishes m t h = fair-becomes _ (with-seated (record m { status = DoneMap }) t h)

fair-pieces : (left : List ℕ) (m : Member) → IsFair (next_pieces left m)
fair-pieces left m t h =
    let n : Member = record m { pieces = m.pieces + length (pieces_of 4 left) } in
    let last : Bool = not (nat_lt (4 * 1400) (length left)) in
    fair-then (tells_what (m.conn ∷ []) MapPieces (with_member n t)) (where_ last (finishes_map n))
    (fair-one m.conn MapPieces (with_member n t) (with-seated n t h)) (fair-where last (finishes_map n) (fair-finishes n))

fair-mapped : (left : List ℕ) → IsFair (mapped left)
fair-mapped left t h = fair-some (downloader t) (next_pieces left) (fair-pieces left) t h

fair-limited : (o : Origin) (m : Member) → IsFair (limited o m)
fair-limited o m t h = fair-some (late o.setup t.frame m) (ends m) (fair-ends m) t h

fair-each-limited : (o : Origin) (ms : List Member) → IsFair (each_limited o ms)
fair-each-limited o [] t h = fair-becomes t h
fair-each-limited o (m ∷ ms) t h = fair-then (where_some (member_of t m.conn) (limited o) t) (each_limited o ms)
    (fair-some (member_of t m.conn) (limited o) (fair-limited o) t h) (fair-each-limited o ms)

fair-timed : (o : Origin) → IsFair (timed o)
fair-timed o t h = fair-each-limited o t.members t h

fair-admin-limited : (o : Origin) (a : Admin) → IsFair (admin_limited o a)
fair-admin-limited o a t h = fair-where (is_slow o t.frame a) (admin_ends a timeout_computer) (fair-admin-ends a timeout_computer) t h

fair-each-admin : (o : Origin) (guests : List Admin) → IsFair (each_admin_limited o guests)
fair-each-admin o [] t h = fair-becomes t h
fair-each-admin o (a ∷ guests) t h = fair-then (where_some (admin_of t a.conn) (admin_limited o) t) (each_admin_limited o guests)
    (fair-some (admin_of t a.conn) (admin_limited o) (fair-admin-limited o) t h) (fair-each-admin o guests)

fair-admins-limited : (o : Origin) → IsFair (admins_limited o)
fair-admins-limited o t h = fair-each-admin o t.admins t h

fair-each-told : (day : ℕ) (guests : List Admin) → IsFair (each_told day guests)
fair-each-told day [] t h = fair-becomes t h
fair-each-told day (a ∷ guests) t h = fair-then (tells_admin a.conn (due_reports day a t) t) (each_told day guests)
    (fair-told a.conn (due_reports day a t) t h) (fair-each-told day guests)

fair-day : (day : ℕ) → IsFair (day_told day)
fair-day day t h = fair-each-told day (filter (λ a. a.joined) t.admins) t h

fair-admins-told : (before : ℕ) (o : Origin) → IsFair (admins_told before o)
fair-admins-told before o t h = let day : ℕ = (world_of o t).day in
    fair-where (not (day == before)) (day_told day) (fair-day day) t h

fair-follows : (before : WorldState) (left : List ℕ) (o : Origin) → IsFair (frame_follows before left o)
fair-follows before left o t h =
    let a : Deed = founders_moved o (living before) t in
    let b : Deed = a ▹ synced o in
    let c : Deed = b ▹ mapped left in
    let d : Deed = c ▹ timed o in
    let e : Deed = d ▹ admins_limited o in
    fair-then e (admins_told before.day o) (fair-then d (admins_limited o) (fair-then c (timed o) (fair-then b (mapped left)
    (fair-then a (synced o) (fair-founders o (living before) t h) (fair-synced o)) (fair-mapped left)) (fair-timed o))
    (fair-admins-limited o)) (fair-admins-told before.day o)

fair-ticked : (o : Origin) → IsFair (ticked o)
fair-ticked o t h =
    let a : Deed = stamped t in
    let b : Deed = a ▹ frame_runs o in
    let c : Deed = b ▹ sees_frame in
    fair-then c (frame_follows (world_of o t) (left_of o t) o) (fair-then b sees_frame (fair-then a (frame_runs o) (fair-stamped t h)
    (fair-runs o)) (fair-watching company_updates CompanyNews)) (fair-follows (world_of o t) (left_of o t) o)

-- ---- events

fair-named : (x : Option Member) (y : Option Admin) (f : Member → Table → Deed) (g : Admin → Table → Deed)
    → ((m : Member) → IsFair (f m)) → ((a : Admin) → IsFair (g a)) → IsFair (to_named x y f g)
fair-named (Some m) y f g p q t h = p m t h
fair-named None y f g p q t h = fair-some y g q t h

fair-conn : (c : ℕ) (f : Member → Table → Deed) (g : Admin → Table → Deed) → ((m : Member) → IsFair (f m))
    → ((a : Admin) → IsFair (g a)) → IsFair (on_conn c f g)
fair-conn c f g p q t h = fair-named (member_of t c) (admin_of t c) f g p q t h

fair-event : (o : Origin) (e : Event) → IsFair (by_event o e)
fair-event o (Open Main peer) t h = fair-arrives (nat_le o.setup.max_clients (length t.members)) t h
fair-event o (Open Side peer) t h = fair-arrives-aside (nat_le most_admins (length t.admins)) t h
fair-event o (Packet c kind body) t h = fair-conn c (heard o (read_msg kind body)) (admin_hears o (read_admin kind body))
    (fair-heard o (read_msg kind body)) (fair-admin-hears o (read_admin kind body)) t h
fair-event o (Broken c) t h = fair-conn c (heard o None) (admin_hears o None) (fair-heard o None) (fair-admin-hears o None) t h
fair-event o (Shut c) t h = fair-conn c (λ m. leaves m (Failing connection_lost)) admin_leaves
    (λ m. fair-leaves m (Failing connection_lost)) fair-admin-leaves t h
fair-event o Tick t h = fair-ticked o t h
fair-event o Stop t h = fair-becomes t h

-- all are told that the game is over, each door's in order
fair-shut-down : IsFair shut_down
fair-shut-down t h = record {
  table = record { rise = tt; low = tt; guests_rise = tt; guests_low = tt };
  told = (inl (rises-of 0 (conns t.members) h.rise), (inl (rises-of 0 (admin_conns t.admins) h.guests_rise), (inr refl, tt)));
}

fair-closed : (o : Origin) (stopped : Bool) → IsFair (closed o stopped)
fair-closed o stopped t h = fair-where (stopped || nat_le o.setup.cost t.cost || (t.frame == last_frame)) shut_down fair-shut-down t h

fair-charged : (e : Event) → IsFair (charged e)
fair-charged e t h = fair-becomes (record t { cost = t.cost + event_cost e }) h

fair-taken : (o : Origin) (e : Event) → IsFair (taken o e)
fair-taken o e t h = fair-then (by_event o e t ▹ charged e) (closed o (stops o e t)) (fair-then (by_event o e t) (charged e)
    (fair-event o e t h) (fair-charged e)) (fair-closed o (stops o e t))

-- each event tells in order
pub fair-deed : (o : Origin) (e : Event) → IsFair (deed o e)
fair-deed o e t h = fair-where (takes t e) (taken o e) (fair-taken o e) t h
