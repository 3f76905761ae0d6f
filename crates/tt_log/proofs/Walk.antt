-- The one walk over the rules: a property of what a rule does (of the table before it, what it tells, and the table behind it)
-- that holds of each part that rules are made of, and joins, holds of every event.
use Rattle.std.proofs.Common.{◌≡◌, ◌⊎◌, inl, inr, ℕ, ◌+◌, ◌≤◌, List, [], ◌∷◌, ◌++◌, refl, ap, sym, ◌∙◌, subst, true, false, Bool}
use Rattle.std.proofs.Common.{Option, Some, None, arith, zero, suc, ◌<◌, append-nil}
use Rattle.std.specs.Prelude.{is_some, min, position, slice_index, ◌*◌, ◌==◌, drop, take, length, nat_lt, nat_le, map, filter, cond, ◌%◌}
use Rattle.std.specs.Prelude.{not}
use Rattle.std.specs.Prelude.{◌&&◌, ◌||◌}
use Rattle.std.specs.List.{AllByRecursion}
use Rattle.std.proofs.Math.Nat.{min-le_right}
use Rattle.std.proofs.lemmas.Bool.{eqb-true, leb-true}
use Rattle.std.proofs.lemmas.List.{length-map}
use Rattle.tt_frame.specs.Packet.{IsBytes}
use Rattle.tt_edge.specs.declared.event.Door.TheVariants.{Main, Side}
use Rattle.tt_edge.specs.declared.event.Event.{Event}
use Rattle.tt_edge.specs.declared.event.Event.TheVariants.{Open, Packet, Broken, Shut, Tick, Stop}
use Rattle.tt_edge.specs.Event.{is_tick, is_open, event_cost}
use Rattle.tt_game.specs.declared.message.GameMsg.{GameMsg}
use Rattle.tt_game.specs.declared.message.GameMsg.TheVariants.{ClientJoin, ClientGameInfo, ClientGamePassword, ClientCompanyPassword}
use Rattle.tt_game.specs.declared.message.GameMsg.TheVariants.{ClientGetmap, ClientMapOk, ClientAck, ClientCommand, ClientChat}
use Rattle.tt_game.specs.declared.message.GameMsg.TheVariants.{ClientSetName, ClientSetPassword, ClientMove, ClientError, ClientQuit}
use Rattle.tt_game.specs.declared.message.GameMsg.TheVariants.{ServerError, ServerJoin, ServerWait, ServerChat}
use Rattle.tt_admin.specs.declared.message.AdminMsg.{AdminMsg}
use Rattle.tt_admin.specs.declared.message.AdminMsg.TheVariants as admins
use Rattle.tt_admin.specs.declared.message.AdminMsg.TheVariants.{AdminRcon}
use Rattle.tt_world.specs.declared.command.Command.{Command}
use Rattle.tt_world.specs.declared.command.Entry.{Entry}
use Rattle.tt_rules.specs.Commands.{command_of}
use Rattle.tt_rules.specs.Companies.{living}
use Rattle.tt_world.specs.World.{WorldState}
use Rattle.tt_rules.specs.Statuses.{rank}
use Rattle.tt_rules.specs.declared.status.Status.TheVariants.{MapWait, PreActive}
use Rattle.tt_rules.specs.declared.status.Verdict.{Verdict}
use Rattle.tt_rules.specs.declared.status.Verdict.TheVariants.{Allowed, Ends}
use Rattle.tt_log.specs.declared.deed.Step.{Step}
use Rattle.tt_log.specs.declared.deed.What.{What}
use Rattle.tt_log.specs.declared.deed.What.TheVariants.{Msg, ToAdmin, MapBegin, Sync, Entries, Stamp, End}
use Rattle.tt_log.specs.declared.report.Report.{Report}
use Rattle.tt_log.specs.declared.report.Report.TheVariants.{Message, CompanyNews}
use Rattle.tt_log.specs.Origin.{Origin, at_frame}
use Rattle.tt_log.specs.Admin.{Admin, is_automatic, has_bit, automatic_bit, client_updates, company_updates, chat_updates, console_updates}
use Rattle.tt_log.specs.Admin.{command_updates}
use Rattle.tt_log.specs.Member.{Member, is_in, is_playing, is_welcomed}
use Rattle.tt_log.specs.Table.{Table, member_of, admin_of, is_admin_on, with_member, without_member, digest_of, with_digest, now_in}
use Rattle.tt_log.specs.Table.{playing, welcomed, world_of, member_with, with_admin, downloader, first_loading, if_loading}
use Rattle.tt_log.specs.Deed.{Deed, ◌▹◌, where_, where_some, tells, tells_what, tells_each, tells_playing}
use Rattle.tt_log.specs.Watching.{watching, sees_stamp, sees_console, sees_frame}
use Rattle.tt_log.specs.Names.{given_name}
use Rattle.tt_log.specs.Frames.{tells_fresh, tells_frame_by, tells_frame, frames_told}
use Rattle.tt_log.specs.Queue.{asks, begins, begins_for, begins_where, waits, moved_up, left_place, leaves_queue}
use Rattle.tt_log.specs.Judged.{judged, founder}
use Rattle.tt_log.specs.Ending.{Farewell, Quitting, Failing, news_of, tells_farewell, leaves, ends}
use Rattle.tt_log.specs.PacketRules.{client_info, welcomes, company_step_by, password_step_by, enters, becomes_active, asks_company}
use Rattle.tt_log.specs.PacketRules.{new_company, acknowledged, acknowledges, has_caught_up, closed_token, chats, is_in_scope, renames}
use Rattle.tt_log.specs.PacketRules.{moves, does}
use Rattle.tt_log.specs.Polls.{tells_admin, poll_answers, due_reports, each_told, day_told, admins_told}
use Rattle.tt_log.specs.Console.{ConsoleCommand, pauses, kicks, announces, command_in, lines_of, pause, kicks_out, console_does, obeys}
use Rattle.tt_log.specs.Desk.{admin_opens, admin_leaves, admin_ends, admin_judged, admin_greeting, admin_joins, admin_does}
use Rattle.tt_log.specs.Desk.{by_admin_verdict, admin_hears, read_admin, is_slow, admin_limited, each_admin_limited, admins_limited}
use Rattle.tt_log.specs.Tick.{stamps, drawn, tells_entries, stamped, frame_runs_by, frame_runs, foundings, all_moved, founders_moved}
use Rattle.tt_log.specs.Tick.{synced, next_pieces, finishes_map, mapped, left_of, late, limited, each_limited, timed, frame_follows, ticked}
use Rattle.tt_log.specs.Events.{read_msg, opened, by_verdict, heard, to_named, on_conn, by_event, charged, stops, closed, shut_down, taken}
use Rattle.tt_log.specs.Events.{takes, deed, last_frame}
use Rattle.tt_log.specs.History.{IsEvent}
use Rattle.tt_log.proofs.Lists.{Among, Within, NotIn, IsOther, found-among, map-filter-not, all-of-filter, all-filter, all-among}
use Rattle.tt_log.proofs.Lists.{last-among, all-append, found-passes}
use Rattle.tt_log.proofs.Crew.{On, OnAdmin, conns, on-found, found-on, put-among, put-admin-among, admin_conns, still-playing}
use Rattle.tt_log.proofs.Codes.{IsCode, IsCodeOf, admin-judged-code, judged-code, late-code}
use Rattle.tt_log.proofs.Places.{foundings-low, world-places}
use Rattle.tt_log.proofs.Changes.{step, Allows, allows, Says, By, Change, wants_password, is_let_in, gets_token, gets_frame, answers, plays}
use Rattle.tt_log.proofs.Changes.{commands, has_name, goes_to, founds, gets_pieces, has_all, Move, queues, begins_map, loads, Asks, May}
use Rattle.tt_log.proofs.Changes.{is_behind, behind-by, turned, moved, turned_in, steps_with, IsSeated, IsChat, IsFarewell, IsTalk, IsNews}
use Rattle.tt_log.proofs.Changes.{IsNotice, IsReport, SaysAside, turned-conn}
use Rattle.tt_log.proofs.Reported.{due-known, lines-known, polls-known}

-- ---- the tables of a tick

-- the stamps stand behind the journal, and the commands wait no longer
abbrev pub stamping : Table → Table
stamping t = record t { members = map drawn t.members; own = []; journal = t.journal ++ stamps t }

-- a frame more, and where a test holds further ones are permitted
abbrev pub running : Bool → Origin → Table → Table
running true o t = record t { frame = t.frame + 1; top = t.frame + 1 + o.setup.frame_freq }
running false o t = record t { frame = t.frame + 1 }

-- when a change that goes with the queue may come
abbrev pub MayMove : Move → Member → Type 0
MayMove queues m = rank m.status ≡ 4
MayMove begins_map m = rank m.status ≡ 5
MayMove loads m = rank m.status ≡ 7

abbrev pub told_moved : Move → Member → List Step
told_moved queues m = []
told_moved begins_map m = step (m.conn ∷ []) MapBegin ∷ []
told_moved loads m = []

-- a command that the server may order: a company for a member, or a pause for an admin
abbrev pub IsOrdered : Table → Command → Type 0
IsOrdered t c = ((m : Member) × On t m × (c ≡ new_company m)) ⊎ ((paused : Bool) × (c ≡ pause paused))

-- the event is one of this connection
abbrev pub Names : Event → ℕ → Type 0
Names (Packet conn kind body) c = conn ≡ c
Names (Broken conn) c = conn ≡ c
Names other c = ⊥

-- an admin as it was, but for what it has asked to be told, by an event of its own
abbrev pub IsSettled : Event → Admin → Admin → Type 0
IsSettled e a b = (b.conn ≡ a.conn) × (b.since ≡ a.since) × Names e a.conn

-- the connections of the admins that have joined
abbrev pub joined_conns : Table → List ℕ
joined_conns t = admin_conns (filter (λ a. a.joined) t.admins)

-- one is told something by an event of its own, or why it ends
abbrev pub IsOwn : Event → List ℕ → Report → Type 0
IsOwn e to r = (c : ℕ) × (to ≡ c ∷ []) × (Names e c ⊎ ((code : ℕ) × (r ≡ Message (admins.ServerError code))))

-- admins that may be told a report: they have joined, or it is their own
pub record MayTell (e : Event) (t : Table) (to : List ℕ) (r : Report) : Type 0 where
  pub within : Within to (admin_conns t.admins)
  pub turn : Within to (joined_conns t) ⊎ IsOwn e to r

-- behind some of a queue
none-behind : (c : ℕ) (xs ys : List ℕ) → NotIn c (xs ++ ys) → NotIn c ys
none-behind c [] ys a = a
none-behind c (x ∷ xs) ys a = none-behind c xs ys a.1

begun-by : (b : Bool) (m : Member) (conns : List ℕ) (t : Table) → Within conns t.queue
    → Within conns (where_ b (begins_for m) t).table.queue
begun-by true m conns t h = h
begun-by false m conns t h = h

begun-within : (x : Option Member) (conns : List ℕ) (t : Table) → Within conns t.queue
    → Within conns (where_some x begins_where t).table.queue
begun-within None conns t h = h
begun-within (Some m) conns t h = begun-by (is_in MapWait m) m conns t h

module _ (o : Origin) (e : Event) (P : Table → List Step → Table → Type 0) where
  -- it holds of a deed
  abbrev pub Of : Table → Deed → Type 0
  Of t d = P t d.told d.table

  -- it holds of each change of a member; of those that come in ticks alone, behind the frame; and of all others
  abbrev pub Turns : Type 0
  Turns = (c : Change) (t : Table) (m : Member) → On t m → May o e t m c → By e m c → P t (steps_with c o t m) (turned_in c t m)

  abbrev pub TurnsBehind : Type 0
  TurnsBehind = (c : Change) (t : Table) (m : Member) → On t m → May o e t m c → is_behind c ≡ true
      → P t (steps_with c o t m) (turned_in c t m)

  abbrev pub TurnsAhead : Type 0
  TurnsAhead = (c : Change) (t : Table) (m : Member) → On t m → May o e t m c → By e m c → is_behind c ≡ false
      → P t (steps_with c o t m) (turned_in c t m)

  pub behind-of : Turns → TurnsBehind
  behind-of turns c t m on may is = turns c t m on may (behind-by e m c is)

  pub ahead-of : Turns → TurnsAhead
  ahead-of turns c t m on may by is = turns c t m on may by

  -- it holds of what nearly every rule is made of
  pub record Base : Type 0 where
    -- nothing is done; one thing is done, and then another
    pub still : (t : Table) → P t [] t
    pub joins : (t u v : Table) (xs ys : List Step) → P t xs u → P u ys v → P t (xs ++ ys) v
    -- a member changes, and is told something with it; but for what comes in ticks alone
    pub turns : TurnsAhead
    -- a member is told something, or some of those that play are, or some admins
    pub tells_one : (t : Table) (m : Member) (msg : GameMsg) → On t m → IsTalk o e t msg → P t (step (m.conn ∷ []) (Msg msg) ∷ []) t
    pub tells_some : (t : Table) (to : List ℕ) (w : What) → Within to (playing t) → IsNews o e t w → P t (step to w ∷ []) t
    pub tells_admins : (t : Table) (to : List ℕ) (r : Report) → MayTell e t to r → IsReport o e t r
        → P t (step to (ToAdmin r) ∷ []) t

  -- it holds of each part that rules are made of, but for those of a tick
  pub record Walk : Type 0 where
    pub base : Base
    -- a company has a password or none; the server orders a command, in no tick
    pub locks : (t : Table) (m : Member) (digest : Option (List ℕ)) → On t m → Allows o e t m (ClientSetPassword digest)
        → P t [] (with_digest m.company digest t)
    pub orders : (t : Table) (c : Command) → IsOrdered t c → is_tick e ≡ false → P t [] (record t { own = t.own ++ c ∷ [] })
    -- a member asks for the map, enters the game, or goes
    pub asks_map : (t : Table) (m : Member) → On t m → rank m.status ≡ 4 → Of t (asks m t)
    pub enters_game : (t : Table) (m : Member) → On t m → rank m.status ≡ 7 → Of t (enters m t)
    pub goes : (t : Table) (m : Member) (farewell : Farewell) → On t m → IsFarewell e m farewell → Of t (leaves m farewell t)
    -- an admin has joined, or asks to be told something; an admin goes
    pub settles : (t : Table) (a b : Admin) → OnAdmin t a → IsSettled e a b → P t [] (with_admin b t)
    pub goes_aside : (t : Table) (a : Admin) → OnAdmin t a → Of t (admin_leaves a t)

  -- it holds of a connection that comes in by a door
  pub record Doors : Type 0 where
    pub comes : (t : Table) → Of t (opened o t)
    pub comes_aside : (t : Table) → Of t (admin_opens t)

  -- it holds of what follows the rule of every event: it costs something, and may end the game
  pub record Closing : Type 0 where
    pub charges : (t : Table) → P t [] (record t { cost = t.cost + event_cost e })
    pub closes : (t : Table) → Of t (shut_down t)

  -- it holds of what only ticks do: stamping, running a frame, and the changes behind it
  pub record Ticks : Type 0 where
    pub stamping : (t : Table) → P t [] (stamping t)
    pub running : (t : Table) (b : Bool) → nat_lt t.top (t.frame + 1) ≡ b → P t [] (running b o t)
    pub behind : TurnsBehind

  -- it holds also of each part of the moves of the queue
  pub record Moves : Type 0 where
    pub moving : (v : Move) (t : Table) (m : Member) → On t m → MayMove v m → P t (told_moved v m) (with_member (moved v t m) t)
    -- a member that enters is told all entries above its map
    pub recalls : (t : Table) (m : Member) → On t m → rank m.status ≡ 8 → P t (step (m.conn ∷ []) (Entries m.map_frame) ∷ []) t
    -- one in the queue is told that it waits
    pub waits_on : (t : Table) (conn n : ℕ) → Within (conn ∷ []) t.queue → P t (step (conn ∷ []) (Msg (ServerWait (min n 255))) ∷ []) t
    -- the queue gets one more, or one less
    pub stands : (t : Table) (m : Member) → On t m → P t [] (record t { queue = t.queue ++ m.conn ∷ [] })
    pub cuts : (t : Table) (place : ℕ) → P t [] (record t { queue = take place t.queue ++ drop (place + 1) t.queue })
    -- a member ends, and is one no longer
    pub ends_one : (t : Table) (m : Member) → On t m → P t (step (m.conn ∷ []) End ∷ []) t
    pub parts : (t : Table) (m : Member) → On t m → P t [] (without_member m.conn t)
    -- a member that has just come into the game is told the frame, with a fresh token
    pub greets : (t : Table) (m : Member) → On t m → rank m.status ≡ 8 → Of t (tells_fresh m t)

  module _ (w : Base) where
    -- ---- rules joined

    pub of-then : (t : Table) (d : Deed) (rule : Table → Deed) → Of t d → Of d.table (rule d.table) → Of t (d ▹ rule)
    of-then t d rule a b = w.joins t d.table (rule d.table).table d.told (rule d.table).told a b

    pub of-where : (b : Bool) (rule : Table → Deed) (t : Table) → (b ≡ true → Of t (rule t)) → Of t (where_ b rule t)
    of-where true rule t h = h refl
    of-where false rule t h = w.still t

    pub of-some : {A : Type 0} (x : Option A) (rule : A → Table → Deed) (t : Table) → ((y : A) → x ≡ Some y → Of t (rule y t))
        → Of t (where_some x rule t)
    of-some None rule t h = w.still t
    of-some (Some y) rule t h = h y refl

    pub on-turned : (c : Change) (t : Table) (m : Member) → On t m → On (turned_in c t m) (turned c t m)
    on-turned c t m on = put-among (turned c t m) m t.members (turned-conn c t m) on

    -- ---- those that play, and admins

    pub of-playing : (t : Table) (msg : GameMsg) → IsTalk o e t msg → Of t (tells_playing msg t)
    of-playing t msg talk = w.tells_some t (playing t) (Msg msg) (λ c h. h) talk

    pub of-seen : (kind : ℕ) (r : Report) (t : Table) → IsReport o e t r → P t (step (watching kind t) (ToAdmin r) ∷ []) t
    of-seen kind r t is = w.tells_admins t (watching kind t) r (record {
      within = λ c h. all-of-filter (λ (a : Admin). a.conn) (is_automatic kind) c t.admins h;
      turn = inl (λ c h. map-filter-not (λ (a : Admin). a.conn) (λ a. a.joined) (λ a. has_bit automatic_bit (slice_index a.bits kind)) c
          t.admins h);
    }) is

    pub of-watched : (kind : ℕ) (msg : AdminMsg) (t : Table) → IsNotice o e t msg
        → P t (step (watching kind t) (ToAdmin (Message msg)) ∷ []) t
    of-watched kind msg t is = of-seen kind (Message msg) t is

    among-conn : (c : ℕ) (admins : List Admin) (a : Admin) → Among a admins → NotIn c (admin_conns admins) → IsOther c a.conn
    among-conn c [] a there h = absurd there
    among-conn c (x ∷ xs) a (inl here) h = subst (λ (y : Admin). IsOther c y.conn) here h.0
    among-conn c (x ∷ xs) a (inr later) h = among-conn c xs a later h.1

    of-told : (reports : List Report) (t : Table) (conn : ℕ) → ((r : Report) → MayTell e t (conn ∷ []) r)
        → AllByRecursion (IsReport o e t) reports → Of t (tells_admin conn reports t)
    of-told [] t conn may are = w.still t
    of-told (r ∷ reports) t conn may are =
        w.joins t t t _ _ (w.tells_admins t (conn ∷ []) r (may r) are.0) (of-told reports t conn may are.1)

    -- by its own event
    pub of-reports : (reports : List Report) (t : Table) (a : Admin) → OnAdmin t a → Names e a.conn
        → AllByRecursion (IsReport o e t) reports → Of t (tells_admin a.conn reports t)
    of-reports reports t a on own are = of-told reports t a.conn (λ r. record {
      within = λ c h. (among-conn c t.admins a on h, tt);
      turn = inr (a.conn, refl, inl own);
    }) are

    -- what admins are told on a day that begins
    of-each-told : (day : ℕ) (admins : List Admin) (t : Table) → AllByRecursion (λ a. Among a (filter (λ a. a.joined) t.admins)) admins
        → Of t (each_told day admins t)
    of-each-told day [] t on = w.still t
    of-each-told day (a ∷ admins) t on =
        let joined : List Admin = filter (λ a. a.joined) t.admins in
        let d : Deed = tells_admin a.conn (due_reports day a t) t in
        of-then t d (each_told day admins) (of-told (due_reports day a t) t a.conn (λ r. record {
          within = λ c h. (among-conn c joined a on.0 (all-of-filter (λ (b : Admin). b.conn) (λ b. b.joined) c t.admins h), tt);
          turn = inl (λ c h. (among-conn c joined a on.0 h, tt));
        }) (due-known o e day a t)) (of-each-told day admins t on.1)

    pub of-admins-told : (before : ℕ) (t : Table) → Of t (admins_told before o t)
    of-admins-told before t =
        let day : ℕ = (world_of o t).day in
        of-where (not (day == before)) (day_told day) t (λ is. of-each-told day (filter (λ a. a.joined) t.admins) t
        (all-among (filter (λ a. a.joined) t.admins)))

    -- ---- stamps, and the frame

    pub of-entries : (es : List Entry) (t : Table) → AllByRecursion (λ x. Among x t.journal) es → Of t (tells_entries es t)
    of-entries [] t there = w.still t
    of-entries (x ∷ es) t there =
        let d : Deed = tells_what (playing t) (Stamp x) t ▹ sees_stamp x in
        let told : Of t d = w.joins t t t _ _ (w.tells_some t (playing t) (Stamp x) (λ c h. h) there.0)
        (of-watched command_updates _ t (x, there.0, refl, refl, refl, refl)) in
        of-then t d (tells_entries es) told (of-entries es t there.1)

    pub of-frame-by : (b : Bool) (t : Table) (m : Member) → (m.token == 0) ≡ b → On t m → 8 ≤ rank m.status → Of t (tells_frame_by b m t)
    of-frame-by true t m is on high = w.turns gets_token t m on (high, eqb-true m.token 0 is) tt refl
    of-frame-by false t m is on high = w.turns gets_frame t m on high tt refl

    pub of-frame : (t : Table) (m : Member) → On t m → Of t (tells_frame m t)
    of-frame t m on = of-where (is_playing m) (tells_frame_by (m.token == 0) m) t (λ plays. of-frame-by (m.token == 0) t m refl on
        (leb-true 8 (rank m.status) plays))

    pub of-frames : (ms : List Member) (t : Table) → Of t (frames_told ms t)
    of-frames [] t = w.still t
    of-frames (m ∷ ms) t =
        let d : Deed = where_some (member_of t m.conn) tells_frame t in
        of-then t d (frames_told ms) (of-some (member_of t m.conn) tells_frame t (λ n is. of-frame t n (on-found t m.conn n is)))
        (of-frames ms d.table)

    -- ---- the moves of the queue, where it holds of their parts

    module _ (moves : Moves) where
      -- a member ends; those that stay learn it, and so do admins
      of-farewell : (f : Farewell) (m : Member) (t : Table) → On t m → IsFarewell e m f
          → Of t (tells_what (m.conn ∷ []) End (without_member m.conn t) ▹ tells_farewell f m)
      of-farewell Quitting m t on is =
          let u : Table = without_member m.conn t in
          let a = w.joins t t t _ _ (moves.ends_one t m on) (w.tells_some t (playing u) (Msg (news_of Quitting m)) (still-playing m.conn t)
          (m, on, refl)) in
          w.joins t t u _ [] (w.joins t t t _ _ a (of-watched client_updates _ t (m, on, refl))) (moves.parts t m on)
      of-farewell (Failing code) m t on is =
          let u : Table = without_member m.conn t in
          let a = w.joins t t t _ _ (moves.ends_one t m on) (w.tells_some t (playing u) (Msg (news_of (Failing code) m))
          (still-playing m.conn t) (m, on, refl, is)) in
          w.joins t t u _ [] (w.joins t t t _ _ a (of-watched client_updates _ t (m, on, refl, is))) (moves.parts t m on)

      of-parting : (b : Bool) (f : Farewell) (m : Member) (t : Table) → On t m → IsFarewell e m f
          → Of t (tells_what (m.conn ∷ []) End (without_member m.conn t) ▹ where_ b (tells_farewell f m))
      of-parting true f m t on is = of-farewell f m t on is
      of-parting false f m t on is = w.joins t t (without_member m.conn t) _ [] (moves.ends_one t m on) (moves.parts t m on)

      of-moved-up : (place : ℕ) (conns : List ℕ) (t : Table) → Within conns t.queue → Of t (moved_up place conns t)
      of-moved-up place [] t in_queue = w.still t
      of-moved-up zero (conn ∷ conns) t in_queue =
          let d : Deed = begins conn t in
          of-then t d (moved_up 1 conns) (of-some (member_of t conn) begins_where t (λ m is. of-where (is_in MapWait m) (begins_for m) t
          (λ waiting. moves.moving begins_map t m (on-found t conn m is) (eqb-true (rank m.status) 5 waiting))))
          (of-moved-up 1 conns d.table (begun-within (member_of t conn) conns t (λ c h. (in_queue c h).1)))
      of-moved-up (suc place) (conn ∷ conns) t in_queue =
          of-then t (waits conn (suc place) t) (moved_up (suc (suc place)) conns)
          (moves.waits_on t conn (suc place) (λ c h. ((in_queue c h).0, tt)))
          (of-moved-up (suc (suc place)) conns t (λ c h. (in_queue c h).1))

      of-left : (place : ℕ) (t : Table) → Of t (left_place place t)
      of-left place t =
          let behind : List ℕ = drop (place + 1) t.queue in
          let u : Table = record t { queue = take place t.queue ++ behind } in
          w.joins t u _ [] _ (moves.cuts t place) (of-moved-up place behind u (λ c h. none-behind c (take place t.queue) behind h))

      pub of-leaves-queue : (conn : ℕ) (t : Table) → Of t (leaves_queue conn t)
      of-leaves-queue conn t = of-some (position (λ c. c == conn) t.queue) left_place t (λ place is. of-left place t)

      pub of-leaves : (t : Table) (m : Member) (farewell : Farewell) → On t m → IsFarewell e m farewell → Of t (leaves m farewell t)
      of-leaves t m farewell on is =
          let d : Deed = tells_what (m.conn ∷ []) End (without_member m.conn t) ▹ where_ (is_welcomed m) (tells_farewell farewell m) in
          of-then t d (leaves_queue m.conn) (of-parting (is_welcomed m) farewell m t on is) (of-leaves-queue m.conn d.table)

      pub of-asks : (t : Table) (m : Member) → On t m → rank m.status ≡ 4 → Of t (asks m t)
      of-asks t m on at =
          let n : Member = now_in MapWait t m in
          let u : Table = with_member n t in
          let v : Table = record u { queue = t.queue ++ m.conn ∷ [] } in
          let there : P t [] v = w.joins t u v [] [] (moves.moving queues t m on at) (moves.stands u n (put-among n m t.members refl on)) in
          w.joins t v _ [] _ there (of-moved-up (length t.queue) (m.conn ∷ []) v (λ c h. none-behind c t.queue (m.conn ∷ []) h))

      of-infos : (ms : List Member) (t : Table) (m : Member) → AllByRecursion (λ n. On t n) ms → On t m
          → Of t (tells_each m.conn (map client_info ms) t)
      of-infos [] t m there on = w.still t
      of-infos (n ∷ ns) t m there on =
          w.joins t t t _ _ (w.tells_one t m (client_info n) on (n, there.0, refl, refl, refl)) (of-infos ns t m there.1 on)

      pub of-enters : (t : Table) (m : Member) → On t m → rank m.status ≡ 7 → Of t (enters m t)
      of-enters t m on at =
          let n : Member = moved loads t m in
          let u : Table = with_member n t in
          let here : On u n = put-among n m t.members refl on in
          let a : Deed = tells_each m.conn (map client_info (welcomed t)) u in
          let b : Deed = a ▹ tells_what (m.conn ∷ []) (Entries m.map_frame) in
          let c : Deed = b ▹ tells_fresh n in
          let infos : List Step = (tells_each m.conn (map client_info (welcomed t)) t).told in
          let pa : Of t a = subst (λ (steps : List Step). P t steps u) (append-nil infos) (w.joins t t u infos []
          (of-infos (welcomed t) t m (all-filter (λ n. On t n) is_welcomed t.members (all-among t.members)) on)
          (moves.moving loads t m on at)) in
          let pb : Of t b = of-then t a (tells_what (m.conn ∷ []) (Entries m.map_frame)) pa (moves.recalls u n here refl) in
          let pc : Of t c = of-then t b (tells_fresh n) pb (moves.greets u n here refl) in
          of-then t c (leaves_queue m.conn) pc (of-leaves-queue m.conn c.table)

  module _ (w : Walk) where
    -- ---- packets

    pub of-ends : (t : Table) (m : Member) (code : ℕ) → On t m → code ≤ 20 → Of t (ends m code t)
    of-ends t m code on low = of-then w.base t (tells (m.conn ∷ []) (ServerError code) t) (leaves m (Failing code))
        (w.base.tells_one t m (ServerError code) on low) (w.goes t m (Failing code) on (inl low))

    of-welcomes : (t : Table) (m : Member) (name : List ℕ) (asked : ℕ) → On t m → Asks o e t m name asked
        → Of t (welcomes o (record m { name = name; asked = asked }) t)
    of-welcomes t m name asked on may =
        let c : Change = is_let_in name asked in
        let u : Table = turned_in c t m in
        let known : IsSeated u m.client (turned c t m).company name = (turned c t m, on-turned w.base c t m on, refl, refl, refl) in
        w.base.joins t u u _ _ (w.base.joins t u u _ _ (w.base.turns c t m on may tt refl)
        (of-playing w.base u (client_info (turned c t m)) known))
        (of-watched w.base client_updates _ u known)

    of-company : (digest : Option (List ℕ)) (t : Table) (m : Member) (name : List ℕ) (asked : ℕ) → On t m → Asks o e t m name asked
        → Of t (company_step_by digest o (record m { name = name; asked = asked }) t)
    of-company None t m name asked on may = of-welcomes t m name asked on may
    of-company (Some digest) t m name asked on may = w.base.turns (wants_password false name asked) t m on may tt refl

    of-password : (password : List ℕ) (t : Table) (m : Member) (name : List ℕ) (asked : ℕ) → On t m → Asks o e t m name asked
        → Of t (password_step_by password o (record m { name = name; asked = asked }) t)
    of-password [] t m name asked on may = of-company (digest_of t asked) t m name asked on may
    of-password (b ∷ bs) t m name asked on may = w.base.turns (wants_password true name asked) t m on may tt refl

    of-active : (t : Table) (m : Member) → On t m → rank m.status ≡ 8 → is_tick e ≡ false → Of t (becomes_active m t)
    of-active t m on at still =
        let u : Table = turned_in plays t m in
        let to : List ℕ = filter (λ c. not (c == m.conn)) (playing t) in
        let others : Within to (playing t) = λ c h. all-filter (IsOther c) (λ x. not (x == m.conn)) (playing t) h in
        let told : P t (step to (Msg (ServerJoin m.client)) ∷ []) u =
        w.base.joins t t u _ _ (w.base.tells_some t to (Msg (ServerJoin m.client)) others (m, on, refl))
        (w.base.turns plays t m on at tt refl) in
        let news : Report = Message (admins.ServerClientJoin m.client) in
        let seen : P t (step to (Msg (ServerJoin m.client)) ∷ step (watching client_updates u) (ToAdmin news)
        ∷ []) u = w.base.joins t u u _ _ told (of-watched w.base client_updates _ u
        (turned plays t m, on-turned w.base plays t m on, refl)) in
        w.base.joins t u _ _ _ seen (of-where w.base (m.asked == founder) (asks_company (turned plays t m)) u
        (λ is. w.orders u (new_company (turned plays t m)) (inl (turned plays t m, on-turned w.base plays t m on, refl)) still))

    acked-status : (frame token : ℕ) (m : Member) → (acknowledged frame token m).status ≡ m.status
    acked-status frame token m = by (token == 0)
      where
        by : (b : Bool) → (record (cond b m (closed_token m)) { acked = frame }).status ≡ m.status
        by true = refl
        by false = refl

    first-true : (x y : Bool) → x && y ≡ true → x ≡ true
    first-true true y is = refl
    first-true false y is = is

    of-acknowledges : (t : Table) (m : Member) (frame token : ℕ) → On t m → Allows o e t m (ClientAck frame token)
        → Says e m (ClientAck frame token) → Of t (acknowledges m frame token t)
    of-acknowledges t m frame token on allowed said =
        let c : Change = answers frame token in
        let n : Member = turned c t m in
        let u : Table = turned_in c t m in
        w.base.joins t u _ _ _ (w.base.turns c t m on allowed said refl) (of-where w.base (has_caught_up frame t m) (becomes_active n) u
        (λ yes. of-active u n (on-turned w.base c t m on) (ap rank (acked-status frame token m)
        ∙ eqb-true (rank m.status) 8 (first-true (is_in PreActive m) (nat_le t.frame (frame + 74)) yes))
        (ap (λ (d : Event). is_tick d) said.2)))

    of-chats : (t : Table) (client scope to : ℕ) (text : List ℕ) → IsChat e t client scope text → Of t (chats client scope to text t)
    of-chats t client scope to text is =
        w.base.joins t t t _ _ (w.base.tells_some t _ (Msg (ServerChat client scope text))
        (λ c h. map-filter-not (λ (m : Member). m.conn) is_playing (is_in_scope scope to) c t.members h) is)
        (of-watched w.base chat_updates _ t is)

    of-renames : (t : Table) (m : Member) (name : List ℕ) → On t m → Allows o e t m (ClientSetName name) → Of t (renames m name t)
    of-renames t m name on allowed =
        let c : Change = has_name name in
        let u : Table = turned_in c t m in
        let known : IsSeated u m.client m.company (turned c t m).name = (turned c t m, on-turned w.base c t m on, refl, refl, refl) in
        w.base.joins t u u _ _ (w.base.joins t u u _ _ (w.base.turns c t m on allowed tt refl) (of-playing w.base u _ known))
        (of-watched w.base client_updates _ u known)

    pub of-moves : (t : Table) (m : Member) (company : ℕ) → On t m → P t [] (with_member (record m { company = company }) t)
        → Of t (moves m company t)
    of-moves t m company on turn =
        let n : Member = record m { company = company } in
        let u : Table = with_member n t in
        let here : On u n = put-among n m t.members refl on in
        w.base.joins t u u _ _ (w.base.joins t u u _ _ turn (of-playing w.base u _ (n, here, refl, refl)))
        (of-watched w.base client_updates _ u (n, here, refl, refl, refl))

    -- what was asked for before stands
    asked-before : (t : Table) (m : Member) (r : ℕ) → rank m.status ≡ r → 2 ≤ r → r ≤ 3 → Asks o e t m m.name m.asked
    asked-before t m r at low high = inl (refl, refl, omega (arith, at, low), omega (arith, at, high))

    pub of-does : (t : Table) (m : Member) (msg : GameMsg) → On t m → Allows o e t m msg → Says e m msg → Of t (does o m msg t)
    of-does t m (ClientJoin revision grf name company) on a says =
        of-password o.setup.password t m (given_name t m.conn name) company on
        (inr (eqb-true (rank m.status) 0 a.permits, (revision, grf, name, refl, a)))
    of-does t m ClientGameInfo on a says = w.base.tells_one t m _ on (refl, refl, min-le_right (length (welcomed t)) 255, refl, refl)
    of-does t m (ClientGamePassword digest) on a says = of-company (digest_of t m.asked) t m m.name m.asked on
        (asked-before t m 2 (eqb-true (rank m.status) 2 a.permits) (omega arith) (omega arith))
    of-does t m (ClientCompanyPassword digest) on a says = of-welcomes t m m.name m.asked on
        (asked-before t m 3 (eqb-true (rank m.status) 3 a.permits) (omega arith) (omega arith))
    of-does t m ClientGetmap on a says = w.asks_map t m on (eqb-true (rank m.status) 4 a.permits)
    of-does t m ClientMapOk on a says = w.enters_game t m on (eqb-true (rank m.status) 7 a.permits)
    of-does t m (ClientAck frame token) on a says = of-acknowledges t m frame token on a says
    of-does t m (ClientCommand company code number to text) on a says =
        of-some w.base (command_of code number to text) _ t (λ command is. w.base.turns (commands company code number to text command) t m
        on (is, a) says refl)
    of-does t m (ClientChat scope to text) on a says = of-chats t m.client scope to text (inl (m, on, refl, to, says))
    of-does t m (ClientSetName name) on a says = of-renames t m name on a
    of-does t m (ClientSetPassword digest) on a says = w.locks t m digest on a
    of-does t m (ClientMove company digest) on a says = of-moves t m company on
        (w.base.turns (goes_to company digest) t m on a tt refl)
    of-does t m (ClientError code) on a says = w.goes t m (Failing code) on (inr says)
    of-does t m ClientQuit on a says = w.goes t m Quitting on tt
    of-does t m other on a says = w.base.still t

    -- the packet of this member that spells this, or nothing
    abbrev pub IsPacket : Member → Option GameMsg → Type 0
    IsPacket m None = Unit
    IsPacket m (Some msg) = Says e m msg

    of-said : (said : Option GameMsg) (t : Table) (m : Member) → On t m → IsPacket m said → judged o t m said ≡ Allowed
        → Of t (where_some said (does o m) t)
    of-said None t m on says is = w.base.still t
    of-said (Some msg) t m on says is = of-does t m msg on (allows o e t m msg says is) says

    of-verdict : (v : Verdict) (said : Option GameMsg) (t : Table) (m : Member) → judged o t m said ≡ v → On t m → IsPacket m said
        → Of t (by_verdict v o m said t)
    of-verdict Allowed said t m is on says = of-said said t m on says is
    of-verdict (Ends code) said t m is on says = of-ends t m code on (subst IsCodeOf is (judged-code o t m said))

    pub of-heard : (said : Option GameMsg) (t : Table) (m : Member) → On t m → IsPacket m said → Of t (heard o said m t)
    of-heard said t m on says = of-verdict (judged o t m said) said t m refl on says

    is-packet : (said : Option GameMsg) (kind : ℕ) (body : List ℕ) (m : Member) → read_msg kind body ≡ said → e ≡ Packet m.conn kind body
        → IsPacket m said
    is-packet None kind body m is by = tt
    is-packet (Some msg) kind body m is by = (kind, body, by, is)

    -- ---- the side door

    of-admin-ends : (t : Table) (a : Admin) (code : ℕ) → OnAdmin t a → code ≤ 20 → Of t (admin_ends a code t)
    of-admin-ends t a code on low = of-then w.base t _ (admin_leaves a) (w.base.tells_admins t (a.conn ∷ []) (Message
        (admins.ServerError code))
        (record { within = λ c h. (among-conn w.base c t.admins a on h, tt); turn = inr (a.conn, refl, inr (code, refl)) }) low)
        (w.goes_aside t a on)

    of-console : (command : ConsoleCommand) (line : List ℕ) (t : Table) → is_tick e ≡ false → SaysAside e (AdminRcon line)
        → command_in line ≡ command → Of t (console_does command t)
    of-console (pauses paused) line t still says is = w.orders t (pause paused) (inr (paused, refl)) still
    of-console (kicks client) line t still says is = of-some w.base (member_with client t) kicks_out t (λ m found. of-ends t m 12
        (found-among (λ m. m.client == client) m t.members found) (omega arith))
    of-console (announces text) line t still says is = of-chats t 1 0 0 text (inr (inr (refl, refl, line, says, is)))
    of-console other line t still says is = w.base.still t

    of-obeys : (command : ConsoleCommand) (text : List ℕ) (t : Table) (a : Admin) → OnAdmin t a → Names e a.conn → is_tick e ≡ false
        → SaysAside e (AdminRcon text) → command_in text ≡ command → Of t (obeys command a.conn text t)
    of-obeys command text t a on own still says is =
        let reports : List Report = lines_of command t ++ Message (admins.ServerRconEnd text) ∷ [] in
        let d : Deed = sees_console text t ▹ tells_admin a.conn reports in
        of-then w.base t d (console_does command) (w.base.joins t t t _ _ (of-watched w.base console_updates _ t
        (refl, says)) (of-reports w.base reports t a on own (all-append (IsReport o e t) (lines_of command t)
        (Message (admins.ServerRconEnd text) ∷ []) (lines-known o e command t) (says, tt))))
        (of-console command text t still says is)

    of-admin-joins : (t : Table) (a : Admin) → OnAdmin t a → Names e a.conn → Of t (admin_joins a t)
    of-admin-joins t a on own =
        let b : Admin = record a { joined = true } in
        let u : Table = with_admin b t in
        w.base.joins t u u [] _ (w.settles t a b on (refl, refl, own)) (of-reports w.base admin_greeting u b
        (put-admin-among b a t.admins refl on) own ((refl, refl), (tt, tt)))

    of-admin-does : (msg : AdminMsg) (t : Table) (a : Admin) → OnAdmin t a → Names e a.conn → is_tick e ≡ false → SaysAside e msg
        → Of t (admin_does a msg t)
    of-admin-does (admins.AdminJoin password application version) t a on own still says = of-admin-joins t a on own
    of-admin-does admins.AdminQuit t a on own still says = w.goes_aside t a on
    of-admin-does (admins.AdminUpdateFrequency kind bits) t a on own still says = w.settles t a _ on (refl, refl, own)
    of-admin-does (admins.AdminPoll kind id) t a on own still says = of-reports w.base (poll_answers kind id t) t a on own
        (polls-known o e kind id t)
    of-admin-does (admins.AdminChat scope to text) t a on own still says = of-chats t 1 scope to text (inr (inl (refl, to, says)))
    of-admin-does (admins.AdminRcon text) t a on own still says = of-obeys (command_in text) text t a on own still says refl
    of-admin-does (admins.AdminPing id) t a on own still says = of-reports w.base (Message (admins.ServerPong id) ∷ []) t a on own
        (says, tt)
    of-admin-does other t a on own still says = w.base.still t

    -- a packet spells this, or nothing
    abbrev pub IsPacketAside : Option AdminMsg → Type 0
    IsPacketAside None = Unit
    IsPacketAside (Some msg) = SaysAside e msg

    of-admin-said : (said : Option AdminMsg) (t : Table) (a : Admin) → OnAdmin t a → Names e a.conn → is_tick e ≡ false → IsPacketAside said
        → Of t (where_some said (admin_does a) t)
    of-admin-said None t a on own still says = w.base.still t
    of-admin-said (Some msg) t a on own still says = of-admin-does msg t a on own still says

    of-admin-verdict : (v : Verdict) (said : Option AdminMsg) (t : Table) (a : Admin) → OnAdmin t a → Names e a.conn → is_tick e ≡ false
        → IsPacketAside said → IsCodeOf v → Of t (by_admin_verdict v a said t)
    of-admin-verdict Allowed said t a on own still says low = of-admin-said said t a on own still says
    of-admin-verdict (Ends code) said t a on own still says low = of-admin-ends t a code on low

    pub of-admin-hears : (said : Option AdminMsg) (t : Table) (a : Admin) → OnAdmin t a → Names e a.conn → is_tick e ≡ false
        → IsPacketAside said
        → Of t (admin_hears o said a t)
    of-admin-hears said t a on own still says =
        of-admin-verdict (admin_judged o a said) said t a on own still says (admin-judged-code o a said)

    pub is-packet-aside : (said : Option AdminMsg) (kind : ℕ) (body : List ℕ) → read_admin kind body ≡ said → (IsEvent e → IsBytes body)
        → IsPacketAside said
    is-packet-aside None kind body is by = tt
    is-packet-aside (Some msg) kind body is by = (kind, body, by, is)

    of-admins-limited : (admins : List Admin) (t : Table) → Of t (each_admin_limited o admins t)
    of-admins-limited [] t = w.base.still t
    of-admins-limited (a ∷ admins) t =
        let d : Deed = where_some (admin_of t a.conn) (admin_limited o) t in
        of-then w.base t d (each_admin_limited o admins)
        (of-some w.base (admin_of t a.conn) (admin_limited o) t (λ b is. of-where w.base (is_slow o t.frame b) (admin_ends b 17) t
        (λ slow. of-admin-ends t b 17 (found-among (is_admin_on a.conn) b t.admins is) (omega arith))))
        (of-admins-limited admins d.table)

    -- ---- the steps of a tick behind the frame

    of-all-moved : TurnsBehind → (fs : List (ℕ × ℕ)) (t : Table) → AllByRecursion (λ (f : ℕ × ℕ). f.1 < length o.start.companies) fs
        → Of t (all_moved fs t)
    of-all-moved behind [] t low = w.base.still t
    of-all-moved behind (f ∷ fs) t low =
        let rule : Member → Table → Deed = λ m. moves m f.1 in
        let d : Deed = where_some (member_with f.0 t) rule t in
        of-then w.base t d (all_moved fs)
        (of-some w.base (member_with f.0 t) rule t (λ m is. let on = found-among (λ m. m.client == f.0) m t.members is in
        of-moves t m f.1 on (behind (founds f.1) t m on low.0 refl)))
        (of-all-moved behind fs d.table low.1)

    pub loading-is : (x : Option Member) (m : Member) → if_loading x ≡ Some m → (x ≡ Some m) × (rank m.status ≡ 6)
    loading-is None m is = absurd cc
    loading-is (Some n) m is = by (rank n.status == 6) refl is
      where
        by : (b : Bool) → (rank n.status == 6) ≡ b → cond b (Some n) None ≡ Some m → (Some n ≡ Some m) × (rank m.status ≡ 6)
        by true at same = (same, let e : n ≡ m = cc in subst (λ (k : Member). rank k.status ≡ 6) e (eqb-true (rank n.status) 6 at))
        by false at same = absurd cc

    pub loader-on : (t : Table) (m : Member) → downloader t ≡ Some m → On t m × (rank m.status ≡ 6)
    loader-on t m is = by t.queue is
      where
        by : (q : List ℕ) → first_loading q t ≡ Some m → On t m × (rank m.status ≡ 6)
        by [] none = absurd cc
        by (conn ∷ conns) some = let found = loading-is (member_of t conn) m some in (on-found t conn m found.0, found.1)

    of-pieces : TurnsBehind → (left : List ℕ) (t : Table) (m : Member) → On t m → rank m.status ≡ 6 → Of t (next_pieces left m t)
    of-pieces behind left t m on at =
        let c : Change = gets_pieces left in
        let n : Member = turned c t m in
        let u : Table = turned_in c t m in
        w.base.joins t u _ _ _ (behind c t m on at refl) (of-where w.base (not (nat_lt (4 * 1400) (length left))) (finishes_map n) u
        (λ all. behind has_all u n (on-turned w.base c t m on) at refl))

    of-each-limited : (ms : List Member) (t : Table) → Of t (each_limited o ms t)
    of-each-limited [] t = w.base.still t
    of-each-limited (m ∷ ms) t =
        let d : Deed = where_some (member_of t m.conn) (limited o) t in
        of-then w.base t d (each_limited o ms)
        (of-some w.base (member_of t m.conn) (limited o) t (λ n is. of-some w.base (late o.setup t.frame n) (ends n) t
        (λ code is_late. of-ends t n code (on-found t m.conn n is) (subst IsCode is_late (late-code o.setup t.frame n)))))
        (of-each-limited ms d.table)

    of-synced : (t : Table) → Of t (synced o t)
    of-synced t = of-where w.base (t.frame % o.setup.sync_freq == 0) _ t (λ is. w.base.tells_some t (playing t) Sync (λ c h. h) tt)

    pub of-mapped : TurnsBehind → (left : List ℕ) (t : Table) → Of t (mapped left t)
    of-mapped behind left t = of-some w.base (downloader t) (next_pieces left) t (λ m is. let found = loader-on t m is in
        of-pieces behind left t m found.0 found.1)

    -- the companies that were founded: each goes to its founder
    of-founders : TurnsBehind → (before : WorldState) (t : Table) → length before.companies ≡ length o.start.companies
        → Of t (founders_moved o (living before) t)
    of-founders behind before t places = of-all-moved behind (foundings (living before) (at_frame o t.frame t.journal)) t
        (foundings-low (length o.start.companies) (living before) (at_frame o t.frame t.journal) (length-map before.companies is_some
        ∙ places))

    -- what ends a tick: time limits, and what admins are told
    pub of-limits : (before : ℕ) (t : Table) → Of t (timed o t ▹ admins_limited o ▹ admins_told before o)
    of-limits before t =
        let d : Deed = timed o t in
        let e : Deed = d ▹ admins_limited o in
        let pe : Of t e = of-then w.base t d (admins_limited o) (of-each-limited t.members t)
        (of-admins-limited d.table.admins d.table) in of-then w.base t e (admins_told before o) pe (of-admins-told w.base before e.table)

    pub of-follows-by : (before : WorldState) (left : List ℕ) (t : Table) → Of t (founders_moved o (living before) t)
        → ((u : Table) → Of u (mapped left u)) → Of t (frame_follows before left o t)
    of-follows-by before left t pa pieces =
        let a : Deed = founders_moved o (living before) t in
        let b : Deed = a ▹ synced o in
        let c : Deed = b ▹ mapped left in
        let d : Deed = c ▹ timed o in
        let e : Deed = d ▹ admins_limited o in
        let pb : Of t b = of-then w.base t a (synced o) pa (of-synced a.table) in
        let pc : Of t c = of-then w.base t b (mapped left) pb (pieces b.table) in
        let pd : Of t d = of-then w.base t c (timed o) pc (of-each-limited c.table.members c.table) in
        let pe : Of t e = of-then w.base t d (admins_limited o) pd (of-admins-limited d.table.admins d.table) in
        of-then w.base t e (admins_told before.day o) pe (of-admins-told w.base before.day e.table)

    pub of-follows : TurnsBehind → (before : WorldState) (left : List ℕ) (t : Table)
        → length before.companies ≡ length o.start.companies → Of t (frame_follows before left o t)
    of-follows behind before left t places = of-follows-by before left t (of-founders behind before t places)
        (of-mapped behind left)

    -- ---- events

    of-named : (x : Option Member) (y : Option Admin) (f : Member → Table → Deed) (g : Admin → Table → Deed) (t : Table)
        → ((m : Member) → x ≡ Some m → Of t (f m t)) → ((a : Admin) → y ≡ Some a → Of t (g a t)) → Of t (to_named x y f g t)
    of-named (Some m) y f g t p q = p m refl
    of-named None y f g t p q = of-some w.base y g t q

    of-conn : (conn : ℕ) (f : Member → Table → Deed) (g : Admin → Table → Deed) (t : Table) → ((m : Member) → On t m → m.conn ≡ conn
        → Of t (f m t)) → ((a : Admin) → OnAdmin t a → conn ≡ a.conn → Of t (g a t)) → Of t (on_conn conn f g t)
    of-conn conn f g t p q = of-named (member_of t conn) (admin_of t conn) f g t (λ m is. p m (on-found t conn m is)
        (found-on conn t.members m is)) (λ a is. q a (found-among (is_admin_on conn) a t.admins is)
        (sym (eqb-true a.conn conn (found-passes (is_admin_on conn) a t.admins is))))

    -- the event names the connection of its admin
    named-is : (d : Event) (c : ℕ) → e ≡ d → Names d c → Names e c
    named-is d c is own = subst (λ (x : Event). Names x c) (sym is) own

    of-packet : (conn kind : ℕ) (body : List ℕ) (t : Table) → e ≡ Packet conn kind body → Of t (by_event o (Packet conn kind body) t)
    of-packet conn kind body t is =
        of-conn conn _ _ t (λ m on at. of-heard (read_msg kind body) t m on (is-packet (read_msg kind body) kind body m refl (is
        ∙ ap (λ (c : ℕ). Packet c kind body) (sym at)))) (λ a on at. of-admin-hears (read_admin kind body) t a on
        (named-is (Packet conn kind body) a.conn is at) (ap (λ (d : Event). is_tick d) is)
        (is-packet-aside (read_admin kind body) kind body refl (λ bytes. subst IsEvent is bytes)))

    -- an event of a connection, or a stop
    of-event-by : (d : Event) (t : Table) → e ≡ d → is_tick d ≡ false → is_open d ≡ false → Of t (by_event o d t)
    of-event-by (Open door peer) t is still shut = absurd cc
    of-event-by (Packet conn kind body) t is still shut = of-packet conn kind body t is
    of-event-by (Broken conn) t is still shut = of-conn conn _ _ t (λ m on at. of-heard None t m on tt)
        (λ a on at. of-admin-hears None t a on (named-is (Broken conn) a.conn is at) (ap (λ (d : Event). is_tick d) is) tt)
    of-event-by (Shut conn) t is still shut = of-conn conn _ _ t (λ m on at. w.goes t m (Failing 3) on (inl (omega arith)))
        (λ a on at. w.goes_aside t a on)
    of-event-by Tick t is still shut = absurd cc
    of-event-by Stop t is still shut = w.base.still t

    pub of-event : (t : Table) → is_tick e ≡ false → is_open e ≡ false → Of t (by_event o e t)
    of-event t still shut = of-event-by e t refl still shut

    -- and an opening
    of-still-by : Doors → (d : Event) (t : Table) → e ≡ d → is_tick d ≡ false → Of t (by_event o d t)
    of-still-by doors (Open Main peer) t is still = doors.comes t
    of-still-by doors (Open Side peer) t is still = doors.comes_aside t
    of-still-by doors (Packet conn kind body) t is still = of-event-by (Packet conn kind body) t is refl refl
    of-still-by doors (Broken conn) t is still = of-event-by (Broken conn) t is refl refl
    of-still-by doors (Shut conn) t is still = of-event-by (Shut conn) t is refl refl
    of-still-by doors Tick t is still = absurd cc
    of-still-by doors Stop t is still = of-event-by Stop t is refl refl

    pub of-still : Doors → (t : Table) → is_tick e ≡ false → Of t (by_event o e t)
    of-still doors t still = of-still-by doors e t refl still

    -- what follows the rule of an event
    pub of-taken : Closing → (t : Table) → Of t (by_event o e t) → Of t (taken o e t)
    of-taken closing t h =
        let d : Deed = by_event o e t in
        let v : Table = record d.table { cost = d.table.cost + event_cost e } in
        of-then w.base t (d ▹ charged e) (closed o (stops o e t)) (of-then w.base t d (charged e) h (closing.charges d.table))
        (of-where w.base (stops o e t || nat_le o.setup.cost v.cost || (v.frame == last_frame)) shut_down v (λ is. closing.closes v))

    pub of-deed-by : Closing → (t : Table) → (takes t e ≡ true → Of t (by_event o e t)) → Of t (deed o e t)
    of-deed-by closing t h = of-where w.base (takes t e) (taken o e) t (λ is. of-taken closing t (h is))

    -- ---- a tick

    module _ (ticks : Ticks) where
      pub of-stamped : (t : Table) → Of t (stamped t)
      of-stamped t = w.base.joins t (stamping t) _ [] _ (ticks.stamping t) (of-entries w.base (stamps t) (stamping t)
          (last-among t.journal (stamps t)))

      of-runs-by : (b : Bool) (t : Table) → nat_lt t.top (t.frame + 1) ≡ b → Of t (frame_runs_by b o t)
      of-runs-by true t is = w.base.joins t (running true o t) _ [] _ (ticks.running t true is)
          (of-frames w.base t.members (running true o t))
      of-runs-by false t is = ticks.running t false is

      pub of-runs : (t : Table) → Of t (frame_runs o t)
      of-runs t = of-runs-by (nat_lt t.top (t.frame + 1)) t refl

      pub of-ticked : (t : Table) → Of t (ticked o t)
      of-ticked t =
          let a : Deed = stamped t in
          let b : Deed = a ▹ frame_runs o in
          let c : Deed = b ▹ sees_frame in
          let pb : Of t b = of-then w.base t a (frame_runs o) (of-stamped t) (of-runs a.table) in
          of-then w.base t c (frame_follows (world_of o t) (left_of o t) o)
          (of-then w.base t b sees_frame pb (of-seen w.base company_updates CompanyNews b.table tt))
          (of-follows ticks.behind (world_of o t) (left_of o t) c.table (world-places o t.journal t.frame))

      of-any-by : Doors → (d : Event) (t : Table) → e ≡ d → Of t (by_event o d t)
      of-any-by doors Tick t is = of-ticked t
      of-any-by doors (Open door peer) t is = of-still-by doors (Open door peer) t is refl
      of-any-by doors (Packet conn kind body) t is = of-still-by doors (Packet conn kind body) t is refl
      of-any-by doors (Broken conn) t is = of-still-by doors (Broken conn) t is refl
      of-any-by doors (Shut conn) t is = of-still-by doors (Shut conn) t is refl
      of-any-by doors Stop t is = of-still-by doors Stop t is refl

      -- it holds of every event
      pub of-deed : Doors → Closing → (t : Table) → Of t (deed o e t)
      of-deed doors closing t = of-deed-by closing t (λ is. of-any-by doors e t refl)
