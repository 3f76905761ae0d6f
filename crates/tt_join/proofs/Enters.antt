-- From the welcome into the game, openings and ends: the plans do what the book's rules do.
use Rattle.std.proofs.Common.{◌≡◌, ℕ, ◌+◌, List, [], ◌∷◌, ◌++◌, refl, sym, ap, ap₂, ◌∙◌, true, false, Bool, Some}
use Rattle.std.proofs.Common.{zero, suc}
use Rattle.std.proofs.Common.{arith, append_assoc, append-nil}
use Rattle.std.specs.Prelude.{length, ◌==◌, cond, map, filter, find, nat_le}
use Rattle.tt_world.specs.Random.{next_random}
use Rattle.tt_world.specs.declared.command.Code.TheVariants.{NewCompany}
use Rattle.tt_world.specs.declared.command.Entry.{Entry}
use Rattle.tt_world.specs.declared.setup.Setup.{Setup}
use Rattle.tt_game.specs.declared.message.GameMsg.TheVariants.{ServerFrame, ServerJoin}
use Rattle.tt_admin.specs.declared.message.AdminMsg.TheVariants.{ServerClientJoin}
use Rattle.tt_rules.specs.declared.status.Status.TheVariants.{MapWait, PreActive, Active}
use Rattle.tt_log.specs.declared.deed.Step as book
use Rattle.tt_log.specs.declared.deed.What.{What}
use Rattle.tt_log.specs.declared.deed.What.TheVariants.{Entries, Msg}
use Rattle.tt_log.specs.Admin.{Admin, client_updates}
use Rattle.tt_log.specs.Member.{Member, is_playing, is_welcomed, is_in}
use Rattle.tt_log.specs.Table.{Table, member_of, is_on, with_member, now_in}
use Rattle.tt_log.specs.Deed.{Deed, ◌▹◌, where_, becomes, tells}
use Rattle.tt_log.specs.Downloads.{IsQueue}
use Rattle.tt_log.specs.Ending.{Farewell, leaves, ends}
use Rattle.tt_log.specs.Events.{arrives, counted_in, opened}
use Rattle.tt_log.specs.Frames.{fresh_token}
use Rattle.tt_log.specs.Judged.{founder}
use Rattle.tt_log.specs.PacketRules.{acknowledges, becomes_active, asks_company, client_info, closed_token, enters}
use Rattle.tt_log.specs.Queue.{asks, leaves_queue, moved_up}
use Rattle.tt_log.specs.Watching.{sees_active}
use Rattle.tt_members.specs.declared.edit.Edit.{Edit}
use Rattle.tt_members.specs.declared.edit.Edit.TheVariants.{Mark}
use Rattle.tt_members.specs.declared.marks.Marks.{Marks}
use Rattle.tt_members.specs.declared.step.Step.{Step}
use Rattle.tt_members.specs.declared.step.Audience.TheVariants.{One}
use Rattle.tt_members.specs.Crew.{Crew, Rest, table_at}
use Rattle.tt_members.specs.Done.{Does, done, behind}
use Rattle.tt_members.specs.Edits.{marked, members_after, queue_after, place_of, on}
use Rattle.tt_members.specs.Leaving.{but, others}
use Rattle.tt_members.specs.Planned.{Planned}
use Rattle.tt_members.specs.Queues.{beginning, unasking, IsReady}
use Rattle.tt_members.specs.Rules.{Rise}
use Rattle.tt_members.specs.Steps.{stamped_in, steps_in, says, says_one, says_several, shows}
use Rattle.tt_members.proofs.Found.{rise_by}
use Rattle.tt_members.proofs.Left.{moves_up, queue_left, leaves_by, ends_by, ready_left, ready_changed, moving_silent, unasking_silent}
use Rattle.tt_members.proofs.Left.{leaving_silent, ending_silent}
use Rattle.tt_members.proofs.Behind.{silent_append, steps_append}
use Rattle.tt_members.proofs.Marked.{mark_table, found_changed, found_other}
use Rattle.tt_join.specs.Entering.{waiting_marks, asking, entered_marks, infos, entering, entered, acked_marks, catches_up, ordered_if}
use Rattle.tt_join.specs.Entering.{acknowledging_by, acknowledging, leaving_plan, ending_plan, opening}

abbrev book_step : ℕ → What → book.Step
book_step conn w = record { to = conn ∷ []; what = w }

-- ---- plans that stamp nothing

-- the journal is as it was
quiet : (p : Planned) (t : Table) → stamped_in p.steps ≡ [] → done p t ≡ record (done p t) { journal = t.journal }
quiet p t silent = ap (λ (es : List Entry). record (done p t) { journal = es })
    (ap (λ (es : List Entry). t.journal ++ es) silent ∙ append-nil t.journal)

-- ---- one value in the place of another one

again_head : (b : Bool) (n k x : Member) → n.conn ≡ k.conn → (x.conn == k.conn) ≡ b
    → cond ((cond b k x).conn == n.conn) n (cond b k x) ≡ cond (x.conn == n.conn) n x
again_head true n k x same is =
    let e : (k.conn == n.conn) ≡ true = grind (arith, same) in
    let f : (x.conn == n.conn) ≡ true = ap (λ (c : ℕ). x.conn == c) same ∙ is in
    rw (e, f) refl
again_head false n k x same is = refl

put_again : (n k : Member) (ms : List Member) → n.conn ≡ k.conn
    → map (λ x. cond (x.conn == n.conn) n x) (map (λ x. cond (x.conn == k.conn) k x) ms) ≡ map (λ x. cond (x.conn == n.conn) n x) ms
put_again n k [] same = refl
put_again n k (x ∷ ms) same = ap₂ (λ (y : Member) (ys : List Member). y ∷ ys) (again_head (x.conn == k.conn) n k x same refl) (put_again n
    k ms same)

with_again : (n k : Member) (t : Table) → n.conn ≡ k.conn → with_member n (with_member k t) ≡ with_member n t
with_again n k t same = ap (λ (ms : List Member). record t { members = ms }) (put_again n k t.members same)

-- ---- the others that play are the same behind a change of one

but_same : (p : Bool) (conn : ℕ) (k : Member) (xs ys : List Member) → (k.conn == conn) ≡ false → but conn (map (λ m. m.conn) xs) ≡ but conn
    (map (λ m. m.conn) ys)
    → but conn (map (λ m. m.conn) (cond p (k ∷ xs) xs)) ≡ but conn (map (λ m. m.conn) (cond p (k ∷ ys) ys))
but_same true conn k xs ys e same = rw e (ap (λ (cs : List ℕ). k.conn ∷ cs) same)
but_same false conn k xs ys e same = same

but_here : (p : Bool) (conn : ℕ) (k : Member) (ys : List Member) → (k.conn == conn) ≡ true
    → but conn (map (λ m. m.conn) (cond p (k ∷ ys) ys)) ≡ but conn (map (λ m. m.conn) ys)
but_here true conn k ys e = rw e refl
but_here false conn k ys e = refl

others_one : (b : Bool) (f : Member → Member) (conn : ℕ) (k : Member) (ms : List Member) → (k.conn == conn) ≡ b → (f k).conn ≡ k.conn
    → others conn (on conn f ms) ≡ others conn ms → others conn (cond b (f k) k ∷ on conn f ms) ≡ others conn (k ∷ ms)
others_one true f conn k ms e keeps same =
    let h : ((f k).conn == conn) ≡ true = ap (λ (c : ℕ). c == conn) keeps ∙ e in
    but_here (is_playing (f k)) conn (f k) (filter is_playing (on conn f ms)) h ∙ same ∙ sym (but_here (is_playing k) conn k (filter
    is_playing ms) e)
others_one false f conn k ms e keeps same = but_same (is_playing k) conn k (filter is_playing (on conn f ms)) (filter is_playing ms) e same

pub others_on : (f : Member → Member) (conn : ℕ) (ms : List Member) → ((k : Member) → (f k).conn ≡ k.conn) → others conn (on conn f ms) ≡
    others conn ms
others_on f conn [] keeps = refl
others_on f conn (k ∷ ms) keeps = others_one (k.conn == conn) f conn k ms refl (keeps k) (others_on f conn ms keeps)

-- ---- GETMAP

-- the one that asks waits, where nobody else stands in the queue
asks_ready : (place : ℕ) (m : Member) (marks : Marks) (t u : Table) → Rise t.members → member_of t m.conn ≡ Some m → is_in MapWait (marked
    marks m) ≡ true
    → u.members ≡ on m.conn (marked marks) t.members → IsReady place (m.conn ∷ []) u
asks_ready zero m marks t u rise is waits same = (
  marked marks m,
  ap (λ (ms : List Member). find (is_on m.conn) ms) same ∙ found_changed m.conn (marked marks) m t.members (λ k. refl) is,
  waits,
)
asks_ready (suc before) m marks t u rise is waits same = tt

beginning_queue : (frame place : ℕ) (cs queue : List ℕ) → queue_after (beginning frame place cs) queue ≡ queue
beginning_queue frame place [] queue = refl
beginning_queue frame zero (c ∷ cs) queue = refl
beginning_queue frame (suc before) (c ∷ cs) queue = refl

pub ask_does : (setup : Setup) (crew : Crew) (frame top : ℕ) (r : Rest) (m : Member) → Rise crew.members → find (is_on m.conn) crew.members
    ≡ Some m
    → Does setup crew frame top r (λ o t. asks m t) (asking crew.queue frame m)
ask_does setup crew frame top r m rise is =
    let marks : Marks = waiting_marks frame m in
    let t : Table = table_at crew frame top r in
    let place : ℕ = length crew.queue in
    let more : List Edit = beginning frame place (m.conn ∷ []) in
    let u : Table = record (with_member (marked marks m) t) { queue = crew.queue ++ m.conn ∷ [] } in
    let v : Table = record t { members = on m.conn (marked marks) crew.members; queue = crew.queue ++ m.conn ∷ [] } in
    let same : v ≡ u = ap (λ (w : Table). record w { queue = crew.queue ++ m.conn ∷ [] }) (sym (mark_table marks m t rise is)) in
    let ready : IsReady place (m.conn ∷ []) v = asks_ready place m marks t v rise is refl refl in
    let moved = moves_up 0 place (m.conn ∷ []) v (rise_by (Mark m.conn marks) crew.members rise) ready in
    let silent = moving_silent place (m.conn ∷ []) in
    record {
      told = moved.told ∙ ap (λ (w : Table). (asks_behind place m.conn w).told) same;
      table = quiet (asking crew.queue frame m) t silent
          ∙ ap (λ (q : List ℕ). record v { members = members_after more v.members; queue = q })
          (ap (λ (q : List ℕ). q ++ m.conn ∷ []) (beginning_queue frame place (m.conn ∷ []) crew.queue)
          ∙ sym (beginning_queue frame place (m.conn ∷ []) (crew.queue ++ m.conn ∷ [])))
          ∙ moved.table ∙ ap (λ (w : Table). (asks_behind place m.conn w).table) same;
    }
  where
    asks_behind : ℕ → ℕ → Table → Deed
    asks_behind place conn w = moved_up place (conn ∷ []) w

-- ---- MAP_OK

each_told : (conn : ℕ) (admins : List Admin) (ns : List Member)
    → map (λ x. book_step conn (Msg x)) (map client_info ns) ≡ steps_in admins (map (λ n. says_one conn (client_info n)) ns)
each_told conn admins [] = refl
each_told conn admins (n ∷ ns) = ap (λ (ss : List book.Step). book_step conn (Msg (client_info n)) ∷ ss) (each_told conn admins ns)

each_silent : (conn : ℕ) (ns : List Member) → stamped_in (map (λ n. says_one conn (client_info n)) ns) ≡ []
each_silent conn [] = refl
each_silent conn (n ∷ ns) = each_silent conn ns

enter_silent : (frame top : ℕ) (words : ℕ × ℕ) (ms : List Member) (queue : List ℕ) (m : Member)
    → stamped_in (entering frame top words ms m ++ unasking (place_of m.conn queue) queue) ≡ []
enter_silent frame top words ms queue m =
    let two : List Step = says (One m.conn) (Entries m.map_frame) ∷ says_one m.conn (ServerFrame frame top (fresh_token words)) ∷ [] in
    silent_append (infos m.conn ms ++ two) (unasking (place_of m.conn queue) queue)
    (silent_append (infos m.conn ms) two (each_silent m.conn (filter is_welcomed ms)) refl) (unasking_silent (place_of m.conn queue) queue)

enter_told : (frame top : ℕ) (words : ℕ × ℕ) (ms : List Member) (queue : List ℕ) (m : Member) (admins : List Admin) (more : List book.Step)
    → steps_in admins (unasking (place_of m.conn queue) queue) ≡ more
    → steps_in admins (entering frame top words ms m ++ unasking (place_of m.conn queue) queue)
    ≡ ((map (λ x. book_step m.conn (Msg x)) (map client_info (filter is_welcomed ms)) ++ book_step m.conn (Entries m.map_frame) ∷ [])
    ++ book_step m.conn (Msg (ServerFrame frame top (fresh_token words))) ∷ []) ++ more
enter_told frame top words ms queue m admins more is =
    let two : List Step = says (One m.conn) (Entries m.map_frame) ∷ says_one m.conn (ServerFrame frame top (fresh_token words)) ∷ [] in
    let news : List book.Step = map (λ x. book_step m.conn (Msg x)) (map client_info (filter is_welcomed ms)) in
    let first : List book.Step = book_step m.conn (Entries m.map_frame) ∷ [] in
    let second : List book.Step = book_step m.conn (Msg (ServerFrame frame top (fresh_token words))) ∷ [] in
    steps_append admins (infos m.conn ms ++ two) (unasking (place_of m.conn queue) queue)
    ∙ ap₂ (λ (xs ys : List book.Step). xs ++ ys)
    (steps_append admins (infos m.conn ms) two
    ∙ ap (λ (xs : List book.Step). xs ++ steps_in admins two) (sym (each_told m.conn admins (filter is_welcomed ms)))
    ∙ sym (append_assoc news first second)) is

pub enter_does : (setup : Setup) (crew : Crew) (frame top : ℕ) (r : Rest) (m : Member) → Rise crew.members → find (is_on m.conn)
    crew.members ≡ Some m
    → IsQueue (table_at crew frame top r) crew.queue
    → Does setup crew frame top r (λ o t. enters m t) (entered frame top crew.tokens crew.members crew.queue m)
enter_does setup crew frame top r m rise is queued =
    let marks : Marks = entered_marks frame top crew.tokens m in
    let t : Table = table_at crew frame top r in
    let next : ℕ × ℕ = next_random crew.tokens in
    let k : Member = record (now_in PreActive t m) { acked = m.map_frame; told = top } in
    let n : Member = marked marks m in
    let u : Table = record (with_member n (with_member k t)) { tokens = next } in
    let v : Table = record t { members = on m.conn (marked marks) crew.members; tokens = next } in
    let same : v ≡ u = sym (ap (λ (w : Table). record w { tokens = next }) (with_again n k t refl ∙ mark_table marks m t rise is)) in
    let ready = ready_changed m.conn t v (λ c apart. found_other m.conn c (marked marks) crew.members (λ x. refl) apart) queued in
    let gone = queue_left 0 m.conn v (rise_by (Mark m.conn marks) crew.members rise) ready in
    record {
      told = enter_told frame top crew.tokens crew.members crew.queue m r.admins (leaves_queue m.conn u).told
          (gone.told ∙ ap (λ (w : Table). (leaves_queue m.conn w).told) same);
      table = quiet (entered frame top crew.tokens crew.members crew.queue m) t (enter_silent frame top crew.tokens crew.members crew.queue
          m)
          ∙ gone.table ∙ ap (λ (w : Table). (leaves_queue m.conn w).table) same;
    }

-- ---- ACK

active_told : (b : Bool) (m n : Member) (conns : List ℕ) (t : Table)
    → (tells conns (ServerJoin m.client) t ▹ sees_active n ▹ where_ b (asks_company n)).told
    ≡ steps_in t.admins (says_several conns (ServerJoin m.client) ∷ shows client_updates (ServerClientJoin n.client) ∷ [])
active_told true m n conns t = refl
active_told false m n conns t = refl

active_table : (b : Bool) (m n : Member) (conns : List ℕ) (t : Table)
    → (tells conns (ServerJoin m.client) t ▹ sees_active n ▹ where_ b (asks_company n)).table ≡ record t {
      own = behind (ordered_if b n)
          t.own;
    }
active_table true m n conns t = refl
active_table false m n conns t = refl

ordered_same : (b : Bool) (m n : Member) → n.client ≡ m.client → ordered_if b n ≡ ordered_if b m
ordered_same true m n same = ap (λ (c : ℕ). Some (record { code = NewCompany; number = c; to = 0; text = [] })) same
ordered_same false m n same = refl

ack_by : (b : Bool) (k : Marks) (setup : Setup) (crew : Crew) (frame top : ℕ) (r : Rest) (m : Member) → k.asked ≡ m.asked → Rise
    crew.members
    → find (is_on m.conn) crew.members ≡ Some m
    → Does setup crew frame top r (λ o t. becomes (with_member (marked k m) t) ▹ where_ b (becomes_active (marked k m)))
    (acknowledging_by b frame k crew.members m)
ack_by false k setup crew frame top r m asked rise is =
    let t : Table = table_at crew frame top r in
    record { told = refl; table = quiet (acknowledging_by false frame k crew.members m) t refl ∙ sym (mark_table k m t rise is) }
ack_by true k setup crew frame top r m asked rise is =
    let t : Table = table_at crew frame top r in
    let x : Member = marked k m in
    let l : Marks = record k { status = Active; since = frame } in
    let n : Member = marked l m in
    let t1 : Table = with_member x t in
    let u : Table = with_member n t1 in
    let v : Table = record t { members = on m.conn (marked l) crew.members } in
    let same : u ≡ v = with_again n x t refl ∙ mark_table l m t rise is in
    let conns : others m.conn t1.members ≡ others m.conn crew.members =
    ap (λ (w : Table). others m.conn w.members) (mark_table k m t rise is) ∙ others_on (marked k) m.conn crew.members (λ y. refl) in
    let order : ordered_if (k.asked == founder) n ≡ ordered_if (m.asked == founder) m =
    ordered_same (k.asked == founder) m n refl ∙ ap (λ (a : ℕ). ordered_if (a == founder) m) asked in
    record {
      told = sym (active_told (k.asked == founder) x n (others m.conn t1.members) u
          ∙ ap (λ cs. steps_in r.admins (says_several cs (ServerJoin m.client) ∷ shows client_updates (ServerClientJoin m.client) ∷ []))
          conns);
      table = quiet (acknowledging_by true frame k crew.members m) t refl
          ∙ sym (active_table (k.asked == founder) x n (others m.conn t1.members) u
          ∙ ap₂ (λ (w : Table) c. record w { own = behind c w.own }) same order);
    }

acked_is : (b : Bool) (acked : ℕ) (m : Member) → record (cond b m (closed_token m)) { acked = acked } ≡ marked (acked_marks b acked m) m
acked_is true acked m = refl
acked_is false acked m = refl

asked_is : (b : Bool) (acked : ℕ) (m : Member) → (acked_marks b acked m).asked ≡ m.asked
asked_is true acked m = refl
asked_is false acked m = refl

pub ack_does : (setup : Setup) (crew : Crew) (frame top : ℕ) (r : Rest) (m : Member) (acked token : ℕ) → Rise crew.members
    → find (is_on m.conn) crew.members ≡ Some m
    → Does setup crew frame top r (λ o t. acknowledges m acked token t) (acknowledging frame acked token crew.members m)
ack_does setup crew frame top r m acked token rise is =
    let t : Table = table_at crew frame top r in
    let b : Bool = catches_up frame acked m in
    let k : Marks = acked_marks (token == 0) acked m in
    let d = ack_by b k setup crew frame top r m (asked_is (token == 0) acked m) rise is in
    let rule : Member → Deed = λ x. becomes (with_member x t) ▹ where_ b (becomes_active x) in
    let same : rule (marked k m) ≡ acknowledges m acked token t = ap rule (sym (acked_is (token == 0) acked m)) in
    record { told = d.told ∙ ap (λ (e : Deed). e.told) same; table = d.table ∙ ap (λ (e : Deed). e.table) same }

-- ---- an end

pub leave_does : (setup : Setup) (crew : Crew) (frame top : ℕ) (r : Rest) (m : Member) (f : Farewell) → Rise crew.members
    → IsQueue (table_at crew frame top r) crew.queue
    → Does setup crew frame top r (λ o t. leaves m f t) (leaving_plan f frame crew.members crew.queue m)
leave_does setup crew frame top r m f rise queued =
    let t : Table = table_at crew frame top r in
    let d = leaves_by m f t rise (ready_left m.conn t queued) in
    record {
      told = d.told;
      table = quiet (leaving_plan f frame crew.members crew.queue m) t (leaving_silent m f (others m.conn crew.members) crew.queue) ∙
          d.table;
    }

pub end_does : (setup : Setup) (crew : Crew) (frame top : ℕ) (r : Rest) (m : Member) (code : ℕ) → Rise crew.members
    → IsQueue (table_at crew frame top r) crew.queue
    → Does setup crew frame top r (λ o t. ends m code t) (ending_plan code frame crew.members crew.queue m)
end_does setup crew frame top r m code rise queued =
    let t : Table = table_at crew frame top r in
    let d = ends_by m code t rise (ready_left m.conn t queued) in
    record {
      told = d.told;
      table = quiet (ending_plan code frame crew.members crew.queue m) t (ending_silent m code (others m.conn crew.members) crew.queue) ∙
          d.table;
    }

-- ---- an opening

open_by : (b : Bool) (setup : Setup) (crew : Crew) (frame top : ℕ) (r : Rest) → nat_le setup.max_clients (length crew.members) ≡ b
    → Does setup crew frame top r opened (opening b (r.openings + 1) (crew.clients + 1) frame)
open_by true setup crew frame top r b =
    let t : Table = counted_in (table_at crew frame top r) in
    record {
      told = sym (ap (λ x. (arrives x t).told) b);
      table = quiet (opening true (r.openings + 1) (crew.clients + 1) frame) (table_at crew frame top r) refl ∙ sym (ap (λ x. (arrives x
          t).table) b);
    }
open_by false setup crew frame top r b =
    let t : Table = counted_in (table_at crew frame top r) in
    record {
      told = sym (ap (λ x. (arrives x t).told) b);
      table = quiet (opening false (r.openings + 1) (crew.clients + 1) frame) (table_at crew frame top r) refl ∙ sym (ap (λ x. (arrives x
          t).table) b);
    }

pub open_does : (setup : Setup) (crew : Crew) (frame top : ℕ) (r : Rest)
    → Does setup crew frame top r opened (opening (nat_le setup.max_clients (length crew.members)) (r.openings + 1) (crew.clients + 1)
    frame)
open_does setup crew frame top r = open_by (nat_le setup.max_clients (length crew.members)) setup crew frame top r refl
