-- How far a member's map has been told: bytes are left of one that is being told, and one that was told is of an earlier frame.
use Rattle.std.proofs.Common.{◌≡◌, ℕ, ◌+◌, ◌≤◌, ◌<◌, List, [], ◌∷◌, ◌++◌, refl, ap, ap₂, sym, ◌∙◌, subst, true, false, Bool}
use Rattle.std.proofs.Common.{Option, Some, None, arith, zero, suc, inl, inr}
use Rattle.std.specs.Prelude.{◌==◌, ◌*◌, ◌-◌, length, drop, find, nat_lt, nat_le, cond, not, ◌%◌}
use Rattle.std.specs.List.{AllByRecursion}
use Rattle.std.proofs.lemmas.Bool.{eq-eqb, eqb-true, ltb-true, ltb-false, ne_eqb}
use Rattle.std.proofs.lemmas.List.{length-drop}
use Rattle.tt_edge.specs.declared.event.Event.{Event}
use Rattle.tt_edge.specs.declared.event.Event.TheVariants.{Open, Packet, Broken, Shut, Tick, Stop}
use Rattle.tt_world.specs.declared.command.Entry.{Entry}
use Rattle.tt_world.specs.World.{WorldState}
use Rattle.tt_map.specs.Layout.{map_of}
use Rattle.tt_map.proofs.WriterLaws.{map_size}
use Rattle.tt_rules.specs.Companies.{living}
use Rattle.tt_rules.specs.Statuses.{rank}
use Rattle.tt_rules.specs.declared.status.Status.TheVariants.{DoneMap}
use Rattle.tt_log.specs.declared.deed.Step.{Step}
use Rattle.tt_log.specs.declared.deed.What.TheVariants.{Sync}
use Rattle.tt_log.specs.Origin.{Origin, at_frame, game_of, world_at}
use Rattle.tt_log.specs.Member.{Member, new_member}
use Rattle.tt_log.specs.Table.{Table, downloader, first, first_loading, is_on, member_of, member_with, playing, with_member, world_of}
use Rattle.tt_log.specs.Deed.{tells_what, where_, where_some}
use Rattle.tt_log.specs.PacketRules.{closed_token, moves}
use Rattle.tt_log.specs.Desk.{admin_arrives, counted_aside, most_admins}
use Rattle.tt_log.specs.Tick.{all_moved, drawn, finishes_map, foundings, founders_moved, frame_runs_by, left_of, mapped, next_pieces}
use Rattle.tt_log.specs.Tick.{frame_follows, frame_runs, left_by, map_left, pieces_of, stamps, synced, tells_entries, ticked}
use Rattle.tt_log.specs.Events.{arrives, by_event, counted_in, stepped}
use Rattle.tt_log.specs.History.{AreRising, table_of}
use Rattle.tt_log.specs.Downloads.{AreMapped, IsMapped}
use Rattle.tt_log.proofs.Lists.{Among, all-among, all-append, all-filter, all-map, all-so, among-all, found-among}
use Rattle.tt_log.proofs.Crew.{On, conns, found-on, put, put-all}
use Rattle.tt_log.proofs.Changes.{Change, wants_password, is_let_in, gets_token, gets_frame, answers, plays, commands, has_name}
use Rattle.tt_log.proofs.Changes.{goes_to, founds, gets_pieces, has_all, is_behind, May, turned, moved, Move, queues, begins_map, loads}
use Rattle.tt_log.proofs.Walk.{MayMove, Base, Walk, Doors, Closing, Moves, running, stamping, of-asks, of-enters, of-leaves, of-deed-by}
use Rattle.tt_log.proofs.Walk.{loader-on, loading-is, of-frames, of-limits, of-still}
use Rattle.tt_log.proofs.Clock.{from-all}
use Rattle.tt_log.proofs.Entries.{for-above, stamps-for}
use Rattle.tt_log.proofs.Ordered.{Ordered, is-ordered, rising-above, step-ordered}
use Rattle.tt_lockstep.proofs.Journals.{world-stable}

-- ---- members that keep their map

record Keeps (m n : Member) : Type 0 where
  conn : n.conn ≡ m.conn
  map_frame : n.map_frame ≡ m.map_frame
  pieces : rank n.status ≡ 6 → n.pieces ≡ m.pieces
  loading : rank n.status ≡ 6 → rank m.status ≡ 6
  done : 7 ≤ rank n.status → 7 ≤ rank m.status

same-status : (m n : Member) → n.conn ≡ m.conn → n.map_frame ≡ m.map_frame → n.pieces ≡ m.pieces → rank n.status ≡ rank m.status
    → Keeps m n
same-status m n conn map_frame pieces status = record {
  conn = conn;
  map_frame = map_frame;
  pieces = λ is. pieces;
  loading = λ is. omega (arith, status, is);
  done = λ is. omega (arith, status, is);
}

acked-keeps : (b : Bool) (frame : ℕ) (m : Member) → Keeps m (record (cond b m (closed_token m)) { acked = frame })
acked-keeps true frame m = same-status m _ refl refl refl refl
acked-keeps false frame m = same-status m _ refl refl refl refl

early-keeps : (m n : Member) → n.conn ≡ m.conn → n.map_frame ≡ m.map_frame → rank n.status ≤ 5 → Keeps m n
early-keeps m n conn map_frame low = record {
  conn = conn;
  map_frame = map_frame;
  pieces = λ is. absurd (omega (arith, low, is));
  loading = λ is. absurd (omega (arith, low, is));
  done = λ is. absurd (omega (arith, low, is));
}

turned-keeps : (c : Change) (o : Origin) (e : Event) (t : Table) (m : Member) → May o e t m c → is_behind c ≡ false → Keeps m (turned c t m)
turned-keeps (wants_password true name asked) o e t m may ahead = early-keeps m _ refl refl (omega arith)
turned-keeps (wants_password false name asked) o e t m may ahead = early-keeps m _ refl refl (omega arith)
turned-keeps (is_let_in name asked) o e t m may ahead = early-keeps m _ refl refl (omega arith)
turned-keeps gets_token o e t m may ahead = same-status m _ refl refl refl refl
turned-keeps gets_frame o e t m may ahead = same-status m _ refl refl refl refl
turned-keeps (answers frame token) o e t m may ahead = acked-keeps (token == 0) frame m
turned-keeps plays o e t m may ahead = record {
  conn = refl;
  map_frame = refl;
  pieces = λ is. refl;
  loading = λ is. absurd (omega (arith, is));
  done = λ is. omega (arith, may);
}
turned-keeps (commands company code number to text command) o e t m may ahead = same-status m _ refl refl refl refl
turned-keeps (has_name name) o e t m may ahead = same-status m _ refl refl refl refl
turned-keeps (goes_to company digest) o e t m may ahead = same-status m _ refl refl refl refl
turned-keeps (founds company) o e t m may ahead = absurd cc
turned-keeps (gets_pieces left) o e t m may ahead = absurd cc
turned-keeps has_all o e t m may ahead = absurd cc

keeps-mapped : (o : Origin) (journal : List Entry) (frame : ℕ) (m n : Member) → Keeps m n → IsMapped o journal frame m
    → IsMapped o journal frame n
keeps-mapped o journal frame m n k h = record {
  begun = rw k.map_frame h.begun;
  done = λ is. rw k.map_frame (h.done (k.done is));
  left = λ is. rw (k.pieces is, k.map_frame) (h.left (k.loading is));
}

-- ---- a map has bytes

map-some : (w : WorldState) → 0 < length (map_of w)
map-some w = let l = map_size w in omega (arith, l)

-- ---- the walk but for ticks

abbrev Loads : Origin → Table → Type 0
Loads o t = (t.frame ≤ t.top) × AreMapped o t

abbrev KeepsLoads : Origin → Table → List Step → Table → Type 0
KeepsLoads o t steps u = Loads o t → Loads o u

put-loads : (o : Origin) (t : Table) (n : Member) → IsMapped o t.journal t.frame n → Loads o t → Loads o (with_member n t)
put-loads o t n a h = (h.0, put-all (IsMapped o t.journal t.frame) n t.members a h.1)

found-loads : (o : Origin) (t : Table) (m : Member) → On t m → Loads o t → IsMapped o t.journal t.frame m
found-loads o t m on h = among-all (IsMapped o t.journal t.frame) m t.members on h.1

keeps-loads : (o : Origin) (t : Table) (m n : Member) → On t m → Keeps m n → Loads o t → Loads o (with_member n t)
keeps-loads o t m n on k h = put-loads o t n (keeps-mapped o t.journal t.frame m n k (found-loads o t m on h)) h

load-base : (o : Origin) (e : Event) → Base o e (KeepsLoads o)
load-base o e = record {
  still = λ t h. h;
  joins = λ t u v xs ys a b h. b (a h);
  turns = λ c t m on may by ahead h. keeps-loads o t m (turned c t m) on (turned-keeps c o e t m may ahead) h;
  tells_one = λ t m msg on talk h. h;
  tells_some = λ t to w there news h. h;
  tells_admins = λ t to r may is h. h;
}

moved-mapped : (v : Move) (o : Origin) (t : Table) (m : Member) → MayMove v m → IsMapped o t.journal t.frame m
    → IsMapped o t.journal t.frame (moved v t m)
moved-mapped queues o t m may h = record {
  begun = h.begun;
  done = λ is. absurd (omega (arith, is));
  left = λ is. absurd (omega (arith, is));
}
moved-mapped begins_map o t m may h = record {
  begun = omega arith;
  done = λ is. absurd (omega (arith, is));
  left = λ is. map-some (world_at o t.journal t.frame);
}
moved-mapped loads o t m may h = record {
  begun = h.begun;
  done = λ is. h.done (omega (arith, may));
  left = λ is. absurd (omega (arith, is));
}

load-moves : (o : Origin) (e : Event) → Moves o e (KeepsLoads o)
load-moves o e = record {
  moving = λ v t m on may h. put-loads o t (moved v t m) (moved-mapped v o t m may (found-loads o t m on h)) h;
  recalls = λ t m on at h. h;
  waits_on = λ t conn n there h. h;
  stands = λ t m on h. h;
  cuts = λ t place h. h;
  ends_one = λ t m on h. h;
  parts = λ t m on h. (h.0, all-filter (IsMapped o t.journal t.frame) (λ n. not (is_on m.conn n)) t.members h.1);
  greets = λ t m on at h. keeps-loads o t m _ on (same-status m _ refl refl refl refl) h;
}

load-walk : (o : Origin) (e : Event) → Walk o e (KeepsLoads o)
load-walk o e = record {
  base = load-base o e;
  locks = λ t m digest on allowed h. h;
  orders = λ t c is still h. h;
  asks_map = λ t m on at. of-asks o e (KeepsLoads o) (load-base o e) (load-moves o e) t m on at;
  enters_game = λ t m on at. of-enters o e (KeepsLoads o) (load-base o e) (load-moves o e) t m on at;
  goes = λ t m farewell on is. of-leaves o e (KeepsLoads o) (load-base o e) (load-moves o e) t m farewell on is;
  settles = λ t a b on is h. h;
  goes_aside = λ t a on h. h;
}

new-mapped : (o : Origin) (journal : List Entry) (conn client frame : ℕ) → IsMapped o journal frame (new_member conn client frame)
new-mapped o journal conn client frame = record {
  begun = omega arith;
  done = λ is. absurd (omega (arith, is));
  left = λ is. absurd (omega (arith, is));
}

arrives-loads : (full : Bool) (o : Origin) (t : Table) → Loads o t → Loads o (arrives full (counted_in t)).table
arrives-loads true o t h = h
arrives-loads false o t h = (
  h.0,
  all-append (IsMapped o t.journal t.frame) t.members _ h.1 (new-mapped o t.journal (t.openings + 1) (t.clients + 1) t.frame, tt),
)

aside-loads : (full : Bool) (o : Origin) (t : Table) → Loads o t → Loads o (admin_arrives full (counted_aside t)).table
aside-loads true o t h = h
aside-loads false o t h = h

load-doors : (o : Origin) (e : Event) → Doors o e (KeepsLoads o)
load-doors o e = record {
  comes = λ t h. arrives-loads (nat_le o.setup.max_clients (length t.members)) o t h;
  comes_aside = λ t h. aside-loads (nat_le most_admins (length t.admins)) o t h;
}

load-closing : (o : Origin) (e : Event) → Closing o e (KeepsLoads o)
load-closing o e = record { charges = λ t h. h; closes = λ t h. (h.0, tt) }

-- ---- behind the frame of a tick, up to the map's pieces

abbrev IsFirst : List ℕ → ℕ → Type 0
IsFirst [] conn = ⊥
IsFirst (c ∷ cs) conn = conn ≡ c

abbrev rest_of : Origin → List Entry → Member → List ℕ
rest_of o journal m = drop (1400 * m.pieces) (map_of (world_at o journal m.map_frame))

-- every map is of an earlier frame; and of the first of the queue, where it loads, these bytes are left
record IsEarly (o : Origin) (journal : List Entry) (frame : ℕ) (queue left : List ℕ) (m : Member) : Type 0 where
  before : m.map_frame < frame
  some : rank m.status ≡ 6 → 1400 * m.pieces < length (map_of (world_at o journal m.map_frame))
  rest : rank m.status ≡ 6 → IsFirst queue m.conn → rest_of o journal m ≡ left

keeps-early : (o : Origin) (journal : List Entry) (frame : ℕ) (queue left : List ℕ) (m n : Member) → Keeps m n
    → IsEarly o journal frame queue left m → IsEarly o journal frame queue left n
keeps-early o journal frame queue left m n k h = record {
  before = rw k.map_frame h.before;
  some = λ is. rw (k.pieces is, k.map_frame) (h.some (k.loading is));
  rest = λ is at. rw (k.pieces is, k.map_frame) (h.rest (k.loading is) (subst (λ (c : ℕ). IsFirst queue c) k.conn at));
}

early-mapped : (o : Origin) (journal : List Entry) (frame : ℕ) (queue left : List ℕ) (m : Member) → IsEarly o journal frame queue left m
    → IsMapped o journal frame m
early-mapped o journal frame queue left m h = record {
  begun = let l = h.before in omega (arith, l);
  done = λ is. h.before;
  left = λ is. h.some is;
}

abbrev Early : Origin → List ℕ → Table → Type 0
Early o left t = (t.frame ≤ t.top) × AllByRecursion (IsEarly o t.journal t.frame t.queue left) t.members

abbrev KeepsEarly : Origin → List ℕ → Table → List Step → Table → Type 0
KeepsEarly o left t steps u = Early o left t → Early o left u

put-early : (o : Origin) (left : List ℕ) (t : Table) (m n : Member) → On t m → Keeps m n → Early o left t → Early o left (with_member n t)
put-early o left t m n on k h =
    let P : Member → Type 0 = IsEarly o t.journal t.frame t.queue left in
    (h.0, put-all P n t.members (keeps-early o t.journal t.frame t.queue left m n k (among-all P m t.members on h.1)) h.1)

early-base : (o : Origin) (left : List ℕ) (e : Event) → Base o e (KeepsEarly o left)
early-base o left e = record {
  still = λ t h. h;
  joins = λ t u v xs ys a b h. b (a h);
  turns = λ c t m on may by ahead h. put-early o left t m (turned c t m) on (turned-keeps c o e t m may ahead) h;
  tells_one = λ t m msg on talk h. h;
  tells_some = λ t to w there news h. h;
  tells_admins = λ t to r may is h. h;
}

-- a founder keeps its map
founded-early : (o : Origin) (left : List ℕ) (t : Table) (x : Option Member) (company : ℕ) → ((m : Member) → x ≡ Some m → On t m)
    → Early o left t → Early o left (where_some x (λ m. moves m company) t).table
founded-early o left t None company on h = h
founded-early o left t (Some m) company on h = put-early o left t m _ (on m refl) (same-status m _ refl refl refl refl) h

all-moved-early : (o : Origin) (left : List ℕ) (fs : List (ℕ × ℕ)) (t : Table) → Early o left t → Early o left (all_moved fs t).table
all-moved-early o left [] t h = h
all-moved-early o left (f ∷ fs) t h = all-moved-early o left fs _ (founded-early o left t (member_with f.0 t) f.1
    (λ m is. found-among (λ m. m.client == f.0) m t.members is) h)

synced-early : (o : Origin) (left : List ℕ) (t : Table) → Early o left t → Early o left (synced o t).table
synced-early o left t h = by (t.frame % o.setup.sync_freq == 0)
  where
    by : (b : Bool) → Early o left (where_ b (λ u. tells_what (playing u) Sync u) t).table
    by true = h
    by false = h

-- ---- the frame

pub here-found : (k : ℕ) (m : Member) (ms : List Member) → AreRising k (conns ms) → Among m ms → find (is_on m.conn) ms ≡ Some m
here-found k m [] r there = absurd there
here-found k m (x ∷ xs) r (inl here) = rw (eq-eqb x.conn m.conn (ap (λ (y : Member). y.conn) here)) (ap (λ (y : Member). Some y) here)
here-found k m (x ∷ xs) r (inr later) =
    let above : x.conn < m.conn = rising-above x.conn m xs r.1 later in
    rw (ne_eqb x.conn m.conn (λ same. omega (arith, same, above))) (here-found x.conn m xs r.1 later)

-- what is left of the running download is left of the first of the queue
first-left : (o : Origin) (t : Table) (m : Member) → Ordered t → On t m → rank m.status ≡ 6 → IsFirst t.queue m.conn
    → map_left o t m ≡ left_of o t
first-left o t m r on loading at = by t.queue at
  where
    by : (q : List ℕ) → IsFirst q m.conn → map_left o t m ≡ left_by (first_loading q t) o t
    by [] is = absurd is
    by (c ∷ cs) is =
        let found : member_of t c ≡ Some m = subst (λ (d : ℕ). member_of t d ≡ Some m) is (here-found 0 m t.members r.rise on) in
        rw (found, eq-eqb (rank m.status) 6 loading) refl

drawn-early : (o : Origin) (t : Table) (m : Member) → Ordered t → Loads o t → On t m
    → IsEarly o (t.journal ++ stamps t) (t.frame + 1) t.queue (left_of o t) (drawn m)
drawn-early o t m r h on =
    let a = found-loads o t m on h in
    let low : m.map_frame ≤ t.top = let l = a.begun in omega (arith, l, h.0) in
    let same : world_at o (t.journal ++ stamps t) m.map_frame ≡ world_at o t.journal m.map_frame =
    world-stable (game_of o) m.map_frame t.top t.journal (stamps t) (for-above o t.top (stamps t) (stamps-for t)) low in
    record {
      before = let l = a.begun in omega (arith, l);
      some = λ is. subst (λ (w : WorldState). 1400 * m.pieces < length (map_of w)) (sym same) (a.left is);
      rest = λ is at. subst (λ (w : WorldState). drop (1400 * m.pieces) (map_of w) ≡ left_of o t) (sym same) (first-left o t m r on is at);
    }

start-early : (o : Origin) (t : Table) (top : ℕ) → t.frame + 1 ≤ top → Ordered t → Loads o t
    → Early o (left_of o t) (record (stamping t) { frame = t.frame + 1; top = top })
start-early o t top ahead r h = (
  ahead,
  all-map (λ (m : Member). Among m t.members) (IsEarly o (t.journal ++ stamps t) (t.frame + 1) t.queue (left_of o t)) drawn t.members
      (λ m on. drawn-early o t m r h on) (all-among t.members),
)

runs-early : (b : Bool) (o : Origin) (t : Table) → nat_lt t.top (t.frame + 1) ≡ b → Ordered t → Loads o t
    → Early o (left_of o t) (frame_runs_by b o (stamping t)).table
runs-early true o t is r h = of-frames o Tick (KeepsEarly o (left_of o t)) (early-base o (left_of o t) Tick) (stamping t).members
    (running true o (stamping t)) (start-early o t (t.frame + 1 + o.setup.frame_freq) (omega arith) r h)
runs-early false o t is r h = start-early o t t.top (ltb-false t.top (t.frame + 1) is) r h

-- ---- the map's pieces

pieces-few : (n : ℕ) (bytes : List ℕ) → length (pieces_of n bytes) ≤ n
pieces-few n [] = omega arith
pieces-few zero (b ∷ bs) = omega arith
pieces-few (suc n) (b ∷ bs) = let l = pieces-few n (drop 1400 (b ∷ bs)) in omega (arith, l)

-- where more than four pieces are left, some bytes are left behind them
more-left : (bytes left : List ℕ) (told : ℕ) → 1400 * told < length bytes → drop (1400 * told) bytes ≡ left → 4 * 1400 < length left
    → 1400 * (told + length (pieces_of 4 left)) < length bytes
more-left bytes left told some rest big =
    let l : length left ≡ length bytes - 1400 * told = ap (λ (xs : List ℕ). length xs) (sym rest) ∙ length-drop (1400 * told) bytes in
    let few : length (pieces_of 4 left) ≤ 4 = pieces-few 4 left in
    omega (arith, l, few, some, big)

loader-first : (o : Origin) (t : Table) (m : Member) → downloader t ≡ Some m → IsFirst t.queue m.conn
loader-first o t m is = by t.queue is
  where
    by : (q : List ℕ) → first_loading q t ≡ Some m → IsFirst q m.conn
    by [] none = absurd cc
    by (c ∷ cs) some = found-on c t.members m (loading-is o Tick (KeepsLoads o) (load-walk o Tick) (member_of t c) m some).0

put-twice-one : (b : Bool) (n k x : Member) → (x.conn == n.conn) ≡ b → k.conn ≡ n.conn
    → cond ((cond b n x).conn == k.conn) k (cond b n x) ≡ cond (x.conn == k.conn) k x
put-twice-one true n k x is same = rw (eq-eqb n.conn k.conn (sym same), eq-eqb x.conn k.conn (eqb-true x.conn n.conn is ∙ sym same)) refl
put-twice-one false n k x is same = refl

put-twice : (n k : Member) (ms : List Member) → k.conn ≡ n.conn → put k (put n ms) ≡ put k ms
put-twice n k [] same = refl
put-twice n k (x ∷ xs) same = ap₂ (λ (y : Member) (ys : List Member). y ∷ ys) (put-twice-one (x.conn == n.conn) n k x refl same)
    (put-twice n k xs same)

all-mapped : (o : Origin) (left : List ℕ) (t : Table) → Early o left t → Loads o t
all-mapped o left t h = (
  h.0,
  all-so (IsEarly o t.journal t.frame t.queue left) (IsMapped o t.journal t.frame) t.members
      (λ m a. early-mapped o t.journal t.frame t.queue left m a) h.1,
)

pieces-loads : (b : Bool) (o : Origin) (left : List ℕ) (t : Table) (m : Member) → nat_lt (4 * 1400) (length left) ≡ b
    → IsEarly o t.journal t.frame t.queue left m → rank m.status ≡ 6 → IsFirst t.queue m.conn → Loads o t
    → Loads o (where_ (not b) (finishes_map (record m { pieces = m.pieces + length (pieces_of 4 left) }))
    (with_member (record m { pieces = m.pieces + length (pieces_of 4 left) }) t)).table
pieces-loads true o left t m is a at head h =
    let big : 4 * 1400 < length left = ltb-true (4 * 1400) (length left) is in
    put-loads o t _ (record {
      begun = let l = a.before in omega (arith, l);
      done = λ done. a.before;
      left = λ loading. more-left (map_of (world_at o t.journal m.map_frame)) left m.pieces (a.some at) (a.rest at head) big;
    }) h
pieces-loads false o left t m is a at head h =
    let n : Member = record m { pieces = m.pieces + length (pieces_of 4 left) } in
    let k : Member = record n { status = DoneMap } in
    let one : AllByRecursion (IsMapped o t.journal t.frame) (put k t.members) =
    put-all (IsMapped o t.journal t.frame) k t.members (record {
      begun = let l = a.before in omega (arith, l);
      done = λ done. a.before;
      left = λ loading. absurd (omega (arith, loading));
    }) h.1 in
    (h.0, subst (λ (ms : List Member). AllByRecursion (IsMapped o t.journal t.frame) ms) (sym (put-twice n k t.members refl)) one)

mapped-loads : (o : Origin) (left : List ℕ) (t : Table) → Early o left t → Loads o (mapped left t).table
mapped-loads o left t h = by (downloader t) refl
  where
    by : (x : Option Member) → downloader t ≡ x → Loads o (where_some x (next_pieces left) t).table
    by None is = all-mapped o left t h
    by (Some m) is =
        let found = loader-on o Tick (KeepsLoads o) (load-walk o Tick) t m is in
        pieces-loads (nat_lt (4 * 1400) (length left)) o left t m refl
        (among-all (IsEarly o t.journal t.frame t.queue left) m t.members found.0 h.1) found.1 (loader-first o t m is)
        (all-mapped o left t h)

-- ---- a tick

pub entries-same : (es : List Entry) (t : Table) → (tells_entries es t).table ≡ t
entries-same [] t = refl
entries-same (e ∷ es) t = entries-same es t

follows-loads : (o : Origin) (before : WorldState) (left : List ℕ) (t : Table) → Early o left t
    → Loads o (frame_follows before left o t).table
follows-loads o before left t h =
    let a : Table = (founders_moved o (living before) t).table in
    let b : Table = (synced o a).table in
    let c : Table = (mapped left b).table in
    let moved_on : Early o left a = all-moved-early o left (foundings (living before) (at_frame o t.frame t.journal)) t h in
    of-limits o Tick (KeepsLoads o) (load-walk o Tick) before.day c (mapped-loads o left b (synced-early o left a moved_on))

ticked-loads : (o : Origin) (t : Table) → Ordered t → Loads o t → Loads o (ticked o t).table
ticked-loads o t r h =
    subst (λ (s : Table). Loads o (frame_follows (world_of o t) (left_of o t) o (frame_runs o s).table).table)
    (sym (entries-same (stamps t) (stamping t)))
    (follows-loads o (world_of o t) (left_of o t) (frame_runs o (stamping t)).table
    (runs-early (nat_lt t.top (t.frame + 1)) o t refl r h))

-- ---- events

event-loads : (o : Origin) (e : Event) (t : Table) → Ordered t → KeepsLoads o t (by_event o e t).told (by_event o e t).table
event-loads o Tick t r = ticked-loads o t r
event-loads o (Open door peer) t r = of-still o (Open door peer) (KeepsLoads o) (load-walk o _) (load-doors o _) t refl
event-loads o (Packet conn kind body) t r = of-still o (Packet conn kind body) (KeepsLoads o) (load-walk o _) (load-doors o _) t refl
event-loads o (Broken conn) t r = of-still o (Broken conn) (KeepsLoads o) (load-walk o _) (load-doors o _) t refl
event-loads o (Shut conn) t r = of-still o (Shut conn) (KeepsLoads o) (load-walk o _) (load-doors o _) t refl
event-loads o Stop t r = of-still o Stop (KeepsLoads o) (load-walk o _) (load-doors o _) t refl

step-loads : (o : Origin) (e : Event) (t : Table) → Ordered t → Loads o t → Loads o (stepped o t e)
step-loads o e t r h = of-deed-by o e (KeepsLoads o) (load-walk o e) (load-closing o e) t (λ is. event-loads o e t r) h

pub are-mapped : (o : Origin) (es : List Event) → AreMapped o (table_of o es)
are-mapped o es = (from-all o (λ (t : Table). Ordered t × Loads o t) (λ e t h. (step-ordered o e t h.0, step-loads o e t h.0 h.1)) es
    (first o) (is-ordered o [], (omega arith, tt))).1.1
