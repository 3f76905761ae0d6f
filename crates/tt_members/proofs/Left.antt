-- How a member ends: what is told by it, and what is changed.
use Rattle.std.proofs.Common.{◌≡◌, ℕ, ◌+◌, List, [], ◌∷◌, ◌++◌, refl, sym, ap, ap₂, subst, ◌∙◌, true, false, not, Bool, Option, Some, None}
use Rattle.std.proofs.Common.{zero, suc}
use Rattle.std.proofs.Common.{arith}
use Rattle.std.specs.Prelude.{drop, take, ◌==◌, cond, map, filter, find}
use Rattle.std.proofs.lemmas.List.Quantifiers.{position-Some}
use Rattle.std.proofs.lemmas.Bool.{eqb-true}
use Rattle.tt_rules.specs.declared.status.Status.TheVariants.{MapWait}
use Rattle.tt_game.specs.declared.message.GameMsg.TheVariants.{ServerError}
use Rattle.tt_log.specs.declared.deed.Step as book
use Rattle.tt_log.specs.declared.deed.What.TheVariants.{End}
use Rattle.tt_log.specs.Admin.{Admin}
use Rattle.tt_log.specs.Member.{Member, is_in, is_playing, is_welcomed}
use Rattle.tt_log.specs.Table.{Table, is_on, member_of, without_member, playing}
use Rattle.tt_log.specs.Deed.{Deed, ◌▹◌, where_, where_some}
use Rattle.tt_log.specs.Queue.{moved_up, left_place, leaves_queue, begins, begins_for, begins_where}
use Rattle.tt_log.specs.Ending.{Farewell, Quitting, Failing, leaves, ends, tells_farewell}
use Rattle.tt_log.specs.History.{AreRising}
use Rattle.tt_log.specs.Downloads.{IsMember, IsQueue, is_downloading}
use Rattle.tt_log.proofs.Crew.{find-others}
use Rattle.tt_members.specs.declared.edit.Edit.{Edit}
use Rattle.tt_members.specs.declared.step.Audience.TheVariants.{One}
use Rattle.tt_members.specs.Edits.{members_after, queue_after, without_place, place_of, loading, on}
use Rattle.tt_members.specs.Steps.{step_in, steps_in, stamp_of, stamped_in, says, says_one}
use Rattle.tt_members.specs.Queues.{news_at, moving, beginning, unasking, unasked, IsReady, NextIsReady}
use Rattle.tt_members.specs.Leaving.{playing_in, but, others, farewell_if, leaving, left, ending}
use Rattle.tt_members.proofs.Behind.{Tells, steps_append, silent_append}
use Rattle.tt_members.proofs.Found.{conns_of, with_found, found_on, rise_filter}

-- ---- a download begins

begun_by : (x : Option Member) (n c : ℕ) (m : Member) (t : Table) → AreRising n (conns_of t.members) → member_of t c ≡ x → x ≡ Some m
    → is_in MapWait m ≡ true → where_some x begins_where t ≡ begins_for m t
begun_by None n c m t rising found is waits = absurd cc
begun_by (Some k) n c m t rising found is waits =
    let same : k ≡ m = cc in
    rw (same, waits) refl

-- the download of one that waits begins
pub begun : (n c : ℕ) (t : Table) → AreRising n (conns_of t.members) → IsMember (is_in MapWait) t c
    → begins c t ≡ record {
      table = record t { members = on c (loading t.frame) t.members };
      told = steps_in t.admins (moving 0 (c ∷ []));
    }
begun n c t rising is =
    let m : Member = is.0 in
    let there : m.conn ≡ c = found_on c m t.members is.1 in
    begun_by (member_of t c) n c m t rising refl is.1 is.2
    ∙ ap₂ (λ (u : Table) (x : ℕ). record { table = u; told = steps_in t.admins (moving 0 (x ∷ [])) })
    (with_found n c (loading t.frame) m t rising is.1 there) there

-- ---- those behind move up

waits_stay : (before : ℕ) (cs : List ℕ) (t : Table) → (moved_up (suc before) cs t).table ≡ t
waits_stay before [] t = refl
waits_stay before (c ∷ cs) t = waits_stay (suc before) cs t

waits_told : (before : ℕ) (cs : List ℕ) (admins : List Admin) (t : Table) → (moved_up (suc before) cs t).told ≡ steps_in admins (moving
    (suc before) cs)
waits_told before [] admins t = refl
waits_told before (c ∷ cs) admins t =
    let next : suc before + 1 ≡ suc (suc before) = omega arith in
    rw next (ap (λ (ss : List book.Step). step_in admins (says (One c) (news_at (suc before))) ∷ ss) (waits_told (suc before) cs admins t))

-- those that stand from a place on move up to it
pub moves_up : (n place : ℕ) (cs : List ℕ) (t : Table) → AreRising n (conns_of t.members) → IsReady place cs t
    → Tells (moved_up place cs) (beginning t.frame place cs) (moving place cs) t
moves_up n zero [] t rising ready = record { told = refl; table = refl }
moves_up n (suc before) [] t rising ready = record { told = refl; table = refl }
moves_up n (suc before) (c ∷ cs) t rising ready =
    record { told = sym (waits_told before (c ∷ cs) t.admins t); table = sym (waits_stay before (c ∷ cs) t) }
moves_up n zero (c ∷ cs) t rising ready =
    let first = begun n c t rising ready in
    let whole : moved_up 0 (c ∷ cs) t ≡ record {
      table = record t { members = on c (loading t.frame) t.members };
      told = steps_in t.admins (moving 0 (c ∷ []));
    } ▹ moved_up 1 cs = ap (λ (d : Deed). d ▹ moved_up 1 cs) first in
    let u : Table = record t { members = on c (loading t.frame) t.members } in
    record {
      told = sym (ap (λ (d : Deed). d.told) whole
          ∙ ap (λ (ss : List book.Step). steps_in t.admins (moving 0 (c ∷ [])) ++ ss) (waits_told 0 cs t.admins u));
      table = sym (ap (λ (d : Deed). d.table) whole ∙ waits_stay 0 cs u);
    }

-- ---- the queue

-- the same members
pub ready_same : (place : ℕ) (cs : List ℕ) (t u : Table) → u.members ≡ t.members → IsReady place cs t → IsReady place cs u
ready_same zero [] t u same ready = tt
ready_same zero (c ∷ cs) t u same ready = (ready.0, ap (λ (ms : List Member). find (is_on c) ms) same ∙ ready.1, ready.2)
ready_same (suc before) cs t u same ready = tt

left_by : (n conn : ℕ) (place : Option ℕ) (t : Table) → AreRising n (conns_of t.members) → place_of conn t.queue ≡ place
    → NextIsReady place t.queue t
    → Tells (where_some place left_place) (unasked conn t.frame place t.queue) (unasking place t.queue) t
left_by n conn None t rising is ready = record { told = refl; table = refl }
left_by n conn (Some place) t rising is ready =
    let behind : List ℕ = drop (place + 1) t.queue in
    let more : List Edit = beginning t.frame place behind in
    let u : Table = record t { queue = take place t.queue ++ behind } in
    let moved = moves_up n place behind u rising (ready_same place behind t u refl ready) in
    record {
      told = moved.told;
      table = ap (λ (p : Option ℕ). record t {
        members = members_after more t.members;
        queue = queue_after more (without_place p t.queue);
      }) is
          ∙ moved.table;
    }

-- a connection stands in the queue no longer
pub queue_left : (n conn : ℕ) (t : Table) → AreRising n (conns_of t.members) → NextIsReady (place_of conn t.queue) t.queue t
    → Tells (leaves_queue conn) (unasked conn t.frame (place_of conn t.queue) t.queue) (unasking (place_of conn t.queue) t.queue) t
queue_left n conn t rising ready =
    let d = left_by n conn (place_of conn t.queue) t rising refl ready in
    record { told = d.told; table = d.table }

-- ---- where the next one waits

refuted : (b : Bool) → (b ≡ true → ⊥) → b ≡ false
refuted true never = absurd (never refl)
refuted false never = refl

both_ways : (m n : Member) → m ≡ n → is_downloading m ≡ true → is_in MapWait n ≡ true → ⊥
both_ways m n same loads waits =
    let e : is_in MapWait m ≡ true = subst (λ (k : Member). is_in MapWait k ≡ true) (sym same) waits in
    grind (arith, loads, e)

-- a table of the same members, but for the one on a connection
ready_by : (conn : ℕ) (t u : Table) (queue : List ℕ) (place : Option ℕ) → ((c : ℕ) → (conn == c) ≡ false → member_of u c ≡ member_of t c)
    → place_of conn queue ≡ place → IsQueue t queue → NextIsReady place queue u
ready_by conn t u queue None same is queued = tt
ready_by conn t u queue (Some (suc k)) same is queued = tt
ready_by conn t u [] (Some zero) same is queued = tt
ready_by conn t u (x ∷ []) (Some zero) same is queued = tt
ready_by conn t u (x ∷ y ∷ ys) (Some zero) same is queued =
    let head : (x == conn) ≡ true = (position-Some (λ (c : ℕ). c == conn) (x ∷ y ∷ ys) 0 0 is).1 in
    let there : x ≡ conn = eqb-true x conn head in
    let first = queued.0 in
    let next = queued.1.0 in
    let apart : (conn == y) ≡ false = refuted (conn == y) (λ at. both_ways first.0 next.0
    (let e : conn ≡ y = eqb-true conn y at in
    let f : x ≡ y = there ∙ e in
    let g : member_of t x ≡ member_of t y = ap (member_of t) f in
    let h : Some first.0 ≡ Some next.0 = sym first.1 ∙ g ∙ next.1 in
    cc)
    first.2 next.2) in
    (next.0, same y apart ∙ next.1, next.2)

-- behind one that ends
pub ready_left : (conn : ℕ) (t : Table) → IsQueue t t.queue → NextIsReady (place_of conn t.queue) t.queue (without_member conn t)
ready_left conn t queued =
    ready_by conn t (without_member conn t) t.queue (place_of conn t.queue) (λ c apart. find-others conn c t.members apart) refl queued

-- behind one that changes
pub ready_changed : (conn : ℕ) (t u : Table) → ((c : ℕ) → (conn == c) ≡ false → member_of u c ≡ member_of t c) → IsQueue t t.queue
    → NextIsReady (place_of conn t.queue) t.queue u
ready_changed conn t u same queued = ready_by conn t u t.queue (place_of conn t.queue) same refl queued

-- ---- an end

parts_told : (b : Bool) (f : Farewell) (m : Member) (t : Table) → (where_ b (tells_farewell f m) t).told ≡ steps_in t.admins (farewell_if b
    f m (playing t))
parts_told true Quitting m t = refl
parts_told true (Failing code) m t = refl
parts_told false f m t = refl

parts_table : (b : Bool) (f : Farewell) (m : Member) (t : Table) → (where_ b (tells_farewell f m) t).table ≡ t
parts_table true Quitting m t = refl
parts_table true (Failing code) m t = refl
parts_table false f m t = refl

-- those that play where one is a member no longer
but_gone : (p : Bool) (conn : ℕ) (k : Member) (ys : List Member) → (k.conn == conn) ≡ true
    → but conn (map (λ m. m.conn) ys) ≡ but conn (map (λ m. m.conn) (cond p (k ∷ ys) ys))
but_gone true conn k ys e = rw e refl
but_gone false conn k ys e = refl

but_kept : (p : Bool) (conn : ℕ) (k : Member) (xs ys : List Member) → (k.conn == conn) ≡ false → map (λ m. m.conn) xs ≡ but conn (map (λ m.
    m.conn) ys)
    → map (λ m. m.conn) (cond p (k ∷ xs) xs) ≡ but conn (map (λ m. m.conn) (cond p (k ∷ ys) ys))
but_kept true conn k xs ys e same = rw e (ap (λ (cs : List ℕ). k.conn ∷ cs) same)
but_kept false conn k xs ys e same = same

but_one : (b : Bool) (conn : ℕ) (k : Member) (ms : List Member) → (k.conn == conn) ≡ b
    → playing_in (filter (λ x. not (is_on conn x)) ms) ≡ but conn (playing_in ms)
    → playing_in (cond (not b) (k ∷ filter (λ x. not (is_on conn x)) ms) (filter (λ x. not (is_on conn x)) ms))
    ≡ but conn (map (λ m. m.conn) (cond (is_playing k) (k ∷ filter is_playing ms) (filter is_playing ms)))
but_one true conn k ms e same = same ∙ but_gone (is_playing k) conn k (filter is_playing ms) e
but_one false conn k ms e same =
    but_kept (is_playing k) conn k (filter is_playing (filter (λ x. not (is_on conn x)) ms)) (filter is_playing ms) e same

pub but_members : (conn : ℕ) (ms : List Member) → playing_in (filter (λ k. not (is_on conn k)) ms) ≡ others conn ms
but_members conn [] = refl
but_members conn (k ∷ ms) = but_one (k.conn == conn) conn k ms refl (but_members conn ms)

-- a member ends, where the next one behind it waits
pub leaves_by : (m : Member) (f : Farewell) (t : Table) → AreRising 0 (conns_of t.members)
    → NextIsReady (place_of m.conn t.queue) t.queue (without_member m.conn t)
    → Tells (leaves m f) (left m.conn t.frame t.queue) (leaving m f (others m.conn t.members) t.queue) t
leaves_by m f t rising ready =
    let u : Table = without_member m.conn t in
    let w : Table = (where_ (is_welcomed m) (tells_farewell f m) u).table in
    let same : w ≡ u = parts_table (is_welcomed m) f m u in
    let gone = queue_left 0 m.conn u (rise_filter 0 (λ k. not (is_on m.conn k)) t.members rising) ready in
    let conns : playing u ≡ others m.conn t.members = but_members m.conn t.members in
    record {
      told = ap (λ (ss : List book.Step). step_in t.admins (says (One m.conn) End) ∷ ss)
          (steps_append t.admins (farewell_if (is_welcomed m) f m (others m.conn t.members)) (unasking (place_of m.conn t.queue) t.queue)
          ∙ ap₂ (λ (xs ys : List book.Step). xs ++ ys)
          (sym (parts_told (is_welcomed m) f m u ∙ ap (λ cs. steps_in t.admins (farewell_if (is_welcomed m) f m cs)) conns))
          (gone.told ∙ sym (ap (λ (v : Table). (leaves_queue m.conn v).told) same)));
      table = gone.table ∙ sym (ap (λ (v : Table). (leaves_queue m.conn v).table) same);
    }

-- it is told a code, and ends
pub ends_by : (m : Member) (code : ℕ) (t : Table) → AreRising 0 (conns_of t.members)
    → NextIsReady (place_of m.conn t.queue) t.queue (without_member m.conn t)
    → Tells (ends m code) (left m.conn t.frame t.queue) (ending m code (others m.conn t.members) t.queue) t
ends_by m code t rising ready =
    let d = leaves_by m (Failing code) t rising ready in
    record { told = ap (λ (ss : List book.Step). step_in t.admins (says_one m.conn (ServerError code)) ∷ ss) d.told; table = d.table }

-- ---- it stamps nothing

news_silent : (place : ℕ) → stamp_of (news_at place) ≡ []
news_silent zero = refl
news_silent (suc before) = refl

pub moving_silent : (place : ℕ) (cs : List ℕ) → stamped_in (moving place cs) ≡ []
moving_silent place [] = refl
moving_silent place (c ∷ cs) = rw (news_silent place) (moving_silent (place + 1) cs)

pub unasking_silent : (place : Option ℕ) (queue : List ℕ) → stamped_in (unasking place queue) ≡ []
unasking_silent None queue = refl
unasking_silent (Some place) queue = moving_silent place (drop (place + 1) queue)

farewell_silent : (b : Bool) (f : Farewell) (m : Member) (conns : List ℕ) → stamped_in (farewell_if b f m conns) ≡ []
farewell_silent true f m conns = refl
farewell_silent false f m conns = refl

pub leaving_silent : (m : Member) (f : Farewell) (conns queue : List ℕ) → stamped_in (leaving m f conns queue) ≡ []
leaving_silent m f conns queue =
    silent_append (farewell_if (is_welcomed m) f m conns) (unasking (place_of m.conn queue) queue) (farewell_silent (is_welcomed m) f m
    conns)
    (unasking_silent (place_of m.conn queue) queue)

pub ending_silent : (m : Member) (code : ℕ) (conns queue : List ℕ) → stamped_in (ending m code conns queue) ≡ []
ending_silent m code conns queue = leaving_silent m (Failing code) conns queue
