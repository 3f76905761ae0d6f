-- The ends of a tick, member by member.
use Rattle.std.proofs.Common.{◌≡◌, ℕ, ◌+◌, ◌≤◌, zero, suc, List, [], ◌∷◌, ◌++◌, refl, sym, subst, ap, ap₂, ◌∙◌}
use Rattle.std.proofs.Common.{true, false, Bool}
use Rattle.std.proofs.Common.{Option, Some, None, arith, append_assoc, append-nil, drop}
use Rattle.std.specs.Prelude.{◌==◌, ◌||◌, not, map, filter, find, cond, is_some}
use Rattle.std.specs.List.{AllByRecursion, list_any}
use Rattle.tt_world.specs.declared.setup.Setup.{Setup}
use Rattle.tt_world.specs.declared.command.Entry.{Entry}
use Rattle.tt_game.specs.declared.message.GameMsg.TheVariants.{ServerError}
use Rattle.tt_log.specs.declared.deed.Step as book
use Rattle.tt_log.specs.Origin.{Origin}
use Rattle.tt_log.specs.Member.{Member, is_playing, is_welcomed}
use Rattle.tt_log.specs.Table.{Table, is_on, member_of}
use Rattle.tt_log.specs.History.{AreRising}
use Rattle.tt_log.specs.Deed.{Deed, ◌▹◌, where_some}
use Rattle.tt_log.specs.Ending.{Failing, ends}
use Rattle.tt_log.specs.Tick.{late, limited, each_limited, timed}
use Rattle.tt_members.specs.declared.edit.Edit.{Edit}
use Rattle.tt_members.specs.declared.step.Step.{Step}
use Rattle.tt_members.specs.Edits.{on, loading, members_after, queue_after, place_of}
use Rattle.tt_members.specs.declared.step.Audience.TheVariants.{One}
use Rattle.tt_log.specs.declared.deed.What.TheVariants.{End}
use Rattle.tt_members.specs.Rules.{Rise}
use Rattle.tt_members.specs.Steps.{steps_in, stamped_in, says, says_one}
use Rattle.tt_members.specs.Queues.{beginning, unasked, unasking}
use Rattle.tt_members.specs.Leaving.{playing_in, but, others, farewell_if, left, ending}
use Rattle.tt_members.proofs.Behind.{edited, members_append, queue_append, edited_append, steps_append, stamped_append, Tells}
use Rattle.tt_members.proofs.Found.{rise_after}
use Rattle.tt_members.proofs.Left.{but_members, ends_by, ending_silent}
use Rattle.tt_join.specs.Ticking.{Limiting, plays_after, begins_on, began, limit_of, limited_by, limiting, ends_of}
use Rattle.tt_join.proofs.Like.{AreQuiet}
use Rattle.tt_join.proofs.Placed.{conns_of}
use Rattle.tt_join.proofs.Calm.{Calm, calm_ready, calm_left, late_begun, found_behind}

-- ---- who plays

plays_gone : (p : Bool) (conn : ℕ) (k : Member) (ys : List Member) → (k.conn == conn) ≡ true
    → but conn (map (λ (m : Member). m.conn) ys) ≡ but conn (map (λ (m : Member). m.conn) (cond p (k ∷ ys) ys))
plays_gone true conn k ys e = rw e refl
plays_gone false conn k ys e = refl

plays_kept : (p : Bool) (conn : ℕ) (k : Member) (xs ys : List Member) → (k.conn == conn) ≡ false
    → map (λ (m : Member). m.conn) xs ≡ but conn (map (λ (m : Member). m.conn) ys)
    → map (λ (m : Member). m.conn) (cond p (k ∷ xs) xs) ≡ but conn (map (λ (m : Member). m.conn) (cond p (k ∷ ys) ys))
plays_kept true conn k xs ys e same = rw e (ap (λ (cs : List ℕ). k.conn ∷ cs) same)
plays_kept false conn k xs ys e same = same

begun_one : (b : Bool) (frame conn : ℕ) (k : Member) (ms : List Member) → (k.conn == conn) ≡ b
    → playing_in (on conn (loading frame) ms) ≡ but conn (playing_in ms)
    → playing_in (cond b (loading frame k) k ∷ on conn (loading frame) ms) ≡ but conn (playing_in (k ∷ ms))
begun_one true frame conn k ms e same = same ∙ plays_gone (is_playing k) conn k (filter is_playing ms) e
begun_one false frame conn k ms e same =
    plays_kept (is_playing k) conn k (filter is_playing (on conn (loading frame) ms)) (filter is_playing ms) e same

-- whose download begins doesn't play
begun_plays : (frame conn : ℕ) (ms : List Member) → playing_in (on conn (loading frame) ms) ≡ but conn (playing_in ms)
begun_plays frame conn [] = refl
begun_plays frame conn (k ∷ ms) = begun_one (k.conn == conn) frame conn k ms refl (begun_plays frame conn ms)

beginning_plays : (frame place : ℕ) (cs : List ℕ) (ms : List Member)
    → playing_in (members_after (beginning frame place cs) ms) ≡ plays_after (beginning frame place cs) (playing_in ms)
beginning_plays frame place [] ms = refl
beginning_plays frame zero (c ∷ cs) ms = begun_plays frame c ms
beginning_plays frame (suc k) (c ∷ cs) ms = refl

unasked_plays : (conn frame : ℕ) (place : Option ℕ) (queue : List ℕ) (ms : List Member)
    → playing_in (members_after (unasked conn frame place queue) ms) ≡ plays_after (unasked conn frame place queue) (playing_in ms)
unasked_plays conn frame None queue ms = refl
unasked_plays conn frame (Some place) queue ms = beginning_plays frame place (drop (place + 1) queue) ms

left_plays : (conn frame : ℕ) (queue : List ℕ) (ms : List Member)
    → playing_in (members_after (left conn frame queue) ms) ≡ plays_after (left conn frame queue) (playing_in ms)
left_plays conn frame queue ms =
    unasked_plays conn frame (place_of conn queue) queue (filter (λ (n : Member). not (is_on conn n)) ms)
    ∙ ap (plays_after (unasked conn frame (place_of conn queue) queue)) (but_members conn ms)

-- ---- who stands

-- a member as it is behind the ends of others
abbrev seen : List Edit → ℕ → Member → Member
seen es frame m = cond (began m.conn es) (loading frame m) m

-- each of these members is there, and has at most begun to download
abbrev Stand : List Edit → Table → List Member → Type 0
Stand es t ms = AllByRecursion (λ (m : Member). member_of t m.conn ≡ Some (seen es t.frame m)) ms

find_head : (b d : Bool) (c x : ℕ) (k : Member) (ms : List Member) → (x == c) ≡ false → (k.conn == c) ≡ b → (k.conn == x) ≡ d
    → find (is_on x) (filter (λ (n : Member). not (is_on c n)) ms) ≡ find (is_on x) ms
    → find (is_on x) (cond (not b) (k ∷ filter (λ (n : Member). not (is_on c n)) ms) (filter (λ (n : Member). not (is_on c n)) ms))
    ≡ cond d (Some k) (find (is_on x) ms)
find_head true true c x k ms other e f same = grind (arith, other, e, f)
find_head true false c x k ms other e f same = same
find_head false true c x k ms other e f same = rw f refl
find_head false false c x k ms other e f same = rw f same

find_filter : (c x : ℕ) (ms : List Member) → (x == c) ≡ false → find (is_on x) (filter (λ (n : Member). not (is_on c n)) ms) ≡ find (is_on
    x) ms
find_filter c x [] other = refl
find_filter c x (k ∷ ms) other = find_head (k.conn == c) (k.conn == x) c x k ms other refl refl (find_filter c x ms other)

or_false : (b : Bool) → (b || false) ≡ b
or_false true = refl
or_false false = refl

or_or : (a b c : Bool) → (a || (b || c)) ≡ ((a || b) || c)
or_or true b c = refl
or_or false b c = refl

pub began_append : (x : ℕ) (es fs : List Edit) → began x (es ++ fs) ≡ (began x es || began x fs)
began_append x [] fs = refl
began_append x (e ∷ es) fs = ap (λ (b : Bool). begins_on x e || b) (began_append x es fs) ∙ or_or (begins_on x e) (began x es) (began x fs)

-- a member that has begun, or not, and begins now, or not
seen_twice : (b d : Bool) (frame c : ℕ) (m : Member) → (m.conn == c) ≡ d
    → cond (is_on c (cond b (loading frame m) m)) (loading frame (cond b (loading frame m) m)) (cond b (loading frame m) m)
    ≡ cond (b || ((m.conn == c) || false)) (loading frame m) m
seen_twice true true frame c m e = rw e refl
seen_twice true false frame c m e = rw e refl
seen_twice false true frame c m e = rw e refl
seen_twice false false frame c m e = rw e refl

stand_begin : (place : ℕ) (cs : List ℕ) (frame : ℕ) (b : Bool) (m : Member) (ms : List Member)
    → find (is_on m.conn) ms ≡ Some (cond b (loading frame m) m)
    → find (is_on m.conn) (members_after (beginning frame place cs) ms) ≡ Some (cond (b || began m.conn (beginning frame place cs))
    (loading frame m) m)
stand_begin place [] frame b m ms is = rw (or_false b) is
stand_begin zero (c ∷ cs) frame b m ms is =
    found_behind m.conn c frame (cond b (loading frame m) m) ms is
    ∙ ap (λ (k : Member). Some k) (seen_twice b (m.conn == c) frame c m refl)
stand_begin (suc k) (c ∷ cs) frame b m ms is = rw (or_false b) is

stand_unasked : (conn frame : ℕ) (place : Option ℕ) (queue : List ℕ) (b : Bool) (m : Member) (ms : List Member)
    → find (is_on m.conn) ms ≡ Some (cond b (loading frame m) m)
    → find (is_on m.conn) (members_after (unasked conn frame place queue) ms)
    ≡ Some (cond (b || began m.conn (unasked conn frame place queue)) (loading frame m) m)
stand_unasked conn frame None queue b m ms is = rw (or_false b) is
stand_unasked conn frame (Some place) queue b m ms is = stand_begin place (drop (place + 1) queue) frame b m ms is

-- who is on another connection than the one that leaves stands behind that
stand_one : (conn : ℕ) (es : List Edit) (t : Table) (m : Member) → (m.conn == conn) ≡ false → member_of t m.conn ≡ Some (seen es t.frame m)
    → member_of (edited (left conn t.frame t.queue) t) m.conn ≡ Some (seen (es ++ left conn t.frame t.queue) t.frame m)
stand_one conn es t m other is =
    stand_unasked conn t.frame (place_of conn t.queue) t.queue (began m.conn es) m (filter (λ (n : Member). not (is_on conn n)) t.members)
    (find_filter conn m.conn t.members other ∙ is)
    ∙ ap (λ (b : Bool). Some (cond b (loading t.frame m) m)) (sym (began_append m.conn es (left conn t.frame t.queue)))

stand_rest : (n conn : ℕ) (es : List Edit) (t : Table) (ms : List Member) → AreRising n (conns_of ms) → conn ≤ n → Stand es t ms
    → Stand (es ++ left conn t.frame t.queue) (edited (left conn t.frame t.queue) t) ms
stand_rest n conn es t [] rising low s = tt
stand_rest n conn es t (m ∷ ms) rising low s =
    let other : (m.conn == conn) ≡ false = grind (arith, rising.0, low) in
    (stand_one conn es t m other s.0, stand_rest m.conn conn es t ms rising.1 (omega (arith, rising.0, low)) s.1)

own_behind : (n : ℕ) (k : Member) (xs ms : List Member) → AreRising n (conns_of xs) → k.conn ≤ n
    → AllByRecursion (λ (m : Member). find (is_on m.conn) ms ≡ Some m) xs → AllByRecursion (λ (m : Member). find (is_on m.conn) (k ∷ ms) ≡
    Some m) xs
own_behind n k [] ms rising low own = tt
own_behind n k (x ∷ xs) ms rising low own =
    let other : (k.conn == x.conn) ≡ false = grind (arith, rising.0, low) in
    (rw other own.0, own_behind x.conn k xs ms rising.1 (omega (arith, rising.0, low)) own.1)

own_found : (n : ℕ) (ms : List Member) → AreRising n (conns_of ms) → AllByRecursion (λ (m : Member). find (is_on m.conn) ms ≡ Some m) ms
own_found n [] rising = tt
own_found n (m ∷ ms) rising =
    let own : (m.conn == m.conn) ≡ true = grind arith in
    (rw own refl, own_behind m.conn m ms ms rising.1 (omega arith) (own_found m.conn ms rising.1))

-- ---- where the loop stands

record IsGoing (o : Origin) (t : Table) (n : ℕ) (ns : List Member) (l : Limiting) : Type 0 where
  rest : AreRising n (conns_of ns)
  plays : l.plays ≡ playing_in (members_after l.edits t.members)
  waits : l.waits ≡ queue_after l.edits t.queue
  stand : Stand l.edits (edited l.edits t) ns
  calm : Calm o.setup (edited l.edits t)

-- what is done behind it is what the rule does to those that are left
record IsDone (o : Origin) (t : Table) (ns : List Member) (l f : Limiting) : Type 0 where
  told : steps_in t.admins f.steps ≡ steps_in t.admins l.steps ++ (each_limited o ns (edited l.edits t)).told
  table : edited f.edits t ≡ (each_limited o ns (edited l.edits t)).table

seen_late : (b : Bool) (setup : Setup) (frame : ℕ) (m : Member)
    → late setup frame (cond b (loading frame m) m) ≡ cond b None (late setup frame m)
seen_late true setup frame m = late_begun setup frame m
seen_late false setup frame m = refl

not_begun : (b : Bool) (frame code : ℕ) (m : Member) (x : Option ℕ) → cond b None x ≡ Some code → cond b (loading frame m) m ≡ m
not_begun true frame code m x is = absurd cc
not_begun false frame code m x is = refl

late_then : (b : Bool) (code : ℕ) (x : Option ℕ) → cond b None x ≡ Some code → x ≡ Some code
late_then true code x is = absurd cc
late_then false code x is = is

-- one member, by what becomes of it
one_limited : (o : Origin) (t : Table) (m : Member) (ns : List Member) (es : List Edit) (x : Option ℕ) → member_of t m.conn ≡ Some (seen es
    t.frame m)
    → limit_of o.setup t.frame es m ≡ x
    → each_limited o (m ∷ ns) t ≡ where_some x (ends (seen es t.frame m)) t ▹ each_limited o ns
one_limited o t m ns es x there is =
    ap (λ (y : Option Member). where_some y (limited o) t ▹ each_limited o ns) there
    ∙ ap (λ (y : Option ℕ). where_some y (ends (seen es t.frame m)) t ▹ each_limited o ns)
    (seen_late (began m.conn es) o.setup t.frame m ∙ is)

-- it isn't late
passes : (o : Origin) (t : Table) (n : ℕ) (m : Member) (ns : List Member) (l f : Limiting) → IsGoing o t n (m ∷ ns) l
    → limit_of o.setup t.frame l.edits m ≡ None → IsDone o t ns l f → IsDone o t (m ∷ ns) l f
passes o t n m ns l f g is d =
    let u : Table = edited l.edits t in
    let same : each_limited o (m ∷ ns) u ≡ each_limited o ns u = one_limited o u m ns l.edits None g.stand.0 is in
    record {
      told = d.told ∙ ap (λ (x : Deed). steps_in t.admins l.steps ++ x.told) (sym same);
      table = d.table ∙ ap (λ (x : Deed). x.table) (sym same);
    }

goes_on : (o : Origin) (t : Table) (n : ℕ) (m : Member) (ns : List Member) (l : Limiting) → IsGoing o t n (m ∷ ns) l → IsGoing o t m.conn
    ns l
goes_on o t n m ns l g = record { rest = g.rest.1; plays = g.plays; waits = g.waits; stand = g.stand.1; calm = g.calm }

-- it ends, where these play and wait by then
abbrev ended : Limiting → ℕ → Member → ℕ → List ℕ → List ℕ → Limiting
ended l frame m code plays waits = record {
  edits = l.edits ++ left m.conn frame waits;
  steps = l.steps ++ ending m code (but m.conn plays) waits;
  plays = plays_after (left m.conn frame waits) plays;
  waits = queue_after (left m.conn frame waits) waits;
}

-- of a member that ends: it is there as it was, and is late
record IsLate (o : Origin) (u : Table) (m : Member) (code : ℕ) : Type 0 where
  there : member_of u m.conn ≡ Some m
  late : late o.setup u.frame m ≡ Some code

is_late : (o : Origin) (t : Table) (n : ℕ) (m : Member) (ns : List Member) (l : Limiting) (code : ℕ) → IsGoing o t n (m ∷ ns) l
    → limit_of o.setup t.frame l.edits m ≡ Some code → IsLate o (edited l.edits t) m code
is_late o t n m ns l code g is = record {
  there = g.stand.0
      ∙ ap (λ (k : Member). Some k) (not_begun (began m.conn l.edits) t.frame code m (late o.setup t.frame m) is);
  late = late_then (began m.conn l.edits) code (late o.setup t.frame m) is;
}

ends_on : (o : Origin) (t : Table) (n : ℕ) (m : Member) (ns : List Member) (l : Limiting) (code : ℕ) → IsGoing o t n (m ∷ ns) l
    → IsLate o (edited l.edits t) m code
    → IsGoing o t m.conn ns (ended l t.frame m code (playing_in (members_after l.edits t.members)) (queue_after l.edits t.queue))
ends_on o t n m ns l code g is =
    let u : Table = edited l.edits t in
    let new : List Edit = left m.conn t.frame u.queue in
    let behind : edited (l.edits ++ new) t ≡ edited new u = edited_append l.edits new t in
    record {
      rest = g.rest.1;
      plays = sym (ap playing_in (members_append l.edits new t.members) ∙ left_plays m.conn t.frame u.queue u.members);
      waits = sym (queue_append l.edits new t.queue);
      stand = subst (λ (v : Table). Stand (l.edits ++ new) v ns) (sym behind)
          (stand_rest m.conn m.conn l.edits u ns g.rest.1 (omega arith) g.stand.1);
      calm = subst (Calm o.setup) (sym behind) (calm_left o.setup u m code is.there is.late g.calm);
    }

ends_then : (o : Origin) (t : Table) (n : ℕ) (m : Member) (ns : List Member) (l f : Limiting) (code : ℕ) → Rise t.members
    → IsGoing o t n (m ∷ ns) l → limit_of o.setup t.frame l.edits m ≡ Some code → IsLate o (edited l.edits t) m code
    → IsDone o t ns (ended l t.frame m code (playing_in (members_after l.edits t.members)) (queue_after l.edits t.queue)) f
    → IsDone o t (m ∷ ns) l f
ends_then o t n m ns l f code rise g limit is d =
    let u : Table = edited l.edits t in
    let new : List Edit = left m.conn t.frame u.queue in
    let said : List Step = ending m code (others m.conn u.members) u.queue in
    let behind : edited (l.edits ++ new) t ≡ edited new u = edited_append l.edits new t in
    let tells = ends_by m code u (rise_after l.edits t.members rise) (calm_ready o.setup u m code is.there is.late g.calm) in
    let same : each_limited o (m ∷ ns) u ≡ ends m code u ▹ each_limited o ns =
    one_limited o u m ns l.edits (Some code) g.stand.0 limit
    ∙ ap (λ (k : Member). ends k code u ▹ each_limited o ns)
    (not_begun (began m.conn l.edits) t.frame code m (late o.setup t.frame m) limit) in
    record {
      told = d.told
          ∙ ap (λ (ss : List book.Step). ss ++ (each_limited o ns (edited (l.edits ++ new) t)).told) (steps_append t.admins l.steps said)
          ∙ append_assoc (steps_in t.admins l.steps) (steps_in t.admins said) (each_limited o ns (edited (l.edits ++ new) t)).told
          ∙ ap₂ (λ (ss : List book.Step) (v : Table). steps_in t.admins l.steps ++ (ss ++ (each_limited o ns v).told)) tells.told (behind ∙
          tells.table)
          ∙ ap (λ (x : Deed). steps_in t.admins l.steps ++ x.told) (sym same);
      table = d.table ∙ ap (λ (v : Table). (each_limited o ns v).table) (behind ∙ tells.table) ∙ ap (λ (x : Deed). x.table) (sym same);
    }

by_limit : (o : Origin) (t : Table) (n : ℕ) (m : Member) (ns : List Member) (l : Limiting) (x : Option ℕ) → Rise t.members
    → IsGoing o t n (m ∷ ns) l → limit_of o.setup t.frame l.edits m ≡ x
    → ((k : Limiting) → IsGoing o t m.conn ns k → IsDone o t ns k (limiting o.setup t.frame ns k))
    → IsDone o t (m ∷ ns) l (limiting o.setup t.frame ns (limited_by x t.frame m l))
by_limit o t n m ns l None rise g is later =
    passes o t n m ns l (limiting o.setup t.frame ns l) g is (later l (goes_on o t n m ns l g))
by_limit o t n m ns l (Some code) rise g is later =
    let late = is_late o t n m ns l code g is in
    let next : Limiting = ended l t.frame m code (playing_in (members_after l.edits t.members)) (queue_after l.edits t.queue) in
    let same : next ≡ ended l t.frame m code l.plays l.waits = ap₂ (λ (ps qs : List ℕ). ended l t.frame m code ps qs) (sym g.plays) (sym
    g.waits) in
    subst (λ (k : Limiting). IsDone o t (m ∷ ns) l (limiting o.setup t.frame ns k)) same
    (ends_then o t n m ns l (limiting o.setup t.frame ns next) code rise g is late (later next (ends_on o t n m ns l code g late)))

all_limited : (o : Origin) (t : Table) (n : ℕ) (ns : List Member) (l : Limiting) → Rise t.members → IsGoing o t n ns l
    → IsDone o t ns l (limiting o.setup t.frame ns l)
all_limited o t n [] l rise g = record { told = sym (append-nil (steps_in t.admins l.steps)); table = refl }
all_limited o t n (m ∷ ns) l rise g = by_limit o t n m ns l (limit_of o.setup t.frame l.edits m) rise g refl
    (λ k h. all_limited o t m.conn ns k rise h)

-- the ends of a tick are those of its plan
pub all_end : (o : Origin) (t : Table) → Rise t.members → Calm o.setup t
    → Tells (timed o) (ends_of o.setup t.frame t.members t.queue).edits (ends_of o.setup t.frame t.members t.queue).steps t
all_end o t rise calm =
    let first : Limiting = record { edits = []; steps = []; plays = playing_in t.members; waits = t.queue } in
    let done = all_limited o t 0 t.members first rise
    (record { rest = rise; plays = refl; waits = refl; stand = own_found 0 t.members rise; calm = calm }) in
    record { told = done.told; table = done.table }

-- ---- they stamp nothing

silent_by : (x : Option ℕ) (frame : ℕ) (m : Member) (l : Limiting) → stamped_in (limited_by x frame m l).steps ≡ stamped_in l.steps
silent_by None frame m l = refl
silent_by (Some code) frame m l =
    stamped_append l.steps (ending m code (but m.conn l.plays) l.waits)
    ∙ ap (λ (es : List Entry). stamped_in l.steps ++ es) (ending_silent m code (but m.conn l.plays) l.waits) ∙ append-nil (stamped_in
    l.steps)

pub limiting_silent : (setup : Setup) (frame : ℕ) (ms : List Member) (l : Limiting) → stamped_in (limiting setup frame ms l).steps ≡
    stamped_in l.steps
limiting_silent setup frame [] l = refl
limiting_silent setup frame (m ∷ ms) l =
    limiting_silent setup frame ms (limited_by (limit_of setup frame l.edits m) frame m l) ∙ silent_by (limit_of setup frame l.edits m)
    frame m l

-- ---- by members that are as quiet

farewell_same : (b : Bool) (code : ℕ) (m n : Member) (conns : List ℕ) → n.client ≡ m.client
    → farewell_if b (Failing code) n conns ≡ farewell_if b (Failing code) m conns
farewell_same true code m n conns same = rw same refl
farewell_same false code m n conns same = refl

ending_same : (code : ℕ) (m n : Member) (conns queue : List ℕ) → n.conn ≡ m.conn → n.client ≡ m.client → is_welcomed n ≡ is_welcomed m
    → ending n code conns queue ≡ ending m code conns queue
ending_same code m n conns queue conn client welcomed =
    ap₂ (λ (c : ℕ) (ss : List Step). says_one c (ServerError code) ∷ says (One c) End ∷ ss ++ unasking (place_of c queue) queue) conn
    (ap (λ (b : Bool). farewell_if b (Failing code) n conns) welcomed ∙ farewell_same (is_welcomed m) code m n conns client)

limited_same : (x : Option ℕ) (frame : ℕ) (m n : Member) (l : Limiting) → n.conn ≡ m.conn → n.client ≡ m.client → is_welcomed n ≡
    is_welcomed m
    → limited_by x frame n l ≡ limited_by x frame m l
limited_same None frame m n l conn client welcomed = refl
limited_same (Some code) frame m n l conn client welcomed =
    ap (λ (ss : List Step). record {
      edits = l.edits ++ left n.conn frame l.waits;
      steps = l.steps ++ ss;
      plays = plays_after (left n.conn frame l.waits) l.plays;
      waits = queue_after (left n.conn frame l.waits) l.waits;
    }) (ending_same code m n (but n.conn l.plays) l.waits conn client welcomed)
    ∙ ap (λ (c : ℕ). record {
      edits = l.edits ++ left c frame l.waits;
      steps = l.steps ++ ending m code (but c l.plays) l.waits;
      plays = plays_after (left c frame l.waits) l.plays;
      waits = queue_after (left c frame l.waits) l.waits;
    }) conn

pub quiet_limiting : (setup : Setup) (frame : ℕ) (ms ns : List Member) (l : Limiting) → AreQuiet setup frame ms ns
    → limiting setup frame ns l ≡ limiting setup frame ms l
quiet_limiting setup frame [] [] l q = refl
quiet_limiting setup frame [] (n ∷ ns) l q = absurd q
quiet_limiting setup frame (m ∷ ms) [] l q = absurd q
quiet_limiting setup frame (m ∷ ms) (n ∷ ns) l q =
    let same : limit_of setup frame l.edits n ≡ limit_of setup frame l.edits m =
    ap₂ (λ (c : ℕ) (x : Option ℕ). cond (began c l.edits) None x) q.0.conn q.0.late in
    ap (λ (x : Option ℕ). limiting setup frame ns (limited_by x frame n l)) same
    ∙ ap (limiting setup frame ns) (limited_same (limit_of setup frame l.edits m) frame m n l q.0.conn q.0.client q.0.welcomed)
    ∙ quiet_limiting setup frame ms ns (limited_by (limit_of setup frame l.edits m) frame m l) q.1

-- ---- behind other changes and steps

-- with more before
abbrev pub behind : List Edit → List Step → Limiting → Limiting
behind es ss l = record l { edits = es ++ l.edits; steps = ss ++ l.steps }

limited_behind : (x : Option ℕ) (frame : ℕ) (m : Member) (es : List Edit) (ss : List Step) (l : Limiting)
    → limited_by x frame m (behind es ss l) ≡ behind es ss (limited_by x frame m l)
limited_behind None frame m es ss l = refl
limited_behind (Some code) frame m es ss l =
    ap₂ (λ (xs : List Edit) (ys : List Step). record (limited_by (Some code) frame m l) { edits = xs; steps = ys })
    (append_assoc es l.edits (left m.conn frame l.waits)) (append_assoc ss l.steps (ending m code (but m.conn l.plays) l.waits))

pub limiting_behind : (setup : Setup) (frame : ℕ) (ms : List Member) (es : List Edit) (ss : List Step) (l : Limiting)
    → ((c : ℕ) → began c es ≡ false) → limiting setup frame ms (behind es ss l) ≡ behind es ss (limiting setup frame ms l)
limiting_behind setup frame [] es ss l none = refl
limiting_behind setup frame (m ∷ ms) es ss l none =
    let same : limit_of setup frame (es ++ l.edits) m ≡ limit_of setup frame l.edits m =
    ap (λ (b : Bool). cond b None (late setup frame m)) (began_append m.conn es l.edits ∙ ap (λ (b : Bool). b || began m.conn l.edits)
    (none m.conn)) in
    ap (λ (x : Option ℕ). limiting setup frame ms (limited_by x frame m (behind es ss l))) same
    ∙ ap (limiting setup frame ms) (limited_behind (limit_of setup frame l.edits m) frame m es ss l)
    ∙ limiting_behind setup frame ms es ss (limited_by (limit_of setup frame l.edits m) frame m l) none

-- ---- where nobody is late

on_time : (x : Option ℕ) (b : Bool) → (is_some x || b) ≡ false → x ≡ None
on_time None b is = refl
on_time (Some code) b is = absurd cc

later_by : (x : Option ℕ) (b : Bool) → (is_some x || b) ≡ false → b ≡ false
later_by None b is = is
later_by (Some code) b is = absurd cc

nothing_by : (b : Bool) (x : Option ℕ) → x ≡ None → cond b None x ≡ None
nothing_by true x is = refl
nothing_by false x is = is

pub nobody_ends : (setup : Setup) (frame : ℕ) (ms : List Member) (l : Limiting) → list_any (λ m. is_some (late setup frame m)) ms ≡ false
    → limiting setup frame ms l ≡ l
nobody_ends setup frame [] l none = refl
nobody_ends setup frame (m ∷ ms) l none =
    let rest : Bool = list_any (λ k. is_some (late setup frame k)) ms in
    let first : limit_of setup frame l.edits m ≡ None =
    nothing_by (began m.conn l.edits) (late setup frame m) (on_time (late setup frame m) rest none) in
    ap (λ (x : Option ℕ). limiting setup frame ms (limited_by x frame m l)) first
    ∙ nobody_ends setup frame ms l (later_by (late setup frame m) rest none)
