-- Who downloads behind a tick: four pieces more were told, or a map begins where a member ends in it.
use Rattle.std.proofs.Common.{◌≡◌, ℕ, zero, suc, ◌+◌, ◌<◌, List, [], ◌∷◌, refl, ap, ap₂, sym, ◌∙◌, subst, true, false, Bool, Option}
use Rattle.std.proofs.Common.{Some, None, arith, inl, inr}
use Rattle.std.specs.Prelude.{◌==◌, ◌*◌, ◌-◌, ◌%◌, ◌||◌, cond, drop, find, length, map, nat_lt, not, filter}
use Rattle.std.proofs.lemmas.Bool.{eq-eqb, eqb-true, ltb-true, ne_eqb}
use Rattle.std.proofs.lemmas.List.{length-drop}
use Rattle.std.proofs.lemmas.List.Folds.{list_any-append}
use Rattle.tt_world.specs.declared.command.Entry.{Entry}
use Rattle.tt_world.specs.declared.setup.Setup.{Setup}
use Rattle.tt_world.specs.World.{WorldState}
use Rattle.tt_rules.specs.Codes.{timeout_map}
use Rattle.tt_rules.specs.Companies.{living}
use Rattle.tt_rules.specs.Reasons.{◌⇒◌}
use Rattle.tt_rules.specs.Statuses.{rank}
use Rattle.tt_rules.specs.declared.status.Status.{Status}
use Rattle.tt_rules.specs.declared.status.Status.TheVariants.{Inactive, NewgrfsCheck, AuthGame, AuthCompany, Authorized, MapWait, Map}
use Rattle.tt_rules.specs.declared.status.Status.TheVariants.{DoneMap, PreActive, Active}
use Rattle.tt_log.specs.declared.deed.Step.{Step}
use Rattle.tt_log.specs.declared.deed.What.TheVariants.{Sync}
use Rattle.tt_log.specs.Origin.{Origin, at_frame}
use Rattle.tt_log.specs.Admin.{Admin}
use Rattle.tt_log.specs.Member.{Member, is_playing}
use Rattle.tt_log.specs.Table.{Table, admin_of, downloader, first_loading, if_loading, is_on, member_of, member_with, playing, with_member}
use Rattle.tt_log.specs.Table.{world_of}
use Rattle.tt_log.specs.Deed.{Deed, ◌▹◌, tells_what, where_, where_some}
use Rattle.tt_log.specs.Frames.{fresh_token, frames_told, opened_token, tells_frame, tells_frame_by}
use Rattle.tt_log.specs.Watching.{sees_frame}
use Rattle.tt_log.specs.Ending.{Failing, ends}
use Rattle.tt_log.specs.PacketRules.{moves}
use Rattle.tt_log.specs.Polls.{admins_told, day_told, due_reports, each_told, tells_admin}
use Rattle.tt_log.specs.Desk.{admin_ends, admin_limited, admins_limited, each_admin_limited, is_slow}
use Rattle.tt_log.specs.Tick.{all_moved, drawn, each_limited, finishes_map, founders_moved, foundings, frame_follows, frame_runs}
use Rattle.tt_log.specs.Tick.{frame_runs_by, late, late_in, left_of, limited, mapped, next_pieces, pieces_of, stamped, stamps, synced}
use Rattle.tt_log.specs.Tick.{tells_entries, ticked, timed}
use Rattle.tt_log.specs.History.{AreRising}
use Rattle.tt_log.proofs.Lists.{Among, all-so, found-among}
use Rattle.tt_log.proofs.Crew.{On, conns, find-put-here, find-put-other, found-on, put, put-conns}
use Rattle.tt_log.proofs.Ordered.{map-same, rising-above}
use Rattle.tt_log.proofs.Walk.{running, stamping}
use Rattle.tt_outgoing.specs.Carrying.{begins_map, is_begin}
use Rattle.tt_outgoing.proofs.Loaders.{Alone, Behind, Calm, Goes, Idle, Quiet, calm-alone, calm-still, calm-then, from-calm}
use Rattle.tt_outgoing.proofs.Loaders.{from-then, if-loading, put-found, quiet-behind, quiet-front, same-calm}
use Rattle.tt_outgoing.proofs.Loaders.{kept-calm, own-found, quiet-then, told-quiet}
use Rattle.tt_outgoing.proofs.Parting.{IsFresh, Whole, WholeBy, ends-whole, leaves-keeps, whole-calm}

-- ---- stamps

entries-same : (es : List Entry) (t : Table) → (tells_entries es t).table ≡ t
entries-same [] t = refl
entries-same (e ∷ es) t = entries-same es t

entries-quiet : (es : List Entry) (t : Table) → begins_map (tells_entries es t).told ≡ false
entries-quiet [] t = refl
entries-quiet (e ∷ es) t = entries-quiet es t

drawn-goes : (ms : List Member) (d : ℕ) (n : Member) → find (is_on d) (map drawn ms) ≡ Some n → rank n.status ≡ 6
    → Goes (find (is_on d) ms) n
drawn-goes [] d n is at = absurd cc
drawn-goes (x ∷ xs) d n is at = by (x.conn == d) (drawn-goes xs d n) is
  where
    by : (b : Bool) → (find (is_on d) (map drawn xs) ≡ Some n → rank n.status ≡ 6 → Goes (find (is_on d) xs) n)
        → cond b (Some (drawn x)) (find (is_on d) (map drawn xs)) ≡ Some n → Goes (cond b (Some x) (find (is_on d) xs)) n
    by true later same =
        let e : drawn x ≡ n = cc in (
          x,
          refl,
          record {
            loads = ap (λ (m : Member). rank m.status) e ∙ at;
            map_frame = ap (λ (m : Member). m.map_frame) (sym e);
            pieces = ap (λ (m : Member). m.pieces) (sym e);
          },
        )
    by false later same = later same at

stamping-quiet : (t : Table) → Quiet t (record { table = stamping t; told = [] })
stamping-quiet t = record {
  calm = record { queue = refl; each = λ d n is at. drawn-goes t.members d n is at };
  none = refl;
  same = map-same (λ (m : Member). m.conn) drawn t.members (λ m. refl);
}

entries-calm : (es : List Entry) (t : Table) → Quiet t (tells_entries es t)
entries-calm es t = record {
  calm = subst (λ (u : Table). Calm t u) (sym (entries-same es t)) (calm-still t);
  none = entries-quiet es t;
  same = ap (λ (u : Table). conns u.members) (entries-same es t);
}

stamped-quiet : (t : Table) → Quiet t (stamped t)
stamped-quiet t = quiet-then t (record { table = stamping t; told = [] }) (tells_entries (stamps t)) (stamping-quiet t)
    (entries-calm (stamps t) (stamping t))

-- ---- the frame

quiet-still : (t : Table) → Quiet t (record { table = t; told = [] })
quiet-still t = record { calm = calm-still t; none = refl; same = refl }

frame-by : (b : Bool) (t : Table) (m : Member) → member_of t m.conn ≡ Some m → Quiet t (tells_frame_by b m t)
frame-by true t m is =
    let n : Member = opened_token (fresh_token t.tokens) t m in
    let v : Table = with_member n t in
    record {
      calm = calm-then t v _ (kept-calm t m n is refl refl refl refl) (same-calm v _ refl refl);
      none = refl;
      same = put-conns n t.members;
    }
frame-by false t m is = record { calm = kept-calm t m _ is refl refl refl refl; none = refl; same = put-conns _ t.members }

frame-where : (b : Bool) (t : Table) (m : Member) → member_of t m.conn ≡ Some m → Quiet t (where_ b (tells_frame_by (m.token == 0) m) t)
frame-where true t m is = frame-by (m.token == 0) t m is
frame-where false t m is = quiet-still t

frame-some : (x : Option Member) (t : Table) (c : ℕ) → member_of t c ≡ x → Quiet t (where_some x tells_frame t)
frame-some None t c is = quiet-still t
frame-some (Some m) t c is = frame-where (is_playing m) t m (own-found t c m is)

frames-quiet : (ms : List Member) (t : Table) → Quiet t (frames_told ms t)
frames-quiet [] t = quiet-still t
frames-quiet (m ∷ ms) t =
    let d : Deed = where_some (member_of t m.conn) tells_frame t in
    quiet-then t d (frames_told ms) (frame-some (member_of t m.conn) t m.conn refl) (frames-quiet ms d.table)

running-quiet : (b : Bool) (o : Origin) (t : Table) → Quiet t (record { table = running b o t; told = [] })
running-quiet true o t = record { calm = same-calm t (running true o t) refl refl; none = refl; same = refl }
running-quiet false o t = record { calm = same-calm t (running false o t) refl refl; none = refl; same = refl }

runs-quiet : (b : Bool) (o : Origin) (t : Table) → Quiet t (frame_runs_by b o t)
runs-quiet true o t = quiet-then t (record { table = running true o t; told = [] }) (frames_told t.members) (running-quiet true o t)
    (frames-quiet t.members (running true o t))
runs-quiet false o t = running-quiet false o t

-- ---- founders

here-found : (k : ℕ) (m : Member) (ms : List Member) → AreRising k (conns ms) → Among m ms → find (is_on m.conn) ms ≡ Some m
here-found k m [] r there = absurd there
here-found k m (x ∷ xs) r (inl here) = rw (eq-eqb x.conn m.conn (ap (λ (y : Member). y.conn) here)) (ap (λ (y : Member). Some y) here)
here-found k m (x ∷ xs) r (inr later) =
    let above : x.conn < m.conn = rising-above x.conn m xs r.1 later in
    rw (ne_eqb x.conn m.conn (λ same. omega (arith, same, above))) (here-found x.conn m xs r.1 later)

founder-quiet : (x : Option Member) (company : ℕ) (t : Table) → AreRising 0 (conns t.members) → ((m : Member) → x ≡ Some m → On t m)
    → Quiet t (where_some x (λ m. moves m company) t)
founder-quiet None company t r on = quiet-still t
founder-quiet (Some m) company t r on = record {
  calm = kept-calm t m _ (here-found 0 m t.members r (on m refl)) refl refl refl refl;
  none = refl;
  same = put-conns _ t.members;
}

all-moved-quiet : (fs : List (ℕ × ℕ)) (t : Table) → AreRising 0 (conns t.members) → Quiet t (all_moved fs t)
all-moved-quiet [] t r = quiet-still t
all-moved-quiet (f ∷ fs) t r =
    let rule : Member → Table → Deed = λ m. moves m f.1 in
    let d : Deed = where_some (member_with f.0 t) rule t in
    let one : Quiet t d = founder-quiet (member_with f.0 t) f.1 t r (λ m is. found-among (λ m. m.client == f.0) m t.members is) in
    quiet-then t d (all_moved fs) one (all-moved-quiet fs d.table (subst (λ (cs : List ℕ). AreRising 0 cs) (sym one.same) r))

synced-quiet : (b : Bool) (t : Table) → Quiet t (where_ b (λ u. tells_what (playing u) Sync u) t)
synced-quiet true t = record { calm = calm-still t; none = refl; same = refl }
synced-quiet false t = quiet-still t

-- all of a tick up to the map's pieces
abbrev opening : Origin → Table → Deed
opening o t = stamped t ▹ frame_runs o ▹ sees_frame

opening-quiet : (o : Origin) (t : Table) → Quiet t (opening o t)
opening-quiet o t =
    let a : Deed = stamped t in
    let b : Deed = a ▹ frame_runs o in
    let pb : Quiet t b = quiet-then t a (frame_runs o) (stamped-quiet t) (runs-quiet (nat_lt a.table.top (a.table.frame + 1)) o a.table) in
    quiet-then t b sees_frame pb (record { calm = calm-still b.table; none = refl; same = refl })

-- ---- the map's pieces

-- who downloads behind them did so before: four pieces more of its map were told
abbrev pub GoesOn : Table → Table → Type 0
GoesOn t u = (n : Member) → downloader u ≡ Some n → (m : Member) × (downloader t ≡ Some m) × (n.map_frame ≡ m.map_frame)
    × (n.pieces ≡ m.pieces + 4)

record Told (t : Table) (d : Deed) : Type 0 where
  alone : Alone d.table d.table.queue
  frame : d.table.frame ≡ t.frame
  none : begins_map d.told ≡ false
  goes : GoesOn t d.table

pieces-full : (n : ℕ) (bytes : List ℕ) → 1400 * n < length bytes → length (pieces_of n bytes) ≡ n
pieces-full n [] more = absurd (omega (arith, more))
pieces-full zero (b ∷ bs) more = refl
pieces-full (suc n) (b ∷ bs) more =
    let l : length (drop 1400 (b ∷ bs)) ≡ length (b ∷ bs) - 1400 = length-drop 1400 (b ∷ bs) in
    ap (λ (k : ℕ). suc k) (pieces-full n (drop 1400 (b ∷ bs)) (omega (arith, l, more)))

-- the member at the first place changes
head-alone : (t : Table) (n : Member) (d : ℕ) (ds : List ℕ) → n.conn ≡ d → Behind t d ds → Behind (with_member n t) d ds
head-alone t n d ds at a = all-so (λ y. (y == d) ≡ false → Idle t y) (λ y. (y == d) ≡ false → Idle (with_member n t) y) ds
    (λ y idle apart k is loads. idle apart k (sym (find-put-other n y t.members (ne_eqb n.conn y (λ same. let e : (y == d) ≡ true =
    eq-eqb y d (sym same ∙ at) in absurd cc))) ∙ is) loads) a

pieces-by : (b : Bool) (left : List ℕ) (t : Table) (m : Member) (d : ℕ) (ds : List ℕ) → nat_lt (4 * 1400) (length left) ≡ b
    → t.queue ≡ d ∷ ds → Alone t (d ∷ ds) → member_of t d ≡ Some m → rank m.status ≡ 6 → downloader t ≡ Some m
    → (let n : Member = record m { pieces = m.pieces + length (pieces_of 4 left) } in
    let e : Deed = where_ (not b) (finishes_map n) (with_member n t) in
    (begins_map e.told ≡ false) × Alone e.table e.table.queue × (e.table.frame ≡ t.frame) × GoesOn t e.table)
pieces-by true left t m d ds is q alone found loads was =
    let n : Member = record m { pieces = m.pieces + length (pieces_of 4 left) } in
    let u : Table = with_member n t in
    let at : m.conn ≡ d = found-on d t.members m found in
    let here : member_of u d ≡ Some n = subst (λ (c : ℕ). find (is_on c) (put n t.members) ≡ Some n) at
    (find-put-here n m t.members (own-found t d m found)) in
    let four : length (pieces_of 4 left) ≡ 4 = let l : 4 * 1400 < length left = ltb-true (4 * 1400) (length left) is in
    pieces-full 4 left (omega (arith, l)) in (
      refl,
      subst (λ (ys : List ℕ). Alone u ys) (sym q) (head-alone t n d ds at alone),
      refl,
      λ k some.
          let a = if-loading (member_of u d) k (subst (λ (ys : List ℕ). first_loading ys u ≡ Some k) q some) in
          let same : Some n ≡ Some k = sym here ∙ a.0 in
          let e : n ≡ k = cc in (
            m,
            was,
            ap (λ (x : Member). x.map_frame) (sym e),
            ap (λ (x : Member). x.pieces) (sym e) ∙ ap (λ (x : ℕ). m.pieces + x) four,
          ),
    )
pieces-by false left t m d ds is q alone found loads was =
    let n : Member = record m { pieces = m.pieces + length (pieces_of 4 left) } in
    let k : Member = record n { status = DoneMap } in
    let u : Table = with_member n t in
    let v : Table = with_member k u in
    let at : m.conn ≡ d = found-on d t.members m found in (
      refl,
      subst (λ (ys : List ℕ). Alone v ys) (sym q) (head-alone u k d ds at (head-alone t n d ds at alone)),
      refl,
      λ x some.
          let a = if-loading (member_of v d) x (subst (λ (ys : List ℕ). first_loading ys v ≡ Some x) q some) in
          let e : k ≡ x = put-found k x u.members (subst (λ (c : ℕ). find (is_on c) (put k u.members) ≡ Some x) (sym at) a.0) in
          let low : rank k.status ≡ 6 = ap (λ (y : Member). rank y.status) e ∙ a.1 in
          absurd (omega (arith, low)),
    )

mapped-told : (left : List ℕ) (t : Table) → Alone t t.queue → Told t (mapped left t)
mapped-told left t alone = by t.queue refl alone
  where
    none : downloader t ≡ None → Told t (record { table = t; told = [] })
    none is = record {
      alone = alone;
      frame = refl;
      none = refl;
      goes = λ n some. absurd (let e : None ≡ Some n = sym is ∙ some in cc);
    }

    some : (x : Option Member) → downloader t ≡ x → (q : List ℕ) → t.queue ≡ q → Alone t q → Told t (where_some x (next_pieces left) t)
    some None is q at a = none is
    some (Some m) is [] at a = absurd (let e : None ≡ Some m = subst (λ (ys : List ℕ). first_loading ys t ≡ Some m) at is in cc)
    some (Some m) is (d ∷ ds) at a =
        let f = if-loading (member_of t d) m (subst (λ (ys : List ℕ). first_loading ys t ≡ Some m) at is) in
        let p = pieces-by (nat_lt (4 * 1400) (length left)) left t m d ds refl at a f.0 f.1 is in
        record { alone = p.1; frame = p.2; none = p.0; goes = p.3 }

    by : (q : List ℕ) → t.queue ≡ q → Alone t q → Told t (mapped left t)
    by q at a = some (downloader t) refl q at a

-- ---- time limits: one that has just begun is not late

record Lasts (t u : Table) (begun : Bool) : Type 0 where
  whole : Whole t u begun
  fresh : IsFresh t → IsFresh u

lasts-then : (b c : Bool) (t u v : Table) → Lasts t u b → Lasts u v c → Lasts t v (b || c)
lasts-then true c t u v x y = record {
  whole = record {
    alone = y.whole.alone;
    frame = y.whole.frame ∙ x.whole.frame;
    fresh = λ is. y.fresh (x.whole.fresh refl);
    goes = λ no. absurd cc;
  };
  fresh = λ f. y.fresh (x.fresh f);
}
lasts-then false c t u v x y = record {
  whole = record {
    alone = y.whole.alone;
    frame = y.whole.frame ∙ x.whole.frame;
    fresh = λ is. y.whole.fresh is;
    goes = λ no. from-then t u v (x.whole.goes refl) (y.whole.goes no);
  };
  fresh = λ f. y.fresh (x.fresh f);
}

lasts-still : (t : Table) → Alone t t.queue → Lasts t t false
lasts-still t a = record { whole = whole-calm t t refl (calm-still t) a; fresh = λ f. f }

never-late : (s : Status) (setup : Setup) (frame code : ℕ) (m : Member) → rank s ≡ 6 → m.since ≡ frame
    → late_in s setup frame m ≡ Some code → ⊥
never-late Inactive setup frame code m at now is = absurd (omega (arith, at))
never-late NewgrfsCheck setup frame code m at now is = absurd (omega (arith, at))
never-late AuthGame setup frame code m at now is = absurd (omega (arith, at))
never-late AuthCompany setup frame code m at now is = absurd (omega (arith, at))
never-late Authorized setup frame code m at now is = absurd (omega (arith, at))
never-late MapWait setup frame code m at now is = absurd (omega (arith, at))
never-late Map setup frame code m at now is = by (nat_lt setup.download (frame - m.since)) refl is
  where
    by : (c : Bool) → nat_lt setup.download (frame - m.since) ≡ c → (c ⇒ timeout_map) ≡ Some code → ⊥
    by true over same = let l = ltb-true setup.download (frame - m.since) over in absurd (omega (arith, l, now))
    by false early same = absurd cc
never-late DoneMap setup frame code m at now is = absurd (omega (arith, at))
never-late PreActive setup frame code m at now is = absurd (omega (arith, at))
never-late Active setup frame code m at now is = absurd (omega (arith, at))

-- one that is late is another one
late-apart : (b : Bool) (o : Origin) (t : Table) (k : Member) (code : ℕ) (f : IsFresh t) → (k.conn == f.who.conn) ≡ b
    → member_of t k.conn ≡ Some k → late o.setup t.frame k ≡ Some code → b ≡ false
late-apart false o t k code f same is code_is = refl
late-apart true o t k code f same is code_is = absurd (by t.queue f.loads)
  where
    by : (q : List ℕ) → first_loading q t ≡ Some f.who → ⊥
    by [] none = absurd cc
    by (d ∷ ds) some =
        let a = if-loading (member_of t d) f.who some in
        let own : member_of t f.who.conn ≡ Some f.who = own-found t d f.who a.0 in
        let there : member_of t f.who.conn ≡ Some k = subst (λ (c : ℕ). member_of t c ≡ Some k) (eqb-true k.conn f.who.conn same) is in
        let both : Some k ≡ Some f.who = sym there ∙ own in
        let e : k ≡ f.who = cc in
        never-late k.status o.setup t.frame code k (ap (λ (m : Member). rank m.status) e ∙ a.1)
        (ap (λ (m : Member). m.since) e ∙ f.since) code_is

ends-lasts : (o : Origin) (t : Table) (k : Member) (code : ℕ) → Alone t t.queue → member_of t k.conn ≡ Some k
    → late o.setup t.frame k ≡ Some code → Lasts t (ends k code t).table (begins_map (ends k code t).told)
ends-lasts o t k code a is code_is =
    let w : WholeBy t (ends k code t) = ends-whole k code t a in
    record {
      whole = w;
      fresh = λ f.
          let keeps = leaves-keeps k (Failing code) t f.who a f.loads
          (late-apart (k.conn == f.who.conn) o t k code f refl is code_is) in
          record {
            who = f.who;
            loads = keeps.1;
            map_frame = f.map_frame ∙ sym w.frame;
            pieces = f.pieces;
            since = f.since ∙ sym w.frame;
          };
    }

late-lasts : (x : Option ℕ) (o : Origin) (t : Table) (k : Member) → Alone t t.queue → member_of t k.conn ≡ Some k
    → late o.setup t.frame k ≡ x → (let d : Deed = where_some x (ends k) t in Lasts t d.table (begins_map d.told))
late-lasts None o t k a is code_is = lasts-still t a
late-lasts (Some code) o t k a is code_is = ends-lasts o t k code a is code_is

limited-lasts : (x : Option Member) (o : Origin) (t : Table) (c : ℕ) → Alone t t.queue → member_of t c ≡ x
    → (let d : Deed = where_some x (limited o) t in Lasts t d.table (begins_map d.told))
limited-lasts None o t c a is = lasts-still t a
limited-lasts (Some k) o t c a is = late-lasts (late o.setup t.frame k) o t k a (own-found t c k is) refl

each-lasts : (o : Origin) (ms : List Member) (t : Table) → Alone t t.queue
    → Lasts t (each_limited o ms t).table (begins_map (each_limited o ms t).told)
each-lasts o [] t a = lasts-still t a
each-lasts o (m ∷ ms) t a =
    let d : Deed = where_some (member_of t m.conn) (limited o) t in
    let e : Deed = each_limited o ms d.table in
    let x = limited-lasts (member_of t m.conn) o t m.conn a refl in
    let y = each-lasts o ms d.table x.whole.alone in
    subst (λ (b : Bool). Lasts t e.table b) (sym (list_any-append (λ (s : Step). is_begin s.what) d.told e.told))
    (lasts-then (begins_map d.told) (begins_map e.told) t d.table e.table x y)

-- ---- admins

record Aside (t : Table) (d : Deed) : Type 0 where
  members : d.table.members ≡ t.members
  queue : d.table.queue ≡ t.queue
  frame : d.table.frame ≡ t.frame
  none : begins_map d.told ≡ false

aside-still : (t : Table) → Aside t (record { table = t; told = [] })
aside-still t = record { members = refl; queue = refl; frame = refl; none = refl }

aside-then : (t : Table) (d : Deed) (rule : Table → Deed) → Aside t d → Aside d.table (rule d.table) → Aside t (d ▹ rule)
aside-then t d rule a b = record {
  members = b.members ∙ a.members;
  queue = b.queue ∙ a.queue;
  frame = b.frame ∙ a.frame;
  none = quiet-front d.told (rule d.table).told a.none ∙ b.none;
}

slow-aside : (b : Bool) (a : Admin) (t : Table) → Aside t (where_ b (admin_ends a 17) t)
slow-aside true a t = record { members = refl; queue = refl; frame = refl; none = refl }
slow-aside false a t = aside-still t

limited-aside : (x : Option Admin) (o : Origin) (t : Table) → Aside t (where_some x (admin_limited o) t)
limited-aside None o t = aside-still t
limited-aside (Some a) o t = slow-aside (is_slow o t.frame a) a t

admins-aside : (admins : List Admin) (o : Origin) (t : Table) → Aside t (each_admin_limited o admins t)
admins-aside [] o t = aside-still t
admins-aside (a ∷ admins) o t =
    let d : Deed = where_some (admin_of t a.conn) (admin_limited o) t in
    aside-then t d (each_admin_limited o admins) (limited-aside (admin_of t a.conn) o t) (admins-aside admins o d.table)

each-told-aside : (day : ℕ) (admins : List Admin) (t : Table) → Aside t (each_told day admins t)
each-told-aside day [] t = aside-still t
each-told-aside day (a ∷ admins) t =
    let d : Deed = tells_admin a.conn (due_reports day a t) t in
    aside-then t d (each_told day admins)
    (record { members = refl; queue = refl; frame = refl; none = told-quiet a.conn (due_reports day a t) t }) (each-told-aside day admins t)

day-aside : (b : Bool) (day : ℕ) (t : Table) → Aside t (where_ b (day_told day) t)
day-aside true day t = each-told-aside day (filter (λ a. a.joined) t.admins) t
day-aside false day t = aside-still t

news-aside : (before : ℕ) (o : Origin) (t : Table) → Aside t (admins_told before o t)
news-aside before o t = day-aside (not ((world_of o t).day == before)) (world_of o t).day t

-- ---- a tick

pub record TickGoes (t : Table) (d : Deed) : Type 0 where
  pub fresh : begins_map d.told ≡ true → IsFresh d.table
  pub goes : begins_map d.told ≡ false → GoesOn t d.table

loader-of : List ℕ → List Member → Option Member
loader-of [] ms = None
loader-of (d ∷ ds) ms = if_loading (find (is_on d) ms)

loader-is : (q : List ℕ) (t : Table) → first_loading q t ≡ loader-of q t.members
unfolding loader-of
loader-is [] t = refl
loader-is (d ∷ ds) t = refl

same-loader : (c e : Table) → e.members ≡ c.members → e.queue ≡ c.queue → downloader e ≡ downloader c
same-loader c e members queue = loader-is e.queue e ∙ ap₂ loader-of queue members ∙ sym (loader-is c.queue c)

ends-tick : (t a b c : Table) (d : Deed) (begun : Bool) → Calm t a → GoesOn a b → Lasts b c begun → d.table.members ≡ c.members
    → d.table.queue ≡ c.queue → d.table.frame ≡ c.frame → begins_map d.told ≡ begun → TickGoes t d
ends-tick t a b c d begun calm told limits members queue frame is = record {
  fresh = λ yes.
      let f = limits.whole.fresh (sym is ∙ yes) in
      record {
        who = f.who;
        loads = same-loader c d.table members queue ∙ f.loads;
        map_frame = f.map_frame ∙ sym frame;
        pieces = f.pieces;
        since = f.since ∙ sym frame;
      };
  goes = λ no n some.
      let x = limits.whole.goes (sym is ∙ no) n (sym (same-loader c d.table members queue) ∙ some) in
      let y = told x.0 x.1 in
      let z = from-calm t a calm y.0 y.1 in (
        z.0,
        z.1,
        x.2.map_frame ∙ y.2 ∙ z.2.map_frame,
        x.2.pieces ∙ y.3 ∙ ap (λ (k : ℕ). k + 4) z.2.pieces,
      );
}

pub ticked-goes : (o : Origin) (t : Table) → AreRising 0 (conns t.members) → Alone t t.queue → TickGoes t (ticked o t)
ticked-goes o t rise alone =
    let before : WorldState = world_of o t in
    let left : List ℕ = left_of o t in
    let first : Deed = opening o t in
    let pf : Quiet t first = opening-quiet o t in
    let c : Table = first.table in
    let founders : Deed = founders_moved o (living before) c in
    let p1 : Quiet c founders = all-moved-quiet (foundings (living before) (at_frame o c.frame c.journal)) c
    (subst (λ (cs : List ℕ). AreRising 0 cs) (sym pf.same) rise) in
    let ahead : Deed = founders ▹ synced o in
    let p2 : Quiet c ahead = quiet-then c founders (synced o) p1
    (synced-quiet (founders.table.frame % o.setup.sync_freq == 0) founders.table) in
    let a : Table = ahead.table in
    let calm : Calm t a = calm-then t c a pf.calm p2.calm in
    let told : Deed = mapped left a in
    let pt : Told a told = mapped-told left a (subst (λ (ys : List ℕ). Alone a ys) (sym calm.queue) (calm-alone t a t.queue calm alone)) in
    let limits : Deed = timed o told.table in
    let pl : Lasts told.table limits.table (begins_map limits.told) = each-lasts o told.table.members told.table pt.alone in
    let admins : Deed = admins_limited o limits.table in
    let pa : Aside limits.table admins = admins-aside limits.table.admins o limits.table in
    let news : Deed = admins_told before.day o admins.table in
    let pn : Aside admins.table news = news-aside before.day o admins.table in
    let front : begins_map (ahead ▹ mapped left).told ≡ false = quiet-front ahead.told told.told p2.none ∙ pt.none in
    let begun : begins_map (ticked o t).told ≡ begins_map limits.told =
    quiet-front first.told (frame_follows before left o c).told pf.none
    ∙ quiet-behind (ahead ▹ mapped left ▹ timed o ▹ admins_limited o).told news.told pn.none
    ∙ quiet-behind (ahead ▹ mapped left ▹ timed o).told admins.told pa.none
    ∙ quiet-front (ahead ▹ mapped left).told limits.told front in
    ends-tick t a told.table limits.table (ticked o t) (begins_map limits.told) calm pt.goes pl (pn.members ∙ pa.members)
    (pn.queue ∙ pa.queue) (pn.frame ∙ pa.frame) begun
