-- The queue's rules: a download begins, others are told how many stand before them, one leaves, one asks.
use Rattle.std.proofs.Common.{◌≡◌, ℕ, suc, ◌+◌, Bool, true, false, cond, List, [], ◌∷◌, ◌++◌, nat_le, length, take, drop}
use Rattle.std.proofs.Common.{Option, Some, None, refl, ap, ap₂, sym, ◌∙◌, subst, arith}
use Rattle.std.specs.Prelude.{◌==◌, nat_lt, not, min, is_some}
use Rattle.std.specs.List.{AllByRecursion}
use Rattle.std.proofs.lemmas.Bool.{eqb-true, eq-eqb, lt-ltb, ne_eqb}
use Rattle.tt_game.specs.declared.message.GameMsg.{GameMsg}
use Rattle.tt_game.specs.declared.message.GameMsg.TheVariants.{ServerWait, ServerMapBegin, ServerMapSize}
use Rattle.tt_world.specs.World.{WorldState}
use Rattle.tt_map.specs.Layout.{map_of}
use Rattle.tt_rules.specs.Statuses.{rank}
use Rattle.tt_rules.specs.declared.status.Status.TheVariants.{MapWait}
use Rattle.tt_log.specs.declared.deed.What.TheVariants.{Msg, MapBegin}
use Rattle.tt_log.specs.Origin.{Origin}
use Rattle.tt_log.specs.Member.{Member, is_in}
use Rattle.tt_log.specs.Table.{Table, member_of, now_in}
use Rattle.tt_log.specs.Deed.{Deed, where_some, becomes, tells}
use Rattle.tt_log.specs.Tellings.{Filling}
use Rattle.tt_log.specs.Queue.{asks, begins, begins_for, begins_where, downloading, left_place, leaves_queue, moved_up, waits}
use Rattle.tt_log.specs.Shown.{Place, Greeted}
use Rattle.tt_log.proofs.Lists.{NotIn, all-append}
use Rattle.tt_log.proofs.Crew.{On, on-found, found-on, put}
use Rattle.tt_log.proofs.Phases.{removed, place_in, removed-is, cut-none, not-found}
use Rattle.tt_in_step.specs.Watched.{Seat, Welcome, InQueue, Loads, seat_of, seat, watched}
use Rattle.tt_in_step.proofs.Seats.{among, put-other, put-here, found-seat, none-found, ranked}
use Rattle.tt_in_step.proofs.Hearing.{all_said, hears-one, hears-none}
use Rattle.tt_in_step.proofs.Ways.{seen_as, Way, Fitting, FitsAt, place_at, map_at, stays, way-on, way-begin}
use Rattle.tt_in_step.proofs.Worlds.{MapsAreRead, IsMapRead}
use Rattle.tt_in_step.proofs.Lines.{in_line, Stands, Waits, Distinct, Line, Or, LineBut, out-of-line, all-others, all-removed}
use Rattle.tt_in_step.proofs.Lines.{distinct-removed, once-or-not, distinct-last, line-put}
use Rattle.tt_in_step.proofs.Does.{altered, Base, Tied, Parting, Does, Turns, way-is, does-then, does-so, does-still, does-where}
use Rattle.tt_in_step.proofs.Does.{does-turn, seated}

module _ (o : Origin) (reads : MapsAreRead o) (f : Filling) (c : ℕ) where
  -- ---- those that wait are told how many stand before them

  wait-one : (T : Table → Place → Type 0) (x n : ℕ) (t : Table) (place : Place) → Base o f c t place → T t place
      → ((x == c) ≡ true → Waits t.members c) → Does o f c T t place (tells (x ∷ []) (ServerWait n) t)
  wait-one T x n t place base h w = by (x == c) refl
    where
      by : (b : Bool) → (x == c) ≡ b → Does o f c T t place (tells (x ∷ []) (ServerWait n) t)
      by true is =
          let here : seat c t.members ≡ Some InQueue = w is in
          let fit : FitsAt o t.frame t.journal InQueue place =
          subst (λ y. Fitting o t.frame t.journal (nat_le c t.openings) y place) here base.fits in
          let server = seen_as t.frame t.top t.journal (nat_le c t.openings) (Some InQueue) in
          let told : among c (x ∷ []) ≡ true = rw is refl in
          let same : server ≡ watched c t = ap (λ y. seen_as t.frame t.top t.journal (nat_le c t.openings) y) (sym here) in
          let way : Way o Greeted (ServerWait n ∷ []) server server Greeted =
          way-on o t.frame t.top t.journal (nat_le c t.openings) InQueue Greeted Greeted (ServerWait n) refl refl in
          record {
            end = place;
            way = way-is o f c place place _ _ _ _ _ _ (subst (λ p. Way o p (ServerWait n ∷ []) server server p) (sym fit.0) way)
                (sym (hears-one c o f (x ∷ []) (Msg (ServerWait n)) told)) same same;
            tied = h;
          }
      by false is = record {
        end = place;
        way = way-is o f c place place _ _ _ _ _ _ (stays o place (watched c t))
            (sym (hears-none c o f (x ∷ []) (Msg (ServerWait n)) (rw is refl))) refl refl;
        tied = h;
      }

  does-waits : (T : Table → Place → Type 0) (p : ℕ) (xs : List ℕ) (t : Table) (place : Place) → ((end : Place) → T t end → Base o f c t end)
      → T t place → AllByRecursion (Waits t.members) xs → Does o f c T t place (moved_up (suc p) xs t)
  does-waits T p [] t place base h w = does-still o f c T t place h
  does-waits T p (x ∷ xs) t place base h w =
      does-then o f c T T t place (waits x (suc p) t) (moved_up (suc (suc p)) xs)
      (wait-one T x (min (suc p) 255) t place (base place h) h (λ own. subst (λ k. Waits t.members k) (eqb-true x c own) w.0))
      (λ end k. does-waits T (suc p) xs t end base k w.1)

  -- ---- a download begins

  begin-turns : (t : Table) (place : Place) (m : Member) → Base o f c t place → seat_of m ≡ InQueue
      → FitsAt o t.frame t.journal (seat_of m) place
      → Turns o f c t place (all_said o f (MapBegin ∷ [])) (seat_of m) (Loads t.frame 0)
  begin-turns t place m h is fit =
      let at : FitsAt o t.frame t.journal InQueue place = subst (λ x. FitsAt o t.frame t.journal x place) is fit in
      let read : IsMapRead o t.journal t.frame = reads t.journal t.frame h.steady.short h.steady.low in
      let b = nat_le c t.openings in
      let new = seen_as t.frame t.top t.journal b (Some (Loads t.frame 0)) in
      let old = seen_as t.frame t.top t.journal b (Some InQueue) in
      let there : Place = place_at o t.journal (Loads t.frame 0) in
      let said : List GameMsg = ServerMapBegin t.frame ∷ ServerMapSize (length (map_at o t.journal t.frame)) ∷ [] in
      let ms : said ≡ all_said o f (MapBegin ∷ []) = ap₂ (λ (g : ℕ) (v : WorldState). ServerMapBegin g
      ∷ ServerMapSize (length (map_of v)) ∷ []) (sym h.steady.frame_is) (sym h.steady.world_is) in
      record {
        end = there;
        way = way-is o f c place there _ _ _ _ _ _ (subst (λ p. Way o p said old new there) (sym at.0)
            (way-begin o t.frame t.top t.journal b
            read.fits)) ms (ap (λ (x : Seat). seen_as t.frame t.top t.journal b (Some x)) (sym is)) refl;
        fit = (refl, omega arith);
      }

  -- what is changed: the seat of one connection alone
  record Begun (z : ℕ) (t u : Table) (place : Place) : Type 0 where
    base : Base o f c u place
    here : Stands u.members z
    others : (d : ℕ) → (z == d) ≡ false → seat d u.members ≡ seat d t.members
    queue : u.queue ≡ t.queue

  begin-found : (x : Option Member) (z : ℕ) (t : Table) (place : Place) → member_of t z ≡ x → Base o f c t place → Waits t.members z
      → Does o f c (Begun z t) t place (where_some x begins_where t)
  begin-found None z t place is h w = absurd (cc (none-found z t.members is, w))
  begin-found (Some m) z t place is h w =
      let still : Begun z t t place = record { base = h; here = ap in_line w; others = λ d apart. refl; queue = refl } in
      let own : m.conn ≡ z = found-on z t.members m is in
      let n : Member = downloading t m in
      let both : Some (seat_of m) ≡ Some InQueue = sym (found-seat z t.members m is) ∙ w in
      let at : seat_of m ≡ InQueue = cc in
      let there : seat n.conn t.members ≡ Some InQueue = subst (λ k. seat k t.members ≡ Some InQueue) (sym own) w in
      let now : seat z (put n t.members) ≡ Some (seat_of n) =
      put-here z n t.members (eq-eqb m.conn z own) (ap (λ (y : Option Seat). is_some y) w) in
      does-where o f c (Begun z t) (is_in MapWait m) (begins_for m) t place still (λ yes.
      does-so o f c (Base o f c) (Begun z t) t place (begins_for m t)
      (does-turn o f c t.tokens t.queue t place m n (MapBegin ∷ []) (on-found t z m is) refl refl h
      (λ own fit. begin-turns t place m h at fit))
      (λ end k. record {
        base = k;
        here = ap in_line now;
        others = λ d apart. put-other d n t.members (ap (λ (j : ℕ). j == d) own ∙ apart);
        queue = refl;
      }))

  still-waits : (z : ℕ) (t u : Table) (xs : List ℕ) → ((d : ℕ) → (z == d) ≡ false → seat d u.members ≡ seat d t.members) → NotIn z xs
      → AllByRecursion (Waits t.members) xs → AllByRecursion (Waits u.members) xs
  still-waits z t u [] same none w = tt
  still-waits z t u (x ∷ xs) same none w =
      let apart : (z == x) ≡ false = ne_eqb z x (λ e. cc (none.0, eq-eqb x z (sym e))) in
      (same x apart ∙ w.0, still-waits z t u xs same none.1 w.1)

  -- the front of the queue moves up
  does-front : (z : ℕ) (zs : List ℕ) (t : Table) (place : Place) → t.queue ≡ z ∷ zs → Base o f c t place
      → AllByRecursion (Waits t.members) (z ∷ zs) → Distinct (z ∷ zs) → Does o f c (Tied o f c) t place (moved_up 0 (z ∷ zs) t)
  does-front z zs t place q h w once =
      let d : Deed = begins z t in
      does-then o f c (Begun z t) (Tied o f c) t place d (moved_up 1 zs) (begin-found (member_of t z) z t place refl h w.0) (λ end k.
      let u : Table = d.table in
      let all : AllByRecursion (Waits u.members) zs = still-waits z t u zs k.others once.0 w.1 in
      does-waits (Tied o f c) 0 zs u end (λ end s. s.base)
      (record { base = k.base; line = subst (λ q. Line u.members q) (sym (k.queue ∙ q)) (k.here, all, once) }) all)

  -- ---- one leaves

  leave-front : (x : ℕ) (ys : List ℕ) (t : Table) (place : Place) → t.queue ≡ ys → Base o f c t place → NotIn x ys
      → AllByRecursion (Or (Waits t.members) x) ys → Distinct ys → Does o f c (Tied o f c) t place (moved_up 0 ys t)
  leave-front x [] t place q h none all once =
      does-still o f c (Tied o f c) t place (record { base = h; line = subst (λ q. Line t.members q) (sym q) tt })
  leave-front x (z ∷ zs) t place q h none all once = does-front z zs t place q h (all-others (Waits t.members) x (z ∷ zs) none all) once

  abbrev cut : List ℕ → ℕ → Table → Table
  cut q place t = record t { queue = take place q ++ drop (place + 1) q }

  abbrev left : List ℕ → Option ℕ → Table → Deed
  left q None t = becomes t
  left q (Some place) t = moved_up place (drop (place + 1) q) (cut q place t)

  -- the one at place 0, or one behind it
  leave-at : (b d : Bool) (x y : ℕ) (ys : List ℕ) (t : Table) (place : Place) → (y == x) ≡ b → Parting o f c x t place → t.queue ≡ y ∷ ys
      → nat_lt (place_in x (y ∷ ys)) (length (y ∷ ys)) ≡ d
      → Does o f c (Tied o f c) t place (left (y ∷ ys) (cond d (Some (place_in x (y ∷ ys))) None) t)
  leave-at true d x y ys t place is h q short =
      let but : LineBut x t.members (y ∷ ys) = subst (λ q. LineBut x t.members q) q h.but in
      let own : y ≡ x = eqb-true y x is in
      let none : NotIn x ys = subst (λ k. NotIn k ys) own but.2.0 in
      let first : place_in x (y ∷ ys) ≡ 0 = ap (λ (b : Bool). cond (not b) (1 + place_in x ys) 0) is in
      let yes : d ≡ true = sym short ∙ ap (λ (k : ℕ). nat_lt k (length (y ∷ ys))) first ∙ lt-ltb 0 (length (y ∷ ys)) (omega arith) in
      let u : Table = cut (y ∷ ys) 0 t in
      let base : Base o f c u place = record { ordered = h.base.ordered; steady = h.base.steady; fits = h.base.fits } in
      let front = leave-front x ys u place refl base none but.1 but.2.1 in
      let there : Does o f c (Tied o f c) t place (left (y ∷ ys) (Some 0) t) =
      record { end = front.end; way = front.way; tied = front.tied } in
      subst (λ (k : Option ℕ). Does o f c (Tied o f c) t place (left (y ∷ ys) k t))
      (sym (ap₂ (λ (d : Bool) (k : ℕ). cond d (Some k) None) yes first)) there
  leave-at false true x y ys t place is h q short =
      let but : LineBut x t.members (y ∷ ys) = subst (λ q. LineBut x t.members q) q h.but in
      let k : ℕ = place_in x (y ∷ ys) in
      let p : ℕ = place_in x ys in
      let e : 1 + p ≡ suc p = omega arith in
      let at : k ≡ suc p = ap (λ (b : Bool). cond (not b) (1 + p) 0) is ∙ e in
      let behind : List ℕ = drop (k + 1) (y ∷ ys) in
      let u : Table = cut (y ∷ ys) k t in
      let base : Base o f c u place = record { ordered = h.base.ordered; steady = h.base.steady; fits = h.base.fits } in
      let same : u.queue ≡ y ∷ removed x ys = removed-is x (y ∷ ys) ∙ ap (λ (b : Bool). cond b ys (y ∷ removed x ys)) is in
      let none : NotIn x (y ∷ removed x ys) = (is, cut-none x ys (once-or-not x ys but.2.1)) in
      let all : AllByRecursion (Waits t.members) (removed x ys) =
      all-others (Waits t.members) x (removed x ys) none.1 (all-removed (Or (Waits t.members) x) x ys but.1) in
      let once : Distinct (y ∷ removed x ys) = subst Distinct (ap (λ (b : Bool). cond b ys (y ∷ removed x ys)) is)
      (distinct-removed x (y ∷ ys) but.2) in
      let line : Line u.members u.queue = subst (λ q. Line t.members q) (sym same) (or-first x y t but.0 is, all, once) in
      let told : AllByRecursion (Waits t.members) behind = behind-waits x y ys t all at in
      let there = does-waits (Tied o f c) p behind u place (λ end s. s.base) (record { base = base; line = line }) told in
      let moved : Does o f c (Tied o f c) u place (moved_up k behind u) =
      subst (λ j. Does o f c (Tied o f c) u place (moved_up j behind u)) (sym at) there in
      record { end = moved.end; way = moved.way; tied = moved.tied }
    where
      or-first : (x y : ℕ) (t : Table) → Or (Stands t.members) x y → (y == x) ≡ false → Stands t.members y
      or-first x y t h apart = (all-others (Stands t.members) x (y ∷ []) (apart, tt) (h, tt)).0

      all-behind : (P : ℕ → Type 0) (xs zs : List ℕ) → AllByRecursion P (xs ++ zs) → AllByRecursion P zs
      all-behind P [] zs a = a
      all-behind P (x ∷ xs) zs a = all-behind P xs zs a.1

      -- who stands behind the cut is behind the first one
      behind-waits : (x y : ℕ) (ys : List ℕ) (t : Table) → AllByRecursion (Waits t.members) (removed x ys)
          → place_in x (y ∷ ys) ≡ suc (place_in x ys) → AllByRecursion (Waits t.members) (drop (place_in x (y ∷ ys) + 1) (y ∷ ys))
      behind-waits x y ys t all at =
          let p : ℕ = place_in x ys in
          let parts : AllByRecursion (Waits t.members) (take p ys ++ drop (p + 1) ys) =
          subst (λ zs. AllByRecursion (Waits t.members) zs) (sym (removed-is x ys)) all in
          let e : place_in x (y ∷ ys) + 1 ≡ suc (p + 1) = omega (arith, at) in
          subst (λ j. AllByRecursion (Waits t.members) (drop j (y ∷ ys))) (sym e)
          (all-behind (Waits t.members) (take p ys) (drop (p + 1) ys) parts)
  leave-at false false x y ys t place is h q short =
      let but : LineBut x t.members (y ∷ ys) = subst (λ q. LineBut x t.members q) q h.but in
      let none : NotIn x (y ∷ ys) = not-found x (y ∷ ys) short (once-or-not x (y ∷ ys) but.2) in
      let line : Line t.members (y ∷ ys) = (
        (all-others (Stands t.members) x (y ∷ []) (none.0, tt) (but.0, tt)).0,
        all-others (Waits t.members) x ys none.1 but.1,
        but.2,
      ) in
      does-still o f c (Tied o f c) t place (record { base = h.base; line = subst (λ q. Line t.members q) (sym q) line })

  leave-in : (q : List ℕ) (x : ℕ) (t : Table) (place : Place) → t.queue ≡ q → Parting o f c x t place
      → Does o f c (Tied o f c) t place (left q (cond (nat_lt (place_in x q) (length q)) (Some (place_in x q)) None) t)
  leave-in [] x t place q h = does-still o f c (Tied o f c) t place (record {
    base = h.base;
    line = subst (λ q. Line t.members q)
        (sym q) tt;
  })
  leave-in (y ∷ ys) x t place q h = leave-at (y == x) (nat_lt (place_in x (y ∷ ys)) (length (y ∷ ys))) x y ys t place refl h q refl

  left-is : (x : Option ℕ) (t : Table) → where_some x left_place t ≡ left t.queue x t
  left-is None t = refl
  left-is (Some place) t = refl

  pub does-leaves-queue : (x : ℕ) (t : Table) (place : Place) → Parting o f c x t place → Does o f c (Tied o f c) t place (leaves_queue x t)
  does-leaves-queue x t place h =
      let at : Option ℕ = cond (nat_lt (place_in x t.queue) (length t.queue)) (Some (place_in x t.queue)) None in
      subst (λ d. Does o f c (Tied o f c) t place d) (sym (left-is at t)) (leave-in t.queue x t place refl h)

  -- ---- one asks

  ask-turns : (t : Table) (place : Place) (x : Seat) → x ≡ Welcome → FitsAt o t.frame t.journal x place → Turns o f c t place [] x InQueue
  ask-turns t place x is fit =
      let at : FitsAt o t.frame t.journal Welcome place = subst (λ y. FitsAt o t.frame t.journal y place) is fit in
      subst (λ y. Turns o f c t place [] y InQueue) (sym is) (record {
        end = place;
        way = stays o place (seen_as t.frame t.top t.journal (nat_le c t.openings) (Some Welcome));
        fit = (at.0, tt);
      })

  asked : (q : List ℕ) (t u : Table) (place : Place) (conn : ℕ) → u.queue ≡ q ++ conn ∷ [] → Base o f c u place → Line u.members q
      → NotIn conn q → Waits u.members conn → Does o f c (Tied o f c) u place (moved_up (length q) (conn ∷ []) u)
  asked [] t u place conn is h line none w = does-front conn [] u place is h (w, tt) (tt, tt)
  asked (y ∷ ys) t u place conn is h line none w =
      let all : AllByRecursion (Waits u.members) (ys ++ conn ∷ []) = all-append (Waits u.members) ys (conn ∷ []) line.1 (w, tt) in
      let long : Line u.members ((y ∷ ys) ++ conn ∷ []) = (line.0, all, distinct-last conn (y ∷ ys) none line.2) in
      does-waits (Tied o f c) (length ys) (conn ∷ []) u place (λ end s. s.base)
      (record { base = h; line = subst (λ q. Line u.members q) (sym is) long }) (w, tt)

  pub does-asks : (t : Table) (place : Place) (m : Member) → On t m → rank m.status ≡ 4 → Tied o f c t place
      → Does o f c (Tied o f c) t place (asks m t)
  does-asks t place m on at h =
      let n : Member = now_in MapWait t m in
      let q : List ℕ = t.queue in
      let u : Table = altered n t.tokens (q ++ m.conn ∷ []) t in
      let is : seat_of m ≡ Welcome = ranked 4 m at in
      let was : seat m.conn t.members ≡ Some (seat_of m) = seated o f c t place m on h.base in
      let out : in_line (seat m.conn t.members) ≡ false = ap in_line was ∙ ap (λ (x : Seat). in_line (Some x)) is in
      let line : Line (put n t.members) q = line-put n (seat_of m) t.members q was
      (λ stands. absurd (cc (stands, ap in_line was, out))) (λ waits. absurd (cc (ap in_line waits, ap in_line was, out))) h.line in
      let now : Waits u.members m.conn =
      put-here m.conn n t.members (eq-eqb m.conn m.conn refl) (ap (λ (x : Option Seat). is_some x) was) in
      does-then o f c (Base o f c) (Tied o f c) t place (becomes u) (moved_up (length q) (m.conn ∷ []))
      (does-turn o f c t.tokens (q ++ m.conn ∷ []) t place m n [] on refl refl h.base (λ own fit. ask-turns t place (seat_of m) is fit))
      (λ end k. asked q t u end m.conn refl k line (out-of-line m.conn t.members q out h.line) now)
