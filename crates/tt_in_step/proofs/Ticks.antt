-- The steps of a tick.
use Rattle.std.proofs.Common.{◌≡◌, ℕ, suc, ◌+◌, ◌<◌, ◌≤◌, Bool, true, false, cond, List, [], ◌∷◌, ◌++◌, nat_le, drop, take, length, Option}
use Rattle.std.proofs.Common.{Some, None, refl, ap, ap₂, sym, ◌∙◌, subst, map, arith, append-nil}
use Rattle.std.specs.Prelude.{◌==◌, ◌*◌, ◌%◌, nat_lt, not, find, flat_map}
use Rattle.std.proofs.lemmas.Bool.{eqb-true, eq-eqb, ltb-true, ltb-false}
use Rattle.tt_edge.specs.declared.event.Event.TheVariants.{Stop}
use Rattle.tt_lockstep.specs.Leads.{AreStamped}
use Rattle.tt_game.specs.declared.message.GameMsg.{GameMsg}
use Rattle.tt_game.specs.declared.message.GameMsg.TheVariants.{ServerMapData, ServerMapDone, ServerSync, ServerFrame}
use Rattle.tt_admin.specs.declared.message.AdminMsg.TheVariants.{ServerError}
use Rattle.tt_world.specs.declared.command.Command.{Command}
use Rattle.tt_world.specs.declared.command.Entry.{Entry}
use Rattle.tt_world.specs.World.{WorldState}
use Rattle.tt_map.specs.Layout.{map_of}
use Rattle.tt_rules.specs.Statuses.{rank}
use Rattle.tt_rules.specs.declared.status.Status.TheVariants.{Map, DoneMap}
use Rattle.tt_log.specs.declared.deed.What.TheVariants.{MapPieces, Sync, End, ToAdmin}
use Rattle.tt_log.specs.Origin.{Origin, game_of, at_frame}
use Rattle.tt_log.specs.Admin.{Admin}
use Rattle.tt_log.specs.Member.{Member, is_in}
use Rattle.tt_log.specs.Table.{Table, playing, member_of, admin_of, is_admin_on}
use Rattle.tt_log.specs.Table.{with_member, world_of, downloader, first_loading, if_loading}
use Rattle.tt_log.specs.Deed.{Deed, ◌▹◌, where_, where_some, becomes, tells_what}
use Rattle.std.specs.Prelude.{filter}
use Rattle.tt_rules.specs.Companies.{living}
use Rattle.tt_log.specs.declared.report.Report.{Report}
use Rattle.tt_log.specs.declared.report.Report.TheVariants.{Message, CompanyNews}
use Rattle.tt_log.specs.Admin.{company_updates}
use Rattle.tt_log.specs.Watching.{watching, sees_frame}
use Rattle.tt_log.specs.Polls.{tells_admin, due_reports, each_told, day_told, admins_told}
use Rattle.tt_in_step.proofs.Hearing.{report-silent}
use Rattle.tt_in_step.proofs.Does.{does-reports}
use Rattle.tt_log.specs.Tellings.{Filling, piece_messages}
use Rattle.tt_log.specs.Judged.{is_empty}
use Rattle.tt_log.specs.Ending.{ends}
use Rattle.tt_log.specs.PacketRules.{told_command, moves}
use Rattle.tt_log.specs.Desk.{admins_limited, admin_ends, admin_leaves, admin_limited, each_admin_limited, is_slow}
use Rattle.tt_log.specs.Frames.{frames_told}
use Rattle.tt_log.specs.Tick.{own_entry, entry_of, stamps, drawn, tells_entries, stamped, frame_runs_by, frame_runs, foundings, all_moved}
use Rattle.tt_log.specs.Tick.{founders_moved, synced, pieces_of, next_pieces, finishes_map, mapped, late, limited, each_limited}
use Rattle.tt_log.specs.Tick.{timed, frame_follows}
use Rattle.tt_log.specs.Shown.{Place}
use Rattle.tt_log.proofs.Lists.{all-append, found-among}
use Rattle.tt_log.proofs.Crew.{On, OnAdmin, on-found, found-on, put}
use Rattle.tt_log.proofs.Ordered.{Ordered, KeepsOrder, order-walk, order-ticks}
use Rattle.tt_log.proofs.Walk.{stamping, running, loader-on}
use Rattle.tt_in_step.specs.Watched.{Seat, InQueue, Loads, seat_of, seat, watched}
use Rattle.tt_in_step.proofs.Seats.{among, map-same, plays, playing-is, ranked}
use Rattle.tt_in_step.proofs.Hearing.{hears, if_told, if_told-nil, games, all_said, alone}
use Rattle.tt_in_step.proofs.Ways.{seen_as, Fitting, FitsAt, map_at, if_plays, way-stamps, fitting-stamps, fitting-later}
use Rattle.tt_in_step.proofs.Ways.{way-frame, way-run, way-sync, world-stays}
use Rattle.tt_in_step.proofs.Pieces.{way-pieces, seat_then}
use Rattle.tt_in_step.proofs.Worlds.{MapsAreRead}
use Rattle.tt_in_step.proofs.Lines.{Line, line-same, in_line}
use Rattle.tt_in_step.proofs.Does.{Steady, Tied, Does, Turns, way-is, does-then, does-so, does-quiet, does-still, does-where}
use Rattle.tt_in_step.proofs.Does.{does-some, does-silent, tied-turn, seated}
use Rattle.tt_in_step.proofs.Frames.{Same, moved-same, all-frames}
use Rattle.tt_in_step.proofs.Ending.{does-ends}
use Rattle.tt_in_step.proofs.Packets.{does-change}

-- ---- what is stamped

own-stamped : (o : Origin) (top : ℕ) (cs : List Command) → AreStamped (game_of o) top (map (own_entry (top + 1)) cs)
own-stamped o top [] = tt
own-stamped o top (c ∷ cs) = (omega arith, own-stamped o top cs)

waiting-stamped : (o : Origin) (top : ℕ) (m : Member) (ws : List (ℕ × Command)) → AreStamped (game_of o) top (map (entry_of (top + 1) m) ws)
waiting-stamped o top m [] = tt
waiting-stamped o top m (w ∷ ws) = (omega arith, waiting-stamped o top m ws)

members-stamped : (o : Origin) (top : ℕ) (ms : List Member)
    → AreStamped (game_of o) top (flat_map (λ m. map (entry_of (top + 1) m) (take 2 m.waiting)) ms)
members-stamped o top [] = tt
members-stamped o top (m ∷ ms) = all-append (λ (e : Entry). e.frame ≡ suc top) (map (entry_of (top + 1) m) (take 2 m.waiting)) _
    (waiting-stamped o top m (take 2 m.waiting)) (members-stamped o top ms)

pub stamps-stamped : (o : Origin) (t : Table) → AreStamped (game_of o) t.top (stamps t)
stamps-stamped o t = all-append (λ (e : Entry). e.frame ≡ suc t.top) (map (own_entry (t.top + 1)) t.own) _ (own-stamped o t.top t.own)
    (members-stamped o t.top t.members)

-- ---- lists

put-one : (b d : Bool) (n k x : Member) → (x.conn == n.conn) ≡ b → (x.conn == k.conn) ≡ d → n.conn ≡ k.conn
    → cond ((cond b n x).conn == k.conn) k (cond b n x) ≡ cond d k x
put-one true d n k x b is same =
    let own : (n.conn == k.conn) ≡ true = eq-eqb n.conn k.conn same in
    let e : d ≡ true = sym is ∙ eq-eqb x.conn k.conn (eqb-true x.conn n.conn b ∙ same) in
    rw (own, e) refl
put-one false d n k x b is same = ap (λ (d : Bool). cond d k x) is

put-put : (n k : Member) (ms : List Member) → n.conn ≡ k.conn → put k (put n ms) ≡ put k ms
put-put n k [] same = refl
put-put n k (x ∷ xs) same = ap₂ (λ (y : Member) (ys : List Member). y ∷ ys) (put-one (x.conn == n.conn)
    (x.conn == k.conn) n k x refl refl same)
    (put-put n k xs same)

-- the first of a queue
abbrev pub heads : ℕ → List ℕ → Bool
heads c [] = false
heads c (x ∷ xs) = x == c

loading-found : (x : Option Member) (m : Member) → if_loading x ≡ Some m → x ≡ Some m
loading-found None m is = absurd cc
loading-found (Some n) m is = by (is_in Map n) is
  where
    by : (b : Bool) → cond b (Some n) None ≡ Some m → Some n ≡ Some m
    by true e = e
    by false e = absurd cc

heads-found : (q : List ℕ) (t : Table) (m : Member) → first_loading q t ≡ Some m → heads m.conn q ≡ true
heads-found [] t m is = absurd cc
heads-found (x ∷ xs) t m is = eq-eqb x m.conn (sym (found-on x t.members m (loading-found (member_of t x) m is)))

module _ (o : Origin) (reads : MapsAreRead o) (named : is_empty o.setup.id ≡ false) (f : Filling) (c : ℕ) where
  abbrev Done : Table → Place → Deed → Type 0
  Done t place d = Does o f c (Tied o f c) t place d

  -- what is left of the map that the connection is told
  abbrev pub Left : List ℕ → Option Seat → List Entry → Type 0
  Left queue x journal = (s k : ℕ) → heads c queue ≡ true → x ≡ Some (Loads s k) → f.left ≡ drop (1400 * k) (map_at o journal s)

  -- ---- 1. stamping

  entries-table : (es : List Entry) (t : Table) → (tells_entries es t).table ≡ t
  entries-table [] t = refl
  entries-table (e ∷ es) t = entries-table es t

  entries-heard : (b : Bool) (es : List Entry) (t : Table) → among c (playing t) ≡ b
      → hears c o f (tells_entries es t).told ≡ if_plays b (map told_command es)
  entries-heard true [] t is = refl
  entries-heard false [] t is = refl
  entries-heard b (e ∷ es) t is = ap₂ (λ (b : Bool) (ms : List GameMsg). if_told b (told_command e ∷ []) ms) is (if_told-nil _ _
      ∙ entries-heard b es t is) ∙ one b
    where
      one : (b : Bool) → if_told b (told_command e ∷ []) (if_plays b (map told_command es)) ≡ if_plays b (map told_command (e ∷ es))
      one true = refl
      one false = refl

  -- ---- 2 and 3. the frame

  -- before the frame is run
  pub record Before (t : Table) (place : Place) : Type 0 where
    pub ordered : Ordered t
    pub fits : Fitting o t.frame t.journal (nat_le c t.openings) (seat c t.members) place
    pub ahead : t.frame ≤ t.top
    pub line : Line t.members t.queue
    pub left : Left t.queue (seat c t.members) t.journal

  -- and behind it
  pub record Ticks (t : Table) (place : Place) : Type 0 where
    pub tied : Tied o f c t place
    pub left : Left t.queue (seat c t.members) t.journal

  left-stamps : (t : Table) (place : Place) (es : List Entry) → AreStamped (game_of o) t.top es → Before t place
      → Left t.queue (seat c t.members) (t.journal ++ es)
  left-stamps t place es a h s k first is =
      let fit = subst (λ x. Fitting o t.frame t.journal (nat_le c t.openings) x place) is h.fits in
      h.left s k first is ∙ ap (λ (w : WorldState). drop (1400 * k) (map_of w)) (sym
      (world-stays o s t.frame t.top t.journal es fit.1 h.ahead a))

  drawn-same : (t : Table) (d : ℕ) → seat d (map drawn t.members) ≡ seat d t.members
  drawn-same t d = map-same d drawn t.members (λ m. refl) (λ m. refl)

  does-stamped : (t : Table) (place : Place) → Before t place → Does o f c Before t place (stamped t)
  does-stamped t place h =
      let es : List Entry = stamps t in
      let u : Table = stamping t in
      let a = stamps-stamped o t in
      let x : Option Seat = seat c t.members in
      let same : seat c u.members ≡ x = drawn-same t c in
      let b = nat_le c t.openings in
      let ordered : Ordered u = (order-ticks o Stop).stamping t h.ordered in
      let fits : Fitting o t.frame (t.journal ++ es) b x place = fitting-stamps o t.frame t.top t.journal es b x place h.ahead a h.fits in
      let now : Before u place = record {
        ordered = ordered;
        fits = subst (λ x. Fitting o t.frame (t.journal ++ es) b x place) (sym same) fits;
        ahead = h.ahead;
        line = line-same t.members u.members t.queue (drawn-same t) h.line;
        left = subst (λ x. Left t.queue x (t.journal ++ es)) (sym same) (left-stamps t place es a h);
      } in
      let told : among c (playing u) ≡ plays x = playing-is 0 c u.members ordered.rise ∙ ap plays same in
      record {
        end = place;
        way = way-is o f c place place _ _ _ _ _ _ (way-stamps o t.frame t.top t.journal es b x place a h.fits)
            (sym (entries-heard (plays x) es u told)) refl
            (ap (λ x. seen_as t.frame t.top (t.journal ++ es) b x) (sym same) ∙ ap (λ (v : Table). watched c v) (sym (entries-table es u)));
        tied = subst (λ v. Before v place) (sym (entries-table es u)) now;
      }

  same-watched : (t u : Table) → Same t u → watched c t ≡ watched c u
  same-watched t u s = sym (rw (s.frame, s.top, s.journal, s.openings, s.seats c) refl)

  left-same : (t u : Table) → Same t u → Left t.queue (seat c t.members) t.journal → Left u.queue (seat c u.members) u.journal
  left-same t u s h i k first is =
      h i k (subst (λ q. heads c q ≡ true) s.queue first) (sym (s.seats c) ∙ is)
      ∙ ap (λ (es : List Entry). drop (1400 * k) (map_at o es i)) (sym s.journal)

  same-ticks : (t u : Table) (place : Place) → Same t u → Ticks t place → Ticks u place
  same-ticks t u place s h = record {
    tied = record {
      base = record {
        ordered = s.ordered;
        steady = rw (s.frame, s.journal) h.tied.base.steady;
        fits = rw (s.frame, s.journal, s.openings, s.seats c) h.tied.base.fits;
      };
      line = rw s.queue (line-same t.members u.members t.queue s.seats h.tied.line);
    };
    left = left-same t u s h.left;
  }

  -- a frame, seen by the connection, and then FRAME to all that play
  runs-by : (b : Bool) (t : Table) (place : Place) → nat_lt t.top (t.frame + 1) ≡ b → Before t place → Steady o f c (t.frame + 1) t.journal
      → Does o f c Ticks t place (frame_runs_by b o t)
  runs-by true t place is h steady =
      let next : t.frame + 1 ≡ suc t.frame = omega arith in
      let l : t.top < suc t.frame = let k : t.top < t.frame + 1 = ltb-true t.top (t.frame + 1) is in omega (arith, k) in
      let u : Table = running true o t in
      let d : Deed = frames_told t.members u in
      let a = all-frames o f c u ((order-ticks o Stop).running t true is h.ordered) in
      let b = nat_le c t.openings in
      let x = seat c t.members in
      let said : if_plays (plays x) (ServerFrame (suc t.frame) (suc t.frame + o.setup.frame_freq) a.token ∷ []) ≡ hears c o f d.told =
      ap (λ (g : ℕ). if_plays (plays x) (ServerFrame g (g + o.setup.frame_freq) a.token ∷ [])) (sym next) ∙ sym a.heard in
      let there : Ticks u place = record {
        tied = record {
          base = record {
            ordered = (order-ticks o Stop).running t true is h.ordered;
            steady = steady;
            fits = fitting-later o t.frame (t.frame + 1) t.journal b x place (omega arith) h.fits;
          };
          line = h.line;
        };
        left = h.left;
      } in
      record {
        end = place;
        way = way-is o f c place place _ _ _ _ _ _ (way-frame o t.frame t.top a.token t.journal b x place l h.fits) said refl
            (ap (λ (g : ℕ). seen_as g (g + o.setup.frame_freq) t.journal b x) (sym next) ∙ same-watched u d.table a.same);
        tied = same-ticks u d.table place a.same there;
      }
  runs-by false t place is h steady =
      let next : t.frame + 1 ≡ suc t.frame = omega arith in
      let l : suc t.frame ≤ t.top = let k : t.frame + 1 ≤ t.top = ltb-false t.top (t.frame + 1) is in omega (arith, k) in
      let b = nat_le c t.openings in
      let x = seat c t.members in
      record {
        end = place;
        way = way-is o f c place place _ _ _ _ _ _ (way-run o t.frame t.top t.journal b x place l) refl refl
            (ap (λ (g : ℕ). seen_as g t.top t.journal b x) (sym next));
        tied = record {
          tied = record {
            base = record {
              ordered = (order-ticks o Stop).running t false is h.ordered;
              steady = steady;
              fits = fitting-later o t.frame (t.frame + 1) t.journal b x place (omega arith) h.fits;
            };
            line = h.line;
          };
          left = h.left;
        };
      }

  -- ---- 4. founders

  all-moved-by : (fs : List (ℕ × ℕ)) (t : Table) (place : Place) → Tied o f c t place → Done t place (all_moved fs t)
  all-moved-by [] t place h = does-still o f c (Tied o f c) t place h
  all-moved-by (x ∷ xs) t place h =
      let is_it : Member → Bool = λ m. m.client == x.0 in
      let rule : Member → Table → Deed = λ m. moves m x.1 in
      let d : Deed = where_some (find is_it t.members) rule t in
      does-then o f c (Tied o f c) (Tied o f c) t place d (all_moved xs)
      (does-some o f c (Tied o f c) (find is_it t.members) rule t place h (λ m is. does-change o reads named f c t place m
      (record m { company = x.1 }) _ (found-among is_it m t.members is) refl refl refl (refl, refl) h))
      (λ end k. all-moved-by xs d.table end k)

  does-founders : (live : List Bool) (t : Table) (place : Place) → Ticks t place → Does o f c Ticks t place (founders_moved o live t)
  does-founders live t place h =
      let fs = foundings live (at_frame o t.frame t.journal) in
      let s : Same t (all_moved fs t).table = moved-same fs t h.tied.base.ordered in
      does-so o f c (Tied o f c) Ticks t place (all_moved fs t) (all-moved-by fs t place h.tied)
      (λ end k. record { tied = k; left = left-same t (all_moved fs t).table s h.left })

  -- ---- 5. words

  does-word : (t : Table) (place : Place) → Ticks t place → Does o f c Ticks t place (tells_what (playing t) Sync t)
  does-word t place h =
      let x = seat c t.members in
      let base = h.tied.base in
      let told : among c (playing t) ≡ plays x = playing-is 0 c t.members base.ordered.rise in
      let said : if_plays (plays x) (ServerSync t.frame (world_of o t).words.0 ∷ [])
      ≡ if_told (among c (playing t)) (ServerSync f.frame f.world.words.0 ∷ []) [] = sym (ap (λ (b : Bool). if_told b (ServerSync f.frame
      f.world.words.0 ∷ []) []) told ∙ one (plays x) (ServerSync f.frame f.world.words.0) ∙ ap₂ (λ (g : ℕ)
      (w : WorldState). if_plays (plays x)
      (ServerSync g w.words.0 ∷ [])) base.steady.frame_is base.steady.world_is) in
      record {
        end = place;
        way = way-is o f c place place _ _ _ _ _ _ (way-sync o t.frame t.top t.journal
            (nat_le c t.openings) x place base.fits) said refl refl;
        tied = h;
      }
    where
      one : (b : Bool) (m : GameMsg) → if_told b (m ∷ []) [] ≡ if_plays b (m ∷ [])
      one true m = refl
      one false m = refl

  does-synced : (t : Table) (place : Place) → Ticks t place → Does o f c Ticks t place (synced o t)
  does-synced t place h = does-where o f c Ticks (t.frame % o.setup.sync_freq == 0) (λ t. tells_what (playing t) Sync t) t place h
      (λ yes. does-word t place h)

  -- ---- 6. pieces of maps

  abbrev told_of : Member → Member
  told_of m = record m { pieces = m.pieces + length (pieces_of 4 f.left) }

  abbrev behind : Bool → Member → Member
  behind true m = told_of m
  behind false m = record (told_of m) { status = DoneMap }

  behind-seat : (more : Bool) (m : Member) → rank m.status ≡ 6
      → seat_of (behind more m) ≡ seat_then o 0 0 [] true more m.map_frame (m.pieces + length (pieces_of 4 f.left))
  behind-seat true m at = ranked 6 (told_of m) at
  behind-seat false m at = refl

  piece-turns : (more : Bool) (t : Table) (place : Place) (m : Member) → nat_lt (4 * 1400) (length f.left) ≡ more → On t m
      → rank m.status ≡ 6 → heads m.conn t.queue ≡ true → Ticks t place → (m.conn == c) ≡ true
      → FitsAt o t.frame t.journal (seat_of m) place
      → Turns o f c t place (all_said o f (MapPieces ∷ [])) (seat_of m) (seat_of (behind more m))
  piece-turns more t place m is on at first h own fit =
      let s : ℕ = m.map_frame in
      let k : ℕ = m.pieces in
      let b = nat_le c t.openings in
      let x : seat_of m ≡ Loads s k = ranked 6 m at in
      let e : m.conn ≡ c = eqb-true m.conn c own in
      let here : FitsAt o t.frame t.journal (Loads s k) place = subst (λ y. FitsAt o t.frame t.journal y place) x fit in
      let sat : seat c t.members ≡ Some (Loads s k) = subst (λ d. seat d t.members ≡ Some (seat_of m)) e
      (seated o f c t place m on h.tied.base) ∙ ap (λ (y : Seat). Some y) x in
      let rest : f.left ≡ drop (1400 * k) (map_at o t.journal s) = h.left s k (subst (λ d. heads d t.queue ≡ true) e first) sat in
      let steady = h.tied.base.steady in
      let g = way-pieces o t.frame t.top t.journal b s k place f.left more is rest (reads t.journal s steady.short
      (low s t.frame here.1 steady.low)) here in
      let said : map ServerMapData (pieces_of 4 f.left) ++ cond more [] (ServerMapDone ∷ []) ≡ all_said o f (MapPieces ∷ []) =
      ap (λ (b : Bool). map ServerMapData (pieces_of 4 f.left) ++ cond b [] (ServerMapDone ∷ [])) (sym is)
      ∙ sym (append-nil _) ∙ ap (λ (ms : List GameMsg). ms ++ []) (sym (games (piece_messages f.left))) in
      let now = behind-seat more m at in
      record {
        end = g.end;
        way = way-is o f c place g.end _ _ _ _ _ _ g.way said (ap (λ y. seen_as t.frame t.top t.journal b (Some y)) (sym x))
            (ap (λ y. seen_as t.frame t.top t.journal b (Some y)) (sym now));
        fit = subst (λ y. FitsAt o t.frame t.journal y g.end) (sym now) g.fit;
      }
    where
      low : (s g : ℕ) {n : ℕ} → s ≤ g → g ≤ n → s ≤ n
      low s g l m = omega (arith, l, m)

  behind-line : (more : Bool) (m : Member) → rank m.status ≡ 6 → in_line (Some (seat_of (behind more m))) ≡ true
  behind-line true m at = ap (λ (x : Seat). in_line (Some x)) (ranked 6 (told_of m) at)
  behind-line false m at = refl

  piece-turn : (more : Bool) (t : Table) (place : Place) (m : Member) → nat_lt (4 * 1400) (length f.left) ≡ more → On t m
      → rank m.status ≡ 6 → heads m.conn t.queue ≡ true → Ticks t place
      → Done t place (record { table = with_member (behind more m) t; told = alone m.conn (MapPieces ∷ []) })
  piece-turn true t place m is on at first h =
      let x : seat_of m ≡ Loads m.map_frame m.pieces = ranked 6 m at in
      tied-turn o f c t.tokens t place m (behind true m) (MapPieces ∷ []) on refl refl h.tied (λ stands. behind-line true m at)
      (λ waits. let e : Some (seat_of m) ≡ Some InQueue = waits in absurd (cc (x, e)))
      (λ own fit. piece-turns true t place m is on at first h own fit)
  piece-turn false t place m is on at first h =
      let x : seat_of m ≡ Loads m.map_frame m.pieces = ranked 6 m at in
      tied-turn o f c t.tokens t place m (behind false m) (MapPieces ∷ []) on refl refl h.tied (λ stands. refl)
      (λ waits. let e : Some (seat_of m) ≡ Some InQueue = waits in absurd (cc (x, e)))
      (λ own fit. piece-turns false t place m is on at first h own fit)

  pieces-by : (more : Bool) (t : Table) (place : Place) (m : Member) → nat_lt (4 * 1400) (length f.left) ≡ more → On t m
      → rank m.status ≡ 6 → heads m.conn t.queue ≡ true → Ticks t place
      → Done t place (tells_what (m.conn ∷ []) MapPieces (with_member (told_of m) t) ▹ where_ (not more) (finishes_map (told_of m)))
  pieces-by true t place m is on at first h = piece-turn true t place m is on at first h
  pieces-by false t place m is on at first h =
      let k : Member = behind false m in
      let d = piece-turn false t place m is on at first h in
      let e : put k t.members ≡ put k (put (told_of m) t.members) = sym (put-put (told_of m) k t.members refl) in
      subst (λ (ms : List Member). Done t place (record { table = record t { members = ms }; told = alone m.conn (MapPieces ∷ []) })) e d

  does-mapped : (t : Table) (place : Place) → Ticks t place → Done t place (mapped f.left t)
  does-mapped t place h = does-some o f c (Tied o f c) (downloader t) (next_pieces f.left) t place h.tied (λ m is.
      let found = loader-on o Stop KeepsOrder (order-walk o Stop) t m is in
      pieces-by (nat_lt (4 * 1400) (length f.left)) t place m refl found.0 found.1 (heads-found t.queue t m is) h)

  -- ---- 7. time limits

  each-by : (ms : List Member) (t : Table) (place : Place) → Tied o f c t place → Done t place (each_limited o ms t)
  each-by [] t place h = does-still o f c (Tied o f c) t place h
  each-by (m ∷ ms) t place h =
      let d : Deed = where_some (member_of t m.conn) (limited o) t in
      does-then o f c (Tied o f c) (Tied o f c) t place d (each_limited o ms)
      (does-some o f c (Tied o f c) (member_of t m.conn) (limited o) t place h (λ n is. does-some o f c (Tied o f c)
      (late o.setup t.frame n)
      (ends n) t place h (λ code late. does-ends o reads f c t place n code (on-found t m.conn n is) h)))
      (λ end k. each-by ms d.table end k)

  -- ---- admins

  -- an admin goes
  pub does-admin-leaves : (t : Table) (place : Place) (a : Admin) → OnAdmin t a → Tied o f c t place → Done t place (admin_leaves a t)
  does-admin-leaves t place a on h =
      let u : Table = (admin_leaves a t).table in
      let ordered : Ordered u = (order-walk o Stop).goes_aside t a on h.base.ordered in
      let there : Tied o f c u place = record {
        base = record { ordered = ordered; steady = h.base.steady; fits = h.base.fits };
        line = h.line;
      } in
      does-then o f c (Tied o f c) (Tied o f c) t place (becomes u) (tells_what (a.conn ∷ []) End)
      (does-quiet o f c (Tied o f c) t u place refl there) (λ end k. does-silent o f c (Tied o f c) u end (a.conn ∷ []) End refl k)

  each-admin-by : (admins : List Admin) (t : Table) (place : Place) → Tied o f c t place → Done t place (each_admin_limited o admins t)
  each-admin-by [] t place h = does-still o f c (Tied o f c) t place h
  each-admin-by (a ∷ admins) t place h =
      let d : Deed = where_some (admin_of t a.conn) (admin_limited o) t in
      does-then o f c (Tied o f c) (Tied o f c) t place d (each_admin_limited o admins)
      (does-some o f c (Tied o f c) (admin_of t a.conn) (admin_limited o) t place h (λ b is. does-where o f c (Tied o f c)
      (is_slow o t.frame b)
      (admin_ends b 17) t place h (λ slow. does-then o f c (Tied o f c) (Tied o f c) t place
      (tells_admin b.conn (Message (ServerError 17) ∷ []) t) (admin_leaves b)
      (does-silent o f c (Tied o f c) t place (b.conn ∷ []) (ToAdmin (Message (ServerError 17))) refl h)
      (λ end k. does-admin-leaves t end b (found-among (is_admin_on a.conn) b t.admins is) k))))
      (λ end k. each-admin-by admins d.table end k)

  -- on a day that begins admins are told what they have asked for
  each-told-by : (day : ℕ) (admins : List Admin) (t : Table) (place : Place) → Tied o f c t place → Done t place (each_told day admins t)
  each-told-by day [] t place h = does-still o f c (Tied o f c) t place h
  each-told-by day (a ∷ admins) t place h =
      let reports : List Report = due_reports day a t in
      does-then o f c (Tied o f c) (Tied o f c) t place (tells_admin a.conn reports t) (each_told day admins)
      (does-reports o f c (Tied o f c) t place a.conn reports h) (λ end k. each-told-by day admins t end k)

  does-admins-told : (before : ℕ) (t : Table) (place : Place) → Tied o f c t place → Done t place (admins_told before o t)
  does-admins-told before t place h =
      let day : ℕ = (world_of o t).day in
      does-where o f c (Tied o f c) (not (day == before)) (day_told day) t place h
      (λ yes. each-told-by day (filter (λ a. a.joined) t.admins) t place h)

  -- ---- a whole tick

  pub does-ticked : (before : WorldState) (t : Table) (place : Place) → Before t place
      → Steady o f c ((stamped t).table.frame + 1) (stamped t).table.journal
      → Done t place (stamped t ▹ frame_runs o ▹ sees_frame ▹ frame_follows before f.left o)
  does-ticked before t place h steady =
      let d0 : Deed = stamped t ▹ frame_runs o in
      let u : Table = d0.table in
      let d1 : Deed = founders_moved o (living before) u in
      let d2 : Deed = d1 ▹ synced o in
      let d3 : Deed = d2 ▹ mapped f.left in
      let d4 : Deed = d3 ▹ timed o in
      let d5 : Deed = d4 ▹ admins_limited o in
      let v : Table = (stamped t).table in
      let p0 : Does o f c Ticks t place d0 = does-then o f c Before Ticks t place (stamped t) (frame_runs o) (does-stamped t place h)
      (λ end k. runs-by (nat_lt v.top (v.frame + 1)) v end refl k steady) in
      does-then o f c Ticks (Tied o f c) t place (d0 ▹ sees_frame) (frame_follows before f.left o)
      (does-then o f c Ticks Ticks t place d0 sees_frame p0
      (λ end k. does-silent o f c Ticks u end (watching company_updates u) (ToAdmin CompanyNews)
      (report-silent o f CompanyNews) k)) (λ end k.
      let p1 : Does o f c Ticks u end d1 = does-founders (living before) u end k in
      let p2 : Does o f c Ticks u end d2 = does-then o f c Ticks Ticks u end d1 (synced o) p1 (λ end k. does-synced d1.table end k) in
      let p3 : Done u end d3 = does-then o f c Ticks (Tied o f c) u end d2 (mapped f.left) p2 (λ end k. does-mapped d2.table end k) in
      let p4 : Done u end d4 = does-then o f c (Tied o f c) (Tied o f c) u end d3 (timed o) p3
      (λ end k. each-by d3.table.members d3.table end k) in
      let p5 : Done u end d5 = does-then o f c (Tied o f c) (Tied o f c) u end d4 (admins_limited o) p4
      (λ end k. each-admin-by d4.table.admins d4.table end k) in
      does-then o f c (Tied o f c) (Tied o f c) u end d5 (admins_told before.day o) p5 (λ end k.
      does-admins-told before.day d5.table end k))
