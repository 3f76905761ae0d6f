-- Every list of events: a way leads from the start to the table, as each connection sees it.
use Rattle.std.proofs.Common.{◌≡◌, ℕ, ◌+◌, ◌<◌, ◌≤◌, Bool, true, false, cond, List, [], ◌∷◌, ◌++◌, nat_le, drop, Option, Some, None, refl}
use Rattle.std.proofs.Common.{ap, ap₂, sym, ◌∙◌, subst, arith, append-nil, append_assoc}
use Rattle.std.proofs.lemmas.List.Sums.{fold-append}
use Rattle.std.specs.Prelude.{◌==◌, ◌*◌, ◌||◌, is_some, length}
use Rattle.std.proofs.lemmas.Bool.{eqb-true, eqb-false, le-leb, leb-true, leb-false, lt-leb}
use Rattle.tt_edge.specs.declared.event.Door.TheVariants.{Main, Side}
use Rattle.tt_edge.specs.declared.event.Event.{Event}
use Rattle.tt_edge.specs.declared.event.Event.TheVariants.{Open, Packet, Broken, Shut, Tick, Stop}
use Rattle.tt_edge.specs.Event.{is_tick}
use Rattle.tt_lockstep.specs.Server.{Server, initial}
use Rattle.tt_lockstep.specs.Leads.{Leads}
use Rattle.tt_lockstep.proofs.Dialogs.{Goes-nowhere, Goes-on}
use Rattle.tt_game.specs.declared.message.GameMsg.{GameMsg}
use Rattle.tt_game.specs.declared.message.GameMsg.TheVariants.{ServerFull, ServerShutdown}
use Rattle.tt_world.specs.declared.command.Entry.{Entry}
use Rattle.tt_rules.specs.Statuses.{is_at}
use Rattle.tt_rules.specs.declared.status.Status.{Status}
use Rattle.tt_rules.specs.declared.status.Status.TheVariants.{Inactive, NewgrfsCheck, AuthGame, AuthCompany, Authorized, MapWait, Map}
use Rattle.tt_rules.specs.declared.status.Status.TheVariants.{DoneMap, PreActive, Active}
use Rattle.tt_log.specs.Origin.{Origin, game_of, world_at}
use Rattle.tt_log.specs.Admin.{Admin}
use Rattle.tt_log.specs.Member.{Member, new_member}
use Rattle.tt_log.specs.Table.{Table, first, member_of, admin_of, first_loading, if_loading, is_admin_on, world_of}
use Rattle.tt_log.specs.Deed.{Said, Deed, ◌▹◌, where_}
use Rattle.tt_log.specs.Judged.{is_empty}
use Rattle.tt_log.specs.Ending.{Failing}
use Rattle.tt_log.specs.Desk.{admin_arrives, counted_aside, most_admins}
use Rattle.tt_log.specs.Desk.{read_admin}
use Rattle.tt_in_step.proofs.Admins.{does-admin-hears}
use Rattle.tt_log.specs.Tick.{stamped, left_by, ticked}
use Rattle.tt_log.specs.Tellings.{Filling, filling}
use Rattle.tt_log.specs.Events.{arrives, counted_in, read_msg, to_named, on_conn, by_event, charged, shut_down, stops, closed}
use Rattle.tt_log.specs.Events.{last_frame, takes, taken, deed, stepped}
use Rattle.tt_log.specs.Told.{told_by, heard_from}
use Rattle.tt_log.specs.Told as said
use Rattle.tt_log.specs.History.{table_of, AreEvents, IsEvent}
use Rattle.tt_log.specs.Shown.{Place, Asking, Parted, dialog}
use Rattle.tt_log.proofs.Lists.{found-among}
use Rattle.tt_log.proofs.Crew.{On, OnAdmin, on-found, conns}
use Rattle.tt_log.proofs.Ordered.{Ordered, under-not, order-doors, order-closing, is-ordered}
use Rattle.tt_log.proofs.Counting.{is-low}
use Rattle.tt_log.proofs.Going.{heard-append}
use Rattle.tt_log.proofs.Clock.{SameRun, no-tick, taken-run, ticked-is, stamped-same, is-near}
use Rattle.tt_in_step.specs.Watched.{Seat, AtDoor, Loads, seat_at, seat_of, seat, watched, game_messages, things_told}
use Rattle.tt_in_step.proofs.Seats.{among, found-seat, none-found, none-seated, more-other, more-here}
use Rattle.tt_in_step.proofs.Hearing.{hears, heard-is, messages-append, if_told, if_told-nil}
use Rattle.tt_in_step.proofs.Ways.{seen_as, Way, Fitting, map_at, stays, way-full, way-vanish, way-shutdown}
use Rattle.tt_in_step.proofs.Worlds.{MapsAreRead, AreShort}
use Rattle.tt_in_step.proofs.Lines.{Line, line-more}
use Rattle.tt_in_step.proofs.Shorts.{Short, step-short}
use Rattle.tt_in_step.proofs.Does.{Steady, Tied, Does, way-is, does-then, does-quiet, does-still, does-where, does-some}
use Rattle.tt_in_step.proofs.Ending.{was-opened, does-leaves}
use Rattle.tt_in_step.proofs.Packets.{does-heard, tied-but}
use Rattle.tt_in_step.proofs.Ticks.{heads, does-ticked, does-admin-leaves}

-- ---- an opening

more-by : (b : Bool) (c n : ℕ) → nat_le c n ≡ b → (n + 1 ≡ c → ⊥) → nat_le c (n + 1) ≡ b
more-by true c n is apart = let l : c ≤ n = leb-true c n is in le-leb c (n + 1) (omega (arith, l))
more-by false c n is apart = let l : n < c = leb-false c n is in lt-leb c (n + 1) (omega (arith, l, apart))

le-more : (c n : ℕ) → (n + 1 == c) ≡ false → nat_le c (n + 1) ≡ nat_le c n
le-more c n apart = more-by (nat_le c n) c n refl (λ e. eqb-false (n + 1) c apart e)

le-here : (c n : ℕ) → (n + 1 == c) ≡ true → (nat_le c (n + 1) ≡ true) × (nat_le c n ≡ false)
le-here c n is = let e : n + 1 ≡ c = eqb-true (n + 1) c is in (le-leb c (n + 1) (omega (arith, e)), lt-leb c n (omega (arith, e)))

-- ---- the one that downloads

loads-map : (s : Status) (f k f2 k2 : ℕ) → seat_at s f k ≡ Loads f2 k2 → (is_at Map s ≡ true) × (Loads f k ≡ Loads f2 k2)
loads-map Map f k f2 k2 is = (refl, is)
loads-map Inactive f k f2 k2 is = absurd cc
loads-map NewgrfsCheck f k f2 k2 is = absurd cc
loads-map AuthGame f k f2 k2 is = absurd cc
loads-map AuthCompany f k f2 k2 is = absurd cc
loads-map Authorized f k f2 k2 is = absurd cc
loads-map MapWait f k f2 k2 is = absurd cc
loads-map DoneMap f k f2 k2 is = absurd cc
loads-map PreActive f k f2 k2 is = absurd cc
loads-map Active f k f2 k2 is = absurd cc

abbrev bytes_left : Origin → List Entry → Seat → List ℕ
bytes_left o journal (Loads s k) = drop (1400 * k) (map_at o journal s)
bytes_left o journal other = []

left-member : (x : Option Member) (o : Origin) (c s k : ℕ) (t : Table) → member_of t c ≡ x → seat c t.members ≡ Some (Loads s k)
    → left_by (if_loading x) o t ≡ drop (1400 * k) (map_at o t.journal s)
left-member None o c s k t is was = absurd (cc (none-found c t.members is, was))
left-member (Some m) o c s k t is was =
    let both : Some (seat_of m) ≡ Some (Loads s k) = sym (found-seat c t.members m is) ∙ was in
    let at : seat_of m ≡ Loads s k = cc in
    let g = loads-map m.status m.map_frame m.pieces s k at in
    ap (λ (b : Bool). left_by (cond b (Some m) None) o t) g.0 ∙ ap (bytes_left o t.journal) g.1

left-found : (q : List ℕ) (o : Origin) (c s k : ℕ) (t : Table) → heads c q ≡ true → seat c t.members ≡ Some (Loads s k)
    → left_by (first_loading q t) o t ≡ drop (1400 * k) (map_at o t.journal s)
left-found [] o c s k t first was = absurd cc
left-found (x ∷ xs) o c s k t first was =
    left-member (member_of t x) o x s k t refl (subst (λ d. seat d t.members ≡ Some (Loads s k)) (sym (eqb-true x c first)) was)

module _ (o : Origin) (reads : MapsAreRead o) (named : is_empty o.setup.id ≡ false) (c : ℕ) where
  module _ (f : Filling) where
    abbrev Done : Table → Place → Deed → Type 0
    Done t place d = Does o f c (Tied o f c) t place d

    -- ---- openings

    -- another connection is opened, and the connection hears nothing of it
    away : (t u : Table) (place : Place) (d : Deed) → d.table ≡ u → hears c o f d.told ≡ [] → watched c t ≡ watched c u
        → Tied o f c u place → Done t place d
    away t u place d is silent same h = record {
      end = place;
      way = way-is o f c place place _ _ _ _ _ _ (stays o place (watched c t)) (sym silent) refl (same ∙ ap (λ v. watched c v) (sym is));
      tied = subst (λ v. Tied o f c v place) (sym is) h;
    }

    -- the connection that is opened has no seat, and has heard nothing
    fresh : (t : Table) (place : Place) → (t.openings + 1 == c) ≡ true → Tied o f c t place
        → (seat c t.members ≡ None) × (place ≡ Asking)
    fresh t place is h =
        let e : t.openings + 1 ≡ c = eqb-true (t.openings + 1) c is in
        let none : seat c t.members ≡ None = none-seated c t.members (under-not t.openings c (conns t.members) (omega (arith, e))
        h.base.ordered.under) in
        (none, subst (λ x. Fitting o t.frame t.journal (nat_le c t.openings) x place) none h.base.fits (le-here c t.openings is).1)

    arrives-by : (full b : Bool) (t : Table) (place : Place) → (t.openings + 1 == c) ≡ b → Ordered (arrives full (counted_in t)).table
        → Tied o f c t place → Done t place (arrives full (counted_in t))
    arrives-by true true t place is ordered h =
        let g = fresh t place is h in
        let flags = le-here c t.openings is in
        let n : ℕ = t.openings + 1 in
        let seen : Bool → Server Entry = λ b. seen_as t.frame t.top t.journal b None in
        let told : hears c o f (arrives true (counted_in t)).told ≡ ServerFull ∷ [] = rw is refl in
        record {
          end = Parted;
          way = way-is o f c place Parted _ _ _ _ _ _ (subst (λ p. Way o p (ServerFull ∷ []) (seen false) (seen true) Parted) (sym g.1)
              (way-full o t.frame t.top t.journal)) (sym told)
              (ap₂ (λ (b : Bool) (x : Option Seat). seen_as t.frame t.top t.journal b x) (sym flags.1) (sym g.0))
              (ap₂ (λ (b : Bool) (x : Option Seat). seen_as t.frame t.top t.journal b x) (sym flags.0) (sym g.0));
          tied = record {
            base = record {
              ordered = ordered;
              steady = h.base.steady;
              fits = subst (λ x. Fitting o t.frame t.journal (nat_le c n) x Parted) (sym g.0) (λ closed. absurd (cc (flags.0, closed)));
            };
            line = h.line;
          };
        }
    arrives-by true false t place is ordered h =
        let flag = le-more c t.openings is in
        away t (arrives true (counted_in t)).table place (arrives true (counted_in t)) refl (rw is refl)
        (ap (λ (b : Bool). seen_as t.frame t.top t.journal b (seat c t.members)) (sym flag))
        (record {
          base = record {
            ordered = ordered;
            steady = h.base.steady;
            fits = subst (λ b. Fitting o t.frame t.journal b (seat c t.members) place) (sym flag) h.base.fits;
          };
          line = h.line;
        })
    arrives-by false true t place is ordered h =
        let g = fresh t place is h in
        let flags = le-here c t.openings is in
        let n : Member = new_member (t.openings + 1) (t.clients + 1) t.frame in
        let u : Table = (arrives false (counted_in t)).table in
        let now : seat c u.members ≡ Some AtDoor = more-here c t.members n is g.0 in
        record {
          end = place;
          way = way-is o f c place place _ _ _ _ _ _ (stays o place (seen_as t.frame t.top t.journal false None)) refl
              (ap₂ (λ (b : Bool) (x : Option Seat). seen_as t.frame t.top t.journal b x) (sym flags.1) (sym g.0))
              (ap₂ (λ (b : Bool) (x : Option Seat). seen_as t.frame t.top t.journal b x) (sym flags.0) (sym now));
          tied = record {
            base = record {
              ordered = ordered;
              steady = h.base.steady;
              fits = subst (λ x. Fitting o t.frame t.journal (nat_le c (t.openings + 1)) x place) (sym now) (g.1, tt);
            };
            line = line-more t.members n t.queue h.line;
          };
        }
    arrives-by false false t place is ordered h =
        let flag = le-more c t.openings is in
        let n : Member = new_member (t.openings + 1) (t.clients + 1) t.frame in
        let u : Table = (arrives false (counted_in t)).table in
        let now : seat c u.members ≡ seat c t.members = more-other c t.members n is in
        away t u place (arrives false (counted_in t)) refl refl
        (ap₂ (λ (b : Bool) (x : Option Seat). seen_as t.frame t.top t.journal b x) (sym flag) (sym now))
        (record {
          base = record {
            ordered = ordered;
            steady = h.base.steady;
            fits = subst (λ x. Fitting o t.frame t.journal (nat_le c (t.openings + 1)) x place) (sym now)
                (subst (λ b. Fitting o t.frame t.journal b (seat c t.members) place) (sym flag) h.base.fits);
          };
          line = line-more t.members n t.queue h.line;
        })

    -- one is opened at the side door
    aside-silent : (full : Bool) (t : Table) → hears c o f (admin_arrives full (counted_aside t)).told ≡ []
    aside-silent true t = if_told-nil _ _ ∙ if_told-nil _ _
    aside-silent false t = refl

    aside-seen : (full : Bool) (t : Table) → watched c (admin_arrives full (counted_aside t)).table
        ≡ seen_as t.frame t.top t.journal (nat_le c (t.openings + 1)) (seat c t.members)
    aside-seen true t = refl
    aside-seen false t = refl

    aside-tied : (full : Bool) (t : Table) (place : Place) → Ordered (admin_arrives full (counted_aside t)).table
        → Fitting o t.frame t.journal (nat_le c (t.openings + 1)) (seat c t.members) place → Tied o f c t place
        → Tied o f c (admin_arrives full (counted_aside t)).table place
    aside-tied true t place ordered fits h = record {
      base = record { ordered = ordered; steady = h.base.steady; fits = fits };
      line = h.line;
    }
    aside-tied false t place ordered fits h = record {
      base = record { ordered = ordered; steady = h.base.steady; fits = fits };
      line = h.line;
    }

    -- who was not opened before, and is it, has ended for the game
    aside-by : (full b : Bool) (t : Table) (place : Place) → (t.openings + 1 == c) ≡ b → Ordered (admin_arrives full
        (counted_aside t)).table
        → Tied o f c t place → Done t place (admin_arrives full (counted_aside t))
    aside-by full true t place is ordered h =
        let g = fresh t place is h in
        let flags = le-here c t.openings is in
        let seen : Bool → Option Seat → Server Entry = λ b x. seen_as t.frame t.top t.journal b x in
        record {
          end = place;
          way = way-is o f c place place _ _ _ _ _ _ (way-vanish o t.frame t.top t.journal false None place) (sym (aside-silent full t))
              (ap₂ seen (sym flags.1) (sym g.0)) (sym (aside-seen full t ∙ ap₂ seen flags.0 g.0));
          tied = aside-tied full t place ordered (subst (λ x. Fitting o t.frame t.journal (nat_le c (t.openings + 1)) x place) (sym g.0)
              (λ closed. absurd (cc (flags.0, closed)))) h;
        }
    aside-by full false t place is ordered h =
        let flag = le-more c t.openings is in
        away t (admin_arrives full (counted_aside t)).table place (admin_arrives full (counted_aside t)) refl (aside-silent full t)
        (sym (aside-seen full t ∙ ap (λ (b : Bool). seen_as t.frame t.top t.journal b (seat c t.members)) flag))
        (aside-tied full t place ordered (subst (λ b. Fitting o t.frame t.journal b (seat c t.members) place) (sym flag) h.base.fits) h)

    -- ---- what an event does to the member or the admin that it names

    does-named : (conn : ℕ) (of_member : Member → Table → Deed) (of_admin : Admin → Table → Deed) (t : Table) (place : Place)
        → Tied o f c t place → ((m : Member) → On t m → Done t place (of_member m t))
        → ((a : Admin) → OnAdmin t a → Done t place (of_admin a t)) → Done t place (on_conn conn of_member of_admin t)
    does-named conn of_member of_admin t place h p q = by (member_of t conn) refl
      where
        by : (x : Option Member) → member_of t conn ≡ x → Done t place (to_named x (admin_of t conn) of_member of_admin t)
        by (Some m) is = p m (on-found t conn m is)
        by None is = does-some o f c (Tied o f c) (admin_of t conn) of_admin t place h
            (λ a there. q a (found-among (is_admin_on conn) a t.admins there))

    -- ---- events

    does-event : (e : Event) (t : Table) (place : Place) → is_tick e ≡ false → Tied o f c t place → Done t place (by_event o e t)
    does-event (Open Main peer) t place other h = arrives-by (nat_le o.setup.max_clients (length t.members))
        (t.openings + 1 == c) t place refl
        ((order-doors o (Open Main peer)).comes t h.base.ordered) h
    does-event (Open Side peer) t place other h = aside-by (nat_le most_admins (length t.admins)) (t.openings + 1 == c) t place refl
        ((order-doors o (Open Side peer)).comes_aside t h.base.ordered) h
    does-event (Packet conn kind body) t place other h =
        does-named conn _ _ t place h (λ m on. does-heard o reads named f c (read_msg kind body) t place m on h)
        (λ a on. does-admin-hears o reads named f c (read_admin kind body) t place a on h)
    does-event (Broken conn) t place other h =
        does-named conn _ _ t place h (λ m on. does-heard o reads named f c None t place m on h)
        (λ a on. does-admin-hears o reads named f c None t place a on h)
    does-event (Shut conn) t place other h =
        does-named conn _ _ t place h (λ m on. does-leaves o reads f c t place m (Failing 3) on h)
        (λ a on. does-admin-leaves o reads named f c t place a on h)
    does-event Tick t place other h = absurd cc
    does-event Stop t place other h = does-still o f c (Tied o f c) t place h

    -- ---- the end of the game

    among-conns : (ms : List Member) → among c (conns ms) ≡ is_some (seat c ms)
    among-conns [] = refl
    among-conns (m ∷ ms) = by (m.conn == c) (among-conns ms)
      where
        by : (b : Bool) → among c (conns ms) ≡ is_some (seat c ms) → (b || among c (conns ms)) ≡ is_some (cond b (Some
            (seat_of m)) (seat c ms))
        by true later = refl
        by false later = later

    shut-heard : (b : Bool) (t : Table) → among c (conns t.members) ≡ b
        → hears c o f (shut_down t).told ≡ if_told b (ServerShutdown ∷ []) []
    shut-heard b t is = ap₂ (λ (b : Bool) (ms : List GameMsg). if_told b (ServerShutdown ∷ []) ms) is (if_told-nil _ _ ∙ if_told-nil _ _)

    shut-by : (x : Option Seat) (t : Table) (place : Place) → seat c t.members ≡ x → Tied o f c t place → Done t place (shut_down t)
    shut-by None t place was h = record {
      end = place;
      way = way-is o f c place place _ _ _ _ _ _ (stays o place (seen_as t.frame t.top t.journal (nat_le c t.openings) None))
          (sym (shut-heard false t (among-conns t.members ∙ ap is_some was)))
          (ap (λ (x : Option Seat). seen_as t.frame t.top t.journal (nat_le c t.openings) x) (sym was)) refl;
      tied = record {
        base = record {
          ordered = (order-closing o Stop).closes t h.base.ordered;
          steady = h.base.steady;
          fits = subst (λ x. Fitting o t.frame t.journal (nat_le c t.openings) x place) was h.base.fits;
        };
        line = tt;
      };
    }
    shut-by (Some x) t place was h =
        let b : nat_le c t.openings ≡ true = was-opened c t x h.base.ordered was in
        record {
          end = Parted;
          way = way-is o f c place Parted _ _ _ _ _ _ (way-shutdown o t.frame t.top t.journal x place (subst
              (λ x. Fitting o t.frame t.journal
              (nat_le c t.openings) x place) was h.base.fits)) (sym (shut-heard true t (among-conns t.members ∙ ap is_some was)))
              (ap₂ (λ (b : Bool) (x : Option Seat). seen_as t.frame t.top t.journal b x) (sym b) (sym was))
              (ap (λ (b : Bool). seen_as t.frame t.top t.journal b None) (sym b));
          tied = record {
            base = record {
              ordered = (order-closing o Stop).closes t h.base.ordered;
              steady = h.base.steady;
              fits = λ never. absurd (cc (b, never));
            };
            line = tt;
          };
        }

    -- what an event costs, and the end of the game behind it
    does-rest : (e : Event) (t : Table) (place : Place) → Done t place (by_event o e t) → Done t place (taken o e t)
    does-rest e t place p =
        let d : Deed = by_event o e t in
        let u : Table = (charged e d.table).table in
        does-then o f c (Tied o f c) (Tied o f c) t place (d ▹ charged e) (closed o (stops o e t))
        (does-then o f c (Tied o f c) (Tied o f c) t place d (charged e) p (λ end k. does-quiet o f c (Tied o f c) d.table u end refl
        (tied-but o reads named f c d.table.own d.table.digests u.cost d.table end k)))
        (λ end k. does-where o f c (Tied o f c) (stops o e t || nat_le o.setup.cost u.cost || (u.frame == last_frame)) shut_down u end k
        (λ yes. shut-by (seat c u.members) u end refl k))

  -- ---- what is filled in

  steady-is : (t u : Table) (frame : ℕ) (journal : List Entry) → u.frame ≡ frame → u.journal ≡ journal → AreShort u.journal
      → u.frame ≤ last_frame → Steady o (filling o t u) c frame journal
  steady-is t u frame journal f j short low = record {
    frame_is = f;
    world_is = ap₂ (λ (es : List Entry) (g : ℕ). world_at o es g) j f;
    journal_is = j;
    short = subst AreShort j short;
    low = omega (arith, f, low);
  }

  -- how a table stands between events
  pub record Kept (t : Table) (place : Place) : Type 0 where
    pub fits : Fitting o t.frame t.journal (nat_le c t.openings) (seat c t.members) place
    pub line : Line t.members t.queue

  deed-by : (tick b : Bool) (e : Event) (t : Table) (place : Place) → is_tick e ≡ tick → takes t e ≡ b → Ordered t → t.frame ≤ t.top
      → Short (where_ b (taken o e) t).table → (where_ b (taken o e) t).table.frame ≤ last_frame → Kept t place
      → Does o (filling o t (where_ b (taken o e) t).table) c (Tied o (filling o t (where_ b (taken o e) t).table) c) t place
      (where_ b (taken o e) t)
  deed-by tick false e t place is may ordered ahead short low h =
      let f : Filling = filling o t t in
      does-still o f c (Tied o f c) t place (record {
        base = record { ordered = ordered; steady = steady-is t t t.frame t.journal refl refl short.entries low; fits = h.fits };
        line = h.line;
      })
  deed-by false true e t place is may ordered ahead short low h =
      let u : Table = (taken o e t).table in
      let f : Filling = filling o t u in
      let same : SameRun t u = no-tick true o e t is in
      does-rest f e t place (does-event f e t place is (record {
        base = record {
          ordered = ordered;
          steady = steady-is t u t.frame t.journal same.frame same.journal short.entries low;
          fits = h.fits;
        };
        line = h.line;
      }))
  deed-by true true Tick t place is may ordered ahead short low h =
      let u : Table = (taken o Tick t).table in
      let f : Filling = filling o t u in
      let v : Table = (stamped t).table in
      let rest : SameRun (ticked o t).table u = taken-run o Tick t in
      let runs = ticked-is o t in
      let s = stamped-same o t in
      let frame : u.frame ≡ v.frame + 1 = rest.frame ∙ runs.frame ∙ ap (λ (n : ℕ). n + 1) (sym s.frame) in
      let journal : u.journal ≡ v.journal = rest.journal ∙ runs.journal ∙ sym s.journal in
      does-rest f Tick t place (does-ticked o reads named f c (world_of o t) t place (record {
        ordered = ordered;
        fits = h.fits;
        ahead = ahead;
        line = h.line;
        left = λ s k first was. left-found t.queue o c s k t first was;
      }) (steady-is t u (v.frame + 1) v.journal frame journal short.entries low))
  deed-by true true (Open door peer) t place is may ordered ahead short low h = absurd cc
  deed-by true true (Packet conn kind body) t place is may ordered ahead short low h = absurd cc
  deed-by true true (Broken conn) t place is may ordered ahead short low h = absurd cc
  deed-by true true (Shut conn) t place is may ordered ahead short low h = absurd cc
  deed-by true true Stop t place is may ordered ahead short low h = absurd cc

  -- ---- lists of events

  -- a way leads to the table behind these events
  pub record Leading (es : List Event) : Type 0 where
    pub end : Place
    pub way : Way o Asking (game_messages (said.heard o es c)) initial (watched c (table_of o es)) end
    pub kept : Kept (table_of o es) end
    pub short : Short (table_of o es)

  next : (es : List Event) (e : Event) → IsEvent e → Leading es → Leading (es ++ e ∷ [])
  next es e bytes p =
      let t : Table = table_of o es in
      let u : Table = stepped o t e in
      let f : Filling = filling o t u in
      let snoc : table_of o (es ++ e ∷ []) ≡ u = fold-append (stepped o) (first o) es (e ∷ []) in
      let short : Short u = step-short o e bytes t p.short in
      let low : u.frame ≤ last_frame = subst (λ (v : Table). v.frame ≤ last_frame) snoc (is-low o (es ++ e ∷ [])) in
      let near = is-near o es in
      let d = deed-by (is_tick e) (takes t e) e t p.end refl refl (is-ordered o es) near.ahead short low p.kept in
      let heard : game_messages (said.heard o (es ++ e ∷ []) c) ≡ game_messages (said.heard o es c) ++ hears c o f (deed o e t).told =
      ap game_messages (heard-append o (first o) es (e ∷ []) c ∙ ap (λ (xs : List Said). said.heard o es c ++ xs) (append-nil
      (told_by o t e c)))
      ∙ messages-append (said.heard o es c) (told_by o t e c) ∙ ap (λ (ms : List GameMsg). game_messages (said.heard o es c) ++ ms)
      (heard-is c o f (deed o e t).told) in
      record {
        end = d.end;
        way = subst (λ (v : Table). Way o Asking (game_messages (said.heard o (es ++ e ∷ []) c)) initial (watched c v) d.end) (sym snoc)
            (subst (λ ms. Way o Asking ms initial (watched c u) d.end) (sym heard) (Goes-on (game_of o) dialog Asking p.end d.end initial
            (watched c t) (watched c u) (game_messages (said.heard o es c)) (hears c o f (deed o e t).told) p.way d.way));
        kept = subst (λ (v : Table). Kept v d.end) (sym snoc) (record { fits = d.tied.base.fits; line = d.tied.line });
        short = subst Short (sym snoc) short;
      }

  goes-on : (es fs : List Event) → AreEvents fs → Leading es → Leading (es ++ fs)
  goes-on es [] are p = subst Leading (sym (append-nil es)) p
  goes-on es (e ∷ fs) are p = subst Leading (append_assoc es (e ∷ []) fs) (goes-on (es ++ e ∷ []) fs are.1 (next es e are.0 p))

  start-by : (b : Bool) → Way o Asking [] initial (seen_as 0 0 [] b None) Asking
  start-by true = way-vanish o 0 0 [] false None Asking
  start-by false = Goes-nowhere (game_of o) dialog Asking initial

  pub led : (es : List Event) → AreEvents es → Leading es
  led es are = goes-on [] es are (record {
    end = Asking;
    way = start-by (nat_le c 0);
    kept = record { fits = λ b. refl; line = tt };
    short = record { waiting = tt; owned = tt; entries = tt };
  })

  pub leads-there : (es : List Event) → AreEvents es → Leads (game_of o) initial (things_told o es c) (watched c (table_of o es))
  leads-there es are = (led es are).way.leads
