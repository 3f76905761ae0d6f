-- The companies of a table live: those that members are in and have asked for, those of commands that wait, and those with a
-- password.
use Rattle.std.proofs.Common.{◌≡◌, ◌⊎◌, inl, inr, ℕ, ◌+◌, ◌≤◌, List, [], ◌∷◌, ◌++◌, refl, ap, sym, ◌∙◌, subst, true, false, Bool}
use Rattle.std.proofs.Common.{Option, Some, None, arith}
use Rattle.std.specs.Prelude.{◌*◌, ◌==◌, ◌||◌, ◌&&◌, length, nat_lt, nat_le, cond, not, option_map}
use Rattle.std.specs.List.{AllByRecursion}
use Rattle.std.proofs.lemmas.Bool.{eqb-true, ltb-false}
use Rattle.tt_edge.specs.declared.event.Event.{Event}
use Rattle.tt_edge.specs.declared.event.Event.TheVariants.{Open, Packet, Broken, Shut, Tick, Stop}
use Rattle.tt_game.specs.declared.message.GameMsg.TheVariants.{ClientJoin, ClientSetPassword}
use Rattle.tt_world.specs.declared.command.Command.{Command}
use Rattle.tt_world.specs.declared.command.Entry.{Entry}
use Rattle.tt_world.specs.World.{WorldState}
use Rattle.tt_rules.specs.Commands.{is_own_code}
use Rattle.tt_rules.specs.Companies.{is_living, living}
use Rattle.tt_rules.specs.Verdict.{spectator}
use Rattle.tt_rules.specs.declared.status.Status.TheVariants.{DoneMap}
use Rattle.tt_log.specs.declared.deed.Step.{Step}
use Rattle.tt_log.specs.Origin.{Origin, at_frame, world_at}
use Rattle.tt_log.specs.Member.{Member}
use Rattle.tt_log.specs.Table.{Table, downloader, first, is_on, living_in, member_with, option_list, with_digest, with_member, world_of}
use Rattle.tt_log.specs.Deed.{Deed, where_, where_some}
use Rattle.tt_log.specs.Judged.{founder, has_room, is_empty, is_same_game, may_ask_for}
use Rattle.tt_log.specs.PacketRules.{closed_token, first_company, moves}
use Rattle.tt_log.specs.Desk.{admin_arrives, counted_aside, most_admins}
use Rattle.tt_log.specs.Tick.{all_moved, drawn, finishes_map, foundings, frame_runs_by, left_of, mapped, next_pieces, pieces_of, stamped}
use Rattle.tt_log.specs.Tick.{stamps, ticked}
use Rattle.tt_log.specs.Events.{arrives, by_event, counted_in, stepped}
use Rattle.tt_log.specs.History.{table_of}
use Rattle.tt_log.specs.Seats.{AreSeated, Lives, LivesIfAny, LockLive, WaitForLive}
use Rattle.tt_log.proofs.Lists.{all-append, all-drop, all-filter, all-map, all-so, among-all, found-among, last-among}
use Rattle.tt_log.proofs.Crew.{On, put-all}
use Rattle.tt_log.proofs.Changes.{Allows, Change, wants_password, is_let_in, gets_token, gets_frame, answers, plays, commands, has_name}
use Rattle.tt_log.proofs.Changes.{goes_to, founds, gets_pieces, has_all, is_behind, Asks, May, turned, moved, Move, queues, begins_map}
use Rattle.tt_log.proofs.Changes.{loads}
use Rattle.tt_log.proofs.Walk.{Base, Walk, Doors, Closing, Moves, running, stamping, of-asks, of-enters, of-leaves, of-deed-by, of-entries}
use Rattle.tt_log.proofs.Walk.{loader-on, of-follows-by, of-frames, of-moves, of-some, of-still}
use Rattle.tt_log.proofs.Clock.{SameClock, from-all, runs-same, stamped-same}
use Rattle.tt_log.proofs.Living.{founders-live, next-lasts, stamping-stays}
use Rattle.tt_log.proofs.Marking.{last-none, none-first}

-- ---- members

-- a member is in a company that lives, or in none; it asked for such a one, or for a new one; and its commands wait for live ones
record IsHome (live : List Bool) (m : Member) : Type 0 where
  company : LivesIfAny live m.company
  asked : (m.asked ≡ founder) ⊎ LivesIfAny live m.asked
  waiting : AllByRecursion (λ (w : ℕ × Command). Lives live w.0) m.waiting

abbrev AreHome : Origin → Table → Type 0
AreHome o t = (t.frame ≤ t.top) × AllByRecursion (IsHome (living_in o t)) t.members
    × AllByRecursion (λ (d : ℕ × List ℕ). Lives (living_in o t) d.0) t.digests

abbrev KeepsHome : Origin → Table → List Step → Table → Type 0
KeepsHome o t steps u = AreHome o t → AreHome o u

same-home : (live : List Bool) (m n : Member) → n.company ≡ m.company → n.asked ≡ m.asked → n.waiting ≡ m.waiting → IsHome live m
    → IsHome live n
same-home live m n company asked waiting h = record {
  company = rw company h.company;
  asked = rw asked h.asked;
  waiting = rw waiting h.waiting;
}

-- ---- what was not refused

seat-by : (b c d : Bool) (live : List Bool) (company : ℕ) → (company == spectator) ≡ b → is_living live company ≡ c
    → (company == founder) ≡ d → not (b || c || (d && has_room live)) ≡ false → (company ≡ founder) ⊎ LivesIfAny live company
seat-by true c d live company none lives new is = inr (inl (eqb-true company spectator none))
seat-by false true d live company none lives new is = inr (inr lives)
seat-by false false true live company none lives new is = inl (eqb-true company founder new)
seat-by false false false live company none lives new is = absurd cc

joins-seat : (o : Origin) (e : Event) (t : Table) (m : Member) (revision : List ℕ) (grf : ℕ) (name : List ℕ) (company : ℕ)
    → Allows o e t m (ClientJoin revision grf name company) → (company ≡ founder) ⊎ LivesIfAny (living_in o t) company
joins-seat o e t m revision grf name company a =
    let live : List Bool = living_in o t in
    let one = none-first (not (is_same_game o revision grf)) 8 _ a.table in
    let two = none-first (is_empty name) 20 _ one.1 in
    let three = none-first (not (may_ask_for live company)) 11 _ two.1 in
    seat-by (company == spectator) (is_living live company) (company == founder) live company refl refl refl three.0

asked-seat : (o : Origin) (e : Event) (t : Table) (m : Member) (name : List ℕ) (asked : ℕ) → Asks o e t m name asked
    → IsHome (living_in o t) m → (asked ≡ founder) ⊎ LivesIfAny (living_in o t) asked
asked-seat o e t m name asked (inl before) h = rw before.1 h.asked
asked-seat o e t m name asked (inr (at, (revision, grf, wanted, is, allowed))) h = joins-seat o e t m revision grf wanted asked allowed

first-seat : (live : List Bool) (asked : ℕ) → (asked ≡ founder) ⊎ LivesIfAny live asked → LivesIfAny live (first_company asked)
first-seat live asked (inl new) = rw new (inl refl)
first-seat live asked (inr seat) = by (asked == founder)
  where
    by : (b : Bool) → LivesIfAny live (cond b spectator asked)
    by true = inl refl
    by false = seat

lives-by : (b : Bool) → not b ≡ false → b ≡ true
lives-by true is = refl
lives-by false is = absurd cc

moves-seat : (b c : Bool) (live : List Bool) (company : ℕ) → (company == spectator) ≡ b → is_living live company ≡ c → not (b || c) ≡ false
    → LivesIfAny live company
moves-seat true c live company none lives is = inl (eqb-true company spectator none)
moves-seat false true live company none lives is = inr lives
moves-seat false false live company none lives is = absurd cc

locked-lives : (live : List Bool) (company : ℕ) → nat_lt 14 company ≡ false → LivesIfAny live company → Lives live company
locked-lives live company low (inl none) = absurd (let l : company ≤ 14 = ltb-false 14 company low in omega (arith, l, none))
locked-lives live company low (inr lives) = lives

-- ---- a member that changes

acked-home : (b : Bool) (live : List Bool) (frame : ℕ) (m : Member) → IsHome live m
    → IsHome live (record (cond b m (closed_token m)) { acked = frame })
acked-home true live frame m h = same-home live m _ refl refl refl h
acked-home false live frame m h = same-home live m _ refl refl refl h

turned-home : (c : Change) (o : Origin) (e : Event) (t : Table) (m : Member) → May o e t m c → is_behind c ≡ false
    → IsHome (living_in o t) m → IsHome (living_in o t) (turned c t m)
turned-home (wants_password true name asked) o e t m may ahead h =
    record { company = h.company; asked = asked-seat o e t m name asked may h; waiting = h.waiting }
turned-home (wants_password false name asked) o e t m may ahead h =
    record { company = h.company; asked = asked-seat o e t m name asked may h; waiting = h.waiting }
turned-home (is_let_in name asked) o e t m may ahead h =
    let seat = asked-seat o e t m name asked may h in
    record { company = first-seat (living_in o t) asked seat; asked = seat; waiting = h.waiting }
turned-home gets_token o e t m may ahead h = same-home (living_in o t) m _ refl refl refl h
turned-home gets_frame o e t m may ahead h = same-home (living_in o t) m _ refl refl refl h
turned-home (answers frame token) o e t m may ahead h = acked-home (token == 0) (living_in o t) frame m h
turned-home plays o e t m may ahead h = same-home (living_in o t) m _ refl refl refl h
turned-home (commands company code number to text command) o e t m may ahead h =
    let live : List Bool = living_in o t in
    let one = none-first (nat_le 16 (length m.waiting)) 15 _ may.1.standing in
    let two = none-first (nat_lt 8 code) 7 _ one.1 in
    let three = none-first (is_own_code code) 12 _ two.1 in
    let four = none-first (not (is_living live company)) 12 _ three.1 in
    record {
      company = h.company;
      asked = h.asked;
      waiting = all-append (λ (w : ℕ × Command). Lives live w.0) m.waiting ((company, command) ∷ []) h.waiting
          (lives-by (is_living live company) four.0, tt);
    }
turned-home (has_name name) o e t m may ahead h = same-home (living_in o t) m _ refl refl refl h
turned-home (goes_to company digest) o e t m may ahead h =
    let live : List Bool = living_in o t in
    let is = last-none (not ((company == spectator) || is_living live company)) 11 may.standing in
    record {
      company = moves-seat (company == spectator) (is_living live company) live company refl refl is;
      asked = h.asked;
      waiting = h.waiting;
    }
turned-home (founds company) o e t m may ahead h = absurd cc
turned-home (gets_pieces left) o e t m may ahead h = absurd cc
turned-home has_all o e t m may ahead h = absurd cc

moved-home : (v : Move) (live : List Bool) (t : Table) (m : Member) → IsHome live m → IsHome live (moved v t m)
moved-home queues live t m h = same-home live m _ refl refl refl h
moved-home begins_map live t m h = same-home live m _ refl refl refl h
moved-home loads live t m h = same-home live m _ refl refl refl h

-- ---- the walk

put-home : (o : Origin) (t : Table) (n : Member) → IsHome (living_in o t) n → AreHome o t → AreHome o (with_member n t)
put-home o t n a h = (h.0, put-all (IsHome (living_in o t)) n t.members a h.1, h.2)

found-home : (o : Origin) (t : Table) (m : Member) → On t m → AreHome o t → IsHome (living_in o t) m
found-home o t m on h = among-all (IsHome (living_in o t)) m t.members on h.1

home-base : (o : Origin) (e : Event) → Base o e (KeepsHome o)
home-base o e = record {
  still = λ t h. h;
  joins = λ t u v xs ys a b h. b (a h);
  turns = λ c t m on may by ahead h. put-home o t (turned c t m) (turned-home c o e t m may ahead (found-home o t m on h)) h;
  tells_one = λ t m msg on talk h. h;
  tells_some = λ t to w there news h. h;
  tells_admins = λ t to r may is h. h;
}

home-moves : (o : Origin) (e : Event) → Moves o e (KeepsHome o)
home-moves o e = record {
  moving = λ v t m on may h. put-home o t (moved v t m) (moved-home v (living_in o t) t m (found-home o t m on h)) h;
  recalls = λ t m on at h. h;
  waits_on = λ t conn n there h. h;
  stands = λ t m on h. h;
  cuts = λ t place h. h;
  ends_one = λ t m on h. h;
  parts = λ t m on h. (h.0, all-filter (IsHome (living_in o t)) (λ n. not (is_on m.conn n)) t.members h.1, h.2);
  greets = λ t m on at h. put-home o t _ (same-home (living_in o t) m _ refl refl refl (found-home o t m on h)) h;
}

digests-live : (live : List Bool) (company : ℕ) (digest : Option (List ℕ)) → Lives live company
    → AllByRecursion (λ (d : ℕ × List ℕ). Lives live d.0) (option_list (option_map (λ (d : List ℕ). (company, d)) digest))
digests-live live company None is = tt
digests-live live company (Some digest) is = (is, tt)

locks-home : (o : Origin) (e : Event) (t : Table) (m : Member) (digest : Option (List ℕ)) → On t m
    → Allows o e t m (ClientSetPassword digest) → AreHome o t → AreHome o (with_digest m.company digest t)
locks-home o e t m digest on allowed h =
    let live : List Bool = living_in o t in
    let low = last-none (nat_lt 14 m.company) 11 allowed.standing in
    let lives = locked-lives live m.company low (found-home o t m on h).company in (
      h.0,
      h.1,
      all-append (λ (d : ℕ × List ℕ). Lives live d.0) _ (option_list (option_map (λ (d : List ℕ). (m.company, d)) digest))
          (all-filter (λ (d : ℕ × List ℕ). Lives live d.0) (λ (d : ℕ × List ℕ). not (d.0 == m.company)) t.digests h.2)
          (digests-live live m.company digest lives),
    )

home-walk : (o : Origin) (e : Event) → Walk o e (KeepsHome o)
home-walk o e = record {
  base = home-base o e;
  locks = λ t m digest on allowed h. locks-home o e t m digest on allowed h;
  orders = λ t c is still h. h;
  asks_map = λ t m on at. of-asks o e (KeepsHome o) (home-base o e) (home-moves o e) t m on at;
  enters_game = λ t m on at. of-enters o e (KeepsHome o) (home-base o e) (home-moves o e) t m on at;
  goes = λ t m farewell on is. of-leaves o e (KeepsHome o) (home-base o e) (home-moves o e) t m farewell on is;
  settles = λ t a b on is h. h;
  goes_aside = λ t a on h. h;
}

arrives-home : (full : Bool) (o : Origin) (t : Table) → AreHome o t → AreHome o (arrives full (counted_in t)).table
arrives-home true o t h = h
arrives-home false o t h = (
  h.0,
  all-append (IsHome (living_in o t)) t.members _ h.1 (record { company = inl refl; asked = inr (inl refl); waiting = tt }, tt),
  h.2,
)

aside-home : (full : Bool) (o : Origin) (t : Table) → AreHome o t → AreHome o (admin_arrives full (counted_aside t)).table
aside-home true o t h = h
aside-home false o t h = h

home-doors : (o : Origin) (e : Event) → Doors o e (KeepsHome o)
home-doors o e = record {
  comes = λ t h. arrives-home (nat_le o.setup.max_clients (length t.members)) o t h;
  comes_aside = λ t h. aside-home (nat_le most_admins (length t.admins)) o t h;
}

home-closing : (o : Origin) (e : Event) → Closing o e (KeepsHome o)
home-closing o e = record { charges = λ t h. h; closes = λ t h. (h.0, tt, h.2) }

-- ---- a tick

lasts-home : (old new : List Bool) → ((n : ℕ) → Lives old n → Lives new n) → (m : Member) → IsHome old m → IsHome new m
lasts-home old new lasts m h = record {
  company = seat m.company h.company;
  asked = asked m.asked h.asked;
  waiting = all-so (λ (w : ℕ × Command). Lives old w.0) (λ (w : ℕ × Command). Lives new w.0) m.waiting (λ w is. lasts w.0 is) h.waiting;
}
  where
    seat : (company : ℕ) → LivesIfAny old company → LivesIfAny new company
    seat company (inl none) = inl none
    seat company (inr lives) = inr (lasts company lives)

    asked : (company : ℕ) → (company ≡ founder) ⊎ LivesIfAny old company → (company ≡ founder) ⊎ LivesIfAny new company
    asked company (inl new_one) = inl new_one
    asked company (inr one) = inr (seat company one)

drawn-home : (live : List Bool) (m : Member) → IsHome live m → IsHome live (drawn m)
drawn-home live m h = record {
  company = h.company;
  asked = h.asked;
  waiting = all-drop (λ (w : ℕ × Command). Lives live w.0) 2 m.waiting h.waiting;
}

stamping-home : (o : Origin) (t : Table) → AreHome o t → AreHome o (stamping t)
stamping-home o t h =
    let same : living_in o (stamping t) ≡ living_in o t = ap (λ (w : WorldState). living w) (stamping-stays o t h.0) in (
      h.0,
      subst (λ (live : List Bool). AllByRecursion (IsHome live) (stamping t).members) (sym same)
          (all-map (IsHome (living_in o t)) (IsHome (living_in o t)) drawn t.members (drawn-home (living_in o t)) h.1),
      subst (λ (live : List Bool). AllByRecursion (λ (d : ℕ × List ℕ). Lives live d.0) t.digests) (sym same) h.2,
    )

next-home : (o : Origin) (t : Table) (top : ℕ) → t.frame + 1 ≤ top → AreHome o t → AreHome o (record t { frame = t.frame + 1; top = top })
next-home o t top ahead h =
    let old : List Bool = living_in o t in
    let new : List Bool = living (world_at o t.journal (t.frame + 1)) in (
      ahead,
      all-so (IsHome old) (IsHome new) t.members (λ m a. lasts-home old new (next-lasts o t.journal t.frame) m a) h.1,
      all-so (λ (d : ℕ × List ℕ). Lives old d.0) (λ (d : ℕ × List ℕ). Lives new d.0) t.digests
          (λ d is. next-lasts o t.journal t.frame d.0 is) h.2,
    )

running-home : (b : Bool) (o : Origin) (t : Table) → nat_lt t.top (t.frame + 1) ≡ b → AreHome o t → AreHome o (running b o t)
running-home true o t is h = next-home o t (t.frame + 1 + o.setup.frame_freq) (omega arith) h
running-home false o t is h = next-home o t t.top (ltb-false t.top (t.frame + 1) is) h

runs-home : (b : Bool) (o : Origin) (t : Table) → nat_lt t.top (t.frame + 1) ≡ b → AreHome o t → AreHome o (frame_runs_by b o t).table
runs-home true o t is h = of-frames o Tick (KeepsHome o) (home-base o Tick) t.members (running true o t) (running-home true o t is h)
runs-home false o t is h = running-home false o t is h

-- founders go to companies that live
moved-live : (o : Origin) (t : Table) (x : Option Member) (company : ℕ)
    → living_in o (where_some x (λ m. moves m company) t).table ≡ living_in o t
moved-live o t None company = refl
moved-live o t (Some m) company = refl

founds-home : (o : Origin) (t : Table) (m : Member) (company : ℕ) → On t m → Lives (living_in o t) company
    → KeepsHome o t [] (with_member (record m { company = company }) t)
founds-home o t m company on lives h = let a = found-home o t m on h in
    put-home o t (record m { company = company }) (record { company = inr lives; asked = a.asked; waiting = a.waiting }) h

all-moved-home : (o : Origin) (fs : List (ℕ × ℕ)) (t : Table) → AllByRecursion (λ (f : ℕ × ℕ). Lives (living_in o t) f.1) fs
    → KeepsHome o t (all_moved fs t).told (all_moved fs t).table
all-moved-home o [] t live h = h
all-moved-home o (f ∷ fs) t live h =
    let rule : Member → Table → Deed = λ m. moves m f.1 in
    let d : Deed = where_some (member_with f.0 t) rule t in
    let one : AreHome o d.table = of-some o Tick (KeepsHome o) (home-base o Tick) (member_with f.0 t) rule t (λ m is.
    let on = found-among (λ m. m.client == f.0) m t.members is in
    of-moves o Tick (KeepsHome o) (home-walk o Tick) t m f.1 on (founds-home o t m f.1 on live.0)) h in
    all-moved-home o fs d.table (subst (λ (lives : List Bool). AllByRecursion (λ (f : ℕ × ℕ). Lives lives f.1) fs)
    (sym (moved-live o t (member_with f.0 t) f.1)) live.1) one

-- the map's pieces change no company
finished-home : (b : Bool) (o : Origin) (t : Table) (m : Member) → IsHome (living_in o t) m → AreHome o t
    → AreHome o (where_ b (finishes_map m) t).table
finished-home true o t m a h = put-home o t (record m { status = DoneMap }) (same-home (living_in o t) m _ refl refl refl a) h
finished-home false o t m a h = h

pieces-home : (o : Origin) (left : List ℕ) (t : Table) (m : Member) → On t m → AreHome o t → AreHome o (next_pieces left m t).table
pieces-home o left t m on h =
    let n : Member = record m { pieces = m.pieces + length (pieces_of 4 left) } in
    let a = same-home (living_in o t) m n refl refl refl (found-home o t m on h) in
    finished-home (not (nat_lt (4 * 1400) (length left))) o (with_member n t) n a (put-home o t n a h)

mapped-home : (o : Origin) (left : List ℕ) (t : Table) → KeepsHome o t (mapped left t).told (mapped left t).table
mapped-home o left t = of-some o Tick (KeepsHome o) (home-base o Tick) (downloader t) (next_pieces left) t
    (λ m is. pieces-home o left t m (loader-on o Tick (KeepsHome o) (home-walk o Tick) t m is).0)

running-frame : (b : Bool) (o : Origin) (t : Table) → ((running b o t).frame ≡ t.frame + 1) × ((running b o t).journal ≡ t.journal)
running-frame true o t = (refl, refl)
running-frame false o t = (refl, refl)

founders-at : (o : Origin) (t u : Table) → t.frame ≤ t.top → u.frame ≡ t.frame + 1 → u.journal ≡ t.journal ++ stamps t
    → AllByRecursion (λ (f : ℕ × ℕ). Lives (living_in o u) f.1) (foundings (living (world_of o t)) (at_frame o u.frame u.journal))
founders-at o t u low frame journal =
    let all : List Entry = t.journal ++ stamps t in
    let f : ℕ = t.frame + 1 in
    rw (frame, journal) (subst (λ (w : WorldState). AllByRecursion (λ (x : ℕ × ℕ). Lives (living (world_at o all f)) x.1)
    (foundings (living w) (at_frame o f all))) (stamping-stays o t low) (founders-live o all t.frame))

ticked-home : (o : Origin) (t : Table) → AreHome o t → AreHome o (ticked o t).table
ticked-home o t h =
    let s : Table = (stamped t).table in
    let b : Bool = nat_lt s.top (s.frame + 1) in
    let u : Table = (frame_runs_by b o s).table in
    let stamped_home : AreHome o s = of-entries o Tick (KeepsHome o) (home-base o Tick) (stamps t) (stamping t)
    (last-among t.journal (stamps t)) (stamping-home o t h) in
    let run_home : AreHome o u = runs-home b o s refl stamped_home in
    let first : SameClock (stamping t) s = stamped-same o t in
    let next : SameClock (running b o s) u = runs-same o b s in
    let step = running-frame b o s in
    let founders = founders-at o t u h.0 (next.frame ∙ step.0 ∙ ap (λ (f : ℕ). f + 1) first.frame)
    (next.journal ∙ step.1 ∙ first.journal) in
    of-follows-by o Tick (KeepsHome o) (home-walk o Tick) (world_of o t) (left_of o t) u
    (all-moved-home o (foundings (living (world_of o t)) (at_frame o u.frame u.journal)) u founders) (mapped-home o (left_of o t)) run_home

-- ---- events

event-home : (o : Origin) (e : Event) (t : Table) → KeepsHome o t (by_event o e t).told (by_event o e t).table
event-home o Tick t = ticked-home o t
event-home o (Open door peer) t = of-still o (Open door peer) (KeepsHome o) (home-walk o _) (home-doors o _) t refl
event-home o (Packet conn kind body) t = of-still o (Packet conn kind body) (KeepsHome o) (home-walk o _) (home-doors o _) t refl
event-home o (Broken conn) t = of-still o (Broken conn) (KeepsHome o) (home-walk o _) (home-doors o _) t refl
event-home o (Shut conn) t = of-still o (Shut conn) (KeepsHome o) (home-walk o _) (home-doors o _) t refl
event-home o Stop t = of-still o Stop (KeepsHome o) (home-walk o _) (home-doors o _) t refl

step-home : (o : Origin) (e : Event) (t : Table) → AreHome o t → AreHome o (stepped o t e)
step-home o e t h = of-deed-by o e (KeepsHome o) (home-walk o e) (home-closing o e) t (λ is. event-home o e t) h

are-home : (o : Origin) (es : List Event) → AreHome o (table_of o es)
are-home o es = from-all o (AreHome o) (step-home o) es (first o) (omega arith, tt, tt)

pub are-seated : (o : Origin) (es : List Event) → AreSeated o (table_of o es)
are-seated o es = all-so (IsHome (living_in o (table_of o es))) (λ (m : Member). LivesIfAny (living_in o (table_of o es)) m.company)
    (table_of o es).members (λ m a. a.company) (are-home o es).1

pub wait-for-live : (o : Origin) (es : List Event) → WaitForLive o (table_of o es)
wait-for-live o es = all-so (IsHome (living_in o (table_of o es)))
    (λ (m : Member). AllByRecursion (λ (w : ℕ × Command). Lives (living_in o (table_of o es)) w.0) m.waiting)
    (table_of o es).members (λ m a. a.waiting) (are-home o es).1

pub lock-live : (o : Origin) (es : List Event) → LockLive o (table_of o es)
lock-live o es = (are-home o es).2
