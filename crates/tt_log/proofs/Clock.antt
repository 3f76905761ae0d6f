-- Which rules leave the clock and the journal, and that the permitted frame is never behind the frame nor far ahead of it.
use Rattle.std.proofs.Common.{◌≡◌, ◌⊎◌, inl, inr, ℕ, ◌+◌, ◌≤◌, ◌<◌, List, [], ◌∷◌, ◌++◌, refl, ap, ◌∙◌, true, false, Bool, arith}
use Rattle.std.specs.Prelude.{fold, length, nat_lt, nat_le, not, ◌&&◌}
use Rattle.std.proofs.lemmas.Bool.{ltb-true, ltb-false}
use Rattle.tt_edge.specs.declared.event.Event.{Event}
use Rattle.tt_edge.specs.declared.event.Event.TheVariants.{Open, Packet, Broken, Shut, Tick, Stop}
use Rattle.tt_edge.specs.Event.{is_tick}
use Rattle.tt_log.specs.declared.deed.Step.{Step}
use Rattle.tt_log.specs.Origin.{Origin}
use Rattle.tt_log.specs.Table.{Table, first, world_of}
use Rattle.tt_log.specs.Deed.{Deed, where_}
use Rattle.tt_log.specs.Desk.{admin_arrives, counted_aside, most_admins}
use Rattle.tt_log.specs.Tick.{stamps, stamped, frame_runs_by, left_of, ticked}
use Rattle.tt_log.specs.Events.{arrives, counted_in, by_event, charged, shut_down, taken, takes, names_live, stepped}
use Rattle.tt_log.specs.History.{table_of}
use Rattle.tt_log.proofs.Walk.{Turns, ahead-of, behind-of}
use Rattle.tt_log.proofs.Walk.{stamping, running, Base, Walk, Doors, Moves, of-entries, of-frames, of-asks, of-enters, of-leaves}
use Rattle.tt_log.proofs.Walk.{of-follows, of-still}
use Rattle.tt_log.proofs.Lists.{last-among}
use Rattle.tt_log.proofs.Places.{world-places}

-- ---- what leaves the clock

-- the clock, the journal and whether the game is over are as they were
pub record SameClock (t u : Table) : Type 0 where
  pub frame : u.frame ≡ t.frame
  pub top : u.top ≡ t.top
  pub over : u.over ≡ t.over
  pub journal : u.journal ≡ t.journal

pub same-then : (t u v : Table) → SameClock t u → SameClock u v → SameClock t v
same-then t u v a b = record { frame = b.frame ∙ a.frame; top = b.top ∙ a.top; over = b.over ∙ a.over; journal = b.journal ∙ a.journal }

abbrev pub KeepsClock : Table → List Step → Table → Type 0
KeepsClock t steps u = SameClock t u

pub same-turns : (o : Origin) (e : Event) → Turns o e KeepsClock
same-turns o e c t m on may by = record { frame = refl; top = refl; over = refl; journal = refl }

pub same-base : (o : Origin) (e : Event) → Base o e KeepsClock
same-base o e = record {
  still = λ t. record { frame = refl; top = refl; over = refl; journal = refl };
  joins = λ t u v xs ys a b. same-then t u v a b;
  turns = ahead-of o e KeepsClock (same-turns o e);
  tells_one = λ t m msg on talk. record { frame = refl; top = refl; over = refl; journal = refl };
  tells_some = λ t to w there news. record { frame = refl; top = refl; over = refl; journal = refl };
  tells_admins = λ t to r may is. record { frame = refl; top = refl; over = refl; journal = refl };
}

pub same-moves : (o : Origin) (e : Event) → Moves o e KeepsClock
same-moves o e = record {
  moving = λ v t m on may. record { frame = refl; top = refl; over = refl; journal = refl };
  recalls = λ t m on at. record { frame = refl; top = refl; over = refl; journal = refl };
  waits_on = λ t conn n there. record { frame = refl; top = refl; over = refl; journal = refl };
  stands = λ t m on. record { frame = refl; top = refl; over = refl; journal = refl };
  cuts = λ t place. record { frame = refl; top = refl; over = refl; journal = refl };
  ends_one = λ t m on. record { frame = refl; top = refl; over = refl; journal = refl };
  parts = λ t m on. record { frame = refl; top = refl; over = refl; journal = refl };
  greets = λ t m on at. record { frame = refl; top = refl; over = refl; journal = refl };
}

pub same-walk : (o : Origin) (e : Event) → Walk o e KeepsClock
same-walk o e = record {
  base = same-base o e;
  locks = λ t m digest on allowed. record { frame = refl; top = refl; over = refl; journal = refl };
  orders = λ t c is still. record { frame = refl; top = refl; over = refl; journal = refl };
  asks_map = λ t m on at. of-asks o e KeepsClock (same-base o e) (same-moves o e) t m on at;
  enters_game = λ t m on at. of-enters o e KeepsClock (same-base o e) (same-moves o e) t m on at;
  goes = λ t m farewell on is. of-leaves o e KeepsClock (same-base o e) (same-moves o e) t m farewell on is;
  settles = λ t a b on is. record { frame = refl; top = refl; over = refl; journal = refl };
  goes_aside = λ t a on. record { frame = refl; top = refl; over = refl; journal = refl };
}

same-arrives : (full : Bool) (t : Table) → SameClock t (arrives full (counted_in t)).table
same-arrives true t = record { frame = refl; top = refl; over = refl; journal = refl }
same-arrives false t = record { frame = refl; top = refl; over = refl; journal = refl }

same-aside : (full : Bool) (t : Table) → SameClock t (admin_arrives full (counted_aside t)).table
same-aside true t = record { frame = refl; top = refl; over = refl; journal = refl }
same-aside false t = record { frame = refl; top = refl; over = refl; journal = refl }

pub same-doors : (o : Origin) (e : Event) → Doors o e KeepsClock
same-doors o e = record {
  comes = λ t. same-arrives (nat_le o.setup.max_clients (length t.members)) t;
  comes_aside = λ t. same-aside (nat_le most_admins (length t.admins)) t;
}

-- an event that is no tick leaves the clock
pub event-same : (o : Origin) (e : Event) (t : Table) → is_tick e ≡ false → SameClock t (by_event o e t).table
event-same o e t other = of-still o e KeepsClock (same-walk o e) (same-doors o e) t other

-- ---- a tick

pub stamped-same : (o : Origin) (t : Table) → SameClock (stamping t) (stamped t).table
stamped-same o t = of-entries o Tick KeepsClock (same-base o Tick) (stamps t) (stamping t) (last-among t.journal (stamps t))

pub runs-same : (o : Origin) (b : Bool) (t : Table) → SameClock (running b o t) (frame_runs_by b o t).table
runs-same o true t = of-frames o Tick KeepsClock (same-base o Tick) t.members (running true o t)
runs-same o false t = record { frame = refl; top = refl; over = refl; journal = refl }

-- what a tick makes of the clock: one frame more, and where that passes the permitted one, this is raised by so many frames
pub record Ticked (o : Origin) (t u : Table) : Type 0 where
  pub frame : u.frame ≡ t.frame + 1
  pub top : ((t.top < t.frame + 1) × (u.top ≡ t.frame + 1 + o.setup.frame_freq)) ⊎ ((t.frame + 1 ≤ t.top) × (u.top ≡ t.top))
  pub over : u.over ≡ t.over
  pub journal : u.journal ≡ t.journal ++ stamps t

ticked-by : (b : Bool) (o : Origin) (t s u v : Table) → SameClock (stamping t) s → nat_lt s.top (s.frame + 1) ≡ b
    → SameClock (running b o s) u → SameClock u v → Ticked o t v
ticked-by true o t s u v a is b c =
    let low : s.top < s.frame + 1 = ltb-true s.top (s.frame + 1) is in
    record {
      frame = c.frame ∙ b.frame ∙ ap (λ (f : ℕ). f + 1) a.frame;
      top = inl (omega (arith, low, a.frame, a.top), c.top ∙ b.top ∙ ap (λ (f : ℕ). f + 1 + o.setup.frame_freq) a.frame);
      over = c.over ∙ b.over ∙ a.over;
      journal = c.journal ∙ b.journal ∙ a.journal;
    }
ticked-by false o t s u v a is b c =
    let high : s.frame + 1 ≤ s.top = ltb-false s.top (s.frame + 1) is in
    record {
      frame = c.frame ∙ b.frame ∙ ap (λ (f : ℕ). f + 1) a.frame;
      top = inr (omega (arith, high, a.frame, a.top), c.top ∙ b.top ∙ a.top);
      over = c.over ∙ b.over ∙ a.over;
      journal = c.journal ∙ b.journal ∙ a.journal;
    }

pub ticked-is : (o : Origin) (t : Table) → Ticked o t (ticked o t).table
ticked-is o t =
    let s : Table = (stamped t).table in
    let b : Bool = nat_lt s.top (s.frame + 1) in
    let u : Table = (frame_runs_by b o s).table in
    ticked-by b o t s u (ticked o t).table (stamped-same o t) refl (runs-same o b s) (of-follows o Tick KeepsClock (same-walk o Tick)
    (behind-of o Tick KeepsClock (same-turns o Tick)) (world_of o t) (left_of o t) u (world-places o t.journal t.frame))

-- ---- what follows the rule of an event

closed-same : (b : Bool) (t : Table) → ((where_ b shut_down t).table.frame ≡ t.frame) × ((where_ b shut_down t).table.top ≡ t.top)
    × ((where_ b shut_down t).table.journal ≡ t.journal)
closed-same true t = (refl, refl, refl)
closed-same false t = (refl, refl, refl)

-- the frame, the permitted frame and the journal are as they were
pub record SameRun (t u : Table) : Type 0 where
  pub frame : u.frame ≡ t.frame
  pub top : u.top ≡ t.top
  pub journal : u.journal ≡ t.journal

pub taken-run : (o : Origin) (e : Event) (t : Table) → SameRun (by_event o e t).table (taken o e t).table
taken-run o e t =
    let v : Table = (charged e (by_event o e t).table).table in
    let same = closed-same _ v in
    record { frame = same.0; top = same.1; journal = same.2 }

pub no-tick : (b : Bool) (o : Origin) (e : Event) (t : Table) → is_tick e ≡ false → SameRun t (where_ b (taken o e) t).table
no-tick true o e t other =
    let later : SameRun (by_event o e t).table (taken o e t).table = taken-run o e t in
    let same : SameClock t (by_event o e t).table = event-same o e t other in
    record { frame = later.frame ∙ same.frame; top = later.top ∙ same.top; journal = later.journal ∙ same.journal }
no-tick false o e t other = record { frame = refl; top = refl; journal = refl }

where-yes : (b : Bool) (rule : Table → Deed) (t : Table) → b ≡ true → where_ b rule t ≡ rule t
where-yes true rule t is = refl
where-yes false rule t is = absurd cc

pub tick-runs : (o : Origin) (t : Table) → t.over ≡ false → (stepped o t Tick).frame ≡ t.frame + 1
tick-runs o t going =
    let is : takes t Tick ≡ true = rw going refl in
    ap (λ (d : Deed). d.table.frame) (where-yes (takes t Tick) (taken o Tick) t is) ∙ (taken-run o Tick t).frame ∙ (ticked-is o t).frame

-- ---- what holds behind every list of events

pub from-all : (o : Origin) (I : Table → Type 0) → ((e : Event) (t : Table) → I t → I (stepped o t e)) → (es : List Event) (t : Table) → I t
    → I (fold (stepped o) t es)
from-all o I step [] t h = h
from-all o I step (e ∷ es) t h = from-all o I step es (stepped o t e) (step e t h)

-- the permitted frame is never behind the frame, nor further ahead of it than it is told
pub record IsNear (o : Origin) (frame top : ℕ) : Type 0 where
  pub ahead : frame ≤ top
  pub near : top ≤ frame + o.setup.frame_freq

abbrev Near : Origin → Table → Type 0
Near o t = IsNear o t.frame t.top

near-run : (o : Origin) (t u : Table) → SameRun t u → Near o t → Near o u
near-run o t u same h = rw (same.frame, same.top) h

near-top : (o : Origin) (t u : Table) → u.frame ≡ t.frame + 1 → ((t.top < t.frame + 1) × (u.top ≡ t.frame + 1 + o.setup.frame_freq))
    ⊎ ((t.frame + 1 ≤ t.top) × (u.top ≡ t.top)) → Near o t → Near o u
near-top o t u frame (inl top) h = record { ahead = omega (arith, frame, top.1); near = omega (arith, frame, top.1) }
near-top o t u frame (inr top) h = record { ahead = omega (arith, frame, top.0, top.1); near = omega (arith, frame, top.1, h.near) }

near-ticked : (o : Origin) (t u : Table) → Ticked o t u → Near o t → Near o u
near-ticked o t u a h = near-top o t u a.frame a.top h

near-same : (o : Origin) (t u : Table) → SameClock t u → Near o t → Near o u
near-same o t u same h = near-run o t u (record { frame = same.frame; top = same.top; journal = same.journal }) h

near-event : (o : Origin) (e : Event) (t : Table) → Near o t → Near o (by_event o e t).table
near-event o Tick t h = near-ticked o t (ticked o t).table (ticked-is o t) h
near-event o (Open door peer) t h = near-same o t (by_event o (Open door peer) t).table (event-same o (Open door peer) t refl) h
near-event o (Packet conn kind body) t h = near-same o t (by_event o (Packet conn kind body) t).table
    (event-same o (Packet conn kind body) t refl) h
near-event o (Broken conn) t h = near-same o t (by_event o (Broken conn) t).table (event-same o (Broken conn) t refl) h
near-event o (Shut conn) t h = near-same o t (by_event o (Shut conn) t).table (event-same o (Shut conn) t refl) h
near-event o Stop t h = h

near-by : (b : Bool) (o : Origin) (e : Event) (t : Table) → Near o t → Near o (where_ b (taken o e) t).table
near-by true o e t h = near-run o (by_event o e t).table (taken o e t).table (taken-run o e t) (near-event o e t h)
near-by false o e t h = h

pub is-near : (o : Origin) (es : List Event) → IsNear o (table_of o es).frame (table_of o es).top
is-near o es = from-all o (Near o) (λ e t h. near-by (takes t e) o e t h) es (first o) (record { ahead = omega arith; near = omega arith })

-- ---- the end of the game

pub event-over : (o : Origin) (e : Event) (t : Table) → (by_event o e t).table.over ≡ t.over
event-over o Tick t = (ticked-is o t).over
event-over o (Open door peer) t = (event-same o (Open door peer) t refl).over
event-over o (Packet conn kind body) t = (event-same o (Packet conn kind body) t refl).over
event-over o (Broken conn) t = (event-same o (Broken conn) t refl).over
event-over o (Shut conn) t = (event-same o (Shut conn) t refl).over
event-over o Stop t = refl

-- where it is over nobody is there
abbrev pub Empties : Table → Type 0
Empties t = t.over ≡ true → (t.members ≡ []) × (t.admins ≡ []) × (t.queue ≡ [])

closed-over : (b : Bool) (t : Table) → t.over ≡ false → Empties (where_ b shut_down t).table
closed-over true t going = λ over. (refl, refl, refl)
closed-over false t going = λ over. absurd cc

not-over : (x y : Bool) → not x && y ≡ true → x ≡ false
not-over true y e = absurd cc
not-over false y e = refl

empties-by : (b : Bool) (o : Origin) (e : Event) (t : Table) → takes t e ≡ b → Empties t → Empties (where_ b (taken o e) t).table
empties-by true o e t is h = let v : Table = (charged e (by_event o e t).table).table in closed-over _ v (event-over o e t
    ∙ not-over t.over (names_live t e) is)
empties-by false o e t is h = h

pub over-is-empty : (o : Origin) (es : List Event) → Empties (table_of o es)
over-is-empty o es = from-all o Empties (λ e t h. empties-by (takes t e) o e t refl h) es (first o) (λ is. absurd cc)
