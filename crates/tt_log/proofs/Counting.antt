-- What is counted: openings, ticks, and what events cost.
use Rattle.std.proofs.Common.{◌≡◌, ℕ, ◌+◌, ◌≤◌, ◌<◌, List, [], ◌∷◌, refl, ap, ◌∙◌, true, false, Bool, arith}
use Rattle.std.specs.Prelude.{◌==◌, ◌||◌, ◌&&◌, not, fold, length, nat_le, cond}
use Rattle.std.proofs.lemmas.Bool.{eqb-false}
use Rattle.std.proofs.lemmas.List.Sums.{sum_by-cons}
use Rattle.tt_edge.specs.declared.event.Door.TheVariants.{Main, Side}
use Rattle.tt_edge.specs.declared.event.Event.{Event}
use Rattle.tt_edge.specs.declared.event.Event.TheVariants.{Open, Packet, Broken, Shut, Tick, Stop}
use Rattle.tt_edge.specs.Event.{is_open, is_tick, opens, ticks_in, event_cost, cost_of}
use Rattle.tt_log.specs.declared.deed.Step.{Step}
use Rattle.tt_log.specs.Origin.{Origin}
use Rattle.tt_log.specs.Table.{Table, first}
use Rattle.tt_log.specs.Deed.{where_}
use Rattle.tt_log.specs.Desk.{admin_arrives, counted_aside, most_admins}
use Rattle.tt_log.specs.Events.{arrives, counted_in, by_event, charged, shut_down, stops, taken, takes, stepped, names_live, last_frame}
use Rattle.tt_log.specs.History.{table_of, AllTaken, IsHistory}
use Rattle.tt_log.proofs.Walk.{Turns, ahead-of, behind-of}
use Rattle.tt_log.proofs.Walk.{Base, Walk, Moves, Ticks, running, of-asks, of-enters, of-leaves, of-event, of-ticked}
use Rattle.tt_log.proofs.Clock.{ticked-is, event-same, taken-run, from-all}

-- ---- what leaves the counts

pub record SameCounts (t u : Table) : Type 0 where
  pub openings : u.openings ≡ t.openings
  pub clients : u.clients ≡ t.clients
  pub cost : u.cost ≡ t.cost

abbrev KeepsCounts : Table → List Step → Table → Type 0
KeepsCounts t steps u = SameCounts t u

counts-turns : (o : Origin) (e : Event) → Turns o e KeepsCounts
counts-turns o e k t m on may by = record { openings = refl; clients = refl; cost = refl }

counts-base : (o : Origin) (e : Event) → Base o e KeepsCounts
counts-base o e = record {
  still = λ t. record { openings = refl; clients = refl; cost = refl };
  joins = λ t u v xs ys a b. record {
    openings = b.openings ∙ a.openings;
    clients = b.clients ∙ a.clients;
    cost = b.cost ∙ a.cost;
  };
  turns = ahead-of o e KeepsCounts (counts-turns o e);
  tells_one = λ t m msg on talk. record { openings = refl; clients = refl; cost = refl };
  tells_some = λ t to w there news. record { openings = refl; clients = refl; cost = refl };
  tells_admins = λ t to r may is. record { openings = refl; clients = refl; cost = refl };
}

counts-moves : (o : Origin) (e : Event) → Moves o e KeepsCounts
counts-moves o e = record {
  moving = λ v t m on may. record { openings = refl; clients = refl; cost = refl };
  recalls = λ t m on at. record { openings = refl; clients = refl; cost = refl };
  waits_on = λ t conn n there. record { openings = refl; clients = refl; cost = refl };
  stands = λ t m on. record { openings = refl; clients = refl; cost = refl };
  cuts = λ t place. record { openings = refl; clients = refl; cost = refl };
  ends_one = λ t m on. record { openings = refl; clients = refl; cost = refl };
  parts = λ t m on. record { openings = refl; clients = refl; cost = refl };
  greets = λ t m on at. record { openings = refl; clients = refl; cost = refl };
}

counts-walk : (o : Origin) (e : Event) → Walk o e KeepsCounts
counts-walk o e = record {
  base = counts-base o e;
  locks = λ t m digest on allowed. record { openings = refl; clients = refl; cost = refl };
  orders = λ t c is still. record { openings = refl; clients = refl; cost = refl };
  asks_map = λ t m on at. of-asks o e KeepsCounts (counts-base o e) (counts-moves o e) t m on at;
  enters_game = λ t m on at. of-enters o e KeepsCounts (counts-base o e) (counts-moves o e) t m on at;
  goes = λ t m farewell on is. of-leaves o e KeepsCounts (counts-base o e) (counts-moves o e) t m farewell on is;
  settles = λ t a b on is. record { openings = refl; clients = refl; cost = refl };
  goes_aside = λ t a on. record { openings = refl; clients = refl; cost = refl };
}

run-counts : (b : Bool) (o : Origin) (t : Table) → SameCounts t (running b o t)
run-counts true o t = record { openings = refl; clients = refl; cost = refl }
run-counts false o t = record { openings = refl; clients = refl; cost = refl }

counts-ticks : (o : Origin) (e : Event) → Ticks o e KeepsCounts
counts-ticks o e = record {
  stamping = λ t. record { openings = refl; clients = refl; cost = refl };
  behind = behind-of o e KeepsCounts (counts-turns o e);
  running = λ t b is. run-counts b o t;
}

-- ---- an event

abbrev pub one_if : Bool → ℕ
one_if b = cond b 1 0

none-if : (b : Bool) → b ≡ false → one_if b ≡ 0
none-if b is = ap (λ (x : Bool). one_if x) is

none-more : (a b : ℕ) → a ≡ b → a ≡ b + 0
none-more a b e = omega (arith, e)

-- it opens a connection or none, makes a frame or none, and costs what it costs
record Counts (e : Event) (t u : Table) : Type 0 where
  openings : u.openings ≡ t.openings + one_if (is_open e)
  clients : u.clients ≤ t.clients + one_if (is_open e)
  frame : u.frame ≡ t.frame + one_if (is_tick e)
  cost : u.cost ≡ t.cost

arrives-counts : (full : Bool) (t : Table) → ((arrives full (counted_in t)).table.openings ≡ t.openings + 1)
    × ((arrives full (counted_in t)).table.cost ≡ t.cost) × ((arrives full (counted_in t)).table.clients ≡ t.clients + 1)
arrives-counts true t = (refl, refl, refl)
arrives-counts false t = (refl, refl, refl)

aside-counts : (full : Bool) (t : Table) → ((admin_arrives full (counted_aside t)).table.openings ≡ t.openings + 1)
    × ((admin_arrives full (counted_aside t)).table.cost ≡ t.cost) × ((admin_arrives full (counted_aside t)).table.clients ≡ t.clients)
aside-counts true t = (refl, refl, refl)
aside-counts false t = (refl, refl, refl)

still-counts : (o : Origin) (e : Event) (t : Table) → is_tick e ≡ false → is_open e ≡ false → Counts e t (by_event o e t).table
still-counts o e t still shut =
    let same : SameCounts t (by_event o e t).table = of-event o e KeepsCounts (counts-walk o e) t still shut in
    let clock = event-same o e t still in
    record {
      openings = omega (arith, same.openings, none-if (is_open e) shut);
      clients = let n = same.clients in omega (arith, n);
      frame = omega (arith, clock.frame, none-if (is_tick e) still);
      cost = same.cost;
    }

event-counts : (o : Origin) (e : Event) (t : Table) → Counts e t (by_event o e t).table
event-counts o (Open Main peer) t = let a = arrives-counts (nat_le o.setup.max_clients (length t.members)) t in
    record {
      openings = a.0;
      clients = let n = a.2 in omega (arith, n);
      frame = none-more _ _ (event-same o (Open Main peer) t refl).frame;
      cost = a.1;
    }
event-counts o (Open Side peer) t = let a = aside-counts (nat_le most_admins (length t.admins)) t in
    record {
      openings = a.0;
      clients = let n = a.2 in omega (arith, n);
      frame = none-more _ _ (event-same o (Open Side peer) t refl).frame;
      cost = a.1;
    }
event-counts o (Packet conn kind body) t = still-counts o (Packet conn kind body) t refl refl
event-counts o (Broken conn) t = still-counts o (Broken conn) t refl refl
event-counts o (Shut conn) t = still-counts o (Shut conn) t refl refl
event-counts o Tick t =
    let same : SameCounts t (by_event o Tick t).table = of-ticked o Tick KeepsCounts (counts-walk o Tick) (counts-ticks o Tick) t in
    record {
      openings = none-more _ _ same.openings;
      clients = let n = same.clients in omega (arith, n);
      frame = (ticked-is o t).frame;
      cost = same.cost;
    }
event-counts o Stop t = still-counts o Stop t refl refl

closed-counts : (b : Bool) (t : Table) → ((where_ b shut_down t).table.openings ≡ t.openings) × ((where_ b shut_down t).table.cost ≡ t.cost)
    × ((where_ b shut_down t).table.clients ≡ t.clients)
closed-counts true t = (refl, refl, refl)
closed-counts false t = (refl, refl, refl)

-- ---- a history

pub record Counted (t u : Table) (es : List Event) : Type 0 where
  pub openings : u.openings ≡ t.openings + opens es
  pub ticks : u.frame ≡ t.frame + ticks_in es
  pub cost : u.cost ≡ t.cost + cost_of es

pub taken-counts : (b : Bool) (o : Origin) (e : Event) (t : Table) → b ≡ true → ((where_ b (taken o e) t).table.openings
    ≡ t.openings + one_if (is_open e)) × ((where_ b (taken o e) t).table.frame ≡ t.frame + one_if (is_tick e))
    × ((where_ b (taken o e) t).table.cost ≡ t.cost + event_cost e)
    × ((where_ b (taken o e) t).table.clients ≤ t.clients + one_if (is_open e))
taken-counts true o e t is =
    let a : Counts e t (by_event o e t).table = event-counts o e t in
    let v : Table = (charged e (by_event o e t).table).table in
    let c = closed-counts (stops o e t || nat_le o.setup.cost v.cost || (v.frame == last_frame)) v in (
      c.0 ∙ a.openings,
      (taken-run o e t).frame ∙ a.frame,
      c.1 ∙ ap (λ (n : ℕ). n + event_cost e) a.cost,
      let n = c.2 in let l = a.clients in omega (arith, n, l),
    )
taken-counts false o e t is = absurd cc

opens-more : (e : Event) (es : List Event) → opens (e ∷ es) ≡ one_if (is_open e) + opens es
opens-more e es = sum_by-cons (λ x. cond (is_open x) 1 0) e es

ticks-more : (e : Event) (es : List Event) → ticks_in (e ∷ es) ≡ one_if (is_tick e) + ticks_in es
ticks-more e es = sum_by-cons (λ x. cond (is_tick x) 1 0) e es

from-counted : (o : Origin) (es : List Event) (t : Table) → AllTaken o t es → Counted t (fold (stepped o) t es) es
from-counted o [] t all = record { openings = omega arith; ticks = omega arith; cost = omega arith }
from-counted o (e ∷ es) t all =
    let a = taken-counts (takes t e) o e t all.0 in
    let rest : Counted (stepped o t e) (fold (stepped o) (stepped o t e) es) es = from-counted o es (stepped o t e) all.1 in
    record {
      openings = omega (arith, rest.openings, a.0, opens-more e es);
      ticks = omega (arith, rest.ticks, a.1, ticks-more e es);
      cost = omega (arith, rest.cost, a.2, sum_by-cons event_cost e es);
    }

-- from the start on
pub record IsCounted (u : Table) (es : List Event) : Type 0 where
  pub openings : u.openings ≡ opens es
  pub ticks : u.frame ≡ ticks_in es
  pub cost : u.cost ≡ cost_of es

pub is-counted : (o : Origin) (es : List Event) → IsHistory o es → IsCounted (table_of o es) es
is-counted o es all =
    let a : Counted (first o) (table_of o es) es = from-counted o es (first o) all in
    record { openings = omega (arith, a.openings); ticks = omega (arith, a.ticks); cost = omega (arith, a.cost) }

-- ---- no game passes its last frame

-- it is over at the last frame, and before it the frame is lower
pub record Low (t : Table) : Type 0 where
  pub least : t.frame ≤ last_frame
  pub over : t.over ≡ false → t.frame < last_frame

closed-low : (b : Bool) (t : Table) → t.frame ≤ last_frame → (b ≡ false → t.frame < last_frame) → Low (where_ b shut_down t).table
closed-low true t l later = record { least = l; over = λ going. absurd cc }
closed-low false t l later = record { least = l; over = λ going. later refl }

or-last : (x y z : Bool) → (x || y || z) ≡ false → z ≡ false
or-last true y z is = absurd cc
or-last false true z is = absurd cc
or-last false false z is = is

event-low : (o : Origin) (e : Event) (t : Table) → t.frame < last_frame → (by_event o e t).table.frame ≤ last_frame
event-low o e t l = by (is_tick e) (event-counts o e t).frame
  where
    by : (b : Bool) → (by_event o e t).table.frame ≡ t.frame + one_if b → (by_event o e t).table.frame ≤ last_frame
    by true is = omega (arith, is, l)
    by false is = omega (arith, is, l)

not-over : (x y : Bool) → not x && y ≡ true → x ≡ false
not-over true y e = absurd cc
not-over false y e = refl

pub low-by : (b : Bool) (o : Origin) (e : Event) (t : Table) → takes t e ≡ b → Low t → Low (where_ b (taken o e) t).table
low-by true o e t is h =
    let v : Table = (charged e (by_event o e t).table).table in
    let l : v.frame ≤ last_frame = event-low o e t (h.over (not-over t.over (names_live t e) is)) in
    closed-low (stops o e t || nat_le o.setup.cost v.cost || (v.frame == last_frame)) v l
    (λ no. let ne : (v.frame == last_frame) ≡ false = or-last (stops o e t) (nat_le o.setup.cost v.cost) (v.frame == last_frame) no in
    below v.frame l (λ same. eqb-false v.frame last_frame ne same))
  where
    below : (n : ℕ) → n ≤ last_frame → (n ≡ last_frame → ⊥) → n < last_frame
    below n l apart = omega (arith, l, apart)
low-by false o e t is h = h

pub is-low : (o : Origin) (es : List Event) → (table_of o es).frame ≤ last_frame
is-low o es = (from-all o Low (λ e t h. low-by (takes t e) o e t refl h) es (first o)
    (record { least = omega arith; over = λ going. omega arith })).least
