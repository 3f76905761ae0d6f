-- Openings are few: each costs 64, and no game goes on at its cost.
use Rattle.std.proofs.Common.{◌≡◌, ◌+◌, ◌≤◌, ◌<◌, List, true, false, Bool, refl, arith}
use Rattle.std.specs.Prelude.{◌*◌, ◌^◌, ◌==◌, ◌||◌, nat_le}
use Rattle.std.proofs.lemmas.Bool.{leb-false}
use Rattle.tt_edge.specs.declared.event.Event.{Event}
use Rattle.tt_edge.specs.declared.event.Event.TheVariants.{Open, Packet, Broken, Shut, Tick, Stop}
use Rattle.tt_edge.specs.Event.{is_open, event_cost}
use Rattle.tt_world.specs.Setup.{Fits}
use Rattle.tt_log.specs.Origin.{Origin}
use Rattle.tt_log.specs.Table.{Table, first}
use Rattle.tt_log.specs.Deed.{where_}
use Rattle.tt_log.specs.Events.{by_event, charged, last_frame, shut_down, stops, taken, takes}
use Rattle.tt_log.specs.History.{table_of}
use Rattle.tt_log.proofs.Counting.{one_if, taken-counts}
use Rattle.tt_log.proofs.Clock.{from-all}

-- the openings were paid for, and where the game is not over there is more to spend
pub record IsPaid (o : Origin) (t : Table) : Type 0 where
  pub paid : 64 * t.openings ≤ t.cost
  pub going : t.over ≡ false → t.cost < o.setup.cost

open_cost : (e : Event) → 64 * one_if (is_open e) ≤ event_cost e
open_cost (Open door peer) = omega arith
open_cost (Packet conn kind body) = omega arith
open_cost (Broken conn) = omega arith
open_cost (Shut conn) = omega arith
open_cost Tick = omega arith
open_cost Stop = omega arith

or_middle : (x y z : Bool) → (x || y || z) ≡ false → y ≡ false
or_middle true y z is = absurd cc
or_middle false true z is = absurd cc
or_middle false false z is = refl

spends : (b : Bool) (o : Origin) (t : Table) → (b ≡ false → t.cost < o.setup.cost) → (where_ b shut_down t).table.over ≡ false
    → (where_ b shut_down t).table.cost < o.setup.cost
spends true o t less going = absurd cc
spends false o t less going = less refl

paid_by : (b : Bool) (o : Origin) (e : Event) (t : Table) → IsPaid o t → IsPaid o (where_ b (taken o e) t).table
paid_by true o e t h =
    let v : Table = (charged e (by_event o e t).table).table in
    let n = taken-counts true o e t refl in
    let old = h.paid in
    let more = n.0 in
    let cost = n.2 in
    let one = open_cost e in
    record {
      paid = omega (arith, old, more, cost, one);
      going = spends (stops o e t || nat_le o.setup.cost v.cost || (v.frame == last_frame)) o v
          (λ no. leb-false o.setup.cost v.cost (or_middle (stops o e t) (nat_le o.setup.cost v.cost) (v.frame == last_frame) no));
    }
paid_by false o e t h = h

first_paid : (o : Origin) → Fits o.setup → IsPaid o (first o)
first_paid o fits =
    let least : 64 ≤ o.setup.cost = fits.cost.0 in
    record { paid = omega arith; going = λ going. omega (arith, least) }

pub is_paid : (o : Origin) (es : List Event) → Fits o.setup → IsPaid o (table_of o es)
is_paid o es fits = from-all o (IsPaid o) (λ e t h. paid_by (takes t e) o e t h) es (first o) (first_paid o fits)

pub few_openings : (o : Origin) (es : List Event) → Fits o.setup → (table_of o es).over ≡ false
    → (table_of o es).openings + 1 < 2 ^ 32
few_openings o es fits going =
    let h : IsPaid o (table_of o es) = is_paid o es fits in
    let paid = h.paid in
    let less : (table_of o es).cost < o.setup.cost = h.going going in
    let most : o.setup.cost ≤ 2 ^ 30 = fits.cost.1 in
    omega (arith, paid, less, most)
