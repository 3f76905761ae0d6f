-- Client numbers are few: an opening costs 64, and the game is over at its cost.
use Rattle.std.proofs.Common.{◌≡◌, ◌+◌, ◌≤◌, ◌<◌, List, true, false, Bool, refl, arith}
use Rattle.std.specs.Prelude.{◌*◌, ◌^◌, ◌==◌, ◌||◌, ◌&&◌, nat_le, not}
use Rattle.std.proofs.lemmas.Bool.{leb-false}
use Rattle.tt_edge.specs.declared.event.Event.{Event}
use Rattle.tt_edge.specs.declared.event.Event.TheVariants.{Open, Packet, Broken, Shut, Tick, Stop}
use Rattle.tt_edge.specs.Event.{is_open, event_cost}
use Rattle.tt_log.specs.Origin.{Origin, IsOrigin}
use Rattle.tt_log.specs.Table.{Table, first}
use Rattle.tt_log.specs.Deed.{where_}
use Rattle.tt_log.specs.Events.{by_event, charged, last_frame, names_live, shut_down, stepped, stops, taken, takes}
use Rattle.tt_log.specs.History.{table_of}
use Rattle.tt_log.proofs.Counting.{one_if, taken-counts}
use Rattle.tt_log.proofs.Clock.{from-all}

-- the numbers were paid for, and where the game is not over there is more to spend
pub record IsPaid (o : Origin) (t : Table) : Type 0 where
  pub few : t.clients ≤ 2 ^ 24 + 1
  pub paid : 64 * t.clients ≤ t.cost + 64
  pub going : t.over ≡ false → t.cost < o.setup.cost

open-cost : (e : Event) → 64 * one_if (is_open e) ≤ event_cost e
open-cost (Open door peer) = omega arith
open-cost (Packet conn kind body) = omega arith
open-cost (Broken conn) = omega arith
open-cost (Shut conn) = omega arith
open-cost Tick = omega arith
open-cost Stop = omega arith

one-most : (b : Bool) → one_if b ≤ 1
one-most true = omega arith
one-most false = omega arith

or-middle : (x y z : Bool) → (x || y || z) ≡ false → y ≡ false
or-middle true y z is = absurd cc
or-middle false true z is = absurd cc
or-middle false false z is = refl

not-over : (x y : Bool) → not x && y ≡ true → x ≡ false
not-over true y e = absurd cc
not-over false y e = refl

spends : (b : Bool) (o : Origin) (t : Table) → (b ≡ false → t.cost < o.setup.cost) → (where_ b shut_down t).table.over ≡ false
    → (where_ b shut_down t).table.cost < o.setup.cost
spends true o t less going = absurd cc
spends false o t less going = less refl

paid-by : (b : Bool) (o : Origin) (e : Event) (t : Table) → IsOrigin o → takes t e ≡ b → IsPaid o t
    → IsPaid o (where_ b (taken o e) t).table
paid-by true o e t ok is h =
    let v : Table = (charged e (by_event o e t).table).table in
    let n = taken-counts true o e t refl in
    let most : o.setup.cost ≤ 2 ^ 30 = ok.setup.cost.1 in
    let now : t.cost < o.setup.cost = h.going (not-over t.over (names_live t e) is) in
    let old = h.paid in
    let one = one-most (is_open e) in
    let cost = n.2 in
    let clients = n.3 in
    let open_cost = open-cost e in
    record {
      few = omega (arith, most, now, old, one, clients);
      paid = omega (arith, old, clients, cost, open_cost);
      going = spends (stops o e t || nat_le o.setup.cost v.cost || (v.frame == last_frame)) o v
          (λ no. leb-false o.setup.cost v.cost (or-middle (stops o e t) (nat_le o.setup.cost v.cost) (v.frame == last_frame) no));
    }
paid-by false o e t ok is h = h

pub step-paid : (o : Origin) (e : Event) (t : Table) → IsOrigin o → IsPaid o t → IsPaid o (stepped o t e)
step-paid o e t ok h = paid-by (takes t e) o e t ok refl h

pub first-paid : (o : Origin) → IsOrigin o → IsPaid o (first o)
first-paid o ok = record {
  few = omega arith;
  paid = omega arith;
  going = λ going. let l : 64 ≤ o.setup.cost = ok.setup.cost.0 in omega
      (arith, l);
}

pub is-paid : (o : Origin) (es : List Event) → IsOrigin o → IsPaid o (table_of o es)
is-paid o es ok = from-all o (IsPaid o) (λ e t h. step-paid o e t ok h) es (first o) (first-paid o ok)
