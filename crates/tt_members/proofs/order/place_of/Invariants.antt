use Rattle.std.proofs.Common.{◌≤◌, ◌<◌, ◌-◌}
use Rattle.std.specs.Prelude.{drop, take, length}
use Rattle.std.specs.List.{AllByRecursion}
use Rattle.tt_members.proofs.order.place_of.Given as goal

-- what is left out on both sides is below and above
abbrev pub invariant-loop-low : goal.invariant-loop-low
invariant-loop-low l = record {
  order : l.low ≤ l.high;
  within : l.high ≤ length l.members;
  below : AllByRecursion (λ m. m.conn < l.conn) (take l.low l.members);
  above : AllByRecursion (λ m. l.conn < m.conn) (drop l.high l.members);
}

abbrev pub decreases-loop-low : goal.decreases-loop-low
decreases-loop-low l = l.high - l.low
