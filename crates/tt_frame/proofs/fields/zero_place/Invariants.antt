use Rattle.std.proofs.Common.{◌≡◌, ◌-◌, ◌≤◌, take, drop}
use Rattle.tt_frame.specs.Reading.{before_zero}
use Rattle.tt_frame.proofs.ZeroSearch.{behind}
use Rattle.tt_frame.proofs.fields.zero_place.Given as goal

abbrev pub invariant-loop-i : goal.invariant-loop-i
invariant-loop-i l = record {
  within : l.i ≤ l.max;
  same : before_zero l.max l.bytes ≡ behind (take l.i l.bytes) (before_zero (l.max - l.i) (drop l.i l.bytes));
}
