use Rattle.std.proofs.Common.{◌≡◌, ◌+◌, ◌≤◌, length}
use Rattle.std.specs.Prelude.{drop}
use Rattle.tt_members.specs.Steps.{stamped_in}
use Rattle.tt_table.proofs.frames.count_stamps.Given as goal

abbrev pub invariant-loop-step : goal.invariant-loop-step
invariant-loop-step l = record {
  few : l.count ≤ l.step-index;
  all : l.count + length (stamped_in (drop l.step-index l.steps)) ≡ length (stamped_in l.steps);
}
