use Rattle.std.proofs.Common.{◌≡◌, ◌++◌, ◌≤◌, length}
use Rattle.std.specs.Prelude.{◌-◌, drop, vec_capacity, vec_len}
use Rattle.tt_members.specs.Steps.{stamped_in}
use Rattle.tt_table.proofs.putting.stamp.Given as goal

abbrev pub invariant-loop-step : goal.invariant-loop-step
invariant-loop-step l = record {
  all : l.journal.items ++ stamped_in (drop l.step-index l.steps) ≡ l.initial.journal.items ++ stamped_in l.steps;
  room : length (stamped_in (drop l.step-index l.steps)) ≤ vec_capacity l.journal - vec_len l.journal;
}
