use Rattle.std.proofs.Common.{◌≡◌, ◌++◌, ◌≤◌, length}
use Rattle.std.specs.Prelude.{drop, ◌-◌, vec_len, vec_capacity}
use Rattle.tt_members.specs.Crew.{founders_in}
use Rattle.tt_members.specs.Steps.{stamped_in}
use Rattle.tt_members.proofs.commit.add_founders.Given as goal

abbrev pub invariant-loop-step : goal.invariant-loop-step
invariant-loop-step l = record {
  all : l.founders.items ++ founders_in (stamped_in (drop l.step-index l.steps)) ≡ l.initial.founders.items ++ founders_in (stamped_in
      l.steps);
  room : length (founders_in (stamped_in (drop l.step-index l.steps))) ≤ vec_capacity l.founders - vec_len l.founders;
}
