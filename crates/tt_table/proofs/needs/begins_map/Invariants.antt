use Rattle.std.proofs.Common.{◌≡◌}
use Rattle.std.specs.Prelude.{drop}
use Rattle.tt_table.specs.Does.{begins_map}
use Rattle.tt_table.proofs.needs.begins_map.Given as goal

abbrev pub invariant-loop-step : goal.invariant-loop-step
invariant-loop-step l = begins_map l.steps ≡ begins_map (drop l.step-index l.steps)
