use Rattle.std.proofs.Common.{◌≡◌}
use Rattle.std.specs.Prelude.{drop}
use Rattle.tt_table.specs.Does.{need_world}
use Rattle.tt_table.proofs.needs.needs_world.Given as goal

abbrev pub invariant-loop-step : goal.invariant-loop-step
invariant-loop-step l = need_world l.steps ≡ need_world (drop l.step-index l.steps)
