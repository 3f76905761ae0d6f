use Rattle.std.proofs.Common.{◌≡◌, ◌++◌}
use Rattle.std.specs.Prelude.{drop}
use Rattle.tt_members.specs.Steps.{stamped_in}
use Rattle.tt_table.specs.Frames.{for_frame}
use Rattle.tt_table.proofs.frames.add_stamped.Given as goal

abbrev pub invariant-loop-step : goal.invariant-loop-step
invariant-loop-step l = l.due.items ++ for_frame l.frame (stamped_in (drop l.step-index l.steps))
    ≡ l.initial.due.items ++ for_frame l.frame (stamped_in l.steps)
