use Rattle.std.proofs.Common.{◌≡◌, ◌++◌}
use Rattle.std.specs.Prelude.{drop}
use Rattle.tt_members.specs.Crew.{founders_in}
use Rattle.tt_members.specs.Steps.{stamped_in}
use Rattle.tt_join.specs.Ticking.{clients_at}
use Rattle.tt_join.proofs.founding.add_stamped.Given as goal

abbrev pub invariant-loop-step : goal.invariant-loop-step
invariant-loop-step l = l.clients.items ++ clients_at l.frame (founders_in (stamped_in (drop l.step-index l.steps)))
    ≡ l.initial.clients.items ++ clients_at l.frame (founders_in (stamped_in l.steps))
