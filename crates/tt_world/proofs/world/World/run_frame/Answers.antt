use Rattle.std.proofs.Common.{refl, lit<, ◌%◌}
use Rattle.std.specs.Prelude.{◌==◌}
use Rattle.tt_world.specs.Holding.{held}
use Rattle.tt_world.proofs.FrameLaws.{IsSound-day}
use Rattle.tt_world.proofs.world.World.run_frame.Goals as goal

pub invariant_of-self : goal.invariant_of-self
invariant_of-self c = (
  IsSound-day (held c.self.inside) _ (c.next_day-self-inside.result % 30 == 0) c.next.new.self c.self.invariant.0 (lit< tt)
      c.begin_day.ensures.companies refl,
  c.self.invariant.1,
)
