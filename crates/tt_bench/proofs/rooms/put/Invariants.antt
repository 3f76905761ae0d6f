use Rattle.tt_room.specs.Passes.{IsOf}
use Rattle.tt_bench.proofs.rooms.put.Given as goal

abbrev pub invariant-loop : goal.invariant-loop
invariant-loop g l = IsOf l.room l.pass
