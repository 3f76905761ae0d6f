use Rattle.tt_room.specs.Passes.{IsOf}
use Rattle.tt_tests_hub.proofs.rooms.tick_often.Given as goal

abbrev pub invariant-loop-i : goal.invariant-loop-i
invariant-loop-i g l = IsOf l.room l.pass
