use Rattle.tt_room.specs.Passes.{IsOf}
use Rattle.tt_bench_workers.proofs.served.telling.tell.Given as goal

abbrev pub invariant-loop-conn : goal.invariant-loop-conn
invariant-loop-conn g l = IsOf l.room l.pass
