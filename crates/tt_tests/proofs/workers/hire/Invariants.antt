use Rattle.std.proofs.Common.{vec_len}
use Rattle.std.specs.Prelude.{All}
use Rattle.tt_room.specs.Passes.{IsOf}
use Rattle.tt_workers.specs.Working.{IsReady}
use Rattle.tt_tests.proofs.workers.hire.Given as goal

abbrev pub invariant-hiring : goal.invariant-hiring
invariant-hiring g l = record {
  passes : All (IsOf l.room) l.passes.items;
  workers : All (IsReady l.room) l.workers.items;
}

abbrev pub decreases-hiring : goal.decreases-hiring
decreases-hiring g l = vec_len l.passes
