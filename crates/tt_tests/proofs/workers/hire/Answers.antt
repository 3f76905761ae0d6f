use Rattle.std.proofs.Common.{Some, sym, subst}
use Rattle.std.specs.Prelude.{All}
use Rattle.std.proofs.lemmas.List.Elements.{All-push, All-pop}
use Rattle.tt_room.specs.Passes.{IsOf}
use Rattle.tt_workers.specs.Working.{IsReady}
use Rattle.tt_tests.proofs.workers.hire.Goals as goal

pub hiring-preserved : goal.hiring-preserved
hiring-preserved g c =
    let room = c.args.room.now in
    let i = c.hiring.invariant in
    let rest = All-pop (IsOf room) c.hiring.passes.items c.pop.new.self.items (Some c.in-Some.pass) c.in-Some.ensures.items i.passes in
    record {
      passes = rest.0;
      workers = subst (All (IsReady room)) (sym c.in-Ok.ensures.items)
          (All-push (IsReady room) c.hiring.workers.items c.in_ok-worker.worker i.workers c.in_ok-worker.ensures);
    }
