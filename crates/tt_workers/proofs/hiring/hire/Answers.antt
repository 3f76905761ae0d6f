use Rattle.tt_workers.specs.declared.working.Worker.{Worker}
use Rattle.tt_workers.specs.declared.attending.WorkerEnd.TheVariants as worker
use Rattle.tt_workers.proofs.Runs.{roles_push}
use Rattle.tt_workers.proofs.hiring.hire.Goals as goal

pub returns-clause-role : goal.returns-clause-role
returns-clause-role g c =
    let w : Worker g.row.C.Denot g.row.L.Denot g.row.A.Denot g.row.T.Denot = record {
      role = c.args.role;
      pass = c.in-Some.pass;
      framer = c.in-Some-pop.framer;
      end = worker.Fresh;
    } in
    roles_push c.args.crew.now.workers.items c.push_reserved.new.self.items w c.push_reserved.ensures.items
