use Rattle.tt_serving.specs.Told.{sink_now}
use Rattle.tt_coordinator.proofs.Asked.{as-asked}
use Rattle.tt_coordinator.proofs.Statuses.{no-fault}
use Rattle.tt_coordinator.proofs.coordinate.coordinate_main.Goals as goal

pub returns-in-Ok-coordinator_of-clause-outcome : goal.returns-in-Ok-coordinator_of-clause-outcome
returns-in-Ok-coordinator_of-clause-outcome g c = as-asked c.args.args.now _ _ _ c.args.doors.now c.run.new.doors
    (sink_now g.K.Sink.held g.K.Sink.faults) c.args.sink.now c.run.new.sink c.run.result c.in-Ok.words c.in-Ok-coordinator_of.gc.setup
    c.in-Ok.ensures.ok c.in-Ok-coordinator_of.ensures.setup c.run.ensures.serves

pub returns-in-Ok-coordinator_of-clause-complete : goal.returns-in-Ok-coordinator_of-clause-complete
returns-in-Ok-coordinator_of-clause-complete g c = λ form. no-fault c.run.result c.run.ensures.status c.run.ensures.listener
    c.run.ensures.ticker c.run.ensures.sink_fault
