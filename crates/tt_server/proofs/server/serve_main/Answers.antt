use Rattle.std.proofs.Common.{ap, Err}
use Rattle.tt_serving.specs.Told.{sink_now}
use Rattle.tt_server.proofs.Asked.{as-asked}
use Rattle.tt_server.proofs.Statuses.{no-fault, no-game}
use Rattle.tt_server.proofs.server.serve_main.Goals as goal

pub returns-in-Ok-game_of-clause-outcome : goal.returns-in-Ok-game_of-clause-outcome
returns-in-Ok-game_of-clause-outcome g c = as-asked c.args.args.now g.S.Source.left g.S.Source.faults c.args.saved.now
    c.game_of.new.saved _ _ _ c.args.doors.now c.run.new.doors (sink_now g.K.Sink.held g.K.Sink.faults) c.args.sink.now c.run.new.sink
    c.run.result c.in-Ok.words c.in-Ok-game_of.hub c.in-Ok.ensures.ok c.in-Ok-game_of.ensures.setup c.in-Ok-game_of.ensures.start
    c.run.ensures.serves

pub returns-in-Ok-game_of-clause-complete : goal.returns-in-Ok-game_of-clause-complete
returns-in-Ok-game_of-clause-complete g c = λ form starts read. no-fault c.run.result c.run.ensures.status c.run.ensures.listener
    c.run.ensures.ticker c.run.ensures.sink_fault

pub returns-in-Err-clause-complete : goal.returns-in-Err-clause-complete
returns-in-Err-clause-complete g c = λ form starts read listener ticker sink. no-game g.S.Source.left g.S.Source.faults c.args.saved.now
    c.game_of.new.saved c.in-Err.bad c.status_of.result c.status_of.ensures.memory
    (λ e. c.in-Err.ensures.bad (ap Err e)) (λ e. c.in-Err.ensures.fault (ap Err e)) (λ e. c.in-Err.ensures.long (ap Err e)) starts read
