use Rattle.std.proofs.Common.{sym, ◌∙◌, subst, inl}
use Rattle.tt_serving.specs.Statuses.{IsRunStatus}
use Rattle.tt_serving.specs.Told.{sink_now}
use Rattle.tt_serving.proofs.Statuses.{in-range, at-0, at-5, at-8, at-9, well}
use Rattle.tt_serving.proofs.Served.{told-cut, told-kept}
use Rattle.tt_serving.proofs.serving.run.Goals as goal

pub returns-in-Ok-clause-status : goal.returns-in-Ok-clause-status
returns-in-Ok-clause-status g c =
    let e = c.in-Ok.ran.ends in
    subst IsRunStatus (sym c.status_of.ensures) (in-range e.memory e.listen_fault e.tick_fault c.tell-whole.result)

pub returns-in-Ok-clause-serves : goal.returns-in-Ok-clause-serves
returns-in-Ok-clause-serves g c = inl (record {
  core = c.in-Ok.ran.core;
  from = c.in-Ok.ensures.made;
  ends = c.in-Ok.ran.ends;
  runs = c.in-Ok.ensures.runs;
  whole = c.tell-whole.result;
  told = c.tell-whole.ensures.told;
  answered = c.status_of.ensures;
})

pub returns-in-Ok-clause-sink_fault : goal.returns-in-Ok-clause-sink_fault
returns-in-Ok-clause-sink_fault g c = λ five.
    let e = c.in-Ok.ran.ends in
    let now = sink_now g.K.Sink.held g.K.Sink.faults in
    told-cut c.tell-whole.result (g.F.Figures.summary c.in-Ok.ran.core) (now c.args.sink.now) (now c.tell-whole.new.sink)
    c.tell-whole.ensures.told (at-5 e.memory e.listen_fault e.tick_fault c.tell-whole.result (sym c.status_of.ensures ∙ five))

pub returns-in-Ok-clause-listener : goal.returns-in-Ok-clause-listener
returns-in-Ok-clause-listener g c = λ eight.
    let e = c.in-Ok.ran.ends in
    c.in-Ok.ensures.runs.causes.listen_fault (at-8 e.memory e.listen_fault e.tick_fault c.tell-whole.result
    (sym c.status_of.ensures ∙ eight))

pub returns-in-Ok-clause-ticker : goal.returns-in-Ok-clause-ticker
returns-in-Ok-clause-ticker g c = λ nine.
    let e = c.in-Ok.ran.ends in
    c.in-Ok.ensures.runs.causes.tick_fault (at-9 e.memory e.listen_fault e.tick_fault c.tell-whole.result
    (sym c.status_of.ensures ∙ nine))

pub returns-in-Ok-clause-done : goal.returns-in-Ok-clause-done
returns-in-Ok-clause-done g c = λ nought.
    let e = c.in-Ok.ran.ends in
    let now = sink_now g.K.Sink.held g.K.Sink.faults in
    let all = at-0 e.memory e.listen_fault e.tick_fault c.tell-whole.result (sym c.status_of.ensures ∙ nought) in
    let good = well e all.0 all.1 all.2 in
    let causes = c.in-Ok.ensures.runs.causes in
    record {
      game_doors = causes.no_game_fault good;
      admin_doors = causes.no_admin_fault good;
      clock = causes.no_tick_fault good;
      writes = told-kept c.tell-whole.result (g.F.Figures.summary c.in-Ok.ran.core) (now c.args.sink.now) (now c.tell-whole.new.sink)
          c.tell-whole.ensures.told all.3;
    }
