use Rattle.std.proofs.Common.{◌≡◌, ap, refl, subst, inl, inr}
use Rattle.tt_rounds.specs.Links.{link_now}
use Rattle.tt_session.specs.Session.{SinkNow, sink_now, ticker_now}
use Rattle.tt_play.specs.Commands.{source_now}
use Rattle.tt_play.specs.InStep.{PrintsInStep}
use Rattle.tt_play.proofs.Completes.{plays_done, refused_done}
use Rattle.tt_play.proofs.Runs.{none_printed, no_lines}
use Rattle.tt_play.proofs.play.play_main.Goals as goal

pub returns-in-Err-Bad-clause-in_step : goal.returns-in-Err-Bad-clause-in_step
returns-in-Err-Bad-clause-in_step g c = λ told o events conn bytes gives sent.
    let now = sink_now g.K.Sink.held g.K.Sink.faults c.args.sink.now in
    none_printed o events now now 2 refl (λ e. absurd cc) (λ e. absurd cc)

pub returns-in-Err-Memory-clause-in_step : goal.returns-in-Err-Memory-clause-in_step
returns-in-Err-Memory-clause-in_step g c = λ told o events conn bytes gives sent.
    let now = sink_now g.K.Sink.held g.K.Sink.faults c.args.sink.now in
    none_printed o events now now 6 refl (λ e. absurd cc) (λ e. absurd cc)

pub returns-in-Ok-lines_from-clause-in_step : goal.returns-in-Ok-lines_from-clause-in_step
returns-in-Ok-lines_from-clause-in_step g c = λ told o events conn bytes gives sent.
    let same : sink_now g.K.Sink.held g.K.Sink.faults c.lines_from.new.sink ≡ sink_now g.K.Sink.held g.K.Sink.faults c.args.sink.now =
    ap (sink_now g.K.Sink.held g.K.Sink.faults) c.in-Ok-lines_from.ensures.unwritten in
    subst (λ (k : SinkNow). PrintsInStep o events k (sink_now g.K.Sink.held g.K.Sink.faults c.join_and_play.new.sink)
    c.join_and_play.result) same (c.join_and_play.ensures.in_step o events conn bytes gives sent)

pub returns-in-Err-clause-in_step : goal.returns-in-Err-clause-in_step
returns-in-Err-clause-in_step g c = λ told o events conn bytes gives sent.
    no_lines (sink_now g.K.Sink.held g.K.Sink.faults) (source_now g.S.Source.left g.S.Source.faults g.S.Source.ends c.args.commands.now)
    (source_now g.S.Source.left g.S.Source.faults g.S.Source.ends c.lines_from.new.commands) c.args.sink.now c.lines_from.new.sink
    c.in-Err.status c.in-Err.ensures.none told o events

pub returns-in-Err-Memory-clause-complete : goal.returns-in-Err-Memory-clause-complete
returns-in-Err-Memory-clause-complete g c = λ well. inr (inl refl)

pub returns-in-Ok-lines_from-clause-complete : goal.returns-in-Ok-lines_from-clause-complete
returns-in-Ok-lines_from-clause-complete g c = λ well.
    let now = link_now g.L.Link.counts g.L.Link.left g.L.Link.was_read g.L.Link.held in
    let ticker = ticker_now g.T.Ticker.counts g.T.Ticker.beats in
    let sink = sink_now g.K.Sink.held g.K.Sink.faults in
    let source = source_now g.S.Source.left g.S.Source.faults g.S.Source.ends in
    elim c.join_and_play.ensures.outcome [
      | inl plays ↦ plays_done c.args.args.now (source c.args.commands.now) (source c.lines_from.new.commands) c.in-Ok.words
          c.in-Ok-lines_from.lines.items (now c.args.link.now) (now c.join_and_play.new.link) (ticker c.args.ticker.now)
          (ticker c.join_and_play.new.ticker) (sink c.args.sink.now) (sink c.lines_from.new.sink) (sink c.join_and_play.new.sink)
          c.join_and_play.result (ap sink c.in-Ok-lines_from.ensures.unwritten) plays well
      | inr memory ↦ inr (inl memory.0)
    ]

pub returns-in-Err-clause-complete : goal.returns-in-Err-clause-complete
returns-in-Err-clause-complete g c = λ well.
    let now = link_now g.L.Link.counts g.L.Link.left g.L.Link.was_read g.L.Link.held in
    let ticker = ticker_now g.T.Ticker.counts g.T.Ticker.beats in
    refused_done (sink_now g.K.Sink.held g.K.Sink.faults) c.args.args.now
    (source_now g.S.Source.left g.S.Source.faults g.S.Source.ends c.args.commands.now)
    (source_now g.S.Source.left g.S.Source.faults g.S.Source.ends c.lines_from.new.commands) (now c.args.link.now) (now c.args.link.now)
    (ticker c.args.ticker.now) (ticker c.args.ticker.now) c.args.sink.now c.lines_from.new.sink c.in-Err.status c.in-Err.ensures.none well
