use Rattle.std.proofs.Common.{refl, inl}
use Rattle.tt_rounds.specs.Links.{link_now}
use Rattle.tt_session.specs.Session.{sink_now, ticker_now}
use Rattle.tt_play.proofs.Runs.{none_printed, run_in_step, run_plays}
use Rattle.tt_play.proofs.play.join_and_play.Goals as goal

pub returns-in_default-clause-in_step : goal.returns-in_default-clause-in_step
returns-in_default-clause-in_step g c = λ o events conn bytes gives sent.
    let now = sink_now g.K.Sink.held g.K.Sink.faults c.args.sink.now in
    none_printed o events now now 6 refl (λ e. absurd cc) (λ e. absurd cc)

pub returns-clause-outcome : goal.returns-clause-outcome
returns-clause-outcome g c = inl (run_plays c.args.words c.login_of-login.result c.in-Ok.player c.args.lines.now.items
    (link_now g.L.Link.counts g.L.Link.left g.L.Link.was_read g.L.Link.held c.args.link.now)
    (link_now g.L.Link.counts g.L.Link.left g.L.Link.was_read g.L.Link.held c.play_rounds.new.link)
    (ticker_now g.T.Ticker.counts g.T.Ticker.beats c.args.ticker.now)
    (ticker_now g.T.Ticker.counts g.T.Ticker.beats c.play_rounds.new.ticker)
    (sink_now g.K.Sink.held g.K.Sink.faults c.args.sink.now)
    (sink_now g.K.Sink.held g.K.Sink.faults c.play_rounds.new.sink) c.play_rounds.result c.status.result
    c.login_of-login.ensures c.in-Ok.ensures.first c.play_rounds.ensures c.status.ensures)

pub returns-clause-in_step : goal.returns-clause-in_step
returns-clause-in_step g c = run_in_step c.prints_in_step.ensures.sent c.login_of-login.result c.in-Ok.player c.args.lines.now.items
    (link_now g.L.Link.counts g.L.Link.left g.L.Link.was_read g.L.Link.held c.args.link.now)
    (link_now g.L.Link.counts g.L.Link.left g.L.Link.was_read g.L.Link.held c.play_rounds.new.link)
    (ticker_now g.T.Ticker.counts g.T.Ticker.beats c.args.ticker.now)
    (ticker_now g.T.Ticker.counts g.T.Ticker.beats c.play_rounds.new.ticker)
    (sink_now g.K.Sink.held g.K.Sink.faults c.args.sink.now)
    (sink_now g.K.Sink.held g.K.Sink.faults c.play_rounds.new.sink) c.play_rounds.result c.status.result
    c.in-Ok.ensures.first c.play_rounds.ensures c.status.ensures
