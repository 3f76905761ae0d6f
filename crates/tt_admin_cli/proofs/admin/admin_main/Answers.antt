use Rattle.std.proofs.Common.{inl, inr, refl, subst}
use Rattle.tt_rounds.specs.Links.{LinkNow, link_now}
use Rattle.tt_admin_run.specs.Rounds.{SinkNow, TickerNow, sink_now, ticker_now}
use Rattle.tt_admin_cli.specs.Runs.{SourceNow, source_now, HasRun}
use Rattle.tt_admin_cli.proofs.Outcomes.{ran, of_run, of_refused}
use Rattle.tt_admin_cli.proofs.admin.admin_main.Goals as goal

pub returns-in-Ok : goal.returns-in-Ok
returns-in-Ok g c =
    let link : g.row.L.Denot → LinkNow = link_now g.L.Link.counts g.L.Link.left g.L.Link.was_read g.L.Link.held in
    let ticker : g.row.T.Denot → TickerNow = ticker_now g.T.Ticker.counts g.T.Ticker.beats in
    let sink : g.row.K.Denot → SinkNow = sink_now g.K.Sink.faults g.K.Sink.held in
    let source : g.row.S.Denot → SourceNow = source_now g.S.Source.faults g.S.Source.left in
    let args = c.args.args.now in
    let s = source c.args.commands.now in
    let s' = source c.agenda_for.new.commands in
    let l = link c.args.link.now in
    let l' = link c.run-ended.new.link in
    let t = ticker c.args.ticker.now in
    let t' = ticker c.run-ended.new.ticker in
    let k' = sink c.run-ended.new.sink in
    let run = ran args s s' l l' t t' (sink c.agenda_for.new.sink) k' c.run-ended.result c.status.result c.in-Ok.agenda
    c.in-Ok.ensures.asked c.run-ended.ensures c.status.ensures in
    let has = subst (λ (k : g.row.K.Denot). HasRun args s s' l l' t t' (sink k) k' c.status.result) c.in-Ok.ensures.unwritten run in
    let tells = of_run args s s' l l' t t' (sink c.args.sink.now) k' c.status.result has in
    record {
      outcome = inl has;
      source_fault = tells.source;
      sink_fault = tells.sink;
      ticker_fault = tells.ticker;
      link_end = tells.end;
      link_fault = tells.link;
      done = tells.done;
      complete = tells.complete;
    }

pub returns-in-Err : goal.returns-in-Err
returns-in-Err g c =
    let link : g.row.L.Denot → LinkNow = link_now g.L.Link.counts g.L.Link.left g.L.Link.was_read g.L.Link.held in
    let ticker : g.row.T.Denot → TickerNow = ticker_now g.T.Ticker.counts g.T.Ticker.beats in
    let sink : g.row.K.Denot → SinkNow = sink_now g.K.Sink.faults g.K.Sink.held in
    let source : g.row.S.Denot → SourceNow = source_now g.S.Source.faults g.S.Source.left in
    let refuses = c.in-Err.ensures.refused in
    let tells = of_refused c.args.args.now source sink c.args.commands.now c.agenda_for.new.commands c.args.sink.now
    c.agenda_for.new.sink (link c.args.link.now) (link c.args.link.now) (ticker c.args.ticker.now) (ticker c.args.ticker.now)
    (sink c.args.sink.now) (sink c.agenda_for.new.sink) c.in-Err.status refuses in
    record {
      outcome = inr (record { why = refuses; kept_link = refl; kept_ticker = refl });
      source_fault = tells.source;
      sink_fault = tells.sink;
      ticker_fault = tells.ticker;
      link_end = tells.end;
      link_fault = tells.link;
      done = tells.done;
      complete = tells.complete;
    }
