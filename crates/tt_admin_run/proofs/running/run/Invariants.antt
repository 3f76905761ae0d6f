use Rattle.std.proofs.Common.{List}
use Rattle.tt_admin.specs.declared.message.AdminMsg.{AdminMsg}
use Rattle.tt_rounds.specs.Links.{link_now}
use Rattle.tt_admin_file.specs.declared.command.Command.{Command}
use Rattle.tt_admin_run.specs.Agendas.{IsAgenda}
use Rattle.tt_admin_run.specs.Rounds.{sink_now, ticker_now}
use Rattle.tt_admin_run.proofs.RunLaws.{Going}
use Rattle.tt_admin_run.proofs.running.run.Given as goal

-- the rounds so far
abbrev pub invariant-round : goal.invariant-round
invariant-round g l =
    let link = g.L.Link in
    let ticker = g.T.Ticker in
    let sink = g.K.Sink in
    (join : AdminMsg) (lines : List Command) → IsAgenda join lines l.agenda → Going join lines
    (link_now link.counts link.left link.was_read link.held l.fn.link) (link_now link.counts link.left link.was_read link.held l.link)
    (ticker_now ticker.counts ticker.beats l.fn.ticker) (ticker_now ticker.counts ticker.beats l.ticker)
    (sink_now sink.faults sink.held l.fn.sink) (sink_now sink.faults sink.held l.sink)
    l.inbox l.notes l.outbox l.given l.ticks l.ticks
