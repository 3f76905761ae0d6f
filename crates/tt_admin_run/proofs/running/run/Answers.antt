use Rattle.std.proofs.Common.{◌+◌, ◌≤◌, arith}
use Rattle.tt_rounds.specs.Links.{LinkNow, link_now}
use Rattle.tt_admin_run.specs.Rounds.{SinkNow, TickerNow, sink_now, ticker_now}
use Rattle.tt_admin_run.proofs.RunLaws.{going_first, given_due, going_listened, ended_listened, ended_spoken, spoke, going_on, ended_beat}
use Rattle.tt_admin_run.proofs.running.run.Goals as goal

pub round-init : goal.round-init
round-init g c = λ join lines is.
    let link : g.row.L.Denot → LinkNow = link_now g.L.Link.counts g.L.Link.left g.L.Link.was_read g.L.Link.held in
    let ticker : g.row.T.Denot → TickerNow = ticker_now g.T.Ticker.counts g.T.Ticker.beats in
    let sink : g.row.K.Denot → SinkNow = sink_now g.K.Sink.faults g.K.Sink.held in
    going_first join lines (link c.args.link.now) (ticker c.args.ticker.now) (sink c.args.sink.now) c.new-inbox.result c.new-outbox.result
    c.new-notes.result c.new-inbox.ensures c.new-outbox.ensures c.new-notes.ensures

pub returns-in-Some-listen : goal.returns-in-Some-listen
returns-in-Some-listen g c = λ join lines is.
    let link : g.row.L.Denot → LinkNow = link_now g.L.Link.counts g.L.Link.left g.L.Link.was_read g.L.Link.held in
    let ticker : g.row.T.Denot → TickerNow = ticker_now g.T.Ticker.counts g.T.Ticker.beats in
    let sink : g.row.K.Denot → SinkNow = sink_now g.K.Sink.faults g.K.Sink.held in
    ended_listened join lines (link c.args.link.now) (link c.round.link) (link c.listen.new.link) (ticker c.args.ticker.now)
    (ticker c.round.ticker) (sink c.args.sink.now) (sink c.round.sink) (sink c.listen.new.sink) c.round.inbox c.listen.new.inbox
    c.round.notes c.listen.new.notes c.round.outbox c.round.given c.round.ticks c.in-Some-listen.end (c.round.invariant join lines is)
    c.in-Some-listen.ensures

pub speak-requires-clause-given : goal.speak-requires-clause-given
speak-requires-clause-given g c =
    let link : g.row.L.Denot → LinkNow = link_now g.L.Link.counts g.L.Link.left g.L.Link.was_read g.L.Link.held in
    let ticker : g.row.T.Denot → TickerNow = ticker_now g.T.Ticker.counts g.T.Ticker.beats in
    let sink : g.row.K.Denot → SinkNow = sink_now g.K.Sink.faults g.K.Sink.held in
    let join = c.requires.0 in
    let lines = c.requires.1 in
    let is = c.requires.2 in
    let going = going_listened join lines (link c.args.link.now) (link c.round.link) (link c.listen.new.link) (ticker c.args.ticker.now)
    (ticker c.round.ticker) (sink c.args.sink.now) (sink c.round.sink) (sink c.listen.new.sink) c.round.inbox c.listen.new.inbox
    c.round.notes c.listen.new.notes c.round.outbox c.round.given c.round.ticks (c.round.invariant join lines is) c.in_default.ensures in
    given_due join lines (link c.args.link.now) (link c.listen.new.link) (ticker c.args.ticker.now) (ticker c.round.ticker)
    (sink c.args.sink.now) (sink c.listen.new.sink) c.listen.new.inbox c.listen.new.notes c.round.outbox c.round.given c.round.ticks
    (c.round.ticks + 1) c.due-due.result c.args.agenda.now.bytes.items going (c.due-due.ensures.within join lines is)
    (c.due-due.ensures.due join lines is)

pub returns-in-Some-speak : goal.returns-in-Some-speak
returns-in-Some-speak g c = λ join lines is.
    let link : g.row.L.Denot → LinkNow = link_now g.L.Link.counts g.L.Link.left g.L.Link.was_read g.L.Link.held in
    let ticker : g.row.T.Denot → TickerNow = ticker_now g.T.Ticker.counts g.T.Ticker.beats in
    let sink : g.row.K.Denot → SinkNow = sink_now g.K.Sink.faults g.K.Sink.held in
    let going = going_listened join lines (link c.args.link.now) (link c.round.link) (link c.listen.new.link) (ticker c.args.ticker.now)
    (ticker c.round.ticker) (sink c.args.sink.now) (sink c.round.sink) (sink c.listen.new.sink) c.round.inbox c.listen.new.inbox
    c.round.notes c.listen.new.notes c.round.outbox c.round.given c.round.ticks (c.round.invariant join lines is) c.in_default.ensures in
    let few : c.round.ticks ≤ c.round.ticks + 1 = omega arith in
    ended_spoken join lines (link c.args.link.now) (link c.listen.new.link) (link c.speak.new.link) (ticker c.args.ticker.now)
    (ticker c.round.ticker) (sink c.args.sink.now) (sink c.listen.new.sink) c.listen.new.inbox c.listen.new.notes c.round.outbox
    c.speak.new.outbox c.round.given c.speak.new.given c.round.ticks (c.round.ticks + 1) c.due-due.result c.args.agenda.now.quits
    c.args.agenda.now.bytes.items c.in-Some-speak.end going is.bytes is.quits (c.due-due.ensures.within join lines is)
    (c.due-due.ensures.due join lines is) few c.in-Some-speak.ensures

pub returns-in-Some-beat : goal.returns-in-Some-beat
returns-in-Some-beat g c = λ join lines is.
    let link : g.row.L.Denot → LinkNow = link_now g.L.Link.counts g.L.Link.left g.L.Link.was_read g.L.Link.held in
    let ticker : g.row.T.Denot → TickerNow = ticker_now g.T.Ticker.counts g.T.Ticker.beats in
    let sink : g.row.K.Denot → SinkNow = sink_now g.K.Sink.faults g.K.Sink.held in
    let going = going_listened join lines (link c.args.link.now) (link c.round.link) (link c.listen.new.link) (ticker c.args.ticker.now)
    (ticker c.round.ticker) (sink c.args.sink.now) (sink c.round.sink) (sink c.listen.new.sink) c.round.inbox c.listen.new.inbox
    c.round.notes c.listen.new.notes c.round.outbox c.round.given c.round.ticks (c.round.invariant join lines is) c.in_default.ensures in
    let all = c.args.agenda.now.bytes.items in
    let spoken = spoke join lines (link c.args.link.now) (link c.listen.new.link) (link c.speak.new.link) (ticker c.args.ticker.now)
    (ticker c.round.ticker) (sink c.args.sink.now) (sink c.listen.new.sink) c.listen.new.inbox c.listen.new.notes c.round.outbox
    c.speak.new.outbox c.round.given c.speak.new.given c.round.ticks (c.round.ticks + 1) c.due-due.result c.args.agenda.now.quits all going
    is.bytes is.quits (c.due-due.ensures.within join lines is) (c.due-due.ensures.due join lines is) c.in_default-speak.ensures in
    ended_beat join lines (link c.args.link.now) (link c.speak.new.link) (ticker c.args.ticker.now) (ticker c.round.ticker)
    (ticker c.beat.new.ticker) (sink c.args.sink.now) (sink c.listen.new.sink) c.listen.new.inbox c.listen.new.notes c.speak.new.outbox
    c.speak.new.given c.round.ticks c.beat.new.ticks c.in-Some-beat.end spoken c.in-Some-beat.ensures

pub round-preserved : goal.round-preserved
round-preserved g c = λ join lines is.
    let link : g.row.L.Denot → LinkNow = link_now g.L.Link.counts g.L.Link.left g.L.Link.was_read g.L.Link.held in
    let ticker : g.row.T.Denot → TickerNow = ticker_now g.T.Ticker.counts g.T.Ticker.beats in
    let sink : g.row.K.Denot → SinkNow = sink_now g.K.Sink.faults g.K.Sink.held in
    let going = going_listened join lines (link c.args.link.now) (link c.round.link) (link c.listen.new.link) (ticker c.args.ticker.now)
    (ticker c.round.ticker) (sink c.args.sink.now) (sink c.round.sink) (sink c.listen.new.sink) c.round.inbox c.listen.new.inbox
    c.round.notes c.listen.new.notes c.round.outbox c.round.given c.round.ticks (c.round.invariant join lines is) c.in_default.ensures in
    let all = c.args.agenda.now.bytes.items in
    let spoken = spoke join lines (link c.args.link.now) (link c.listen.new.link) (link c.speak.new.link) (ticker c.args.ticker.now)
    (ticker c.round.ticker) (sink c.args.sink.now) (sink c.listen.new.sink) c.listen.new.inbox c.listen.new.notes c.round.outbox
    c.speak.new.outbox c.round.given c.speak.new.given c.round.ticks (c.round.ticks + 1) c.due-due.result c.args.agenda.now.quits all going
    is.bytes is.quits (c.due-due.ensures.within join lines is) (c.due-due.ensures.due join lines is) c.in_default-speak.ensures in
    going_on join lines (link c.args.link.now) (link c.speak.new.link) (ticker c.args.ticker.now) (ticker c.round.ticker)
    (ticker c.beat.new.ticker) (sink c.args.sink.now) (sink c.listen.new.sink) c.listen.new.inbox c.listen.new.notes c.speak.new.outbox
    c.speak.new.given c.round.ticks c.beat.new.ticks spoken c.in_default-beat.ensures
