use Rattle.std.proofs.Common.{List, ℕ, [], length, refl, sym, subst}
use Rattle.tt_rounds.specs.Links.{LinkNow, link_now}
use Rattle.tt_rounds.specs.Hearing.{HearsRound}
use Rattle.tt_rounds.specs.declared.hearing.Heard.{Heard}
use Rattle.tt_client.specs.Held.{Held}
use Rattle.tt_client.specs.State.{state_of}
use Rattle.tt_client.specs.declared.state.State.{State}
use Rattle.tt_session.specs.declared.acting.Acted.TheVariants as acted
use Rattle.tt_session.specs.Acting.{begun, pieces}
use Rattle.tt_session.specs.Session.{SinkNow, TickerNow, GoesOn, IsEndOf, sink_now, ticker_now}
use Rattle.std.specs.Prelude.{Some}
use Rattle.tt_session.proofs.Sessions.{Core, core_first, hears}
use Rattle.tt_session.proofs.Ends.{Turned, turned, lost_session, clock_first, clock_next, going_whole, quit_whole, memory_whole}
use Rattle.tt_session.proofs.Turns.{quit_session, memory_session, fault_session, end_session, link_end, link_fails, spoken, write_fails}
use Rattle.tt_session.proofs.Turns.{stop_session, ticker_fails}
use Rattle.tt_session.proofs.rounds.play_rounds.Goals as goal

pub round-init : goal.round-init
round-init g c =
    let now : g.row.L.Denot → LinkNow = link_now g.L.Link.counts g.L.Link.left g.L.Link.was_read g.L.Link.held in
    let sink : g.row.K.Denot → SinkNow = sink_now g.K.Sink.held g.K.Sink.faults in
    let ticker : g.row.T.Denot → TickerNow = ticker_now g.T.Ticker.counts g.T.Ticker.beats in
    record {
      actions = [];
      last = begun c.args.player.now c.args.left.now.items;
      core = subst (λ (xs : List ℕ). Core c.args.player.now c.args.left.now.items (now c.args.link.now) (now c.args.link.now)
          (sink c.args.sink.now) (sink c.args.sink.now) c.args.player.now xs [] [] (begun c.args.player.now c.args.left.now.items))
          (sym c.new-outbox.ensures) (core_first c.args.player.now c.args.left.now.items (now c.args.link.now) (sink c.args.sink.now));
      none_ends = tt;
      left_is = refl;
      clock = clock_first (ticker c.args.ticker.now) (g.L.Link.counts c.args.link.now);
      goes = c.requires;
    }

pub returns-in-Memory : goal.returns-in-Memory
returns-in-Memory g c =
    let now : g.row.L.Denot → LinkNow = link_now g.L.Link.counts g.L.Link.left g.L.Link.was_read g.L.Link.held in
    let sink : g.row.K.Denot → SinkNow = sink_now g.K.Sink.held g.K.Sink.faults in
    let ticker : g.row.T.Denot → TickerNow = ticker_now g.T.Ticker.counts g.T.Ticker.beats in
    let i = c.round.invariant in
    let h = c.hear_round-heard.ensures in
    lost_session c.args.player.now c.args.left.now.items (now c.args.link.now) (now c.round.link) (now c.hear_round-heard.new.link)
    (ticker c.args.ticker.now) (ticker c.round.ticker) (sink c.args.sink.now)
    (sink c.round.sink) c.round.player c.hear_round-heard.new.hearer
    c.round.outbox i.actions i.last i.core i.none_ends i.clock
    (subst (λ (r : Heard). HearsRound hears c.round.player c.hear_round-heard.new.hearer
    (now c.round.link) (now c.hear_round-heard.new.link) r) c.in-Memory.is h)

pub returns-in-Quit : goal.returns-in-Quit
returns-in-Quit g c =
    let now : g.row.L.Denot → LinkNow = link_now g.L.Link.counts g.L.Link.left g.L.Link.was_read g.L.Link.held in
    let sink : g.row.K.Denot → SinkNow = sink_now g.K.Sink.held g.K.Sink.faults in
    let ticker : g.row.T.Denot → TickerNow = ticker_now g.T.Ticker.counts g.T.Ticker.beats in
    let i = c.round.invariant in
    let h = c.hear_round-heard.ensures in
    let turn = turned c.args.player.now c.args.left.now.items c.round.left.items c.act.new.left.items (now c.args.link.now)
    (now c.round.link) (now c.hear_round-heard.new.link)
    (ticker c.args.ticker.now) (ticker c.round.ticker) (sink c.args.sink.now) (sink c.round.sink) (sink c.act.new.sink) c.round.player
    c.hear_round-heard.new.hearer c.act.new.player c.round.outbox c.hear_round-heard.result acted.Quit i.actions i.last i.core
    i.none_ends i.left_is i.clock h c.in_default.not-Memory c.in-Quit.ensures quit_whole in
    quit_session c.args.player.now c.args.left.now.items c.act.new.left.items (now c.args.link.now) (now c.round.link)
    (now c.hear_round-heard.new.link)
    (ticker c.args.ticker.now) (ticker c.round.ticker) (sink c.args.sink.now) (sink c.act.new.sink) c.act.new.player c.round.outbox
    c.hear_round-heard.result turn

pub returns-in-Memory-act : goal.returns-in-Memory-act
returns-in-Memory-act g c =
    let now : g.row.L.Denot → LinkNow = link_now g.L.Link.counts g.L.Link.left g.L.Link.was_read g.L.Link.held in
    let sink : g.row.K.Denot → SinkNow = sink_now g.K.Sink.held g.K.Sink.faults in
    let ticker : g.row.T.Denot → TickerNow = ticker_now g.T.Ticker.counts g.T.Ticker.beats in
    let i = c.round.invariant in
    let h = c.hear_round-heard.ensures in
    let turn = turned c.args.player.now c.args.left.now.items c.round.left.items c.act.new.left.items (now c.args.link.now)
    (now c.round.link) (now c.hear_round-heard.new.link)
    (ticker c.args.ticker.now) (ticker c.round.ticker) (sink c.args.sink.now) (sink c.round.sink) (sink c.act.new.sink) c.round.player
    c.hear_round-heard.new.hearer c.act.new.player c.round.outbox c.hear_round-heard.result acted.Memory i.actions i.last i.core
    i.none_ends i.left_is i.clock h c.in_default.not-Memory c.in-Memory-act.ensures memory_whole in
    memory_session c.args.player.now c.args.left.now.items c.act.new.left.items (now c.args.link.now) (now c.round.link)
    (now c.hear_round-heard.new.link)
    (ticker c.args.ticker.now) (ticker c.round.ticker) (sink c.args.sink.now) (sink c.act.new.sink) c.act.new.player c.round.outbox
    c.hear_round-heard.result turn

pub returns-in-SinkFault : goal.returns-in-SinkFault
returns-in-SinkFault g c =
    let now : g.row.L.Denot → LinkNow = link_now g.L.Link.counts g.L.Link.left g.L.Link.was_read g.L.Link.held in
    let sink : g.row.K.Denot → SinkNow = sink_now g.K.Sink.held g.K.Sink.faults in
    let ticker : g.row.T.Denot → TickerNow = ticker_now g.T.Ticker.counts g.T.Ticker.beats in
    let i = c.round.invariant in
    let h = c.hear_round-heard.ensures in
    fault_session c.args.player.now c.args.left.now.items c.round.left.items c.act.new.left.items (now c.args.link.now)
    (now c.round.link) (now c.hear_round-heard.new.link)
    (ticker c.args.ticker.now) (ticker c.round.ticker) (sink c.args.sink.now) (sink c.round.sink) (sink c.act.new.sink) c.round.player
    c.hear_round-heard.new.hearer c.act.new.player c.round.outbox c.hear_round-heard.result i.actions i.last i.core
    i.none_ends i.left_is i.clock h
    c.in_default.not-Memory c.in-SinkFault.ensures

pub returns-in-Some-end_of : goal.returns-in-Some-end_of
returns-in-Some-end_of g c =
    let now : g.row.L.Denot → LinkNow = link_now g.L.Link.counts g.L.Link.left g.L.Link.was_read g.L.Link.held in
    let sink : g.row.K.Denot → SinkNow = sink_now g.K.Sink.held g.K.Sink.faults in
    let ticker : g.row.T.Denot → TickerNow = ticker_now g.T.Ticker.counts g.T.Ticker.beats in
    let i = c.round.invariant in
    let h = c.hear_round-heard.ensures in
    let turn = turned c.args.player.now c.args.left.now.items c.round.left.items c.act.new.left.items (now c.args.link.now)
    (now c.round.link) (now c.hear_round-heard.new.link)
    (ticker c.args.ticker.now) (ticker c.round.ticker) (sink c.args.sink.now) (sink c.round.sink) (sink c.act.new.sink) c.round.player
    c.hear_round-heard.new.hearer c.act.new.player c.round.outbox c.hear_round-heard.result acted.Going i.actions i.last i.core
    i.none_ends i.left_is i.clock h c.in_default.not-Memory c.in-Going.ensures going_whole in
    end_session c.args.player.now c.args.left.now.items c.act.new.left.items (now c.args.link.now) (now c.round.link)
    (now c.hear_round-heard.new.link)
    (ticker c.args.ticker.now) (ticker c.round.ticker) (sink c.args.sink.now) (sink c.act.new.sink) c.act.new.player c.round.outbox
    c.hear_round-heard.result c.in-Some-end_of.end turn (subst (λ (s : State). IsEndOf s
    (Some c.in-Some-end_of.end)) c.state.ensures c.in-Some-end_of.ensures)

pub returns-in-End : goal.returns-in-End
returns-in-End g c =
    let now : g.row.L.Denot → LinkNow = link_now g.L.Link.counts g.L.Link.left g.L.Link.was_read g.L.Link.held in
    let sink : g.row.K.Denot → SinkNow = sink_now g.K.Sink.held g.K.Sink.faults in
    let ticker : g.row.T.Denot → TickerNow = ticker_now g.T.Ticker.counts g.T.Ticker.beats in
    let i = c.round.invariant in
    let h = c.hear_round-heard.ensures in
    let turn = turned c.args.player.now c.args.left.now.items c.round.left.items c.act.new.left.items (now c.args.link.now)
    (now c.round.link) (now c.hear_round-heard.new.link)
    (ticker c.args.ticker.now) (ticker c.round.ticker) (sink c.args.sink.now) (sink c.round.sink) (sink c.act.new.sink) c.round.player
    c.hear_round-heard.new.hearer c.act.new.player c.round.outbox c.hear_round-heard.result acted.Going i.actions i.last i.core
    i.none_ends i.left_is i.clock h c.in_default.not-Memory c.in-Going.ensures going_whole in
    let goes : GoesOn (state_of c.act.new.player.player) = subst GoesOn c.state.ensures c.in-None-end_of.ensures in
    let turned_so = subst (λ (r : Heard). Turned c.args.player.now c.args.left.now.items (now c.args.link.now) (now c.round.link)
    (now c.hear_round-heard.new.link) (ticker c.args.ticker.now) (ticker c.round.ticker) (sink c.args.sink.now)
    (sink c.act.new.sink) c.act.new.player
    c.round.outbox r acted.Going c.act.new.left.items) c.in-End.is turn in
    link_end c.args.player.now c.args.left.now.items c.act.new.left.items (now c.args.link.now) (now c.round.link)
    (now c.hear_round-heard.new.link)
    (ticker c.args.ticker.now) (ticker c.round.ticker) (sink c.args.sink.now)
    (sink c.act.new.sink) c.act.new.player c.round.outbox turned_so goes

pub returns-in-Failed : goal.returns-in-Failed
returns-in-Failed g c =
    let now : g.row.L.Denot → LinkNow = link_now g.L.Link.counts g.L.Link.left g.L.Link.was_read g.L.Link.held in
    let sink : g.row.K.Denot → SinkNow = sink_now g.K.Sink.held g.K.Sink.faults in
    let ticker : g.row.T.Denot → TickerNow = ticker_now g.T.Ticker.counts g.T.Ticker.beats in
    let i = c.round.invariant in
    let h = c.hear_round-heard.ensures in
    let turn = turned c.args.player.now c.args.left.now.items c.round.left.items c.act.new.left.items (now c.args.link.now)
    (now c.round.link) (now c.hear_round-heard.new.link)
    (ticker c.args.ticker.now) (ticker c.round.ticker) (sink c.args.sink.now) (sink c.round.sink) (sink c.act.new.sink) c.round.player
    c.hear_round-heard.new.hearer c.act.new.player c.round.outbox c.hear_round-heard.result acted.Going i.actions i.last i.core
    i.none_ends i.left_is i.clock h c.in_default.not-Memory c.in-Going.ensures going_whole in
    let goes : GoesOn (state_of c.act.new.player.player) = subst GoesOn c.state.ensures c.in-None-end_of.ensures in
    let turned_so = subst (λ (r : Heard). Turned c.args.player.now c.args.left.now.items (now c.args.link.now) (now c.round.link)
    (now c.hear_round-heard.new.link) (ticker c.args.ticker.now) (ticker c.round.ticker) (sink c.args.sink.now)
    (sink c.act.new.sink) c.act.new.player
    c.round.outbox r acted.Going c.act.new.left.items) c.in-Failed.is turn in
    link_fails c.args.player.now c.args.left.now.items c.act.new.left.items (now c.args.link.now) (now c.round.link)
    (now c.hear_round-heard.new.link)
    (ticker c.args.ticker.now) (ticker c.round.ticker) (sink c.args.sink.now)
    (sink c.act.new.sink) c.act.new.player c.round.outbox turned_so goes

pub returns-in-Failed-say_round : goal.returns-in-Failed-say_round
returns-in-Failed-say_round g c =
    let now : g.row.L.Denot → LinkNow = link_now g.L.Link.counts g.L.Link.left g.L.Link.was_read g.L.Link.held in
    let sink : g.row.K.Denot → SinkNow = sink_now g.K.Sink.held g.K.Sink.faults in
    let ticker : g.row.T.Denot → TickerNow = ticker_now g.T.Ticker.counts g.T.Ticker.beats in
    let i = c.round.invariant in
    let h = c.hear_round-heard.ensures in
    let turn = turned c.args.player.now c.args.left.now.items c.round.left.items c.act.new.left.items (now c.args.link.now)
    (now c.round.link) (now c.hear_round-heard.new.link)
    (ticker c.args.ticker.now) (ticker c.round.ticker) (sink c.args.sink.now) (sink c.round.sink) (sink c.act.new.sink) c.round.player
    c.hear_round-heard.new.hearer c.act.new.player c.round.outbox c.hear_round-heard.result acted.Going i.actions i.last i.core
    i.none_ends i.left_is i.clock h c.in_default.not-Memory c.in-Going.ensures going_whole in
    let goes : GoesOn (state_of c.act.new.player.player) = subst GoesOn c.state.ensures c.in-None-end_of.ensures in
    let turned_so = subst (λ (r : Heard). Turned c.args.player.now c.args.left.now.items (now c.args.link.now) (now c.round.link)
    (now c.hear_round-heard.new.link) (ticker c.args.ticker.now) (ticker c.round.ticker) (sink c.args.sink.now)
    (sink c.act.new.sink) c.act.new.player
    c.round.outbox r acted.Going c.act.new.left.items) c.in-Going-heard.is turn in
    write_fails c.args.player.now c.args.left.now.items c.act.new.left.items (now c.args.link.now) (now c.round.link)
    (now c.hear_round-heard.new.link) (now c.say_round.new.link)
    (ticker c.args.ticker.now) (ticker c.round.ticker) (sink c.args.sink.now)
    (sink c.act.new.sink) c.act.new.player c.say_round.new.speaker c.round.outbox
    c.say_round.new.outbox turned_so goes c.in-Failed-say_round.ensures

pub returns-in-Stop : goal.returns-in-Stop
returns-in-Stop g c =
    let now : g.row.L.Denot → LinkNow = link_now g.L.Link.counts g.L.Link.left g.L.Link.was_read g.L.Link.held in
    let sink : g.row.K.Denot → SinkNow = sink_now g.K.Sink.held g.K.Sink.faults in
    let ticker : g.row.T.Denot → TickerNow = ticker_now g.T.Ticker.counts g.T.Ticker.beats in
    let i = c.round.invariant in
    let h = c.hear_round-heard.ensures in
    let turn = turned c.args.player.now c.args.left.now.items c.round.left.items c.act.new.left.items (now c.args.link.now)
    (now c.round.link) (now c.hear_round-heard.new.link)
    (ticker c.args.ticker.now) (ticker c.round.ticker) (sink c.args.sink.now) (sink c.round.sink) (sink c.act.new.sink) c.round.player
    c.hear_round-heard.new.hearer c.act.new.player c.round.outbox c.hear_round-heard.result acted.Going i.actions i.last i.core
    i.none_ends i.left_is i.clock h c.in_default.not-Memory c.in-Going.ensures going_whole in
    let goes : GoesOn (state_of c.act.new.player.player) = subst GoesOn c.state.ensures c.in-None-end_of.ensures in
    let turned_so = subst (λ (r : Heard). Turned c.args.player.now c.args.left.now.items (now c.args.link.now) (now c.round.link)
    (now c.hear_round-heard.new.link) (ticker c.args.ticker.now) (ticker c.round.ticker) (sink c.args.sink.now)
    (sink c.act.new.sink) c.act.new.player
    c.round.outbox r acted.Going c.act.new.left.items) c.in-Going-heard.is turn in
    let spoke = spoken c.args.player.now c.args.left.now.items c.act.new.left.items (now c.args.link.now) (now c.round.link)
    (now c.hear_round-heard.new.link) (now c.say_round.new.link)
    (ticker c.args.ticker.now) (ticker c.round.ticker) (sink c.args.sink.now)
    (sink c.act.new.sink) c.act.new.player c.say_round.new.speaker c.round.outbox
    c.say_round.new.outbox c.say_round.result turned_so goes c.say_round.ensures c.in_default-say_round.not-Failed in
    stop_session c.args.player.now c.args.left.now.items c.act.new.left.items (now c.args.link.now) (now c.say_round.new.link)
    (ticker c.args.ticker.now) (ticker c.round.ticker) (ticker c.wait.new.self) (sink c.args.sink.now)
    (sink c.act.new.sink) c.say_round.new.speaker
    c.say_round.new.outbox spoke c.in-Stop.ensures.counts c.in-Stop.ensures.beats

pub returns-in-Failed-wait : goal.returns-in-Failed-wait
returns-in-Failed-wait g c =
    let now : g.row.L.Denot → LinkNow = link_now g.L.Link.counts g.L.Link.left g.L.Link.was_read g.L.Link.held in
    let sink : g.row.K.Denot → SinkNow = sink_now g.K.Sink.held g.K.Sink.faults in
    let ticker : g.row.T.Denot → TickerNow = ticker_now g.T.Ticker.counts g.T.Ticker.beats in
    let i = c.round.invariant in
    let h = c.hear_round-heard.ensures in
    let turn = turned c.args.player.now c.args.left.now.items c.round.left.items c.act.new.left.items (now c.args.link.now)
    (now c.round.link) (now c.hear_round-heard.new.link)
    (ticker c.args.ticker.now) (ticker c.round.ticker) (sink c.args.sink.now) (sink c.round.sink) (sink c.act.new.sink) c.round.player
    c.hear_round-heard.new.hearer c.act.new.player c.round.outbox c.hear_round-heard.result acted.Going i.actions i.last i.core
    i.none_ends i.left_is i.clock h c.in_default.not-Memory c.in-Going.ensures going_whole in
    let goes : GoesOn (state_of c.act.new.player.player) = subst GoesOn c.state.ensures c.in-None-end_of.ensures in
    let turned_so = subst (λ (r : Heard). Turned c.args.player.now c.args.left.now.items (now c.args.link.now) (now c.round.link)
    (now c.hear_round-heard.new.link) (ticker c.args.ticker.now) (ticker c.round.ticker) (sink c.args.sink.now)
    (sink c.act.new.sink) c.act.new.player
    c.round.outbox r acted.Going c.act.new.left.items) c.in-Going-heard.is turn in
    let spoke = spoken c.args.player.now c.args.left.now.items c.act.new.left.items (now c.args.link.now) (now c.round.link)
    (now c.hear_round-heard.new.link) (now c.say_round.new.link)
    (ticker c.args.ticker.now) (ticker c.round.ticker) (sink c.args.sink.now)
    (sink c.act.new.sink) c.act.new.player c.say_round.new.speaker c.round.outbox
    c.say_round.new.outbox c.say_round.result turned_so goes c.say_round.ensures c.in_default-say_round.not-Failed in
    ticker_fails c.args.player.now c.args.left.now.items c.act.new.left.items (now c.args.link.now) (now c.say_round.new.link)
    (ticker c.args.ticker.now) (ticker c.round.ticker) (ticker c.wait.new.self) (sink c.args.sink.now)
    (sink c.act.new.sink) c.say_round.new.speaker
    c.say_round.new.outbox spoke c.in-Failed-wait.ensures.counts c.in-Failed-wait.ensures.beats

pub round-preserved : goal.round-preserved
round-preserved g c =
    let now : g.row.L.Denot → LinkNow = link_now g.L.Link.counts g.L.Link.left g.L.Link.was_read g.L.Link.held in
    let sink : g.row.K.Denot → SinkNow = sink_now g.K.Sink.held g.K.Sink.faults in
    let ticker : g.row.T.Denot → TickerNow = ticker_now g.T.Ticker.counts g.T.Ticker.beats in
    let i = c.round.invariant in
    let h = c.hear_round-heard.ensures in
    let turn = turned c.args.player.now c.args.left.now.items c.round.left.items c.act.new.left.items (now c.args.link.now)
    (now c.round.link) (now c.hear_round-heard.new.link)
    (ticker c.args.ticker.now) (ticker c.round.ticker) (sink c.args.sink.now) (sink c.round.sink) (sink c.act.new.sink) c.round.player
    c.hear_round-heard.new.hearer c.act.new.player c.round.outbox c.hear_round-heard.result acted.Going i.actions i.last i.core
    i.none_ends i.left_is i.clock h c.in_default.not-Memory c.in-Going.ensures going_whole in
    let goes : GoesOn (state_of c.act.new.player.player) = subst GoesOn c.state.ensures c.in-None-end_of.ensures in
    let turned_so = subst (λ (r : Heard). Turned c.args.player.now c.args.left.now.items (now c.args.link.now) (now c.round.link)
    (now c.hear_round-heard.new.link) (ticker c.args.ticker.now) (ticker c.round.ticker) (sink c.args.sink.now)
    (sink c.act.new.sink) c.act.new.player
    c.round.outbox r acted.Going c.act.new.left.items) c.in-Going-heard.is turn in
    let spoke = spoken c.args.player.now c.args.left.now.items c.act.new.left.items (now c.args.link.now) (now c.round.link)
    (now c.hear_round-heard.new.link) (now c.say_round.new.link)
    (ticker c.args.ticker.now) (ticker c.round.ticker) (sink c.args.sink.now)
    (sink c.act.new.sink) c.act.new.player c.say_round.new.speaker c.round.outbox
    c.say_round.new.outbox c.say_round.result turned_so goes c.say_round.ensures c.in_default-say_round.not-Failed in
    record {
      actions = spoke.actions;
      last = spoke.last;
      core = spoke.core;
      none_ends = spoke.none_ends;
      left_is = spoke.left_is;
      clock = clock_next (ticker c.args.ticker.now) (ticker c.round.ticker) (ticker c.wait.new.self) (g.L.Link.counts c.args.link.now)
          (g.L.Link.counts c.say_round.new.link) (length (pieces spoke.actions)) spoke.beaten c.in-Tick.ensures.beats
          c.in-Tick.ensures.counts;
      goes = subst (λ (h : Held). GoesOn (state_of h.player)) spoke.core.client_is spoke.goes;
    }
