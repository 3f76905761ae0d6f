use Rattle.std.proofs.Common.{◌≡◌, List, length}
use Rattle.std.specs.Prelude.{[]}
use Rattle.std.specs.List.{AllByRecursion}
use Rattle.tt_rounds.specs.Links.{link_now}
use Rattle.tt_client.specs.State.{state_of}
use Rattle.tt_session.specs.Acting.{Action, Standing, pieces, EndsNone}
use Rattle.tt_session.specs.Session.{GoesOn, sink_now, ticker_now}
use Rattle.tt_session.proofs.Sessions.{Core}
use Rattle.tt_session.proofs.Ends.{Clock}
use Rattle.tt_session.proofs.rounds.play_rounds.Given as goal

-- what was done so far, up to a beat: the run goes on
abbrev pub invariant-round : goal.invariant-round
invariant-round g l =
    let link = g.L.Link in
    let now = link_now link.counts link.left link.was_read link.held in
    let sink = sink_now g.K.Sink.held g.K.Sink.faults in
    let ticker = ticker_now g.T.Ticker.counts g.T.Ticker.beats in
    record {
      actions : List Action;
      last : Standing;
      core : Core l.fn.player l.fn.left.items (now l.fn.link) (now l.link) (sink l.fn.sink) (sink l.sink) l.player l.outbox [] actions last;
      none_ends : AllByRecursion EndsNone actions;
      left_is : last.left ≡ l.left.items;
      clock : Clock (ticker l.fn.ticker) (ticker l.ticker) (link.counts l.fn.link) (link.counts l.link) (length (pieces actions));
      goes : GoesOn (state_of l.player.player);
    }
