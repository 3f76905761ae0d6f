use Rattle.tt_room.specs.Passes.{start_of}
use Rattle.tt_workers.specs.Telling.{link_now}
use Rattle.tt_workers.specs.Working.{core_view, door_view, tick_view}
use Rattle.tt_workers.proofs.Gathered.{gathered}
use Rattle.tt_workers.proofs.laws.one_history.Goals as goal

pub returns : goal.returns
returns g c =
    let m = g.C.Core.made (start_of c.args.room.now) in
    gathered g.C.Core.made g.C.Core.events g.C.Core.taken c.args.room.now (core_view (g.C.Core.sent m) (g.C.Core.is_live m)
    (g.C.Core.is_over m))
    (door_view g.L.Listener.counts g.L.Listener.served g.L.Listener.peers (link_now g.L.Link.Link.counts g.L.Link.Link.left
    g.L.Link.Link.was_read g.L.Link.Link.held))
    (door_view g.A.Listener.counts g.A.Listener.served g.A.Listener.peers (link_now g.A.Link.Link.counts g.A.Link.Link.left
    g.A.Link.Link.was_read g.A.Link.Link.held))
    (tick_view g.T.Ticker.counts g.T.Ticker.beats)
