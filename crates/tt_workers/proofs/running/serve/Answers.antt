use Rattle.std.proofs.Common.{◌≡◌, subst, rules}
use Rattle.tt_room.specs.Passes.{start_of}
use Rattle.tt_workers.specs.Telling.{link_now}
use Rattle.tt_workers.specs.Working.{core_view, door_view, tick_view}
use Rattle.tt_workers.specs.Running.{Runs}
use Rattle.tt_workers.proofs.running.serve.Goals as goal

pub returns-in-Ok-new-clause-runs : goal.returns-in-Ok-new-clause-runs
returns-in-Ok-new-clause-runs g c =
    let made = c.in-Ok-new.ensures.room.0 in
    let same : start_of c.in-Ok-new.room ≡ c.args.core = search (made, rules) in
    subst (λ (core : g.row.C.Denot). Runs (core_view (g.C.Core.sent (g.C.Core.made core)) (g.C.Core.is_live (g.C.Core.made core))
    (g.C.Core.is_over (g.C.Core.made core)))
    (door_view g.L.Listener.counts g.L.Listener.served g.L.Listener.peers (link_now g.L.Link.Link.counts g.L.Link.Link.left
    g.L.Link.Link.was_read g.L.Link.Link.held))
    (door_view g.A.Listener.counts g.A.Listener.served g.A.Listener.peers (link_now g.A.Link.Link.counts g.A.Link.Link.left
    g.A.Link.Link.was_read g.A.Link.Link.held))
    (tick_view g.T.Ticker.counts g.T.Ticker.beats) (g.C.Core.events c.run_in.result.core) c.args.doors.now c.run_in.new.doors
    c.run_in.result.ends) same c.run_in.ensures.runs
