use Rattle.std.proofs.Common.{sym, subst}
use Rattle.tt_edge.specs.declared.event.Door.TheVariants.{Main, Side}
use Rattle.tt_room.specs.Passes.{start_of}
use Rattle.tt_workers.specs.Telling.{LinkNow, link_now}
use Rattle.tt_workers.specs.Working.{Gathers, core_view, door_view, tick_view}
use Rattle.tt_workers.specs.declared.working.Role.{Role}
use Rattle.tt_workers.specs.declared.working.Role.TheVariants as role
use Rattle.tt_workers.proofs.Gatherings.{gathers_links, gathers_ticks}
use Rattle.tt_workers.proofs.working.run.Goals as goal

pub returns-in-Game : goal.returns-in-Game
returns-in-Game g c =
    let m = g.C.Core.made (start_of c.args.room.now) in
    let now : g.row.L-Link.Denot → LinkNow = link_now g.L.Link.Link.counts g.L.Link.Link.left g.L.Link.Link.was_read g.L.Link.Link.held in
    let other : g.row.A-Link.Denot → LinkNow = link_now g.A.Link.Link.counts g.A.Link.Link.left g.A.Link.Link.was_read g.A.Link.Link.held in
    let told = g.C.Core.sent m in
    let live = g.C.Core.is_live m in
    let over = g.C.Core.is_over m in
    let d = g.L.Listener in
    let run = c.attend-worker in
    let w = c.args.worker.now in
    let all = gathers_links now told live over Main (λ conn before e. g.met.C.Core.sent_grows m before e conn)
    (λ conn before e within dead. g.met.C.Core.ended_stays m before e conn within dead)
    (λ before e is. (g.met.C.Core.over_is_last m before e 0 is).1) w.pass run.new.pass (d.counts c.in-Game.listener)
    (d.counts run.new.listener) (d.served c.in-Game.listener) (d.served run.new.listener)
    (d.peers c.in-Game.listener) (d.peers run.new.listener) run.result run.ensures.attended in
    record {
      on = run.ensures.on;
      framer = run.ensures.framer;
      part = all.0;
      own_events = all.1;
      gathers = λ history longer. subst (λ (r : Role g.row.L.Denot g.row.A.Denot g.row.T.Denot). Gathers (core_view told live over)
          (door_view d.counts d.served d.peers now) (door_view g.A.Listener.counts g.A.Listener.served g.A.Listener.peers other)
          (tick_view g.T.Ticker.counts g.T.Ticker.beats) history r (role.Game run.new.listener) all.0 run.result) (sym c.in-Game.is)
          (all.2 history longer);
    }

pub returns-in-Admin : goal.returns-in-Admin
returns-in-Admin g c =
    let m = g.C.Core.made (start_of c.args.room.now) in
    let other : g.row.L-Link.Denot → LinkNow = link_now g.L.Link.Link.counts g.L.Link.Link.left g.L.Link.Link.was_read g.L.Link.Link.held in
    let now : g.row.A-Link.Denot → LinkNow = link_now g.A.Link.Link.counts g.A.Link.Link.left g.A.Link.Link.was_read g.A.Link.Link.held in
    let told = g.C.Core.sent m in
    let live = g.C.Core.is_live m in
    let over = g.C.Core.is_over m in
    let d = g.A.Listener in
    let run = c.attend-worker-in-Admin in
    let w = c.args.worker.now in
    let all = gathers_links now told live over Side (λ conn before e. g.met.C.Core.sent_grows m before e conn)
    (λ conn before e within dead. g.met.C.Core.ended_stays m before e conn within dead)
    (λ before e is. (g.met.C.Core.over_is_last m before e 0 is).1) w.pass run.new.pass (d.counts c.in-Admin.listener)
    (d.counts run.new.listener) (d.served c.in-Admin.listener) (d.served run.new.listener)
    (d.peers c.in-Admin.listener) (d.peers run.new.listener) run.result run.ensures.attended in
    record {
      on = run.ensures.on;
      framer = run.ensures.framer;
      part = all.0;
      own_events = all.1;
      gathers = λ history longer. subst (λ (r : Role g.row.L.Denot g.row.A.Denot g.row.T.Denot). Gathers (core_view told live over)
          (door_view g.L.Listener.counts g.L.Listener.served g.L.Listener.peers other) (door_view d.counts d.served d.peers now)
          (tick_view g.T.Ticker.counts g.T.Ticker.beats) history r (role.Admin run.new.listener) all.0 run.result) (sym c.in-Admin.is)
          (all.2 history longer);
    }

pub returns-in-Ticker : goal.returns-in-Ticker
returns-in-Ticker g c =
    let m = g.C.Core.made (start_of c.args.room.now) in
    let game : g.row.L-Link.Denot → LinkNow = link_now g.L.Link.Link.counts g.L.Link.Link.left g.L.Link.Link.was_read g.L.Link.Link.held in
    let admin : g.row.A-Link.Denot → LinkNow = link_now g.A.Link.Link.counts g.A.Link.Link.left g.A.Link.Link.was_read g.A.Link.Link.held in
    let over = g.C.Core.is_over m in
    let t = g.T.Ticker in
    let run = c.tick_loop in
    let w = c.args.worker.now in
    let all = gathers_ticks over (λ before e is. (g.met.C.Core.over_is_last m before e 0 is).1) w.pass run.new.pass
    (t.counts c.in-Ticker.ticker) (t.counts run.new.ticker) (t.beats c.in-Ticker.ticker) (t.beats run.new.ticker) run.result
    run.ensures.ticks in
    record {
      on = run.ensures.on;
      framer = c.requires.framer;
      part = all.0;
      own_events = all.1;
      gathers = λ history longer. subst (λ (r : Role g.row.L.Denot g.row.A.Denot g.row.T.Denot). Gathers
          (core_view (g.C.Core.sent m) (g.C.Core.is_live m) over) (door_view g.L.Listener.counts g.L.Listener.served g.L.Listener.peers
          game)
          (door_view g.A.Listener.counts g.A.Listener.served g.A.Listener.peers admin) (tick_view t.counts t.beats) history r
          (role.Ticker run.new.ticker) all.0 c.tick_end-worker.result) (sym c.in-Ticker.is)
          (run.result, all.2 history longer, c.tick_end-worker.ensures);
    }
