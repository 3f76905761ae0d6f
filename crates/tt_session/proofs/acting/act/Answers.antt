use Rattle.std.proofs.Common.{◌≡◌, ℕ, ◌+◌, ◌-◌, ◌<◌, ◌≤◌, true, false, sym, ap, subst, ◌∙◌, arith}
use Rattle.std.specs.Prelude.{IfSome}
use Rattle.tt_client.specs.Calls.{Advance}
use Rattle.tt_client.specs.Held.{Held, with_call, frame_of}
use Rattle.tt_client.specs.State.{is_running}
use Rattle.tt_session.specs.Running.{RunsAt}
use Rattle.tt_session.specs.Session.{SinkNow, sink_now}
use Rattle.tt_session.proofs.Doings.{so_first, so_line, so_runs, so_idle, line_quits, line_fails, line_lost, first_due, next_due, goal_low}
use Rattle.tt_session.proofs.Doings.{goal_first, idle_at}
use Rattle.tt_session.proofs.Frames.{advance_runs, owed, running_then}
use Rattle.tt_session.proofs.acting.act.Goals as goal

pub acting-init : goal.acting-init
acting-init g c = λ s left_is client_is.
    let sink : g.row.K.Denot → SinkNow = sink_now g.K.Sink.held g.K.Sink.faults in
    so_first s c.args.left.now.items c.args.player.now (sink c.args.sink.now) left_is client_is

pub acting-preserved-in-Going : goal.acting-preserved-in-Going
acting-preserved-in-Going g c = λ s left_is client_is.
    let sink : g.row.K.Denot → SinkNow = sink_now g.K.Sink.held g.K.Sink.faults in
    let at : RunsAt c.acting.player c.in-Some.frame c.in-Some.permitted = c.in-Some.ensures in
    let d = c.in-Going.ensures in
    let due = next_due c.acting.left.items c.do_next.new.left.items d.line c.acting.player d.is (first_due c.acting.left.items
    c.acting.player c.in-Some.frame c.in-Some.permitted at (c.is_due.ensures.due c.if-is_due.true)) in
    so_line s c.acting.left.items c.do_next.new.left.items c.acting.player c.do_next.new.player (sink c.args.sink.now)
    (sink c.acting.sink) (sink c.do_next.new.sink) d.line (c.acting.invariant s left_is client_is) d.is due d.does

pub returns-in-Quit : goal.returns-in-Quit
returns-in-Quit g c = λ s left_is client_is.
    let sink : g.row.K.Denot → SinkNow = sink_now g.K.Sink.held g.K.Sink.faults in
    let at : RunsAt c.acting.player c.in-Some.frame c.in-Some.permitted = c.in-Some.ensures in
    let d = c.in-Quit.ensures in
    let due = next_due c.acting.left.items c.do_next.new.left.items d.line c.acting.player d.is (first_due c.acting.left.items
    c.acting.player c.in-Some.frame c.in-Some.permitted at (c.is_due.ensures.due c.if-is_due.true)) in
    line_quits s c.acting.left.items c.do_next.new.left.items c.acting.player c.do_next.new.player (sink c.args.sink.now)
    (sink c.acting.sink) (sink c.do_next.new.sink) d.line (c.acting.invariant s left_is client_is) d.is due d.does

pub returns-in-SinkFault : goal.returns-in-SinkFault
returns-in-SinkFault g c = λ s left_is client_is.
    let sink : g.row.K.Denot → SinkNow = sink_now g.K.Sink.held g.K.Sink.faults in
    let at : RunsAt c.acting.player c.in-Some.frame c.in-Some.permitted = c.in-Some.ensures in
    let d = c.in-SinkFault.ensures in
    let due = next_due c.acting.left.items c.do_next.new.left.items d.line c.acting.player d.is (first_due c.acting.left.items
    c.acting.player c.in-Some.frame c.in-Some.permitted at (c.is_due.ensures.due c.if-is_due.true)) in
    line_fails s c.acting.left.items c.do_next.new.left.items c.acting.player c.do_next.new.player (sink c.args.sink.now)
    (sink c.acting.sink) (sink c.do_next.new.sink) d.line (c.acting.invariant s left_is client_is) d.is due d.does
    (running_then d.line.act c.acting.player c.do_next.new.player d.does.0 at.running)

pub returns-in-Memory : goal.returns-in-Memory
returns-in-Memory g c = λ s left_is client_is.
    let sink : g.row.K.Denot → SinkNow = sink_now g.K.Sink.held g.K.Sink.faults in
    let d = c.in-Memory.ensures in
    line_lost s c.acting.left.items c.do_next.new.left.items c.acting.player c.do_next.new.player (sink c.args.sink.now)
    (sink c.acting.sink) (sink c.do_next.new.sink) d.line (c.acting.invariant s left_is client_is) d.does

pub returns-then-goal-frame : goal.returns-then-goal-frame
returns-then-goal-frame g c = λ s left_is client_is.
    let sink : g.row.K.Denot → SinkNow = sink_now g.K.Sink.held g.K.Sink.faults in
    let at : RunsAt c.acting.player c.in-Some.frame c.in-Some.permitted = c.in-Some.ensures in
    so_idle s c.acting.left.items c.acting.player (sink c.args.sink.now) (sink c.acting.sink) (c.acting.invariant s left_is client_is)
    (idle_at c.acting.left.items c.acting.player c.in-Some.frame c.in-Some.permitted at (c.is_due.ensures.later c.if-is_due.false)
    (omega (arith, c.goal_of-goal.ensures, c.if-goal-frame.true)))

pub acting-smaller : goal.acting-smaller
acting-smaller g c =
    let at : RunsAt c.acting.player c.in-Some.frame c.in-Some.permitted = c.in-Some.ensures in
    let n = c.goal_of-goal.result - c.in-Some.frame in
    let some : 0 < n = omega (arith, c.if-goal-frame.false) in
    let fits : c.in-Some.frame + n ≤ c.in-Some.permitted = omega (
      arith,
      c.if-goal-frame.false,
      c.goal_of-goal.ensures,
      goal_low c.acting.left.items c.in-Some.permitted,
    ) in
    let after = advance_runs c.acting.player n c.in-Some.frame c.in-Some.permitted c.advance.ensures.sound at some fits in
    let fewer : owed c.advance.new.self.player.phase c.advance.new.self.player.runs < owed c.acting.player.player.phase
    c.acting.player.player.runs = subst (λ (h : Held). owed h.player.phase h.player.runs < owed c.acting.player.player.phase
    c.acting.player.player.runs) (sym c.advance.ensures.ran) after.fewer in
    omega (arith, fewer)

pub acting-preserved : goal.acting-preserved
acting-preserved g c = λ s left_is client_is.
    let sink : g.row.K.Denot → SinkNow = sink_now g.K.Sink.held g.K.Sink.faults in
    let at : RunsAt c.acting.player c.in-Some.frame c.in-Some.permitted = c.in-Some.ensures in
    let n = c.goal_of-goal.result - c.in-Some.frame in
    let some : 0 < n = omega (arith, c.if-goal-frame.false) in
    let fits : c.in-Some.frame + n ≤ c.in-Some.permitted = omega (
      arith,
      c.if-goal-frame.false,
      c.goal_of-goal.ensures,
      goal_low c.acting.left.items c.in-Some.permitted,
    ) in
    let goal_is : c.in-Some.frame + n ≡ c.goal_of-goal.result = omega (arith, c.if-goal-frame.false) in
    let after = advance_runs c.acting.player n c.in-Some.frame c.in-Some.permitted c.advance.ensures.sound at some fits in
    let past : IfSome (frame_of (with_call c.acting.player (Advance n)).player) (λ f. f ≤ c.goal_of-goal.result) =
    subst (λ (m : ℕ). IfSome (frame_of (with_call c.acting.player (Advance n)).player) (λ f. f ≤ m)) goal_is after.not_past in
    let here : IfSome (frame_of c.advance.new.self.player) (λ f. f ≤ c.goal_of-goal.result) =
    subst (λ (h : Held). IfSome (frame_of h.player) (λ f. f ≤ c.goal_of-goal.result)) (sym c.advance.ensures.ran) past in
    so_runs s c.acting.left.items c.acting.player c.advance.new.self (sink c.args.sink.now) (sink c.acting.sink) n
    (c.acting.invariant s left_is client_is) c.advance.ensures.ran
    (goal_first c.acting.left.items c.advance.new.self c.in-Some.permitted c.goal_of-goal.result c.goal_of-goal.ensures here)

pub returns : goal.returns
returns g c = λ s left_is client_is.
    let sink : g.row.K.Denot → SinkNow = sink_now g.K.Sink.held g.K.Sink.faults in
    so_idle s c.acting.left.items c.acting.player (sink c.args.sink.now) (sink c.acting.sink) (c.acting.invariant s left_is client_is)
    (λ running. let clash : true ≡ false = sym (ap is_running running) ∙ c.in_default.ensures in absurd cc)
