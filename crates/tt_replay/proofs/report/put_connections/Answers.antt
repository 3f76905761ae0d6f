use Rattle.std.proofs.Common.{◌+◌, ◌∙◌, arith, subst, sym}
use Rattle.tt_hub.specs.Hub.{origin}
use Rattle.tt_playing.specs.declared.play.Connection.{Connection}
use Rattle.tt_replay.specs.Reporting.{IsToBeTold}
use Rattle.tt_replay.proofs.Reports.{next_line, still_to_be_told}
use Rattle.tt_replay.proofs.report.put_connections.Goals as goal

pub put_connection-requires : goal.put_connection-requires
put_connection-requires c =
    let so_far = c.loop-connection.invariant in
    let place = c.loop-connection.connection-index in
    let next = c.in_ok-conn.ensures.next in
    let item = c.connection-item.result in
    record {
      to_be_told = still_to_be_told c.args.hub.now _ (place + 1) c.in_ok-conn.conn item
          (subst (λ (x : Connection). IsToBeTold c.args.hub.now (place + 1) x) (sym c.connection-item.is)
          (c.requires.to_be_told place item c.loop-connection-test.true))
          (omega (arith, next, so_far.number)) so_far.origin so_far.events (so_far.untaken c.in_ok-conn.conn (omega (arith, next)));
    }

pub loop-connection-preserved : goal.loop-connection-preserved
loop-connection-preserved c =
    let so_far = c.loop-connection.invariant in
    let put = c.in_ok-put_connection.ensures in
    let next = c.in_ok-conn.ensures.next in
    record {
      number = omega (arith, next, so_far.number);
      text = next_line (origin c.args.hub.now) _ c.args.hub.now.events _ c.loop-connection.conn c.in_ok-conn.conn c.args.text.now.items _ _
          so_far.text put.text so_far.origin so_far.events next;
      origin = put.origin ∙ so_far.origin;
      events = put.events ∙ so_far.events;
      untaken = λ other above. put.others other (λ e. omega (arith, e, above)) ∙ so_far.untaken other (omega (arith, above, next));
    }
