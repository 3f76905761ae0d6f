use Rattle.std.proofs.Common.{arith, length}
use Rattle.tt_hub.specs.Hub.{origin}
use Rattle.tt_log.specs.Told.{sent}
use Rattle.tt_hour_run.proofs.Sums.{next_count}
use Rattle.tt_hour_run.proofs.summary.put_counts.Goals as goal

pub loop-place-preserved : goal.loop-place-preserved
loop-place-preserved c =
    let so_far = c.loop-place.invariant in
    let next = c.in_ok-conn.ensures.next in
    let hub = c.args.hub.now in
    record {
      number = omega (arith, next, so_far.number);
      text = next_count (λ conn. length (sent (origin hub) hub.events conn)) c.loop-place.conn c.in_ok-conn.conn c.sent_len.result
          c.args.text.now.items c.loop-place.text.items c.put_count.new.text.items so_far.text c.in_ok-put_count.ensures.text
          c.sent_len.ensures.count next;
    }
