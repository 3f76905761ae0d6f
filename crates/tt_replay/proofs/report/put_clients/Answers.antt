use Rattle.std.proofs.Common.{◌∙◌, arith, ap, ◌++◌, Option}
use Rattle.tt_client.specs.Held.{Held}
use Rattle.tt_playing.specs.Playing.{client_at}
use Rattle.tt_replay.specs.Report.{lines_on}
use Rattle.tt_replay.proofs.Reports.{next_client}
use Rattle.tt_replay.proofs.report.put_clients.Goals as goal

pub loop-place-preserved : goal.loop-place-preserved
loop-place-preserved c =
    let so_far = c.loop-place.invariant in
    let next = c.in_ok-conn.ensures.next in
    record {
      number = omega (arith, next, so_far.number);
      text = next_client (client_at c.args.play.now) c.loop-place.conn c.in_ok-conn.conn c.args.text.now.items c.loop-place.text.items _
          so_far.text (c.in_ok-put_attached.ensures.text
          ∙ ap (λ (h : Option Held). c.loop-place.text.items ++ lines_on c.in_ok-conn.conn h) c.client_of.ensures.client) next;
    }
