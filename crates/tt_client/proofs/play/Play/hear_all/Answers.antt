use Rattle.std.proofs.Common.{◌∙◌}
use Rattle.tt_client.specs.Runs.{running}
use Rattle.tt_client.specs.Planned.{played}
use Rattle.tt_client.proofs.Playing.{heard_next}
use Rattle.tt_client.proofs.play.Play.hear_all.Goals as goal

pub loop-item-preserved : goal.loop-item-preserved
loop-item-preserved c =
    let k = c.args.base.now in
    record {
      heard = λ login saying acked.
          heard_next running login c.args.items.now c.loop-item.item-index c.item-item.result (played k c.loop-item.self saying acked)
          (played k c.hear.new.self saying acked) c.loop-item-test.true c.item-item.is (c.in_ok-hear.ensures.heard login saying acked)
          ∙ c.loop-item.invariant.heard login saying acked;
      sound = c.in_ok-hear.ensures.sound c.loop-item.invariant.sound;
      stands = c.in_ok-hear.ensures.stands;
    }
