use Rattle.tt_world.proofs.FrameLaws.{framed_paused}
use Rattle.tt_world.proofs.laws.paused_world_waits.Goals as goal

pub returns : goal.returns
returns c = framed_paused c.args.world.now
