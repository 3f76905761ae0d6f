use Rattle.tt_world.proofs.FrameLaws.{framed_signs}
use Rattle.tt_world.proofs.laws.frame_leaves_signs.Goals as goal

pub returns : goal.returns
returns c =
    let same = framed_signs c.args.world.now in
    record { signs = same.0; paused = same.1 }
