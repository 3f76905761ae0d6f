use Rattle.tt_world.proofs.FrameLaws.{framed_rests}
use Rattle.tt_world.proofs.laws.money_rests_within_a_day.Goals as goal

pub returns : goal.returns
returns c = framed_rests c.args.world.now
