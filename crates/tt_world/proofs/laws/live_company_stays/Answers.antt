use Rattle.tt_world.proofs.ApplyLaws.{applied_live}
use Rattle.tt_world.proofs.FrameLaws.{framed_live}
use Rattle.tt_world.proofs.laws.live_company_stays.Goals as goal

pub returns : goal.returns
returns c = record { command = applied_live c.args.world.now c.args.entry.now c.args.n; frame = framed_live c.args.world.now c.args.n }
