use Rattle.tt_world.proofs.ApplyLaws.{gift_total}
use Rattle.tt_world.proofs.laws.gift_keeps_money.Goals as goal

pub returns : goal.returns
returns c = gift_total c.args.world.now c.args.entry.now
