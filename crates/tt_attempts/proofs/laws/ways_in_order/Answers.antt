use Rattle.tt_attempts.proofs.OrderLaws.{in_order}
use Rattle.tt_attempts.proofs.laws.ways_in_order.Goals as goal

pub returns : goal.returns
returns c = in_order
