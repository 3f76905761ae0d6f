use Rattle.tt_join.proofs.Outside.{all_left}
use Rattle.tt_join.proofs.laws.all_else_stays.Goals as goal

pub returns : goal.returns
returns c = record { outside = λ o t input. all_left input o t }
