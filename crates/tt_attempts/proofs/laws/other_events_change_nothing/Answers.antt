use Rattle.tt_attempts.proofs.ForeignLaws.{foreign_left_out, repeated_left_out}
use Rattle.tt_attempts.proofs.laws.other_events_change_nothing.Goals as goal

pub returns-clause-foreign : goal.returns-clause-foreign
returns-clause-foreign c = foreign_left_out

pub returns-clause-repeated : goal.returns-clause-repeated
returns-clause-repeated c = repeated_left_out
