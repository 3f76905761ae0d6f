use Rattle.tt_frame.proofs.StopLaws.{field_there, field_absent}
use Rattle.tt_frame.proofs.laws.one_field.Goals as goal

pub returns-clause-there : goal.returns-clause-there
returns-clause-there c f s t x fits = field_there f s t x fits

pub returns-clause-absent : goal.returns-clause-absent
returns-clause-absent c f s at fits = field_absent f s at fits
