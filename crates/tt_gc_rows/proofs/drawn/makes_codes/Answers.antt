-- Both sides compute.
use Rattle.std.proofs.Common.{refl}
use Rattle.tt_gc_rows.proofs.drawn.makes_codes.Goals as goal

pub returns-clause-next : goal.returns-clause-next
returns-clause-next c = refl

pub returns-clause-carried : goal.returns-clause-carried
returns-clause-carried c = refl

pub returns-clause-wrapped : goal.returns-clause-wrapped
returns-clause-wrapped c = refl

pub returns-clause-again : goal.returns-clause-again
returns-clause-again c = refl
