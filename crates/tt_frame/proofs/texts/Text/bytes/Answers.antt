use Rattle.tt_frame.proofs.TextLaws.{IsText-from_is_text}
use Rattle.tt_frame.proofs.texts.Text.bytes.Goals as goal

pub returns-clause-text : goal.returns-clause-text
returns-clause-text g c = rw c.as_slice.ensures.value (IsText-from_is_text g.row.N _ c.self.invariant)
