use Rattle.tt_frame.proofs.TextLaws.{IsText-from_is_text, length_of_text}
use Rattle.tt_frame.proofs.long_texts.LongText.bytes.Goals as goal

pub returns-clause-text : goal.returns-clause-text
returns-clause-text g c = rw c.as_slice.ensures.value (IsText-from_is_text g.row.N _ c.self.invariant)

pub returns-clause-length : goal.returns-clause-length
returns-clause-length g c = rw c.as_slice.ensures.value (length_of_text g.row.N _ c.self.invariant)
