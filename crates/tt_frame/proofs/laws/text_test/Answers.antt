use Rattle.tt_frame.proofs.TextLaws.{text_test_is}
use Rattle.tt_frame.proofs.laws.text_test.Goals as goal

pub returns : goal.returns
returns c = text_test_is
