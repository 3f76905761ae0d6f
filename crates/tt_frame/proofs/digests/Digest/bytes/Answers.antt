use Rattle.tt_frame.proofs.TextLaws.{IsText-from_is_digest}
use Rattle.tt_frame.proofs.digests.Digest.bytes.Goals as goal

pub returns-clause-text : goal.returns-clause-text
returns-clause-text c = IsText-from_is_digest c.self.inside.digits c.self.invariant
