use Rattle.tt_frame.proofs.FamilyLaws.{if_done_is}
use Rattle.tt_frame.proofs.parts.tell.Goals as goal

pub returns-clause-told : goal.returns-clause-told
returns-clause-told g c = if_done_is c.put_parts.result _ _ c.put_parts.ensures.ok
