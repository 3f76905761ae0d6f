use Rattle.tt_frame.proofs.FamilyLaws.{if_done_is}
use Rattle.tt_frame.proofs.items.tell_marked.Goals as goal

pub returns-clause-told : goal.returns-clause-told
returns-clause-told g c = rw (← c.as_slice.ensures) (if_done_is c.put_marked_list.result _ _ c.put_marked_list.ensures.ok)
