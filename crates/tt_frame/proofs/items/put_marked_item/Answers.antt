use Rattle.std.proofs.Common.{[], ◌∷◌, refl}
use Rattle.std.proofs.lemmas.Result.{on_ok_weaker}
use Rattle.tt_frame.specs.Said.{mark, item_said}
use Rattle.tt_frame.proofs.FamilyLaws.{is_if_done}
use Rattle.tt_frame.proofs.SaidLaws.{told_after}
use Rattle.tt_frame.proofs.items.put_marked_item.Goals as goal

pub returns-clause-ok : goal.returns-clause-ok
returns-clause-ok g c =
    let fields = item_said g.T.ListItem.fields (g.T.ListItem.values c.args.item.now) in
    on_ok_weaker c.tell.result
    (λ is. told_after g.W.PartWriter.word (g.W.PartWriter.text c.args.to.now) (g.W.PartWriter.text c.put_parts.new.to)
    (g.W.PartWriter.text c.tell.new.to) (mark 1 ∷ []) fields (mark 1 ∷ fields) c.in_ok-put_parts.ensures.ok is refl)
    (is_if_done c.tell.result (g.W.PartWriter.text c.tell.new.to) _ c.tell.ensures.told)
