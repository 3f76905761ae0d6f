use Rattle.std.proofs.Common.{List, ◌++◌, sym, ap, ◌∙◌, take, Ok, arith}
use Rattle.std.proofs.lemmas.List.{append-nil, take_all}
use Rattle.tt_frame.specs.ItemForms.{Item}
use Rattle.tt_frame.specs.Said.{each_said, item_said, items_said}
use Rattle.tt_frame.proofs.SealLaws.{front_of_front}
use Rattle.tt_frame.proofs.FamilyLaws.{is_if_done}
use Rattle.tt_frame.proofs.SaidLaws.{told_after, items_more_said}
use Rattle.tt_frame.proofs.items.put_items.Goals as goal

pub loop-item-init : goal.loop-item-init
loop-item-init g c =
    sym (ap (λ (xs : List (Item g.T.ListItem.fields)). g.W.PartWriter.text c.args.to.now
    ++ each_said g.W.PartWriter.word (items_said g.T.ListItem.fields xs)) g.met.T.ListItem.none
    ∙ append-nil (g.W.PartWriter.text c.args.to.now))

pub returns-in-Err-clause-err : goal.returns-in-Err-clause-err
returns-in-Err-clause-err g c =
    front_of_front (g.W.PartWriter.text c.args.to.now) (g.W.PartWriter.text c.loop-item.to) (g.W.PartWriter.text c.tell.new.to)
    (each_said g.W.PartWriter.word (items_said g.T.ListItem.fields (g.T.ListItem.listed (take c.loop-item.item-index
    c.args.list.now)))) c.loop-item.invariant c.in-Err.ensures.err

pub loop-item-preserved : goal.loop-item-preserved
loop-item-preserved g c =
    let fs = g.T.ListItem.fields in
    let done = items_said fs (g.T.ListItem.listed (take c.loop-item.item-index c.args.list.now)) in
    told_after g.W.PartWriter.word (g.W.PartWriter.text c.args.to.now) (g.W.PartWriter.text c.loop-item.to)
    (g.W.PartWriter.text c.tell.new.to) done (item_said fs (g.T.ListItem.values c.item-item.result)) _ c.loop-item.invariant
    (is_if_done (Ok c.in_default.field-0) (g.W.PartWriter.text c.tell.new.to) _ c.in_default.ensures.told)
    (items_more_said _ fs g.T.ListItem.listed g.T.ListItem.values g.met.T.ListItem.more c.args.list.now c.loop-item.item-index
    c.item-item.result c.loop-item-test.true c.item-item.is)

pub returns-clause-ok : goal.returns-clause-ok
returns-clause-ok g c =
    c.loop-item.invariant
    ∙ ap (λ (xs : List g.row.T.Denot). g.W.PartWriter.text c.args.to.now
    ++ each_said g.W.PartWriter.word (items_said g.T.ListItem.fields (g.T.ListItem.listed xs))) (take_all c.loop-item.item-index
    c.args.list.now (omega arith))
