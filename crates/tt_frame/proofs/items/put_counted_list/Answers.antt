use Rattle.std.proofs.Common.{List, ◌++◌, ap}
use Rattle.std.proofs.lemmas.List.{append-nil}
use Rattle.std.proofs.lemmas.Result.{on_ok_weaker}
use Rattle.tt_frame.specs.Said.{Said, items_said}
use Rattle.tt_frame.specs.Parts.{all_said_by}
use Rattle.tt_frame.proofs.SaidLaws.{told_after}
use Rattle.tt_frame.proofs.items.put_counted_list.Goals as goal

pub returns-clause-ok : goal.returns-clause-ok
returns-clause-ok g c =
    let parts = all_said_by c.args.parts.now in
    let all = items_said g.T.ListItem.fields (g.T.ListItem.listed c.args.list.now) in
    on_ok_weaker c.put_items.result
    (λ is. told_after g.W.PartWriter.word (g.W.PartWriter.text c.args.to.now) (g.W.PartWriter.text c.put_parts.new.to)
    (g.W.PartWriter.text c.put_items.new.to) parts all _ c.in_ok-put_parts.ensures.ok is (ap (λ (s : List Said). parts
    ++ s) (append-nil all)))
    c.put_items.ensures.ok
