use Rattle.std.proofs.Common.{List, [], ◌∷◌, ◌++◌, sym, ap, refl, ◌∙◌, append_assoc}
use Rattle.std.proofs.lemmas.List.{append-nil}
use Rattle.std.proofs.lemmas.Result.{on_ok_weaker}
use Rattle.tt_frame.specs.Said.{Said, mark, marks_said}
use Rattle.tt_frame.specs.Parts.{all_said_by}
use Rattle.tt_frame.proofs.SaidLaws.{told_after}
use Rattle.tt_frame.proofs.items.put_marked_list.Goals as goal

pub returns-clause-ok : goal.returns-clause-ok
returns-clause-ok g c =
    let parts = all_said_by c.args.parts.now in
    let all = marks_said g.T.ListItem.fields (g.T.ListItem.listed c.args.list.now) in
    let some = told_after g.W.PartWriter.word (g.W.PartWriter.text c.args.to.now) (g.W.PartWriter.text c.put_parts.new.to)
    (g.W.PartWriter.text c.put_marked.new.to) parts all (parts ++ all) c.in_ok-put_parts.ensures.ok c.in_ok-put_marked.ensures.ok refl
    in
    on_ok_weaker c.put_parts-2.result
    (λ is. told_after g.W.PartWriter.word (g.W.PartWriter.text c.args.to.now) (g.W.PartWriter.text c.put_marked.new.to)
    (g.W.PartWriter.text c.put_parts-2.new.to) (parts ++ all) (mark 0 ∷ []) _ some is (ap (λ (s : List Said). parts
    ++ s) (append-nil (all ++ mark 0 ∷ [])) ∙ sym (append_assoc parts all (mark 0 ∷ []))))
    c.put_parts-2.ensures.ok
