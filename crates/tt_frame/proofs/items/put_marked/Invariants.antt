use Rattle.std.proofs.Common.{◌≡◌, ◌++◌, take}
use Rattle.tt_frame.specs.Said.{each_said, marks_said}
use Rattle.tt_frame.proofs.items.put_marked.Given as goal

abbrev pub invariant-loop-item : goal.invariant-loop-item
invariant-loop-item g l = g.W.PartWriter.text l.to ≡ g.W.PartWriter.text l.fn.to
    ++ each_said g.W.PartWriter.word (marks_said g.T.ListItem.fields (g.T.ListItem.listed (take l.item-index l.list)))
