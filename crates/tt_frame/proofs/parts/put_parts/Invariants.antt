use Rattle.std.proofs.Common.{◌≡◌, ◌++◌, take}
use Rattle.tt_frame.specs.Said.{each_said}
use Rattle.tt_frame.specs.Parts.{all_said_by}
use Rattle.tt_frame.proofs.parts.put_parts.Given as goal

abbrev pub invariant-loop-part : goal.invariant-loop-part
invariant-loop-part g l =
    g.W.PartWriter.text l.to ≡ g.W.PartWriter.text l.fn.to ++ each_said g.W.PartWriter.word (all_said_by (take l.part-index l.parts))
