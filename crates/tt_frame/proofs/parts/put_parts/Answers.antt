use Rattle.std.proofs.Common.{take}
use Rattle.tt_frame.proofs.SaidLaws.{one_part, part_fits}
use Rattle.tt_frame.proofs.SealLaws.{front_of_front}
use Rattle.tt_frame.specs.Said.{each_said}
use Rattle.tt_frame.specs.Parts.{all_said_by}
use Rattle.tt_frame.proofs.parts.put_parts.Goals as goal

pub put_part-requires : goal.put_part-requires
put_part-requires g c = part_fits c.args.parts.now c.loop-part.part-index _ c.loop-part-test.true c.requires

pub returns-in-Err-clause-err : goal.returns-in-Err-clause-err
returns-in-Err-clause-err g c =
    front_of_front (g.W.PartWriter.text c.args.to.now) (g.W.PartWriter.text c.loop-part.to) (g.W.PartWriter.text c.put_part.new.self)
    (each_said g.W.PartWriter.word (all_said_by (take c.loop-part.part-index c.args.parts.now))) c.loop-part.invariant
    c.in-Err.ensures.err

pub loop-part-preserved : goal.loop-part-preserved
loop-part-preserved g c = one_part g.W.PartWriter.word (g.W.PartWriter.text c.args.to.now) (g.W.PartWriter.text c.loop-part.to)
    (g.W.PartWriter.text c.put_part.new.self) c.args.parts.now c.loop-part.part-index _ c.loop-part-test.true c.loop-part.invariant
    c.in_default.ensures.ok
