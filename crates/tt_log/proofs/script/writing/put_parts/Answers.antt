use Rattle.tt_log.specs.Written.{behind_blank}
use Rattle.tt_log.proofs.WritingLaws.{one_more}
use Rattle.tt_log.proofs.script.writing.put_parts.Goals as goal

pub loop-part-preserved : goal.loop-part-preserved
loop-part-preserved c = one_more behind_blank c.args.out.now.items c.loop-part.out.items c.put_behind.new.out.items c.args.parts.now
    c.loop-part.part-index _ c.loop-part-test.true c.loop-part.invariant c.in_default.ensures.ok
