use Rattle.std.proofs.Common.{◌∙◌}
use Rattle.tt_serving.proofs.Parts.{parts-more, parts-lost}
use Rattle.tt_serving.proofs.page.Page.put_parts.Goals as goal

pub returns-in-Err-clause-loses : goal.returns-in-Err-clause-loses
returns-in-Err-clause-loses g c =
    let held = g.K.Sink.held in
    parts-lost (held c.args.sink.now) (held c.loop-part.sink) (held c.put_part.new.sink) c.args.self.now c.loop-part.self c.args.parts.now
    c.loop-part.part-index _ c.loop-part-test.true c.loop-part.invariant.puts c.in-Err.ensures.loses

pub loop-part-preserved : goal.loop-part-preserved
loop-part-preserved g c =
    let held = g.K.Sink.held in
    record {
      puts = parts-more (held c.args.sink.now) (held c.loop-part.sink) (held c.put_part.new.sink) c.args.self.now c.loop-part.self
          c.put_part.new.self c.args.parts.now c.loop-part.part-index _ c.loop-part-test.true c.loop-part.invariant.puts
          c.in-Ok.ensures.puts;
      faults = c.in-Ok.ensures.kept ∙ c.loop-part.invariant.faults;
    }
