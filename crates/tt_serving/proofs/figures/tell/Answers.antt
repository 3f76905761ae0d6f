use Rattle.std.proofs.Common.{ℕ, subst}
use Rattle.tt_edge.specs.Count.{Rose}
use Rattle.tt_serving.proofs.Pages.{told-in_part}
use Rattle.tt_serving.proofs.figures.tell.Goals as goal

pub returns-in-Err-flush : goal.returns-in-Err-flush
returns-in-Err-flush g c =
    let held = g.K.Sink.held in
    let faults = g.K.Sink.faults in
    record {
      told = (
        told-in_part (held c.args.sink.now) (held c.put.new.sink) (held c.flush.new.sink) c.new-page.result c.put.new.page
            (g.F.Figures.summary c.args.core.now) c.new-page.ensures c.in-Ok.ensures.puts c.in-Err-flush.ensures.front,
        subst (λ (n : ℕ). Rose n (faults c.flush.new.sink)) c.in-Ok.ensures.kept c.in-Err-flush.ensures.fault,
      );
    }
