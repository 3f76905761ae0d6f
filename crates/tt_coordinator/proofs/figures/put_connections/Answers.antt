use Rattle.std.proofs.Common.{ℕ, length, refl, ◌∙◌}
use Rattle.tt_gc_table.specs.Told.{sent}
use Rattle.tt_coordinator.proofs.Lines.{lines-more, lines-lost}
use Rattle.tt_coordinator.proofs.figures.put_connections.Goals as goal

pub loop-before-preserved : goal.loop-before-preserved
loop-before-preserved g c =
    let held = g.K.Sink.held in
    record {
      puts = lines-more (held c.args.sink.now) (held c.loop-before.sink) (held c.put_count.new.sink) c.args.page.now c.loop-before.page
          c.put_count.new.self (λ (conn : ℕ). length (sent c.args.gc.now.setup c.args.gc.now.events conn)) c.loop-before.before _ _ refl
          c.sent_len.ensures.count c.loop-before.invariant.puts c.in-Ok.ensures.puts;
      faults = c.in-Ok.ensures.kept ∙ c.loop-before.invariant.faults;
    }

pub returns-in-Err-clause-loses : goal.returns-in-Err-clause-loses
returns-in-Err-clause-loses g c =
    let held = g.K.Sink.held in
    lines-lost (held c.args.sink.now) (held c.loop-before.sink) (held c.put_count.new.sink) c.args.page.now c.loop-before.page
    (λ (conn : ℕ). length (sent c.args.gc.now.setup c.args.gc.now.events conn)) c.loop-before.before _ _ _ _ refl
    c.sent_len.ensures.count c.loop-before-test.true
    c.connections-before-end.ensures.connections c.loop-before.invariant.puts c.in-Err.ensures.loses
