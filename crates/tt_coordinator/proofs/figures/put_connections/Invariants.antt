use Rattle.std.proofs.Common.{◌≡◌, ℕ, length}
use Rattle.tt_gc_table.specs.Told.{sent}
use Rattle.tt_report.specs.Summary.{count_lines}
use Rattle.tt_serving.specs.Page.{Puts}
use Rattle.tt_coordinator.proofs.figures.put_connections.Given as goal

-- the lines of the connections so far were put, and no write failed
abbrev pub invariant-loop-before : goal.invariant-loop-before
invariant-loop-before g l =
    let sink = g.K.Sink in
    record {
      puts : Puts (sink.held l.initial.sink) (sink.held l.sink) l.initial.page l.page (count_lines (λ (conn : ℕ). length (sent
          l.gc.setup l.gc.events conn)) l.before);
      faults : sink.faults l.sink ≡ sink.faults l.initial.sink;
    }
