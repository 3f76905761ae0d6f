use Rattle.std.proofs.Common.{◌≡◌, ◌++◌, length}
use Rattle.tt_hub.specs.Hub.{origin}
use Rattle.tt_log.specs.Told.{sent}
use Rattle.tt_report.specs.Summary.{count_lines}
use Rattle.tt_hour_run.proofs.summary.put_counts.Given as goal

-- the lines of the connections so far
abbrev pub invariant-loop-place : goal.invariant-loop-place
invariant-loop-place l = record {
  number : l.conn ≡ l._place;
  text : l.text.items ≡ l.fn.text.items ++ count_lines (λ conn. length (sent (origin l.hub) l.hub.events conn)) l.conn;
}
