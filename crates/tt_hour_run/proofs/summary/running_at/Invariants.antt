use Rattle.std.proofs.Common.{◌≡◌}
use Rattle.tt_playing.specs.Playing.{client_at}
use Rattle.tt_hour_run.specs.Summed.{running_upto}
use Rattle.tt_hour_run.proofs.summary.running_at.Given as goal

-- how many of the clients so far
abbrev pub invariant-loop-place : goal.invariant-loop-place
invariant-loop-place l = record {
  number : l.conn ≡ l._place;
  running : l.running ≡ running_upto l.frame (client_at l.play) l.conn;
}
