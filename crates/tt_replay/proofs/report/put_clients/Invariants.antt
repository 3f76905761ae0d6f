use Rattle.std.proofs.Common.{◌≡◌, ◌++◌, length}
use Rattle.tt_playing.specs.Playing.{client_at}
use Rattle.tt_replay.specs.Report.{clients_upto}
use Rattle.tt_replay.proofs.report.put_clients.Given as goal

-- the lines of the clients so far
abbrev pub invariant-loop-place : goal.invariant-loop-place
invariant-loop-place l = record {
  number : l.conn ≡ l._place;
  text : l.text.items ≡ l.fn.text.items ++ clients_upto (client_at l.play) l.conn;
}
