use Rattle.std.proofs.Common.{◌≡◌, ◌<◌, ◌++◌, ℕ}
use Rattle.tt_hub.specs.Hub.{origin, taken}
use Rattle.tt_replay.specs.Report.{conn_lines}
use Rattle.tt_replay.proofs.report.put_connections.Given as goal

-- the lines of the connections so far, and nothing of the later ones was taken since
abbrev pub invariant-loop-connection : goal.invariant-loop-connection
invariant-loop-connection l = record {
  number : l.conn ≡ l.connection-index;
  text : l.text.items ≡ l.fn.text.items ++ conn_lines (origin l.fn.hub) l.fn.hub.events l.conn;
  origin : origin l.hub ≡ origin l.fn.hub;
  events : l.hub.events ≡ l.fn.hub.events;
  untaken : (other : ℕ) → l.conn < other → taken l.hub other ≡ taken l.fn.hub other;
}
