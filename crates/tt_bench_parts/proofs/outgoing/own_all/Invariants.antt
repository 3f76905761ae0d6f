use Rattle.std.specs.Prelude.{◌≡◌, ◌≤◌, ◌+◌, ◌*◌}
use Rattle.tt_outgoing.specs.Waiting.{opened}
use Rattle.tt_bench_parts.proofs.outgoing.own_all.Given as goal

abbrev pub invariant-loop-conn : goal.invariant-loop-conn
invariant-loop-conn l = record {
  opened : opened l.outs ≡ 255;
  number : 1 ≤ l.conn;
  bytes : 25600 ≤ l.outs.bytes + 100 * l.conn;
  parts : 256 ≤ l.outs.parts + l.conn;
}
