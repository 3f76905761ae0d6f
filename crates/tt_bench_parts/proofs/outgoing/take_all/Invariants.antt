use Rattle.std.specs.Prelude.{◌≡◌, ◌≤◌}
use Rattle.tt_outgoing.specs.Waiting.{opened}
use Rattle.tt_bench_parts.proofs.outgoing.take_all.Given as goal

abbrev pub invariant-loop-conn : goal.invariant-loop-conn
invariant-loop-conn l = (opened l.outs ≡ 255) × (1 ≤ l.conn)
