use Rattle.std.specs.Prelude.{◌≡◌}
use Rattle.tt_outgoing.specs.Waiting.{opened}
use Rattle.tt_bench_parts.proofs.outgoing.shared.Given as goal

abbrev pub invariant-loop : goal.invariant-loop
invariant-loop l = opened l.outs ≡ 255
