use Rattle.std.specs.Prelude.{◌≡◌, ◌<◌, ◌+◌, ℕ, length, slice_index_or}
use Rattle.tt_outgoing.specs.Waiting.{opened}
use Rattle.tt_bench_parts.proofs.outgoing.all_opened.Given as goal

abbrev pub invariant-loop : goal.invariant-loop
invariant-loop l = record {
  opened : opened l.outs ≡ l.counter;
  count : length l.conns.items ≡ l.counter;
  numbers : (i : ℕ) → i < l.counter → slice_index_or l.conns.items i 0 ≡ i + 1;
}
