use Rattle.std.proofs.Common.{ℕ, ◌+◌, ◌≤◌, length, drop}
use Rattle.tt_gc_table.specs.Tells.{told_to}
use Rattle.tt_gc.specs.Queues.{queue_of, IsAsFull}
use Rattle.tt_gc.proofs.outbox.Outbox.reserve.Given as goal

abbrev pub invariant-loop-tell : goal.invariant-loop-tell
invariant-loop-tell l = record {
  same : (c : ℕ) → IsAsFull (queue_of l.fn.self c) (queue_of l.self c);
  room : (c : ℕ) → length (told_to c l.tells) ≤ (queue_of l.self c).spare + length (told_to c (drop l.tell-index l.tells));
}
