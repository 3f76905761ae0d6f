use Rattle.std.proofs.Common.{ℕ}
use Rattle.tt_gc.specs.Queues.{queue_of, IsAsFull}
use Rattle.tt_gc.proofs.outbox.Outbox.release.Given as goal

abbrev pub invariant-loop-tell : goal.invariant-loop-tell
invariant-loop-tell l = (c : ℕ) → IsAsFull (queue_of l.initial.self c) (queue_of l.self c)
