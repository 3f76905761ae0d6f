use Rattle.std.proofs.Common.{◌≡◌, ℕ, ◌≤◌, ◌++◌, length, drop}
use Rattle.tt_gc_table.specs.Tells.{told_to}
use Rattle.tt_gc.specs.Queues.{queue_of}
use Rattle.tt_gc.proofs.outbox.Outbox.tell.Given as goal

abbrev pub invariant-loop-tell : goal.invariant-loop-tell
invariant-loop-tell l = record {
  taken : (c : ℕ) → (queue_of l.self c).taken ≡ (queue_of l.initial.self c).taken;
  left : (c : ℕ) → (queue_of l.self c).left ++ told_to c (drop l.tell-index l.tells)
      ≡ (queue_of l.initial.self c).left ++ told_to c l.tells;
  room : (c : ℕ) → length (told_to c (drop l.tell-index l.tells)) ≤ (queue_of l.self c).spare;
}
