use Rattle.std.proofs.Common.{◌≡◌, All, vec_len, vec_capacity}
use Rattle.tt_frame.specs.Holding.{Holding}
use Rattle.tt_frame.specs.Runs.{empty_of}
use Rattle.tt_workers.proofs.hiring.framers.Given as goal

abbrev pub invariant-loop-i : goal.invariant-loop-i
invariant-loop-i l = record {
  long : vec_len l.framers ≡ l._i;
  capacity : vec_capacity l.framers ≡ l.count;
  empty : All (λ (f : Holding). f ≡ empty_of 32767) l.framers.items;
}
