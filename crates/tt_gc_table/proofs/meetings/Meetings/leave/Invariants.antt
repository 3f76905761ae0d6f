use Rattle.std.proofs.Common.{◌≡◌, ℕ, not, length}
use Rattle.std.specs.Prelude.{filter}
use Rattle.tt_gc_table.specs.OpenAttempts.{meetings_of}
use Rattle.tt_gc_table.specs.Parts.{IsBegun, is_of}
use Rattle.tt_gc_table.proofs.meetings.Meetings.leave.Given as goal

abbrev pub invariant-loop-number : goal.invariant-loop-number
invariant-loop-number l = record {
  others : filter (λ m. not (is_of l.conn m)) (meetings_of l.self) ≡ filter (λ m. not (is_of l.conn m)) (meetings_of l.initial.self);
  begun : (last : ℕ) → IsBegun last l.initial.self → IsBegun last l.self;
}

abbrev pub decreases-loop-number : goal.decreases-loop-number
decreases-loop-number l = length l.self
