use Rattle.std.proofs.Common.{◌≡◌, vec_len}
use Rattle.tt_serving.proofs.doors.handles_at.Given as goal

-- there is a handle for each number so far
abbrev pub invariant-loop-number : goal.invariant-loop-number
invariant-loop-number g l = record { count : vec_len l.handles ≡ l.number }
