use Rattle.std.proofs.Common.{◌≡◌, ℕ, ◌<◌, length, get_or}
use Rattle.tt_rules.specs.Digest.{salted_byte}
use Rattle.tt_rules.proofs.password.salted.Given as goal

-- the bytes so far
abbrev pub invariant-loop-i : goal.invariant-loop-i
invariant-loop-i l = (length l.salted ≡ 32) × ((k : ℕ) → k < l.i → get_or l.salted k 0 ≡ salted_byte l.password l.id l.seed k)
