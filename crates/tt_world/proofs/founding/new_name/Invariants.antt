use Rattle.std.proofs.Common.{◌≡◌, ℕ, ◌+◌}
use Rattle.tt_world.specs.Commands.{least_name}
use Rattle.tt_world.proofs.founding.new_name.Given as goal

abbrev pub invariant-loop-m : goal.invariant-loop-m
invariant-loop-m l = (n : ℕ) → l.m + n ≡ 15 → least_name l.companies 1 14 ≡ least_name l.companies l.m n
