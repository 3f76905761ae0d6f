use Rattle.std.proofs.Common.{◌≡◌, ◌≤◌, Bool, length, take}
use Rattle.std.specs.Prelude.{filter}
use Rattle.tt_join.proofs.joining.count_living.Given as goal

-- those counted so far
abbrev pub invariant-loop-n : goal.invariant-loop-n
invariant-loop-n l = record {
  most : l.count ≤ l.n;
  counted : l.count ≡ length (filter (λ (lives : Bool). lives) (take l.n l.live));
}
