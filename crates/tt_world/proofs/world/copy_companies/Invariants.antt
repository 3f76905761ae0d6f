use Rattle.std.proofs.Common.{◌≡◌, ◌++◌, take, drop, length}
use Rattle.tt_world.proofs.world.copy_companies.Given as goal

abbrev pub invariant-loop-i : goal.invariant-loop-i
invariant-loop-i l = (l.companies ≡ take l.i l.copies ++ drop l.i l.companies) × (length l.copies ≡ 15) × (length l.companies ≡ 15)
