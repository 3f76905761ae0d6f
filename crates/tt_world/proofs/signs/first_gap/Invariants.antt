use Rattle.std.proofs.Common.{◌≡◌, drop}
use Rattle.tt_world.specs.Gap.{gap_from}
use Rattle.tt_world.proofs.signs.first_gap.Given as goal

abbrev pub invariant-loop-i : goal.invariant-loop-i
invariant-loop-i l = gap_from 0 l.signs ≡ gap_from l.i (drop l.i l.signs)
