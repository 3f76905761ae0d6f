use Rattle.std.proofs.Common.{◌≡◌, ◌≤◌, take}
use Rattle.std.specs.Prelude.{vec_capacity}
use Rattle.tt_world.proofs.world.copy_signs.Given as goal

abbrev pub invariant-loop-sign : goal.invariant-loop-sign
invariant-loop-sign l = (l.copies.items ≡ take l.sign-index l.signs) × (1000 ≤ vec_capacity l.copies)
