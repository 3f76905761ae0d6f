use Rattle.std.proofs.Common.{◌≡◌}
use Rattle.tt_gc_table.specs.Codes.{undrawn}
use Rattle.tt_gc_table.proofs.codes.undrawn.Given as goal

abbrev pub invariant-loop-code : goal.invariant-loop-code
invariant-loop-code l = undrawn l.left l.parts l.code ≡ undrawn l.initial.left l.parts l.initial.code

abbrev pub decreases-loop-code : goal.decreases-loop-code
decreases-loop-code l = l.left
