use Rattle.std.proofs.Common.{length}
use Rattle.tt_show.proofs.ListLaws.{SoFar}
use Rattle.tt_show.proofs.list.show.Given as goal

-- the lines so far, and then what is left
abbrev pub invariant-loop-rest : goal.invariant-loop-rest
invariant-loop-rest l = SoFar l.input l.rest l.text.items l.number

abbrev pub decreases-loop-rest : goal.decreases-loop-rest
decreases-loop-rest l = length l.rest
