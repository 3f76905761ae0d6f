use Rattle.std.proofs.Common.{◌≡◌, ◌≤◌, drop, length}
use Rattle.tt_log.specs.Origin.{Origin, at_frame}
use Rattle.tt_table.proofs.staging.entries_from.Given as goal

-- each entry behind this place is for the frame
abbrev pub invariant-loop-first : goal.invariant-loop-first
invariant-loop-first l = (l.first ≤ length l.journal)
    × ((o : Origin) → at_frame o l.frame (drop l.first l.journal) ≡ drop l.first l.journal)

abbrev pub decreases-loop-first : goal.decreases-loop-first
decreases-loop-first l = l.first
