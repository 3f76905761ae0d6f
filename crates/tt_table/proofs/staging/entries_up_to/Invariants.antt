use Rattle.std.proofs.Common.{◌≤◌, drop, length}
use Rattle.tt_lockstep.specs.Journal.{AreAbove}
use Rattle.tt_log.specs.Origin.{Origin, game_of}
use Rattle.tt_table.proofs.staging.entries_up_to.Given as goal

-- each entry behind this place is above the frame
abbrev pub invariant-loop-end : goal.invariant-loop-end
invariant-loop-end l = (l.end ≤ length l.journal) × ((o : Origin) → AreAbove (game_of o) l.frame (drop l.end l.journal))

abbrev pub decreases-loop-end : goal.decreases-loop-end
decreases-loop-end l = l.end
