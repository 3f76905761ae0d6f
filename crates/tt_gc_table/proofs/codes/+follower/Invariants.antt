use Rattle.std.proofs.Common.{length}
use Rattle.tt_gc_table.proofs.codes.+follower.Given as goal

abbrev pub decreases-follower : goal.decreases-follower
decreases-follower l = length l.alphabet.now
