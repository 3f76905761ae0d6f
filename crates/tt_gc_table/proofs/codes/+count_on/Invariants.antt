use Rattle.std.proofs.Common.{length}
use Rattle.tt_gc_table.proofs.codes.+count_on.Given as goal

abbrev pub decreases-count_on : goal.decreases-count_on
decreases-count_on l = length l.text.now
