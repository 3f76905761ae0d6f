use Rattle.tt_gc_table.proofs.CountLaws.{over_exactly}
use Rattle.tt_gc_table.proofs.laws.all_is_over_exactly_then.Goals as goal

pub returns : goal.returns
returns c = over_exactly
