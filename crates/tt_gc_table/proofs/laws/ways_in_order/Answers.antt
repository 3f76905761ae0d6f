use Rattle.tt_gc_table.proofs.WaysPromise.{words_told, ways_order, words_caused, ends_once, none_after}
use Rattle.tt_gc_table.proofs.laws.ways_in_order.Goals as goal

pub returns-clause-told : goal.returns-clause-told
returns-clause-told c = words_told

pub returns-clause-order : goal.returns-clause-order
returns-clause-order c = ways_order

pub returns-clause-caused : goal.returns-clause-caused
returns-clause-caused c = words_caused

pub returns-clause-connected : goal.returns-clause-connected
returns-clause-connected c = none_after

pub returns-clause-once : goal.returns-clause-once
returns-clause-once c = ends_once
