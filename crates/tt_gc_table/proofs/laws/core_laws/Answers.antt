use Rattle.tt_gc_table.specs.Laws.{sent_grows, ended_stays, unopened, over_is_last, takes_live, openings_of}
use Rattle.tt_gc_table.proofs.laws.core_laws.Goals as goal

pub returns-clause-grows : goal.returns-clause-grows
returns-clause-grows c = sent_grows

pub returns-clause-ended : goal.returns-clause-ended
returns-clause-ended c = ended_stays

pub returns-clause-unopened : goal.returns-clause-unopened
returns-clause-unopened c = unopened

pub returns-clause-over : goal.returns-clause-over
returns-clause-over c = over_is_last

pub returns-clause-taken : goal.returns-clause-taken
returns-clause-taken c = λ s es e. takes_live s es e

pub returns-clause-openings : goal.returns-clause-openings
returns-clause-openings c = openings_of
