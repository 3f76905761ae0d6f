use Rattle.tt_in_step.proofs.Promises.{tells, shows, never_wrong, phase-right}
use Rattle.tt_in_step.proofs.Endings.{ends-stand}
use Rattle.tt_in_step.proofs.fronts_show.Goals as goal

pub returns-clause-tells : goal.returns-clause-tells
returns-clause-tells c o es conn bytes later h are player fits e = tells c.one_map.ensures.there o h
    es are conn player bytes later fits e

pub returns-clause-shows : goal.returns-clause-shows
returns-clause-shows c o es conn bytes later h are player fits e = shows c.one_map.ensures.there o h
    es are conn player bytes later fits e

pub returns-clause-right : goal.returns-clause-right
returns-clause-right c o es conn bytes later at h are player fits e wrong = never_wrong c.one_map.ensures.there o h
    es are conn player bytes later at fits e wrong

pub returns-clause-ends : goal.returns-clause-ends
returns-clause-ends c o es conn bytes later h are player fits e = phase-right c.one_map.ensures.there o h
    es are conn player bytes later fits e

pub returns-clause-any_end : goal.returns-clause-any_end
returns-clause-any_end c o bytes = ends-stand o bytes
