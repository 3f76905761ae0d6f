use Rattle.tt_log.proofs.Spelling.{it-lasts, top-small}
use Rattle.tt_log.proofs.facts.tables_are_in_range.Goals as goal

pub returns-clause-members : goal.returns-clause-members
returns-clause-members c o es ok are = (it-lasts o es ok are).fits.members

pub returns-clause-journal : goal.returns-clause-journal
returns-clause-journal c o es ok are = (it-lasts o es ok are).fits.journal

pub returns-clause-top : goal.returns-clause-top
returns-clause-top c o es ok = top-small o es ok
