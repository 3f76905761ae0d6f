use Rattle.tt_log.proofs.Entries.{is-stamped, event-adds-for, journal-grows, world-stays}
use Rattle.tt_log.proofs.laws.journal_rises.Goals as goal

pub returns-clause-rising : goal.returns-clause-rising
returns-clause-rising c o es = (is-stamped o es).rising

pub returns-clause-stamped : goal.returns-clause-stamped
returns-clause-stamped c o es = (is-stamped o es).stamped

pub returns-clause-adds : goal.returns-clause-adds
returns-clause-adds c o es e = event-adds-for o es e

pub returns-clause-grows : goal.returns-clause-grows
returns-clause-grows c o es fs = journal-grows o es fs

pub returns-clause-world_stays : goal.returns-clause-world_stays
returns-clause-world_stays c o es fs f l = world-stays o es fs f l
