use Rattle.tt_log.proofs.Lasting.{lives-on}
use Rattle.tt_log.proofs.Seats as seats
use Rattle.tt_log.proofs.facts.companies_live.Goals as goal

pub returns-clause-members : goal.returns-clause-members
returns-clause-members c o es = seats.are-seated o es

pub returns-clause-waiting : goal.returns-clause-waiting
returns-clause-waiting c o es = seats.wait-for-live o es

pub returns-clause-digests : goal.returns-clause-digests
returns-clause-digests c o es = seats.lock-live o es

pub returns-clause-lasts : goal.returns-clause-lasts
returns-clause-lasts c o es fs company is = lives-on o es fs company is
