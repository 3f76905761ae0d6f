use Rattle.tt_log.specs.History.{table_of}
use Rattle.tt_log.proofs.Ordered.{is-ordered, no-admin}
use Rattle.tt_log.proofs.laws.members_in_order.Goals as goal

pub returns-clause-rising : goal.returns-clause-rising
returns-clause-rising c o es = (is-ordered o es).rise

pub returns-clause-opened : goal.returns-clause-opened
returns-clause-opened c o es = (is-ordered o es).under

pub returns-clause-clients : goal.returns-clause-clients
returns-clause-clients c o es = (is-ordered o es).clients

pub returns-clause-given : goal.returns-clause-given
returns-clause-given c o es = (is-ordered o es).given

pub returns-clause-admins_rising : goal.returns-clause-admins_rising
returns-clause-admins_rising c o es = (is-ordered o es).admins_rise

pub returns-clause-admins_opened : goal.returns-clause-admins_opened
returns-clause-admins_opened c o es = (is-ordered o es).admins_under

pub returns-clause-apart : goal.returns-clause-apart
returns-clause-apart c o es conn m is = no-admin (table_of o es) conn m (is-ordered o es) is
