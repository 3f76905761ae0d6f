use Rattle.std.proofs.Common.{refl}
use Rattle.tt_log.proofs.AdminEnds.{own-told, own-ends, others-told, table-left}
use Rattle.tt_log.proofs.laws.a_refused_admin_ends_alone.Goals as goal

pub returns-clause-illegal : goal.returns-clause-illegal
returns-clause-illegal c o a = refl

pub returns-clause-own : goal.returns-clause-own
returns-clause-own c o es e a code is = own-told o es e a code is

pub returns-clause-ended : goal.returns-clause-ended
returns-clause-ended c o es e a code is = own-ends o es e a code is

pub returns-clause-told : goal.returns-clause-told
returns-clause-told c o es e a code other is apart = others-told o es e a code is other apart

pub returns-clause-table : goal.returns-clause-table
returns-clause-table c o es e a code is going = table-left o es e a code is going
