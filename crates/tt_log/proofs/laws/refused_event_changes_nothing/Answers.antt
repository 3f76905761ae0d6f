use Rattle.std.proofs.Common.{List, ap}
use Rattle.std.specs.Prelude.{flat_map}
use Rattle.tt_log.specs.Deed.{Said, spelled}
use Rattle.tt_log.proofs.Refusing.{not-taken, table-stays, heard-stays}
use Rattle.tt_log.proofs.laws.refused_event_changes_nothing.Goals as goal

pub returns-clause-does_nothing : goal.returns-clause-does_nothing
returns-clause-does_nothing c o t e is = not-taken o t e is

pub returns-clause-table : goal.returns-clause-table
returns-clause-table c o es e is = table-stays o es e is

pub returns-clause-told : goal.returns-clause-told
returns-clause-told c o es e conn is = heard-stays o es e conn is

pub returns-clause-sent : goal.returns-clause-sent
returns-clause-sent c o es e conn is = ap (λ (said : List Said). flat_map spelled said) (heard-stays o es e conn is)
