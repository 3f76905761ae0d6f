use Rattle.tt_rows.proofs.AsideComputed.{computed}
use Rattle.tt_rows.proofs.aside.side_by_side_come_to.Goals as goal

pub returns-clause-without_admins : goal.returns-clause-without_admins
returns-clause-without_admins c = computed.0

pub returns-clause-with_admins : goal.returns-clause-with_admins
returns-clause-with_admins c = computed.1

pub returns-clause-same_told : goal.returns-clause-same_told
returns-clause-same_told c = computed.2

pub returns-clause-console_ends_it : goal.returns-clause-console_ends_it
returns-clause-console_ends_it c = computed.3

pub returns-clause-told_at_both_doors : goal.returns-clause-told_at_both_doors
returns-clause-told_at_both_doors c = computed.4

pub returns-clause-by_its_cost : goal.returns-clause-by_its_cost
returns-clause-by_its_cost c = computed.5
