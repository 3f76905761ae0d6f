use Rattle.tt_rows.proofs.OrdersComputed.{computed, too_early, too_late, after}
use Rattle.tt_rows.proofs.orders.orders_come_to.Goals as goal

pub returns-clause-accepted_of_one : goal.returns-clause-accepted_of_one
returns-clause-accepted_of_one c = computed.0

pub returns-clause-accepted_of_another : goal.returns-clause-accepted_of_another
returns-clause-accepted_of_another c = computed.1

pub returns-clause-accepted_of_nobody : goal.returns-clause-accepted_of_nobody
returns-clause-accepted_of_nobody c = computed.2

pub returns-clause-none_ordered : goal.returns-clause-none_ordered
returns-clause-none_ordered c = computed.3

pub returns-clause-ordered : goal.returns-clause-ordered
returns-clause-ordered c = computed.4

pub returns-clause-history : goal.returns-clause-history
returns-clause-history c = computed.5

pub returns-clause-too_early : goal.returns-clause-too_early
returns-clause-too_early c = too_early

pub returns-clause-too_late : goal.returns-clause-too_late
returns-clause-too_late c = too_late

pub returns-clause-after_the_end : goal.returns-clause-after_the_end
returns-clause-after_the_end c = after
