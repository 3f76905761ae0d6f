use Rattle.tt_rows.proofs.AdminPollsComputed.{computed}
use Rattle.tt_rows.proofs.admin_polls.admin_polls_come_to.Goals as goal

pub returns-clause-updates_not_allowed : goal.returns-clause-updates_not_allowed
returns-clause-updates_not_allowed c = computed.0

pub returns-clause-all_bits_allowed : goal.returns-clause-all_bits_allowed
returns-clause-all_bits_allowed c = computed.1

pub returns-clause-polls_not_allowed : goal.returns-clause-polls_not_allowed
returns-clause-polls_not_allowed c = computed.2

pub returns-clause-asks_for_the_day : goal.returns-clause-asks_for_the_day
returns-clause-asks_for_the_day c = computed.3

pub returns-clause-asks_for_clients : goal.returns-clause-asks_for_clients
returns-clause-asks_for_clients c = computed.4

pub returns-clause-asks_for_companies : goal.returns-clause-asks_for_companies
returns-clause-asks_for_companies c = computed.5

pub returns-clause-asks_for_money : goal.returns-clause-asks_for_money
returns-clause-asks_for_money c = computed.6

pub returns-clause-asks_for_signs : goal.returns-clause-asks_for_signs
returns-clause-asks_for_signs c = computed.7

pub returns-clause-asks_for_names : goal.returns-clause-asks_for_names
returns-clause-asks_for_names c = computed.8
