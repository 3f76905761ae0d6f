use Rattle.tt_rows.proofs.EnteringComputed.{computed}
use Rattle.tt_rows.proofs.entering.ways_in_come_to.Goals as goal

pub returns-clause-counts_of_a_game : goal.returns-clause-counts_of_a_game
returns-clause-counts_of_a_game c = computed.0

pub returns-clause-three_want_one_name : goal.returns-clause-three_want_one_name
returns-clause-three_want_one_name c = computed.1

pub returns-clause-an_unnamed_one_has_no_name : goal.returns-clause-an_unnamed_one_has_no_name
returns-clause-an_unnamed_one_has_no_name c = computed.2

pub returns-clause-a_waiting_one_leaves : goal.returns-clause-a_waiting_one_leaves
returns-clause-a_waiting_one_leaves c = computed.3

pub returns-clause-no_number_is_free : goal.returns-clause-no_number_is_free
returns-clause-no_number_is_free c = computed.4

pub returns-clause-both_passwords : goal.returns-clause-both_passwords
returns-clause-both_passwords c = computed.5

pub returns-clause-shut_with_a_code : goal.returns-clause-shut_with_a_code
returns-clause-shut_with_a_code c = computed.6
