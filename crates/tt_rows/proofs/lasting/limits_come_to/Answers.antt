use Rattle.tt_rows.proofs.LastingComputed.{computed}
use Rattle.tt_rows.proofs.lasting.limits_come_to.Goals as goal

pub returns-clause-acknowledged_twice : goal.returns-clause-acknowledged_twice
returns-clause-acknowledged_twice c = computed.0

pub returns-clause-company_password_in_time : goal.returns-clause-company_password_in_time
returns-clause-company_password_in_time c = computed.1

pub returns-clause-catches_up_in_time : goal.returns-clause-catches_up_in_time
returns-clause-catches_up_in_time c = computed.2

pub returns-clause-acknowledging_is_no_joining : goal.returns-clause-acknowledging_is_no_joining
returns-clause-acknowledging_is_no_joining c = computed.3

pub returns-clause-ticks_cost_nothing : goal.returns-clause-ticks_cost_nothing
returns-clause-ticks_cost_nothing c = computed.4
