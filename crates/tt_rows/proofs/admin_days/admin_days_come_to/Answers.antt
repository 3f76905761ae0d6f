use Rattle.tt_rows.proofs.AdminDaysComputed.{computed}
use Rattle.tt_rows.proofs.admin_days.admin_days_come_to.Goals as goal

pub returns-clause-each_day : goal.returns-clause-each_day
returns-clause-each_day c = computed.0

pub returns-clause-each_week : goal.returns-clause-each_week
returns-clause-each_week c = computed.1

pub returns-clause-each_month : goal.returns-clause-each_month
returns-clause-each_month c = computed.2

pub returns-clause-each_quarter : goal.returns-clause-each_quarter
returns-clause-each_quarter c = computed.3

pub returns-clause-each_year : goal.returns-clause-each_year
returns-clause-each_year c = computed.4

pub returns-clause-told_once : goal.returns-clause-told_once
returns-clause-told_once c = computed.5

pub returns-clause-types_in_order : goal.returns-clause-types_in_order
returns-clause-types_in_order c = computed.6

pub returns-clause-only_asked : goal.returns-clause-only_asked
returns-clause-only_asked c = computed.7

pub returns-clause-paused_days : goal.returns-clause-paused_days
returns-clause-paused_days c = computed.8

pub returns-clause-a_tick_in_order : goal.returns-clause-a_tick_in_order
returns-clause-a_tick_in_order c = computed.9

pub returns-clause-gone_before_its_day : goal.returns-clause-gone_before_its_day
returns-clause-gone_before_its_day c = computed.10
