use Rattle.tt_rows.proofs.AdminWeekComputed.{computed}
use Rattle.tt_rows.proofs.admin_week.admin_week_come_to.Goals as goal

pub returns-clause-news_of_a_week : goal.returns-clause-news_of_a_week
returns-clause-news_of_a_week c = computed.0

pub returns-clause-day : goal.returns-clause-day
returns-clause-day c = computed.1
