use Rattle.tt_attempts.proofs.AdvanceLaws.{way_because, end_because, next_at_once, gone_at_once}
use Rattle.tt_attempts.proofs.laws.next_only_after_failure.Goals as goal

pub returns-clause-way : goal.returns-clause-way
returns-clause-way c = way_because

pub returns-clause-end : goal.returns-clause-end
returns-clause-end c = end_because

pub returns-clause-at_once : goal.returns-clause-at_once
returns-clause-at_once c = next_at_once

pub returns-clause-gone : goal.returns-clause-gone
returns-clause-gone c = gone_at_once
