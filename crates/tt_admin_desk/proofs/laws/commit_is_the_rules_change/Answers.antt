use Rattle.tt_admin_desk.proofs.HearingLaws.{stays-kept}
use Rattle.tt_admin_desk.proofs.laws.commit_is_the_rules_change.Goals as goal

pub returns-clause-stays : goal.returns-clause-stays
returns-clause-stays c = stays-kept
