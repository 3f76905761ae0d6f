use Rattle.tt_rows.proofs.SavedComputed.{computed}
use Rattle.tt_rows.proofs.saved.saved_games_come_to.Goals as goal

pub returns-clause-goes_on : goal.returns-clause-goes_on
returns-clause-goes_on c = computed.0

pub returns-clause-world : goal.returns-clause-world
returns-clause-world c = computed.1

pub returns-clause-told_the_start : goal.returns-clause-told_the_start
returns-clause-told_the_start c = computed.2
