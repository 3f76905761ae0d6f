use Rattle.tt_log.proofs.Spelling.{all-read, all-small, all-spelled}
use Rattle.tt_log.proofs.facts.all_is_spelled.Goals as goal

pub returns-clause-spelled : goal.returns-clause-spelled
returns-clause-spelled c o es conn ok are = all-spelled o es conn ok are

pub returns-clause-read : goal.returns-clause-read
returns-clause-read c o es conn ok are = all-read o es conn ok are

pub returns-clause-small : goal.returns-clause-small
returns-clause-small c o es conn ok are = all-small o es conn ok are
