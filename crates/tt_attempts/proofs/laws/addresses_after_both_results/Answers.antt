use Rattle.tt_attempts.proofs.StunLaws.{both_ok}
use Rattle.tt_attempts.proofs.laws.addresses_after_both_results.Goals as goal

pub returns : goal.returns
returns c = both_ok
