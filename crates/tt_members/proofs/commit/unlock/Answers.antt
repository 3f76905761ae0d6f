use Rattle.std.proofs.Common.{rules}
use Rattle.std.proofs.lemmas.Fn.{filter_same}
use Rattle.tt_members.proofs.commit.unlock.Goals as goal

pub returns-clause-digests : goal.returns-clause-digests
returns-clause-digests c = filter_same _ _ _ (λ x b f' k. search rules) _ _ c.retain.ensures.filtered
