use Rattle.std.proofs.Common.{rules}
use Rattle.std.proofs.lemmas.Fn.{filter_same}
use Rattle.tt_members.proofs.commit.drop_founders.Goals as goal

pub returns : goal.returns
returns c = record { founders = filter_same _ _ _ (λ x b f' k. search rules) _ _ c.retain.ensures.filtered }
