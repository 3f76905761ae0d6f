use Rattle.std.proofs.Common.{rules}
use Rattle.std.proofs.lemmas.Fn.{filter_same}
use Rattle.tt_admin_desk.proofs.desk.Desk.close.Goals as goal

pub returns : goal.returns
returns c = record { closed = λ t. rw (← c.self.view_is) (filter_same _ _ _ (λ x b f' k. search rules) _ _ c.retain.ensures.filtered) }
