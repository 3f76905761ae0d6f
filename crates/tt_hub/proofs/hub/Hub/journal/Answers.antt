use Rattle.std.proofs.Common.{ap, ◌∙◌}
use Rattle.tt_log.specs.History.{table_of}
use Rattle.tt_hub.specs.Hub.{HubState, origin}
use Rattle.tt_hub.proofs.hub.Hub.journal.Goals as goal

pub returns : goal.returns
returns c = record { journal = c.journal.ensures.journal ∙ ap (λ (h : HubState). (table_of (origin h) h.events).journal) c.self.view_is }
