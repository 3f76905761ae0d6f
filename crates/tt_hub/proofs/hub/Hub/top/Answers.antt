use Rattle.std.proofs.Common.{ap, ◌∙◌}
use Rattle.tt_log.specs.History.{table_of}
use Rattle.tt_hub.specs.Hub.{HubState, origin}
use Rattle.tt_hub.proofs.hub.Hub.top.Goals as goal

pub returns : goal.returns
returns c = record { top = c.top.ensures.top ∙ ap (λ (h : HubState). (table_of (origin h) h.events).top) c.self.view_is }
