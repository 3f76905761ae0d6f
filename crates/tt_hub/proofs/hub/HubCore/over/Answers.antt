use Rattle.std.proofs.Common.{ap, ◌∙◌}
use Rattle.tt_hub.specs.Hub.{HubState, is_over, made_of}
use Rattle.tt_hub.proofs.hub.HubCore.over.Goals as goal

pub returns : goal.returns
returns c = c.over.ensures.over ∙ ap (λ (h : HubState). is_over (made_of h) h.events) c.self.view_is
