use Rattle.std.proofs.Common.{ap, ◌∙◌}
use Rattle.tt_hub.specs.Hub.{HubState, is_live, made_of}
use Rattle.tt_hub.proofs.hub.Hub.live.Goals as goal

pub returns : goal.returns
returns c = record { live = c.live.ensures.live ∙ ap (λ (h : HubState). is_live (made_of h) h.events c.args.conn) c.self.view_is }
