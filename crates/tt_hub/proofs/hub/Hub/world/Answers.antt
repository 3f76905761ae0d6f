use Rattle.std.proofs.Common.{ap, ◌∙◌}
use Rattle.tt_log.specs.History.{table_of}
use Rattle.tt_log.specs.Table.{world_of}
use Rattle.tt_hub.specs.Hub.{HubState, origin}
use Rattle.tt_hub.proofs.hub.Hub.world.Goals as goal

pub returns : goal.returns
returns c = record {
  world = c.world.ensures.world ∙ ap (λ (h : HubState). world_of (origin h) (table_of (origin h) h.events)) c.self.view_is;
}
