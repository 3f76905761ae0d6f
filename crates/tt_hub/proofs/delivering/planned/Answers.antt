use Rattle.std.proofs.Common.{◌++◌, List, ap, ap₂, ◌∙◌}
use Rattle.tt_edge.specs.declared.event.Event.{Event}
use Rattle.tt_log.specs.Events.{by_event}
use Rattle.tt_log.specs.History.{table_of}
use Rattle.tt_log.specs.Origin.{Origin}
use Rattle.tt_log.specs.Tellings.{tellings}
use Rattle.tt_outgoing.specs.Staging.{Packet, packets_of}
use Rattle.tt_hub.proofs.delivering.planned.Goals as goal

pub returns-clause-staged : goal.returns-clause-staged
returns-clause-staged c =
    let e = c.args.event.now in
    let packets : Origin → List Event → List Packet =
    λ o es. packets_of (tellings o (table_of o es) (by_event o e (table_of o es))) in
    c.in_ok-stage.ensures.staged
    ∙ ap (λ (l : List Packet). l ++ packets c.plan.new.self.origin c.plan.new.self.events) c.clear.ensures.none
    ∙ ap₂ packets c.plan.ensures.origin c.plan.ensures.events
