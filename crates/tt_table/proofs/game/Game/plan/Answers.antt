use Rattle.std.proofs.Common.{ap, ◌∙◌}
use Rattle.tt_edge.specs.declared.event.Door.{Door}
use Rattle.tt_edge.specs.declared.event.Door.TheVariants.{Main, Side}
use Rattle.tt_edge.specs.declared.event.Event.TheVariants.{Open}
use Rattle.tt_table.proofs.Oks.{ok_then}
use Rattle.tt_table.proofs.Reserved.{same_change}
use Rattle.tt_table.proofs.game.Game.plan.Goals as goal

pub returns-in-Open-Main-default-clause-change : goal.returns-in-Open-Main-default-clause-change
returns-in-Open-Main-default-clause-change c =
    let g = c.args.self.now in
    let arm = c.in-Open-Main-default in
    let door = rw arm.is at arm.door-is in
    ok_then c.plan_opening.result _ _ c.plan_opening.ensures.change (λ x change.
    same_change g c.make_room.new.self (Open Main arm.peer) c.args.event.now x c.in_ok-make_room.ensures.origin
    c.in_ok-make_room.ensures.events (arm.is ∙ ap (λ (d : Door). Open d arm.peer) door) (change arm.peer))

pub returns-in-Open-Side-default-clause-change : goal.returns-in-Open-Side-default-clause-change
returns-in-Open-Side-default-clause-change c =
    let g = c.args.self.now in
    let arm = c.in-Open-Side-default in
    let door = rw arm.is at arm.door-is in
    ok_then c.plan_side_opening.result _ _ c.plan_side_opening.ensures.change (λ x change.
    same_change g c.make_room.new.self (Open Side arm.peer) c.args.event.now x c.in_ok-make_room.ensures.origin
    c.in_ok-make_room.ensures.events (arm.is ∙ ap (λ (d : Door). Open d arm.peer) door) (change arm.peer))
