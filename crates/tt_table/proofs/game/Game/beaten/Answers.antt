use Rattle.std.proofs.Common.{◌≡◌, ◌+◌, ◌<◌, ◌++◌, ◌∙◌, List, Some, ap, arith}
use Rattle.std.specs.Prelude.{◌^◌, drop}
use Rattle.std.proofs.lemmas.List.{take_rest}
use Rattle.std.proofs.lemmas.Result.{IfOk-weaker}
use Rattle.tt_world.specs.declared.command.Entry.{Entry}
use Rattle.tt_world.specs.World.{WorldState}
use Rattle.tt_edge.specs.declared.event.Event.TheVariants.{Tick}
use Rattle.tt_log.specs.Origin.{at_frame}
use Rattle.tt_members.specs.declared.step.Step.{Step}
use Rattle.tt_members.specs.Steps.{stamped_in}
use Rattle.tt_table.specs.declared.change.Change.{Change}
use Rattle.tt_table.specs.Does.{IsChange}
use Rattle.tt_table.specs.Frames.{ran}
use Rattle.tt_table.specs.Held.{Played, table}
use Rattle.tt_table.specs.Ticking.{IsTick}
use Rattle.tt_table.proofs.Beaten.{beat_is, next_frame}
use Rattle.tt_table.proofs.Playing.{seen}
use Rattle.tt_table.proofs.game.Game.beaten.Goals as goal

pub overflow_add-frame : goal.overflow_add-frame
overflow_add-frame c =
    let low : c.self.inside.frame + 1 < 2 ^ 32 = next_frame _ _ _ (seen _ _ _ _ _ _ c.self.invariant.0 c.self.view_is).game in
    omega (arith, low)

pub returns-clause-change : goal.returns-clause-change
returns-clause-change c =
    let g : Played = c.args.self.now in
    let h = c.self.inside in
    let due : List Entry = c.in_ok-due.due.items in
    let after : WorldState = ran g.origin h.world due in
    IfOk-weaker c.ticked.result (λ (x : Change). IsTick h.setup.init (h.frame + 1) h.desk h.world after c.args.plan due x)
    (λ (x : Change). IsChange g.origin Tick (table g) x)
    (λ x is. beat_is g.origin g.events _ h.setup.init c.args.plan _ due x
    (seen _ _ _ _ _ _ c.self.invariant.0 c.self.view_is).game c.a_tick_ends_with_admins.ensures.tick c.all_else_stays.ensures.outside
    (ap (λ (y : Played). y.origin.setup.init) c.self.view_is) (take_rest c.as_slice.result.now h.carried
    ∙ ap (λ (es : List Entry). drop h.carried es) c.as_slice.ensures.value)
    (λ o journal past rise rest next. c.in_ok-due.ensures.due o journal past rise rest next
    ∙ ap (λ (steps : List Step). at_frame o (h.frame + 1) (journal ++ stamped_in steps)) c.steps.ensures.steps) is c.requires.taken
    c.requires.tied)
    (c.ticked.ensures.tick g.origin)

pub returns-clause-plan : goal.returns-clause-plan
returns-clause-plan c =
    let g : Played = c.args.self.now in
    let h = c.self.inside in
    let due : List Entry = c.in_ok-due.due.items in
    let after : WorldState = ran g.origin h.world due in
    IfOk-weaker c.ticked.result (λ (x : Change). IsTick h.setup.init (h.frame + 1) h.desk h.world after c.args.plan due x)
    (λ (x : Change). x.plan ≡ Some c.args.plan) (λ x is. is.plan) (c.ticked.ensures.tick g.origin)
