use Rattle.std.proofs.Common.{ap}
use Rattle.tt_members.specs.Crew.{Crew}
use Rattle.tt_table.specs.Held.{table}
use Rattle.tt_table.proofs.Playing.{can_be_planned, is_time, planned_here, seen}
use Rattle.tt_table.proofs.game.Game.plan_members.Goals as goal

pub plan-requires : goal.plan-requires
plan-requires c =
    let g = c.args.self.now in
    let s = (seen _ _ _ _ _ _ c.self.invariant.0 c.self.view_is) in
    record {
      taken = can_be_planned g.origin g.events c.self.inside.members.crew.members c.now-now.result c.args.input s.game.fits
          (ap (λ (x : Crew). x.members) (s.game.held.alive c.requires.going).crew) c.now-now.ensures.frame c.now-now.ensures.top
          c.requires.comes;
    }

pub returns-clause-tied : goal.returns-clause-tied
returns-clause-tied c =
    let g = c.args.self.now in
    let s = (seen _ _ _ _ _ _ c.self.invariant.0 c.self.view_is) in
    let now = c.now-now.result in
    c.a_plan_is_its_rule.ensures.tied g.origin (table g) now c.args.input c.in_ok-plan.plan
    (is_time g.origin g.events now c.args.input c.now-now.ensures.frame c.now-now.ensures.top c.now-now.ensures.live c.now-now.ensures.many
    c.now-now.ensures.left c.requires.comes)
    (planned_here g _ now c.args.input c.in_ok-plan.plan s c.requires.going c.in_ok-plan.ensures.plans)
