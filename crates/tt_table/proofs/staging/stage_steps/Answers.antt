use Rattle.std.proofs.Common.{◌++◌, List, subst}
use Rattle.tt_members.specs.declared.step.Step.{Step}
use Rattle.tt_outgoing.proofs.Packets.{on_ok}
use Rattle.tt_table.specs.Change.{steps_by}
use Rattle.tt_table.proofs.StageFacts.{stage-told}
use Rattle.tt_table.proofs.Stagings.{Adds, adds-both}
use Rattle.tt_table.proofs.staging.stage_steps.Goals as goal

pub returns : goal.returns
returns c =
    let change = c.args.change.now in
    let s = c.args.from.now in
    let admins = c.args.admins.now in
    let old = c.args.staged.now in
    let one = c.stage_all.new.self in
    let two = c.stage_plan.new.staged in
    let new = c.stage_all-2.new.self in
    record {
      told = on_ok c.stage_all-2.result (λ last o es e h taken game is are same.
          stage-told o es e change h s admins old new taken game is are same
          (λ f. adds-both o f s admins change.first (steps_by change.plan ++ change.last) old one new
          (subst (λ (xs : List Step). Adds o f s admins xs old one) c.list.ensures.steps (c.in_ok-stage_all.ensures.staged o f))
          (adds-both o f s admins (steps_by change.plan) change.last one two new (c.in_ok-stage_plan.ensures.staged o f)
          (subst (λ (xs : List Step). Adds o f s admins xs two new) c.list-2.ensures.steps (last o f)))))
          c.stage_all-2.ensures.staged;
    }
