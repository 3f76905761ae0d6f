use Rattle.std.proofs.Common.{◌≡◌, ◌∙◌, ◌+◌, ◌++◌, List, ◌∷◌, ap, drop, sym, append_assoc}
use Rattle.std.proofs.lemmas.List.{drop_more}
use Rattle.tt_log.specs.Tellings.{filled}
use Rattle.tt_members.specs.declared.step.Step.{Step}
use Rattle.tt_members.specs.Steps.{steps_in}
use Rattle.tt_outgoing.specs.Staging.{packets_of}
use Rattle.tt_outgoing.proofs.Packets.{left_next}
use Rattle.tt_outgoing.proofs.staged.Staged.stage_all.Goals as goal

pub loop-step-preserved : goal.loop-step-preserved
loop-step-preserved c =
    let l = c.loop-step in
    let steps = c.args.steps.now in
    let admins = c.args.admins.now in
    let now = c.args.self.now in
    let step : Step = c.step-item.result in
    let more : List Step = drop (l.step-index + 1) steps in
    let first : drop l.step-index steps ≡ step ∷ more =
    drop_more steps l.step-index step c.loop-step-test.true ∙ ap (λ (x : Step). x ∷ more) (sym c.step-item.is) in
    let kept = l.invariant.kept in
    let grown = c.stage.ensures.kept in
    record {
      left = λ o f at. left_next o f c.args.from.now admins (now ++ packets_of (filled o f (steps_in admins steps))) l.self c.stage.new.self
          (drop l.step-index steps) more step first (l.invariant.left o f at) (c.in_ok-stage.ensures.staged o f);
      kept = (kept.0 ++ grown.0, grown.1 ∙ ap (λ r. r ++ grown.0) kept.1 ∙ append_assoc now kept.0 grown.0);
    }
