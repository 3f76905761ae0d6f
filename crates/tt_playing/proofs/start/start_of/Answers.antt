use Rattle.std.proofs.Common.{◌≡◌, ℕ, List, Err, [], ◌∷◌, ◌++◌, sym, ap, ◌∙◌}
use Rattle.std.proofs.lemmas.List.{append-nil}
use Rattle.std.proofs.lemmas.Grind.{flat_map-append}
use Rattle.std.proofs.lemmas.List.Sums.{fold-append}
use Rattle.tt_log.specs.Script.{setup_with, map_in_step, saved_in}
use Rattle.tt_log.specs.declared.script.bad.ScriptBad.TheVariants as reasons
use Rattle.tt_world.specs.Setup.{plain}
use Rattle.tt_world.specs.declared.setup.Setup.{Setup}
use Rattle.tt_playing.proofs.Steps.{script_of}
use Rattle.tt_playing.proofs.start.start_of.Goals as goal

pub loop-step-preserved : goal.loop-step-preserved
loop-step-preserved c =
    let steps = c.loop-step.invariant.0 in
    let kept = c.loop-step.invariant.1 in
    let step = c.in-Ok-Some.step in (
      steps ++ step ∷ [],
      (
        rw c.in-Ok-Some.field-0-is at (c.in-Ok-Some.ensures.step c.args.bytes.now steps kept.0),
        c.in_default.ensures.setup ∙ ap (λ (s : Setup). setup_with s step) kept.1
            ∙ sym (fold-append setup_with plain steps (step ∷ [])),
        c.in_default.ensures.saved ∙ ap (λ (t : List ℕ). t ++ map_in_step step) kept.2 ∙ ap (λ (t : List ℕ). saved_in steps
            ++ t) (sym (append-nil (map_in_step step))) ∙ sym (flat_map-append map_in_step steps (step ∷ [])),
      ),
    )

pub returns-in-Ok-None-clause-found : goal.returns-in-Ok-None-clause-found
returns-in-Ok-None-clause-found c =
    let kept = c.loop-step.invariant.1 in
    let none = rw c.in-Ok-None.field-0-is at c.in-Ok-None.ensures.end in
    script_of _ c.args.bytes.now c.loop-step.invariant.0 c.loop-step.start.setup c.loop-step.start.saved.items kept.0 none.0 kept.1
    kept.2

pub returns-in-Err-clause-bad : goal.returns-in-Err-clause-bad
returns-in-Err-clause-bad c line is =
    let told : c.in-Err.bad ≡ reasons.Line line = cc in
    c.in-Err.ensures.bad c.args.bytes.now c.loop-step.invariant.0 line c.loop-step.invariant.1.0 (ap Err told)
