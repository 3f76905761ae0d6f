use Rattle.std.proofs.Common.{◌≡◌, Err, ℕ, List, [], ◌∷◌, ◌++◌, sym, ap, ◌∙◌}
use Rattle.std.proofs.lemmas.List.{append-nil}
use Rattle.std.proofs.lemmas.List.Sums.{fold-append}
use Rattle.std.proofs.lemmas.Grind.{flat_map-append}
use Rattle.tt_log.specs.Script.{setup_with, map_in_step, saved_in, line_in, lines_in}
use Rattle.tt_log.specs.declared.script.line.Line1.{Line1}
use Rattle.tt_world.specs.Setup.{plain}
use Rattle.tt_world.specs.declared.setup.Setup.{Setup}
use Rattle.tt_log.specs.declared.script.bad.ScriptBad.TheVariants.{Line as BadLine}
use Rattle.tt_log.proofs.script.parsed.Goals as goal

pub loop-step-preserved : goal.loop-step-preserved
loop-step-preserved c =
    let steps = c.loop-step.invariant.0 in
    let kept = c.loop-step.invariant.1 in
    let step = c.in-Ok-Some.step in
    let at = rw c.in-Ok-Some.field-0-is at (c.in-Ok-Some.ensures.step c.args.bytes.now steps kept.0) in (
      steps ++ step ∷ [],
      (
        at,
        c.in_default.ensures.setup ∙ ap (λ (s : Setup). setup_with s step) kept.1 ∙ sym (fold-append setup_with plain steps (step ∷ [])),
        c.in_default.ensures.saved ∙ ap (λ (t : List ℕ). t ++ map_in_step step) kept.2 ∙ ap (λ (t : List ℕ). saved_in steps
            ++ t) (sym (append-nil (map_in_step step))) ∙ sym (flat_map-append map_in_step steps (step ∷ [])),
        c.in_default.ensures.lines ∙ ap (λ (t : List Line1). t ++ line_in step) kept.3 ∙ ap (λ (t : List Line1). lines_in steps
            ++ t) (sym (append-nil (line_in step))) ∙ sym (flat_map-append line_in steps (step ∷ [])),
      ),
    )

pub returns-in-Err-clause-first : goal.returns-in-Err-clause-first
returns-in-Err-clause-first c l is =
    let told : c.in-Err.bad ≡ BadLine l = cc in
    c.in-Err.ensures.bad c.args.bytes.now c.loop-step.invariant.0 l c.loop-step.invariant.1.0 (ap Err told)
