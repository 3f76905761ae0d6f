use Rattle.std.proofs.Common.{◌≡◌, ℕ, List, Option, Some, Err, ap, subst, ◌∙◌}
use Rattle.tt_lines.specs.Lines.{lines_of}
use Rattle.tt_replay.specs.Expected.{expected_lines, IsDifference}
use Rattle.tt_replay.specs.declared.replay.NoAnswer.TheVariants.{BadLine, Differs}
use Rattle.tt_replay.proofs.replay.check_script.Goals as goal

pub difference-requires : goal.difference-requires
difference-requires c = let run = c.in-Ok.ensures.answer in record { script = (run.0, run.1) }

pub returns-in-Err-clause-bad : goal.returns-in-Err-clause-bad
returns-in-Err-clause-bad c line is =
    let told : c.in-Err.error ≡ BadLine line = cc in
    c.in-Err.ensures.bad line (ap Err told)

pub returns-in-Err-clause-differs : goal.returns-in-Err-clause-differs
returns-in-Err-clause-differs c place is =
    let told : c.in-Err.error ≡ Differs place = cc in
    absurd (c.in-Err.ensures.never place (ap Err told))

pub returns-in-Some-clause-differs : goal.returns-in-Some-clause-differs
returns-in-Some-clause-differs c place is =
    let run = c.in-Ok.ensures.answer in
    let told : c.in-Some.place ≡ place = cc in
    let found : c.in_ok-found.found ≡ Some place = c.in-Some.is ∙ ap Some told in
    let report = c.deref.ensures.value ∙ run.2 in
    let other = subst (λ (f : Option ℕ). IsDifference f (lines_of c.deref.result.now) (expected_lines run.0.lines)) found
    (c.in_ok-found.ensures.found run.0 run.1) in
    (run.0, run.1, subst (λ (xs : List ℕ). IsDifference (Some place) (lines_of xs) (expected_lines run.0.lines)) report other)
