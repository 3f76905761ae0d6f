use Rattle.std.proofs.Common.{Err, [], ◌∷◌, ◌++◌, ap}
use Rattle.tt_lines.specs.Lines.{lines_of}
use Rattle.tt_replay.proofs.Compared.{compared, place_behind, another, ended, never_bad}
use Rattle.tt_replay.proofs.expecting.difference.Goals as goal

pub loop-step-preserved : goal.loop-step-preserved
loop-step-preserved c =
    let steps = c.loop-step.invariant.0 in
    let kept = c.loop-step.invariant.1 in
    let step = c.in-Ok-Some.step in (
      steps ++ step ∷ [],
      (
        rw c.in-Ok-Some.field-0-is at (c.in-Ok-Some.ensures.step c.args.script.now steps kept.0),
        compared steps step _ _ _ kept.1 c.in-Some.ensures.some,
        place_behind steps step c.loop-step.place c.expected_in-more.result c.in_ok-place-in-Ok-Some.place kept.2
            c.expected_in-more.ensures.count c.in_ok-place-in-Ok-Some.ensures.next,
      ),
    )

pub returns-in_default : goal.returns-in_default
returns-in_default c =
    let steps = c.loop-step.invariant.0 in
    let kept = c.loop-step.invariant.1 in
    let step = c.in-Ok-Some.step in
    let at = rw c.in-Ok-Some.field-0-is at (c.in-Ok-Some.ensures.step c.args.script.now steps kept.0) in
    let other = c.in_default.ensures.none in
    record {
      found = λ spelled spells. another spelled _ c.args.script.now other.0 steps step _ _ c.loop-step.place spells at kept.1 kept.2
          other.1 other.2;
    }

pub returns-in-Ok-None : goal.returns-in-Ok-None
returns-in-Ok-None c =
    let steps = c.loop-step.invariant.0 in
    let kept = c.loop-step.invariant.1 in
    let none = rw c.in-Ok-None.field-0-is at c.in-Ok-None.ensures.end in
    record {
      found = λ spelled spells. ended spelled _ c.args.script.now c.loop-step.rest.now steps _ c.loop-step.place c.left_at.result
          spells kept.0 none.0 kept.1 kept.2 c.left_at.ensures.none c.left_at.ensures.some;
    }

pub unreachable-requires : goal.unreachable-requires
unreachable-requires c =
    let kept = c.loop-step.invariant.1 in
    let line = c.in-Err-Line.field-0-0 in
    never_bad (lines_of c.args.script.now) line c.requires.script (c.in-Err-Line.ensures.bad c.args.script.now c.loop-step.invariant.0 line
    kept.0 (ap Err c.in-Err-Line.field-0-is))
