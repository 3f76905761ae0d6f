use Rattle.std.proofs.Common.{◌≡◌, ◌+◌, ◌++◌, List, length}
use Rattle.tt_lines.specs.Lines.{lines_of}
use Rattle.tt_log.specs.Reader.{IsAt}
use Rattle.tt_log.specs.declared.script.step.Step.{Step}
use Rattle.tt_replay.proofs.Compared.{expected_of}
use Rattle.tt_replay.proofs.expecting.difference.Given as goal

-- the reader stands behind some steps, and what they expect was told
abbrev pub invariant-loop-step : goal.invariant-loop-step
invariant-loop-step l = (steps : List Step) × (IsAt l.reader l.script steps × (lines_of l.report ≡ expected_of steps ++ lines_of l.rest)
    × (l.place ≡ length (expected_of steps) + 1))

abbrev pub decreases-loop-step : goal.decreases-loop-step
decreases-loop-step l = length l.reader.rest
