use Rattle.std.proofs.Common.{◌≡◌, List, length}
use Rattle.tt_log.specs.Reader.{IsAt}
use Rattle.tt_log.specs.Script.{setup_of, saved_in, lines_in}
use Rattle.tt_log.specs.declared.script.step.Step.{Step}
use Rattle.tt_log.proofs.script.parsed.Given as goal

-- the reader stands behind some steps, and they made the setup, the map and the lines
abbrev pub invariant-loop-step : goal.invariant-loop-step
invariant-loop-step l = (steps : List Step) × (IsAt l.reader l.bytes steps × (l.setup ≡ setup_of steps) × (l.saved.items ≡ saved_in steps)
    × (l.lines.items ≡ lines_in steps))

abbrev pub decreases-loop-step : goal.decreases-loop-step
decreases-loop-step l = length l.reader.rest
