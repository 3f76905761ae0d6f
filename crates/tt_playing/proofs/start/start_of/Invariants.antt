use Rattle.std.proofs.Common.{◌≡◌, List, length}
use Rattle.tt_log.specs.Reader.{IsAt}
use Rattle.tt_log.specs.Script.{setup_of, saved_in}
use Rattle.tt_log.specs.declared.script.step.Step.{Step}
use Rattle.tt_playing.proofs.start.start_of.Given as goal

-- the reader stands behind some steps, and the start is what they say
abbrev pub invariant-loop-step : goal.invariant-loop-step
invariant-loop-step l = (steps : List Step) × (IsAt l.reader l.bytes steps × (l.start.setup ≡ setup_of steps)
    × (l.start.saved.items ≡ saved_in steps))

abbrev pub decreases-loop-step : goal.decreases-loop-step
decreases-loop-step l = length l.reader.rest
