use Rattle.std.proofs.Common.{◌≡◌}
use Rattle.std.specs.Prelude.{drop}
use Rattle.tt_table.specs.Telling.{tells_word}
use Rattle.tt_table.proofs.staging.any_word.Given as goal

-- none of those before tells it
abbrev pub invariant-loop-step : goal.invariant-loop-step
invariant-loop-step l = tells_word (drop l.step-index l.steps) ≡ tells_word l.steps
