-- What a script expects of its report.
use Rattle.std.specs.Prelude.{◌≡◌, ◌≢◌, ℕ, ◌-◌, ◌≤◌, List, [], ◌∷◌, take, Option, None, Some}
use Rattle.std.specs.List.{flat_map}
use Rattle.tt_log.specs.declared.script.line.Line1.{Line1}
use Rattle.tt_log.specs.declared.script.line.Line1.TheVariants.{Expect}
use Rattle.tt_log.specs.declared.script.step.Step.{Step}
use Rattle.tt_log.specs.declared.script.step.Step.TheVariants.{Set, Saved, Line}

-- the line of the report that a line of a script expects, if it expects one
abbrev pub expected_by : Line1 → List (List ℕ)
expected_by (Expect line) = line ∷ []
expected_by line = []

-- a setting and a map expect none
abbrev pub expected_in : Step → List (List ℕ)
expected_in (Set setting) = []
expected_in (Saved map) = []
expected_in (Line line) = expected_by line

-- the lines that a script expects, in order
abbrev pub expected_lines : List Line1 → List (List ℕ)
expected_lines lines = flat_map expected_by lines

-- the first place, from 1, where two lists differ, the end of each counted: before it they are the same, and with it no more
pub record DifferAt (place : ℕ) (told expected : List (List ℕ)) : Type 0 where
  pub some : 1 ≤ place
  pub before : take (place - 1) told ≡ take (place - 1) expected
  pub differ : take place told ≢ take place expected

-- where two lists differ first, if they do
abbrev pub IsDifference : Option ℕ → List (List ℕ) → List (List ℕ) → Type 0
IsDifference None told expected = told ≡ expected
IsDifference (Some place) told expected = DifferAt place told expected
