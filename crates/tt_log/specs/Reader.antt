-- What a reader of a script stands at.
use Rattle.std.specs.Prelude.{◌≡◌, ℕ, ◌+◌, ◌<◌, ◌≤◌, ◌↔◌, List, ◌++◌, map, length, sum_by}
use Rattle.std.specs.List.{AllByRecursion}
use Rattle.tt_lines.specs.Lines.{lines_of}
use Rattle.tt_log.specs.Settings.{place_of}
use Rattle.tt_log.specs.Lines.{openings_of}
use Rattle.tt_log.specs.Steps.{step_text, opens, step_place}
use Rattle.tt_log.specs.Script.{IsSteps}
use Rattle.tt_log.specs.Standing.{Standing}
use Rattle.tt_log.specs.declared.script.step.Step.{Step}
use Rattle.tt_log.specs.declared.script.step.Step.TheVariants.{Set, Saved, Line}

-- the steps of the first lines of the bytes were read, and the rest is left
pub record IsAt (r : Standing) (bytes : List ℕ) (steps : List Step) : Type 0 where
  pub is : IsSteps steps
  pub text : lines_of bytes ≡ map step_text steps ++ lines_of r.rest
  pub count : r.count ≡ length steps
  pub openings : r.openings ≡ sum_by opens steps
  -- a setting or a map may follow where its place isn't below this one
  pub place : (place : ℕ) → place ≤ 12 → (r.place ≤ place) ↔ AllByRecursion (λ before. step_place before < place) steps

-- what may stand behind so many openings and settings
abbrev pub MayFollow : ℕ → ℕ → Step → Type 0
MayFollow place openings (Set setting) = place ≤ place_of setting
MayFollow place openings (Saved map) = place ≤ 12
MayFollow place openings (Line line) = openings + openings_of line ≤ 65535
