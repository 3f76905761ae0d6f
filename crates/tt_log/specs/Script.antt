-- What a script is, and which bytes spell one.
use Rattle.std.specs.Prelude.{◌≡◌, ℕ, ◌≤◌, List, [], ◌∷◌, map, fold, sum_by}
use Rattle.std.specs.List.{AllByRecursion, flat_map}
use Rattle.tt_log.specs.Settings.{with_setting}
use Rattle.tt_log.specs.Steps.{step_text, IsStep, opens, Precedes}
use Rattle.tt_log.specs.Contents.{Contents}
use Rattle.tt_log.specs.declared.script.line.Line1.{Line1}
use Rattle.tt_log.specs.declared.script.step.Step.{Step}
use Rattle.tt_log.specs.declared.script.step.Step.TheVariants.{Set, Saved, Line}
use Rattle.tt_world.specs.Setup.{plain}
use Rattle.tt_world.specs.declared.setup.Setup.{Setup}

-- before each step stands only what may
abbrev pub InOrder : List Step → Type 0
InOrder [] = Unit {0}
InOrder (step ∷ steps) = AllByRecursion (Precedes step) steps × InOrder steps

-- the steps of a script: each value in its range, the settings first and in order, the map behind them, and at most 65,535
-- openings
pub record IsSteps (steps : List Step) : Type 0 where
  pub each : AllByRecursion IsStep steps
  pub order : InOrder steps
  pub openings : sum_by opens steps ≤ 65535

-- a setup behind one more step
abbrev pub setup_with : Setup → Step → Setup
setup_with s (Set setting) = with_setting s setting
setup_with s (Saved map) = s
setup_with s (Line line) = s

-- the setup that the settings make
abbrev pub setup_of : List Step → Setup
setup_of steps = fold setup_with plain steps

-- the map's bytes, where the step is one
abbrev pub map_in_step : Step → List ℕ
map_in_step (Set setting) = []
map_in_step (Saved map) = map
map_in_step (Line line) = []

-- the bytes of the map that the game starts from; a script has at most one
abbrev pub saved_in : List Step → List ℕ
saved_in steps = flat_map map_in_step steps

-- the line, where the step is one
abbrev pub line_in : Step → List Line1
line_in (Set setting) = []
line_in (Saved map) = []
line_in (Line line) = line ∷ []

-- the lines behind the settings
abbrev pub lines_in : List Step → List Line1
lines_in steps = flat_map line_in steps

-- the script of such steps
abbrev pub contents_of : List Step → Contents
contents_of steps = record { setup = setup_of steps; saved = saved_in steps; lines = lines_in steps }

-- the lines of an input spell the script: they are those of its steps
pub record Spells (script : Contents) (texts : List (List ℕ)) : Type 0 where
  pub steps : List Step
  pub is : IsSteps steps
  pub text : texts ≡ map step_text steps
  pub makes : script ≡ contents_of steps

-- the lines of some script
abbrev pub IsScriptText : List (List ℕ) → Type 0
IsScriptText texts = (script : Contents) × Spells script texts
