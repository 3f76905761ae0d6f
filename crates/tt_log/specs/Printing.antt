-- Which scripts are printed, and as what.
use Rattle.std.specs.Prelude.{◌≡◌, ℕ, ◌≤◌, ◌⊎◌, List, [], ◌∷◌, ◌++◌, map, sum_by, filter, not}
use Rattle.std.specs.List.{AllByRecursion, flat_map}
use Rattle.tt_log.specs.Forms.{WordFits, saved, Fits}
use Rattle.tt_log.specs.Settings.{setting_words, settings_of, is_plain}
use Rattle.tt_log.specs.Lines.{IsLine, openings_of}
use Rattle.tt_log.specs.Steps.{step_text}
use Rattle.tt_log.specs.Contents.{Contents}
use Rattle.tt_log.specs.declared.script.setting.Setting.{Setting}
use Rattle.tt_log.specs.declared.script.step.Step.{Step}
use Rattle.tt_log.specs.declared.script.step.Step.TheVariants.{Set, Saved, Line}
use Rattle.tt_world.specs.Setup.{plain}
use Rattle.tt_world.specs.declared.setup.Setup.{Setup}

-- a setting whose value is in its range
abbrev pub IsSetting : Setting → Type 0
IsSetting setting = AllByRecursion WordFits (setting_words setting)

-- a setup of which `set` lines can say all that isn't plain
pub record IsTold (s : Setup) : Type 0 where
  pub settings : AllByRecursion IsSetting (settings_of s)
  pub name : s.name ≡ plain.name
  pub revision : s.revision ≡ plain.revision
  pub id : s.id ≡ plain.id

-- a script of the grammar: each value in its range, the map of a saved game or none, and at most 65,535 openings
pub record IsScript (script : Contents) : Type 0 where
  pub setup : IsTold script.setup
  pub map : (script.saved ≡ []) ⊎ Fits saved script.saved
  pub lines : AllByRecursion IsLine script.lines
  pub openings : sum_by openings_of script.lines ≤ 65535

-- the settings that differ from the plain setup, the map where there is one, and then the lines
abbrev pub told_settings : Setup → List Setting
told_settings s = filter (λ setting. not (is_plain setting)) (settings_of s)

abbrev pub told_map : List ℕ → List Step
told_map [] = []
told_map (b ∷ map) = Saved (b ∷ map) ∷ []

abbrev pub told_steps : Contents → List Step
told_steps script = map Set (told_settings script.setup) ++ told_map script.saved ++ map Line script.lines

-- a line with its line feed
abbrev pub step_line : Step → List ℕ
step_line step = step_text step ++ 10 ∷ []

-- the text of a script
abbrev pub script_text : Contents → List ℕ
script_text script = flat_map step_line (told_steps script)
