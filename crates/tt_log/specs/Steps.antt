-- What the lines of a script are: settings, the map that the game starts from, and the lines behind them.
use Rattle.std.specs.Prelude.{ℕ, ◌<◌, List, [], ◌∷◌, codes}
use Rattle.std.specs.List.{AllByRecursion}
use Rattle.tt_log.specs.Forms.{Word, named, word, saved, WordFits, parted}
use Rattle.tt_log.specs.Settings.{setting_words, place_of}
use Rattle.tt_log.specs.Lines.{line_words, IsLine, openings_of}
use Rattle.tt_log.specs.declared.script.step.Step.{Step}
use Rattle.tt_log.specs.declared.script.step.Step.TheVariants.{Set, Saved, Line}

abbrev pub step_words : Step → List Word
step_words (Set setting) = named (codes "set") ∷ setting_words setting
step_words (Saved map) = named (codes "set") ∷ named (codes "map") ∷ word saved map ∷ []
step_words (Line line) = line_words line

-- a line's bytes, without its line feed
abbrev pub step_text : Step → List ℕ
step_text step = parted (step_words step)

-- each value in its range
abbrev pub IsStep : Step → Type 0
IsStep (Set setting) = AllByRecursion WordFits (setting_words setting)
IsStep (Saved map) = AllByRecursion WordFits (step_words (Saved map))
IsStep (Line line) = IsLine line

-- how many connections it opens
abbrev pub opens : Step → ℕ
opens (Set setting) = 0
opens (Saved map) = 0
opens (Line line) = openings_of line

-- the places of the settings are 0 to 11, and behind them are the map's and a line's
abbrev pub step_place : Step → ℕ
step_place (Set setting) = place_of setting
step_place (Saved map) = 12
step_place (Line line) = 13

-- what may stand before a step: before a setting, settings of earlier places alone, and before the map settings alone
abbrev pub Precedes : Step → Step → Type 0
Precedes before (Set setting) = step_place before < place_of setting
Precedes before (Saved map) = step_place before < 12
Precedes before (Line line) = Unit {0}
