-- The player's file: the words of each line, and which lines are a file.
use Rattle.std.specs.Prelude.{◌≡◌, ℕ, ◌≤◌, List, [], ◌∷◌, map, codes}
use Rattle.std.specs.List.{AllByRecursion}
use Rattle.tt_log.specs.Forms.{Word, word, named, WordFits, parted}
use Rattle.tt_log.specs.Lines.{any}
use Rattle.tt_log.specs.Orders.{order_words, IsOrder}
use Rattle.tt_play_file.specs.declared.line.Act.{Act}
use Rattle.tt_play_file.specs.declared.line.Act.TheVariants.{Print, Quit, Do}
use Rattle.tt_play_file.specs.declared.line.TimedLine.{TimedLine}

-- the words of what is to be done; a command has those that stand behind `do C` in a script
abbrev pub act_words : Act → List Word
act_words Print = named (codes "print") ∷ []
act_words Quit = named (codes "quit") ∷ []
act_words (Do command) = order_words command

-- the words of a line, and its bytes, without its line feed
abbrev pub line_words : TimedLine → List Word
line_words line = named (codes "at") ∷ word any line.at ∷ act_words line.act

abbrev pub line_text : TimedLine → List ℕ
line_text line = parted (line_words line)

-- what a line may hold besides its words: a command that a line can say
abbrev pub Holds : Act → Type 0
Holds Print = Unit {0}
Holds Quit = Unit {0}
Holds (Do command) = IsOrder command

-- a line whose values are in their ranges
abbrev pub IsLine : TimedLine → Type 0
IsLine line = AllByRecursion WordFits (line_words line) × Holds line.act

-- the frames do not fall, from this one on
abbrev pub Rise : ℕ → List TimedLine → Type 0
Rise frame [] = Unit {0}
Rise frame (line ∷ lines) = (frame ≤ line.at) × Rise line.at lines

-- the lines of a file
abbrev pub IsFile : List TimedLine → Type 0
IsFile lines = AllByRecursion IsLine lines × Rise 0 lines

-- the texts of the lines of a file
abbrev pub IsFileText : List (List ℕ) → Type 0
IsFileText texts = (lines : List TimedLine) × IsFile lines × (texts ≡ map line_text lines)
