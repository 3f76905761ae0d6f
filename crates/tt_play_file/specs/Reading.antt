-- How a line of the player's file is read, word by word: its value, or nothing where it is none.
use Rattle.std.specs.Prelude.{ℕ, List, codes, if◌then◌else◌, Option, Some, None, ◌∷◌}
use Rattle.std.specs.Str.{bytes_eq}
use Rattle.tt_log.specs.Rows.{◌>>=◌, word_at, number_at, row_at, pick, ended_at}
use Rattle.tt_log.specs.Reading.{orders}
use Rattle.tt_log.specs.declared.script.line.Line1.{Line1}
use Rattle.tt_log.specs.declared.script.line.Line1.TheVariants.{Do as DoLine}
use Rattle.tt_log.specs.declared.script.step.Step.{Step}
use Rattle.tt_log.specs.declared.script.step.Step.TheVariants.{Line}
use Rattle.tt_play_file.specs.declared.line.Act.TheVariants.{Print, Quit, Do}
use Rattle.tt_play_file.specs.declared.line.TimedLine.{TimedLine}

-- what a script would say to the client of that number, at the frame of that number
abbrev pub timed_line : Line1 → Option TimedLine
timed_line (DoLine at command) = Some (record { at = at; act = Do command })
timed_line other = None

abbrev pub timed : Step → Option TimedLine
timed (Line line) = timed_line line
timed other = None

-- the line of that frame that goes on with that word, and what is left behind it
abbrev pub act_at : ℕ → List ℕ → List ℕ → Option TimedLine
act_at at word left =
    if bytes_eq word (codes "print") then ended_at (record { at = at; act = Print }) left else
    (if bytes_eq word (codes "quit") then ended_at (record { at = at; act = Quit }) left else
    (row_at (pick (orders at) word) left >>= λ step. timed step))

-- what stands behind the word `at`
abbrev pub behind_at : List ℕ → Option TimedLine
behind_at left = number_at 0 4294967295 left >>= λ n. word_at n.1 >>= λ w. act_at n.0 w.0 w.1

-- what a line without its line feed gives
abbrev pub line_at : List ℕ → Option TimedLine
line_at text = word_at (32 ∷ text) >>= λ w. if bytes_eq w.0 (codes "at") then behind_at w.1 else None
