-- What the statuses of the replay program mean.
use Rattle.std.specs.Prelude.{◌≡◌, ◌⊎◌, ◌≤◌, ℕ, List, [], ◌∷◌, ◌++◌, length, codes, Option, Some, None, Bool, true, false}
use Rattle.std.specs.Str.{bytes_eq}
use Rattle.std.specs.Fmt.{decimal}
use Rattle.std.specs.Io.KnownBytes.{Appends}
use Rattle.tt_lines.specs.Lines.{lines_of, IsFirstBad}
use Rattle.tt_edge.specs.Sink.{AppendsPart}
use Rattle.tt_show.specs.ListLines.{ListLine}
use Rattle.tt_show.specs.Lists as lists
use Rattle.tt_show.specs.Lists.{IsList, list_shown}
use Rattle.tt_replay.specs.declared.form.Form.{Form}
use Rattle.tt_replay.specs.declared.form.Form.TheVariants.{Run, Check, Show}
use Rattle.tt_log.specs.Contents.{Contents}
use Rattle.tt_log.specs.Script.{Spells, IsScriptText}
use Rattle.tt_replay.specs.Report.{report}
use Rattle.tt_replay.specs.Expected.{expected_lines, DifferAt}

-- ---- the words

-- a form, where the test holds, and else what is found later
abbrev pub form_or : Bool → Form → Option Form → Option Form
form_or true form later = Some form
form_or false form later = later

-- What the words ask for: the one word `run` asks for the report of a script, the one word `check` whether the report is
-- as the script expects it, the one word `show` for the text of packets.
abbrev pub form_of : List (List ℕ) → Option Form
form_of [] = None
form_of (word ∷ []) =
    form_or (bytes_eq word (codes "run")) Run (form_or (bytes_eq word (codes "check")) Check (form_or (bytes_eq word (codes "show")) Show
    None))
form_of (word ∷ other ∷ words) = None

-- ---- the input

-- the most bytes that are read: 64 MiB
abbrev pub input_limit : ℕ
input_limit = 67108864

-- the lines of an input of this form
abbrev pub IsOfForm : Form → List (List ℕ) → Type 0
IsOfForm Run texts = IsScriptText texts
IsOfForm Check texts = IsScriptText texts
IsOfForm Show texts = IsList texts

-- the text for a report that is as its script expects it
abbrev pub agrees_text : List ℕ
agrees_text = codes "agrees\n"

-- the report of a script is as the script expects it
abbrev pub Agrees : Contents → Type 0
Agrees script = lines_of (report script) ≡ expected_lines script.lines

-- it isn't, first at this place
abbrev pub DiffersAt : Contents → ℕ → Type 0
DiffersAt script place = DifferAt place (lines_of (report script)) (expected_lines script.lines)

-- the text that answers an input of this form; a script that is checked has it where the report is as expected
abbrev pub IsAnswer : Form → List (List ℕ) → List ℕ → Type 0
IsAnswer Run texts answer = (script : Contents) × Spells script texts × (answer ≡ report script)
IsAnswer Check texts answer = (script : Contents) × Spells script texts × Agrees script × (answer ≡ agrees_text)
IsAnswer Show texts answer = (lines : List ListLine) × lists.Spells lines texts × (answer ≡ list_shown lines)

-- ---- what was written

-- the input is of the form that the words ask for, and this is its answer
pub record Answers (words : List (List ℕ)) (input answer : List ℕ) : Type 0 where
  pub form : Form
  pub asked : form_of words ≡ Some form
  pub within : length input ≤ input_limit
  pub is : IsAnswer form (lines_of input) answer

-- the answer was written, whole
pub record IsWritten (words : List (List ℕ)) (before after : Option (List ℕ)) (input : List ℕ) : Type 0 where
  pub answer : List ℕ
  pub answers : Answers words input answer
  pub written : Appends before after answer

-- the answer was written in part: a front of it, and not the rest
pub record IsPartlyWritten (words : List (List ℕ)) (before after : Option (List ℕ)) (input : List ℕ) : Type 0 where
  pub answer : List ℕ
  pub answers : Answers words input answer
  pub written : AppendsPart before after answer

-- what is written of the first bad line
abbrev pub bad_line_text : ℕ → List ℕ
bad_line_text line = codes "script: line " ++ decimal line ++ codes "\n"

-- The input is not of the form that the words ask for. Its first bad line was told, whole, or in part where the sink
-- failed.
pub record IsRefused (words : List (List ℕ)) (failed : Type 0) (before after : Option (List ℕ)) (input : List ℕ) : Type 0 where
  pub form : Form
  pub asked : form_of words ≡ Some form
  pub within : length input ≤ input_limit
  pub line : ℕ
  pub bad : IsFirstBad (IsOfForm form) (lines_of input) line
  pub written : Appends before after (bad_line_text line) ⊎ (failed × AppendsPart before after (bad_line_text line))

-- what is written of the first place where a report is not as expected
abbrev pub differs_text : ℕ → List ℕ
differs_text place = codes "differs at line " ++ decimal place ++ codes "\n"

-- an input whose report is not as it expects, first at this place
abbrev pub IsOther : List (List ℕ) → ℕ → Type 0
IsOther texts place = (script : Contents) × Spells script texts × DiffersAt script place

-- The input is a script that is checked, and its report is not as it expects. The first place was told, whole, or in part
-- where the sink failed.
pub record IsDiffering (words : List (List ℕ)) (failed : Type 0) (before after : Option (List ℕ)) (input : List ℕ) : Type 0 where
  pub asked : form_of words ≡ Some Check
  pub within : length input ≤ input_limit
  pub place : ℕ
  pub other : IsOther (lines_of input) place
  pub written : Appends before after (differs_text place) ⊎ (failed × AppendsPart before after (differs_text place))
