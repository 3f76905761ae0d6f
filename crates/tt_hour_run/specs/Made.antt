-- What is made from a number alone.
use Rattle.std.specs.Prelude.{◌≡◌, ℕ, ◌<◌, ◌^◌, List, [], ◌∷◌, codes}
use Rattle.std.specs.Fmt.{decimal}
use Rattle.tt_log.specs.Printing.{script_text}
use Rattle.tt_hour.specs.Hour.{hour_script}
use Rattle.tt_hour_run.specs.Summed.{hour_summary}
use Rattle.tt_hour_run.specs.declared.made.Made.{Made}
use Rattle.tt_hour_run.specs.declared.made.Made.TheVariants.{Make, Hour}

-- the words are the form's word and a number of 32 bits
abbrev pub IsMadeForm : List (List ℕ) → Made → Type 0
IsMadeForm words (Make n) = (n < 2 ^ 32) × (words ≡ codes "make" ∷ decimal n ∷ [])
IsMadeForm words (Hour n) = (n < 2 ^ 32) × (words ≡ codes "hour" ∷ decimal n ∷ [])

-- the text of the hour script, or the summary of its game
abbrev pub made_text : Made → List ℕ
made_text (Make n) = script_text (hour_script n)
made_text (Hour n) = hour_summary n
