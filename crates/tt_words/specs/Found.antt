-- What was found, as an answer.
use Rattle.std.specs.Prelude.{Option, Some, None, Result, Ok, Err}
use Rattle.tt_words.specs.declared.command.WordsError.{WordsError}
use Rattle.tt_words.specs.declared.command.WordsError.TheVariants.{Bad}

-- the value, or else that the words are bad
abbrev pub result_of : {V : Type 0} → Option V → Result V WordsError
result_of None = Err Bad
result_of (Some value) = Ok value
