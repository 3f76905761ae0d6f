-- The codes of commands, by their numbers on the wire.
use Rattle.std.specs.Prelude.{ℕ, Bool, true, false, ◌||◌, ◌==◌, List, Option, Some, None}
use Rattle.tt_world.specs.declared.command.Code.{Code}
use Rattle.tt_world.specs.declared.command.Code.TheVariants.{
  IncreaseLoan,
  DecreaseLoan,
  Give,
  PlaceSign,
  RenameSign,
  RenameCompany,
  RenamePresident,
  Pause,
  NewCompany,
}
use Rattle.tt_world.specs.declared.command.Command.{Command}

abbrev pub number_of : Code → ℕ
number_of IncreaseLoan = 0
number_of DecreaseLoan = 1
number_of Give = 2
number_of PlaceSign = 3
number_of RenameSign = 4
number_of RenameCompany = 5
number_of RenamePresident = 6
number_of Pause = 7
number_of NewCompany = 8

-- the code, where the test holds, and else what is found later
abbrev pub code_or : Bool → Code → Option Code → Option Code
code_or true code later = Some code
code_or false code later = later

-- the code with a number
abbrev pub code_of : ℕ → Option Code
code_of n =
    code_or (n == 0) IncreaseLoan (code_or (n == 1) DecreaseLoan (code_or (n == 2) Give (code_or (n == 3) PlaceSign
    (code_or (n == 4) RenameSign
    (code_or (n == 5) RenameCompany (code_or (n == 6) RenamePresident (code_or (n == 7) Pause (code_or (n == 8) NewCompany None))))))))

-- the codes that only the server itself gives: Pause and NewCompany
abbrev pub is_own_code : ℕ → Bool
is_own_code n = (n == 7) || (n == 8)

-- the command of these fields, where the code is known
abbrev pub command_with : Option Code → ℕ → ℕ → List ℕ → Option Command
command_with None number to text = None
command_with (Some code) number to text = Some (record { code = code; number = number; to = to; text = text })

abbrev pub command_of : ℕ → ℕ → ℕ → List ℕ → Option Command
command_of code number to text = command_with (code_of code) number to text
