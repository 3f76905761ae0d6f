-- The text of a journal: a line for each command that was stamped.
use Rattle.std.specs.Prelude.{ℕ, List, ◌++◌, codes}
use Rattle.std.specs.List.{flat_map}
use Rattle.std.specs.Fmt.{decimal}
use Rattle.tt_lines.specs.Digits.{bytes_text}
use Rattle.tt_rules.specs.Commands.{number_of}
use Rattle.tt_world.specs.declared.command.Command.{Command}
use Rattle.tt_world.specs.declared.command.Entry.{Entry}

-- what a command says: its code, its number, the company that it names, and its text
abbrev pub command_text : Command → List ℕ
command_text c =
    decimal (number_of c.code) ++ codes " " ++ decimal c.number ++ codes " " ++ decimal c.to ++ codes " " ++ bytes_text c.text

-- what it was stamped with: its frame, who sent it, and for which company
abbrev pub stamp_text : Entry → List ℕ
stamp_text e = decimal e.frame ++ codes " " ++ decimal e.sender ++ codes " " ++ decimal e.company

abbrev pub entry_line : Entry → List ℕ
entry_line e = codes "entry " ++ stamp_text e ++ codes " " ++ command_text e.command ++ codes "\n"

-- the lines of a journal, in order
abbrev pub entry_lines : List Entry → List ℕ
entry_lines journal = flat_map entry_line journal
