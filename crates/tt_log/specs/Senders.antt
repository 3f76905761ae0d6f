-- Whose commands entries are, and that who is told an entry makes the same command of it.
use Rattle.std.specs.Prelude.{◌≡◌, ◌==◌, Some}
use Rattle.tt_world.specs.declared.command.Command.{Command}
use Rattle.tt_world.specs.declared.command.Entry.{Entry}
use Rattle.tt_rules.specs.Commands.{number_of, command_of, is_own_code}

-- the server, which is client 1, orders pauses and new companies, and clients order all else
abbrev pub IsOfSender : Entry → Type 0
IsOfSender e = is_own_code (number_of e.command.code) ≡ (e.sender == 1)

-- the code is known, and what is told of the command gives it
abbrev pub IsKnown : Command → Type 0
IsKnown c = command_of (number_of c.code) c.number c.to c.text ≡ Some c
