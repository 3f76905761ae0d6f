-- What a line of the console asks for, as the code has it, and back.
use Rattle.std.specs.Prelude.{true, false}
use Rattle.tt_log.specs.Console.{ConsoleCommand as Meaning, pauses, kicks, announces, clients, companies, quits, unknown}
use Rattle.tt_admin_desk.specs.declared.commands.ConsoleCommand.{ConsoleCommand}
use Rattle.tt_admin_desk.specs.declared.commands.ConsoleCommand.TheVariants.{Pause, Unpause, Kick, Say, Clients, Companies, Quit, Unknown}

abbrev pub asked : Meaning → ConsoleCommand
asked (pauses true) = Pause
asked (pauses false) = Unpause
asked (kicks client) = Kick client
asked (announces text) = Say text
asked clients = Clients
asked companies = Companies
asked quits = Quit
asked unknown = Unknown

abbrev pub meant : ConsoleCommand → Meaning
meant Pause = pauses true
meant Unpause = pauses false
meant (Kick client) = kicks client
meant (Say text) = announces text
meant Clients = clients
meant Companies = companies
meant Quit = quits
meant Unknown = unknown
