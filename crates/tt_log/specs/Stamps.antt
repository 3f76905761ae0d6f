-- Which commands were accepted, and which the server ordered itself.
use Rattle.std.specs.Prelude.{ℕ, Bool, true, false, not, cond, ◌&&◌, ◌==◌, List, [], ◌∷◌, ◌++◌, drop, length, Option, Some, None}
use Rattle.tt_edge.specs.declared.event.Event.{Event}
use Rattle.tt_edge.specs.declared.event.Event.TheVariants.{Packet}
use Rattle.tt_game.specs.declared.message.GameMsg.{GameMsg}
use Rattle.tt_game.specs.declared.message.GameMsg.TheVariants.{ClientCommand}
use Rattle.tt_world.specs.declared.command.Command.{Command}
use Rattle.tt_world.specs.declared.command.Entry.{Entry}
use Rattle.tt_rules.specs.Verdict.{spectator}
use Rattle.tt_rules.specs.declared.status.Verdict.{Verdict}
use Rattle.tt_rules.specs.declared.status.Verdict.TheVariants.{Allowed, Ends}
use Rattle.tt_log.specs.Member.{Member}
use Rattle.tt_log.specs.Origin.{Origin}
use Rattle.tt_log.specs.Table.{Table, first, member_of}
use Rattle.tt_rules.specs.Commands.{command_of}
use Rattle.tt_log.specs.Judged.{judged}
use Rattle.tt_log.specs.Events.{read_msg, stepped}

abbrev pub for_company : ℕ → Option Command → List (ℕ × Command)
for_company company None = []
for_company company (Some command) = (company, command) ∷ []

-- the command that a message holds, with its company
abbrev pub command_in : GameMsg → List (ℕ × Command)
command_in (ClientCommand company code number to text) = for_company company (command_of code number to text)
command_in other = []

-- the commands that a packet holds
abbrev pub commands_in : Option GameMsg → List (ℕ × Command)
commands_in None = []
commands_in (Some msg) = command_in msg

abbrev pub if_allowed : Verdict → List (ℕ × Command) → List (ℕ × Command)
if_allowed Allowed commands = commands
if_allowed (Ends code) commands = []

-- those of a packet of a member that is allowed
abbrev pub accepted_of : Origin → Table → Option Member → Option GameMsg → List (ℕ × Command)
accepted_of o t None said = []
accepted_of o t (Some m) said = if_allowed (judged o t m said) (commands_in said)

-- only where a test holds
abbrev pub if_so : Bool → List (ℕ × Command) → List (ℕ × Command)
if_so true commands = commands
if_so false commands = []

-- the command of a connection that an event brings and that is allowed: the event is a packet of this connection, and the
-- game is not over
abbrev pub accepted_by : Origin → Table → Event → ℕ → List (ℕ × Command)
accepted_by o t (Packet sender kind body) conn = if_so ((sender == conn) && not t.over) (accepted_of o t (member_of t sender)
    (read_msg kind body))
accepted_by o t other conn = []

abbrev pub accepted_from : Origin → Table → List Event → ℕ → List (ℕ × Command)
accepted_from o t [] conn = []
accepted_from o t (e ∷ events) conn = accepted_by o t e conn ++ accepted_from o (stepped o t e) events conn

-- the commands of a connection that were allowed, in order, each with the company for which it was
abbrev pub accepted : Origin → List Event → ℕ → List (ℕ × Command)
accepted o events conn = accepted_from o (first o) events conn

-- what an event puts on the server's own list: what stands behind all that stood there
abbrev pub ordered_by : Origin → Table → Event → List Command
ordered_by o t e = drop (length t.own) (stepped o t e).own

abbrev pub ordered_from : Origin → Table → List Event → List Command
ordered_from o t [] = []
ordered_from o t (e ∷ events) = ordered_by o t e ++ ordered_from o (stepped o t e) events

-- all that was ever put on the server's own list, in order
abbrev pub ordered : Origin → List Event → List Command
ordered o events = ordered_from o (first o) events

-- ---- what of the journal a sender has sent

-- the entries of a sender, in order: each command with its company
abbrev pub stamped_of : ℕ → List Entry → List (ℕ × Command)
stamped_of sender [] = []
stamped_of sender (e ∷ es) = cond (e.sender == sender) ((e.company, e.command) ∷ stamped_of sender es) (stamped_of sender es)

-- a command of the server's own list, as an entry has it: for no company
abbrev pub owned : Command → ℕ × Command
owned command = (spectator, command)
