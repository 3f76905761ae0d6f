-- What players see of a table, of events and of what is told; and which events of admins they do not see: what the laws say.
use Rattle.std.specs.Prelude.{Bool, true, false, not, cond, List, [], ◌∷◌, filter, Option, Some, None}
use Rattle.tt_edge.specs.declared.event.Event.{Event}
use Rattle.tt_edge.specs.declared.event.Event.TheVariants.{Packet, Broken, Shut}
use Rattle.tt_admin.specs.declared.message.AdminMsg.{AdminMsg}
use Rattle.tt_admin.specs.declared.message.AdminMsg.TheVariants.{AdminChat, AdminRcon}
use Rattle.tt_rules.specs.declared.status.Verdict.{Verdict}
use Rattle.tt_rules.specs.declared.status.Verdict.TheVariants.{Allowed}
use Rattle.tt_log.specs.Origin.{Origin}
use Rattle.tt_log.specs.Member.{Member}
use Rattle.tt_log.specs.Admin.{Admin}
use Rattle.tt_log.specs.Table.{Table, first, member_of, admin_of}
use Rattle.tt_log.specs.Deed.{Said, game, admin}
use Rattle.tt_log.specs.Console.{ConsoleCommand, clients, companies, unknown, command_in}
use Rattle.tt_log.specs.Desk.{read_admin, admin_judged}
use Rattle.tt_log.specs.Events.{stepped}

-- ---- what players see

-- a table without its admins, and without what its events cost
abbrev pub bare : Table → Table
bare t = record t { admins = []; cost = 0 }

abbrev pub is_of_game : Said → Bool
is_of_game (game m) = true
is_of_game (admin m) = false

-- what of the things that are said is of the game
abbrev pub of_game : List Said → List Said
of_game said = filter is_of_game said

-- ---- what an admin says to players, or does to them

-- a line of the console that does something: all but the lists, and what is no command
abbrev pub does_something : ConsoleCommand → Bool
does_something clients = false
does_something companies = false
does_something unknown = false
does_something other = true

-- a chat, or such a line
abbrev pub is_loud : AdminMsg → Bool
is_loud (AdminChat scope to text) = true
is_loud (AdminRcon text) = does_something (command_in text)
is_loud other = false

-- where it is allowed
abbrev pub is_loud_where : Verdict → Option AdminMsg → Bool
is_loud_where Allowed (Some msg) = is_loud msg
is_loud_where verdict said = false

-- ---- events

-- of a connection on which no member is: whatever an admin there says that is not loud
abbrev pub is_quiet_at : Option Member → Option Admin → Origin → Option AdminMsg → Bool
is_quiet_at (Some m) guest o said = false
is_quiet_at None None o said = true
is_quiet_at None (Some a) o said = not (is_loud_where (admin_judged o a said) said)

-- an event that players do not see: it is not taken, or it is an admin's and not loud
abbrev pub is_quiet : Origin → Table → Event → Bool
is_quiet o t (Packet conn kind body) = is_quiet_at (member_of t conn) (admin_of t conn) o (read_admin kind body)
is_quiet o t (Broken conn) = is_quiet_at (member_of t conn) (admin_of t conn) o None
is_quiet o t (Shut conn) = is_quiet_at (member_of t conn) (admin_of t conn) o None
is_quiet o t other = false

-- the other ones, from a table
abbrev pub loud_from : Origin → Table → List Event → List Event
loud_from o t [] = []
loud_from o t (e ∷ es) = cond (is_quiet o t e) (loud_from o (stepped o t e) es) (e ∷ loud_from o (stepped o t e) es)

-- the events without those that players do not see
abbrev pub loud : Origin → List Event → List Event
loud o events = loud_from o (first o) events
