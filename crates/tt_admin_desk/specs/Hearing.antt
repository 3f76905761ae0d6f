-- What the desk hears of an admin's message, and what the rules do with what was heard.
use Rattle.std.specs.Prelude.{ℕ, List, [], ◌∷◌, Some}
use Rattle.tt_admin.specs.declared.message.AdminMsg.{AdminMsg}
use Rattle.tt_admin.specs.declared.message.AdminMsg.TheVariants.{AdminJoin, AdminQuit, AdminUpdateFrequency, AdminPoll, AdminChat}
use Rattle.tt_admin.specs.declared.message.AdminMsg.TheVariants.{AdminRcon, AdminPing, ServerPong}
use Rattle.tt_world.specs.declared.setup.Setup.{Setup}
use Rattle.tt_world.specs.World.{WorldState}
use Rattle.tt_rules.specs.declared.status.Verdict.{Verdict}
use Rattle.tt_rules.specs.declared.status.Verdict.TheVariants as verdicts
use Rattle.tt_log.specs.declared.report.Report.TheVariants.{Message}
use Rattle.tt_log.specs.Admin.{Admin}
use Rattle.tt_log.specs.Console.{command_in, obeys}
use Rattle.tt_log.specs.Deed.{Deed, becomes}
use Rattle.tt_log.specs.Desk.{admin_asks, admin_ends, admin_joins, admin_judged, admin_leaves}
use Rattle.tt_log.specs.Origin.{Origin}
use Rattle.tt_log.specs.PacketRules.{chats}
use Rattle.tt_log.specs.Polls.{poll_answers, tells_admin}
use Rattle.tt_log.specs.Table.{Table}
use Rattle.tt_admin_desk.specs.declared.heard.Heard.{Heard}
use Rattle.tt_admin_desk.specs.declared.heard.Heard.TheVariants.{Joined, Bits, Ask, Say, Console, Pong, Nothing, Leave, Ends}
use Rattle.tt_admin_desk.specs.Asked.{asked, meant}

-- a game of a setup; what an admin says does not depend on its first world
abbrev pub begun : Setup → WorldState → Origin
begun setup start = record { setup = setup; start = start }

-- ---- what is heard

abbrev pub console_line : List ℕ → Heard
console_line text = Console text (asked (command_in text))

-- what a message asks for that is allowed; GAMESCRIPT and EXTERNAL_CHAT ask for nothing
abbrev pub says : AdminMsg → Heard
says (AdminJoin password application version) = Joined
says AdminQuit = Leave
says (AdminUpdateFrequency kind bits) = Bits kind bits
says (AdminPoll kind id) = Ask (record { kind = kind; id = id })
says (AdminChat scope to text) = Say scope to text
says (AdminRcon text) = console_line text
says (AdminPing id) = Pong id
says other = Nothing

abbrev pub by_verdict : Verdict → AdminMsg → Heard
by_verdict verdicts.Allowed m = says m
by_verdict (verdicts.Ends code) m = Ends code

-- what a message of an admin comes to
abbrev pub hears : Origin → Admin → AdminMsg → Heard
hears o a m = by_verdict (admin_judged o a (Some m)) m

-- ---- what the rules do with it

abbrev pub does : Heard → Admin → Table → Deed
does Joined a t = admin_joins a t
does (Bits kind bits) a t = admin_asks a kind bits t
does (Ask question) a t = tells_admin a.conn (poll_answers question.kind question.id t) t
does (Say scope to text) a t = chats 1 scope to text t
does (Console text command) a t = obeys (meant command) a.conn text t
does (Pong id) a t = tells_admin a.conn (Message (ServerPong id) ∷ []) t
does Nothing a t = becomes t
does Leave a t = admin_leaves a t
does (Ends code) a t = admin_ends a code t
