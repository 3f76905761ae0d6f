-- The server's console: what its lines ask for, what it answers, and what is done then.
use Rattle.std.specs.Prelude.{ℕ, Bool, true, false, cond, List, [], ◌∷◌, ◌++◌, map, codes, decimal, Option, Some, None}
use Rattle.tt_admin.specs.declared.message.AdminMsg.TheVariants.{ServerRcon, ServerRconEnd}
use Rattle.tt_world.specs.declared.command.Code.TheVariants.{Pause}
use Rattle.tt_world.specs.declared.command.Command.{Command}
use Rattle.tt_rules.specs.Codes.{kicked}
use Rattle.tt_log.specs.Forms.{number, key}
use Rattle.tt_log.specs.Rows.{Branch, ◌▸◌, end, all, row, pick, row_at}
use Rattle.tt_log.specs.declared.report.Report.{Report}
use Rattle.tt_log.specs.declared.report.Report.TheVariants.{Message, CompanyLines}
use Rattle.tt_log.specs.Member.{Member}
use Rattle.tt_log.specs.Table.{Table, member_with, welcomed}
use Rattle.tt_log.specs.Deed.{Deed, ◌▹◌, becomes, where_some}
use Rattle.tt_log.specs.Ending.{ends}
use Rattle.tt_log.specs.PacketRules.{chats}
use Rattle.tt_log.specs.Watching.{sees_console}
use Rattle.tt_log.specs.Polls.{tells_admin}

-- ---- what a line asks for

pub data ConsoleCommand : Type 0 where
  -- the world is paused, or goes on
  pauses : (paused : Bool) → ConsoleCommand
  -- a client is ended
  kicks : (client : ℕ) → ConsoleCommand
  -- the server says something to all
  announces : (text : List ℕ) → ConsoleCommand
  -- the clients, and the companies, are listed
  clients companies : ConsoleCommand
  -- the game is over
  quits : ConsoleCommand
  -- no command is spelled so
  unknown : ConsoleCommand

-- what is said is at least one byte
abbrev pub said : List ℕ → ConsoleCommand
said [] = unknown
said (b ∷ bytes) = announces (b ∷ bytes)

-- the commands: the word that each is known by, and what stands behind it. Words are parted by exactly one blank, and what is
-- said is all that stands behind the blank
abbrev pub console_lines : List (Branch ConsoleCommand)
console_lines =
    row (codes "pause") (end (pauses true))
    ∷ row (codes "unpause") (end (pauses false))
    ∷ row (codes "kick") (number 0 4294967295 ▸ λ client. end (kicks client))
    ∷ row (codes "say") (all said)
    ∷ row (codes "clients") (end clients)
    ∷ row (codes "companies") (end companies)
    ∷ row (codes "quit") (end quits)
    ∷ []

abbrev pub or_unknown : Option ConsoleCommand → ConsoleCommand
or_unknown None = unknown
or_unknown (Some command) = command

abbrev pub command_in : List ℕ → ConsoleCommand
command_in line = or_unknown (row_at (key ▸ λ word. pick console_lines word) (32 ∷ line))

-- ---- what is answered

abbrev pub answer : List ℕ → Report
answer text = Message (ServerRcon 0 text)

abbrev pub kick_answer : Option Member → Report
kick_answer None = answer (codes "no such client")
kick_answer (Some m) = answer (codes "ok")

-- a client's number, its company and its name
abbrev pub client_line : Member → List ℕ
client_line m = decimal m.client ++ codes " " ++ decimal m.company ++ codes " " ++ m.name

abbrev pub lines_of : ConsoleCommand → Table → List Report
lines_of (pauses paused) t = answer (codes "ok") ∷ []
lines_of (kicks client) t = kick_answer (member_with client t) ∷ []
lines_of (announces text) t = answer (codes "ok") ∷ []
lines_of clients t = map (λ m. answer (client_line m)) (welcomed t)
lines_of companies t = CompanyLines ∷ []
lines_of quits t = answer (codes "ok") ∷ []
lines_of unknown t = answer (codes "unknown command") ∷ []

-- ---- what is done. That `quit` ends the game, the end of the game says of every event

abbrev pub pause : Bool → Command
pause paused = record { code = Pause; number = cond paused 1 0; to = 0; text = [] }

-- a command is put on the server's own list
abbrev pub orders : Command → Table → Deed
orders command t = becomes (record t { own = t.own ++ command ∷ [] })

abbrev pub kicks_out : Member → Table → Deed
kicks_out m t = ends m kicked t

abbrev pub console_does : ConsoleCommand → Table → Deed
console_does (pauses paused) t = orders (pause paused) t
console_does (kicks client) t = where_some (member_with client t) kicks_out t
console_does (announces text) t = chats 1 0 0 text t
console_does other t = becomes t

-- ---- RCON

-- admins see the line, the admin that gave it is answered, and then it is done
abbrev pub obeys : ConsoleCommand → ℕ → List ℕ → Table → Deed
obeys command conn text t = sees_console text t ▹ tells_admin conn (lines_of command t ++ Message (ServerRconEnd text) ∷ [])
    ▹ console_does command

abbrev pub rcon : ℕ → List ℕ → Table → Deed
rcon conn text t = obeys (command_in text) conn text t

-- whether a line ends the game
abbrev pub is_quit_line : ConsoleCommand → Bool
is_quit_line quits = true
is_quit_line other = false
