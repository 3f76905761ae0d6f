-- What admins are told at once with an event, behind what those that play are told: a hook for each type of updates.
-- A reader who wants the players alone needs none of this: each of these rules tells admins something, and changes nothing.
use Rattle.std.specs.Prelude.{ℕ, List, map, filter, codes}
use Rattle.tt_admin.specs.declared.message.AdminMsg.{AdminMsg}
use Rattle.tt_admin.specs.declared.message.AdminMsg.TheVariants.{ServerClientJoin, ServerClientInfo, ServerClientUpdate, ServerClientQuit}
use Rattle.tt_admin.specs.declared.message.AdminMsg.TheVariants.{ServerClientError, ServerChat, ServerConsole, ServerCmdLogging}
use Rattle.tt_world.specs.declared.command.Entry.{Entry}
use Rattle.tt_rules.specs.Commands.{number_of}
use Rattle.tt_log.specs.declared.deed.What.TheVariants.{ToAdmin}
use Rattle.tt_log.specs.declared.report.Report.TheVariants.{Message, CompanyNews}
use Rattle.tt_log.specs.Admin.{is_automatic, client_updates, company_updates, chat_updates, console_updates, command_updates}
use Rattle.tt_log.specs.Member.{Member}
use Rattle.tt_log.specs.Table.{Table}
use Rattle.tt_log.specs.Deed.{Deed, tells_what}

-- the connections of the admins that are told a type of updates at once, in order of arrival
abbrev pub watching : ℕ → Table → List ℕ
watching kind t = map (λ a. a.conn) (filter (is_automatic kind) t.admins)

-- they are told a message
abbrev pub watched : ℕ → AdminMsg → Table → Deed
watched kind m t = tells_what (watching kind t) (ToAdmin (Message m)) t

-- ---- CLIENT_INFO: it speaks of welcomed members

-- a member is welcome
abbrev pub sees_welcome : Member → Table → Deed
sees_welcome m t = watched client_updates (ServerClientInfo m.client m.name m.company) t

-- a member becomes ACTIVE
abbrev pub sees_active : Member → Table → Deed
sees_active m t = watched client_updates (ServerClientJoin m.client) t

-- a member has a name or a company, be it another one or the same
abbrev pub sees_change : Member → Table → Deed
sees_change m t = watched client_updates (ServerClientUpdate m.client m.name m.company) t

-- a member says that it quits
abbrev pub sees_quit : Member → Table → Deed
sees_quit m t = watched client_updates (ServerClientQuit m.client) t

-- a member ends otherwise, with a code
abbrev pub sees_error : ℕ → Member → Table → Deed
sees_error code m t = watched client_updates (ServerClientError m.client code) t

-- ---- COMPANY_INFO: it speaks as the frame runs, of what was done in it

-- a frame was run: its entries have founded and renamed companies
abbrev pub sees_frame : Table → Deed
sees_frame t = tells_what (watching company_updates t) (ToAdmin CompanyNews) t

-- ---- CHAT

-- a client, or the server itself, says something in a scope
abbrev pub sees_chat : ℕ → ℕ → List ℕ → Table → Deed
sees_chat client scope text t = watched chat_updates (ServerChat scope client text) t

-- ---- CONSOLE

-- an admin gives the console a line
abbrev pub sees_console : List ℕ → Table → Deed
sees_console text t = watched console_updates (ServerConsole (codes "admin") text) t

-- ---- CMD_LOGGING

-- an entry is stamped
abbrev pub sees_stamp : Entry → Table → Deed
sees_stamp e t = watched command_updates (ServerCmdLogging e.sender e.company (number_of e.command.code) e.frame) t
