-- The side door: what an event does to an admin, and the limit of one that does not join. Those that play see nothing of it
-- but chats and what the console does.
use Rattle.std.specs.Prelude.{ℕ, ◌+◌, ◌-◌, Bool, true, false, not, ◌&&◌, ◌||◌, nat_le, nat_lt, List, [], ◌∷◌, ◌++◌, length, slice_set}
use Rattle.std.specs.Prelude.{Option, Some, None, bytes_eq}
use Rattle.std.specs.Result.{result_ok}
use Rattle.tt_frame.specs.Unread.{whole}
use Rattle.tt_frame.specs.Tables.{read_by}
use Rattle.tt_edge.specs.declared.event.Event.{Event}
use Rattle.tt_edge.specs.declared.event.Event.TheVariants.{Packet}
use Rattle.tt_admin.specs.Messages.{messages}
use Rattle.tt_admin.specs.declared.message.AdminMsg.{AdminMsg}
use Rattle.tt_admin.specs.declared.message.AdminMsg.TheVariants.{AdminJoin, AdminQuit, AdminUpdateFrequency, AdminPoll, AdminChat}
use Rattle.tt_admin.specs.declared.message.AdminMsg.TheVariants.{AdminRcon, AdminGamescript, AdminPing, AdminExternalChat}
use Rattle.tt_admin.specs.declared.message.AdminMsg.TheVariants.{ServerFull, ServerError, ServerProtocol, ServerPong}
use Rattle.tt_rules.specs.declared.status.Verdict.{Verdict}
use Rattle.tt_rules.specs.declared.status.Verdict.TheVariants.{Allowed, Ends}
use Rattle.tt_rules.specs.Codes.{illegal_packet, not_expected, wrong_password, timeout_computer}
use Rattle.tt_rules.specs.Reasons.{◌⇒◌, ◌or_else◌}
use Rattle.tt_rules.specs.Verdict.{verdict_of}
use Rattle.tt_log.specs.declared.deed.What.TheVariants.{End}
use Rattle.tt_log.specs.declared.report.Report.{Report}
use Rattle.tt_log.specs.declared.report.Report.TheVariants.{Message, Welcome}
use Rattle.tt_log.specs.Origin.{Origin}
use Rattle.tt_log.specs.Member.{Member}
use Rattle.tt_log.specs.Admin.{Admin, new_admin, allowed_bits, may_be_told, may_be_polled}
use Rattle.tt_log.specs.Table.{Table, member_of, admin_of, with_admin, without_admin}
use Rattle.tt_log.specs.Deed.{Deed, ◌▹◌, becomes, where_, where_some, tells_what}
use Rattle.tt_log.specs.Judged.{is_empty}
use Rattle.tt_log.specs.PacketRules.{chats}
use Rattle.tt_log.specs.Polls.{tells_admin, poll_answers}
use Rattle.tt_log.specs.Console.{command_in, rcon, is_quit_line}

-- ---- an opening

-- a connection more
abbrev pub counted_aside : Table → Table
counted_aside t = record t { openings = t.openings + 1 }

-- where sixteen are there it is told so, and ends; else it is an admin
abbrev pub admin_arrives : Bool → Table → Deed
admin_arrives true t = tells_admin t.openings (Message ServerFull ∷ []) t ▹ tells_what (t.openings ∷ []) End
admin_arrives false t = becomes (record t { admins = t.admins ++ new_admin t.openings t.frame ∷ [] })

-- at most so many admins are there
abbrev pub most_admins : ℕ
most_admins = 16

abbrev pub admin_opens : Table → Deed
admin_opens t = admin_arrives (nat_le most_admins (length t.admins)) (counted_aside t)

-- ---- an end

-- it is an admin no longer
abbrev pub admin_leaves : Admin → Table → Deed
admin_leaves a t = tells_what (a.conn ∷ []) End (without_admin a.conn t)

-- it is told a code, and ends
abbrev pub admin_ends : Admin → ℕ → Table → Deed
admin_ends a code t = tells_admin a.conn (Message (ServerError code) ∷ []) t ▹ admin_leaves a

-- ---- what a packet is judged

-- the message that a packet spells, if it spells one
abbrev pub read_admin : ℕ → List ℕ → Option AdminMsg
read_admin kind body = result_ok (read_by messages kind (whole body))

-- JOIN: once, with two names, and with the password of admins, of which there has to be one
abbrev pub admin_join_refused : Origin → Admin → List ℕ → List ℕ → List ℕ → Option ℕ
admin_join_refused o a password application version =
    a.joined ⇒ not_expected
    or_else is_empty application || is_empty version ⇒ illegal_packet
    or_else is_empty o.setup.admin_password || not (bytes_eq password o.setup.admin_password) ⇒ wrong_password

-- what comes behind JOIN is refused before it, and then for its own reason
abbrev pub behind_join : Admin → Option ℕ → Option ℕ
behind_join a refused = not a.joined ⇒ not_expected or_else refused

-- the refusals of each message, in their order; a server's message is refused always
abbrev pub admin_refused : Origin → Admin → AdminMsg → Option ℕ
admin_refused o a (AdminJoin password application version) = admin_join_refused o a password application version
admin_refused o a AdminQuit = None
admin_refused o a (AdminUpdateFrequency kind bits) = behind_join a (not (may_be_told kind bits) ⇒ illegal_packet)
admin_refused o a (AdminPoll kind id) = behind_join a (not (may_be_polled kind) ⇒ illegal_packet)
admin_refused o a (AdminChat scope to text) = behind_join a None
admin_refused o a (AdminRcon text) = behind_join a None
admin_refused o a (AdminGamescript text) = behind_join a None
admin_refused o a (AdminPing id) = behind_join a None
admin_refused o a (AdminExternalChat source colour user text) = behind_join a None
admin_refused o a other = Some not_expected

-- what spells nothing is illegal, be it of an admin that has joined or not
abbrev pub admin_judged : Origin → Admin → Option AdminMsg → Verdict
admin_judged o a None = Ends illegal_packet
admin_judged o a (Some msg) = verdict_of (admin_refused o a msg)

-- ---- what each packet does that is allowed

-- the types from a number on, each with the bits that may be set of it
abbrev pub types_from : ℕ → List ℕ → List (ℕ × (ℕ × Unit {0}))
types_from kind [] = []
types_from kind (bits ∷ more) = (kind, (bits, tt)) ∷ types_from (kind + 1) more

-- the version of this protocol
abbrev pub admin_protocol : ℕ
admin_protocol = 3

-- the protocol, and the game
abbrev pub admin_greeting : List Report
admin_greeting = Message (ServerProtocol admin_protocol (types_from 0 allowed_bits)) ∷ Welcome ∷ []

-- JOIN: it is greeted
abbrev pub admin_joins : Admin → Table → Deed
admin_joins a t = tells_admin a.conn admin_greeting (with_admin (record a { joined = true }) t)

-- UPDATE_FREQUENCY: the bits of the type are these from now on
abbrev pub admin_asks : Admin → ℕ → ℕ → Table → Deed
admin_asks a kind bits t = becomes (with_admin (record a { bits = slice_set a.bits kind bits }) t)

-- CHAT is one of the server's own client. GAMESCRIPT and EXTERNAL_CHAT do nothing
abbrev pub admin_does : Admin → AdminMsg → Table → Deed
admin_does a (AdminJoin password application version) t = admin_joins a t
admin_does a AdminQuit t = admin_leaves a t
admin_does a (AdminUpdateFrequency kind bits) t = admin_asks a kind bits t
admin_does a (AdminPoll kind id) t = tells_admin a.conn (poll_answers kind id t) t
admin_does a (AdminChat scope to text) t = chats 1 scope to text t
admin_does a (AdminRcon text) t = rcon a.conn text t
admin_does a (AdminPing id) t = tells_admin a.conn (Message (ServerPong id) ∷ []) t
admin_does a other t = becomes t

-- ---- a packet

-- one that is allowed does what its message does; another one ends its admin
abbrev pub by_admin_verdict : Verdict → Admin → Option AdminMsg → Table → Deed
by_admin_verdict Allowed a said t = where_some said (admin_does a) t
by_admin_verdict (Ends code) a said t = admin_ends a code t

abbrev pub admin_hears : Origin → Option AdminMsg → Admin → Table → Deed
admin_hears o said a t = by_admin_verdict (admin_judged o a said) a said t

-- ---- `quit` on the console

abbrev pub says_quit : AdminMsg → Bool
says_quit (AdminRcon text) = is_quit_line (command_in text)
says_quit other = false

abbrev pub quits_by : Verdict → Option AdminMsg → Bool
quits_by Allowed (Some msg) = says_quit msg
quits_by verdict said = false

-- of no member, and of an admin
abbrev pub quits_at : Option Member → Option Admin → Origin → Option AdminMsg → Bool
quits_at None (Some a) o said = quits_by (admin_judged o a said) said
quits_at member admin o said = false

-- whether an event is an admin's word that the game is over
abbrev pub is_quit : Origin → Event → Table → Bool
is_quit o (Packet conn kind body) t = quits_at (member_of t conn) (admin_of t conn) o (read_admin kind body)
is_quit o other t = false

-- ---- the limit

-- an admin that has not joined in time
abbrev pub is_slow : Origin → ℕ → Admin → Bool
is_slow o frame a = not a.joined && nat_lt o.setup.init (frame - a.since)

abbrev pub admin_limited : Origin → Admin → Table → Deed
admin_limited o a t = where_ (is_slow o t.frame a) (admin_ends a timeout_computer) t

-- in order of arrival
abbrev pub each_admin_limited : Origin → List Admin → Table → Deed
each_admin_limited o [] t = becomes t
each_admin_limited o (a ∷ admins) t = where_some (admin_of t a.conn) (admin_limited o) t ▹ each_admin_limited o admins

abbrev pub admins_limited : Origin → Table → Deed
admins_limited o t = each_admin_limited o t.admins t
