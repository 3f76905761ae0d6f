-- What each event does.
use Rattle.std.specs.Prelude.{ℕ, ◌+◌, Bool, true, false, not, ◌&&◌, ◌||◌, ◌==◌, nat_le, List, [], ◌∷◌, ◌++◌, map, length, Option, Some}
use Rattle.std.specs.Prelude.{None}
use Rattle.tt_edge.specs.declared.event.Door.TheVariants.{Main, Side}
use Rattle.tt_edge.specs.declared.event.Event.{Event}
use Rattle.tt_edge.specs.declared.event.Event.TheVariants.{Open, Packet, Broken, Shut, Tick, Stop}
use Rattle.tt_edge.specs.Event.{event_cost}
use Rattle.tt_game.specs.declared.message.GameMsg.{GameMsg}
use Rattle.tt_game.specs.declared.message.GameMsg.TheVariants.{ServerFull, ServerShutdown}
use Rattle.tt_admin.specs.declared.message.AdminMsg.TheVariants as admins
use Rattle.std.specs.Result.{result_ok}
use Rattle.tt_frame.specs.Unread.{whole}
use Rattle.tt_frame.specs.Tables.{read_by}
use Rattle.tt_game.specs.Messages.{messages}
use Rattle.tt_rules.specs.declared.status.Verdict.{Verdict}
use Rattle.tt_rules.specs.declared.status.Verdict.TheVariants.{Allowed, Ends}
use Rattle.tt_rules.specs.Codes.{connection_lost}
use Rattle.tt_log.specs.declared.deed.What.TheVariants.{ToAdmin, End}
use Rattle.tt_log.specs.declared.report.Report.TheVariants.{Message}
use Rattle.tt_log.specs.Member.{Member, new_member}
use Rattle.tt_log.specs.Admin.{Admin}
use Rattle.tt_log.specs.Origin.{Origin}
use Rattle.tt_log.specs.Table.{Table, member_of, admin_of, is_live}
use Rattle.tt_log.specs.Deed.{tells_what, Deed, ◌▹◌, where_, where_some, becomes, tells}
use Rattle.tt_log.specs.Judged.{judged}
use Rattle.tt_log.specs.Ending.{ends, ends_untold}
use Rattle.tt_log.specs.PacketRules.{does}
use Rattle.tt_log.specs.Tick.{ticked}
use Rattle.tt_log.specs.Desk.{admin_opens, admin_leaves, read_admin, admin_hears, is_quit}

-- ---- an opening

-- a connection more, and a client number
abbrev pub counted_in : Table → Table
counted_in t = record t { openings = t.openings + 1; clients = t.clients + 1 }

-- where as many as may be are there it is told so, and ends; else it is a member
abbrev pub arrives : Bool → Table → Deed
arrives true t = tells (t.openings ∷ []) ServerFull t ▹ tells_what (t.openings ∷ []) End
arrives false t = becomes (record t { members = t.members ++ new_member t.openings t.clients t.frame ∷ [] })

abbrev pub opened : Origin → Table → Deed
opened o t = arrives (nat_le o.setup.max_clients (length t.members)) (counted_in t)

-- ---- a packet

-- the message that a packet spells, if it spells one
abbrev pub read_msg : ℕ → List ℕ → Option GameMsg
read_msg kind body = result_ok (read_by messages kind (whole body))

-- an allowed packet does what its message does; another one ends its member
abbrev pub by_verdict : Verdict → Origin → Member → Option GameMsg → Table → Deed
by_verdict Allowed o m said t = where_some said (does o m) t
by_verdict (Ends code) o m said t = ends m code t

abbrev pub heard : Origin → Option GameMsg → Member → Table → Deed
heard o said m t = by_verdict (judged o t m said) o m said t

-- ---- the rule of an event

-- what an event does to the member or the admin that it names
abbrev pub to_named : Option Member → Option Admin → (Member → Table → Deed) → (Admin → Table → Deed) → Table → Deed
to_named (Some m) admin of_member of_admin t = of_member m t
to_named None admin of_member of_admin t = where_some admin of_admin t

abbrev pub on_conn : ℕ → (Member → Table → Deed) → (Admin → Table → Deed) → Table → Deed
on_conn conn of_member of_admin t = to_named (member_of t conn) (admin_of t conn) of_member of_admin t

abbrev pub by_event : Origin → Event → Table → Deed
by_event o (Open Main peer) t = opened o t
by_event o (Open Side peer) t = admin_opens t
by_event o (Packet conn kind body) t = on_conn conn (heard o (read_msg kind body)) (admin_hears o (read_admin kind body)) t
by_event o (Broken conn) t = on_conn conn (heard o None) (admin_hears o None) t
by_event o (Shut conn) t = on_conn conn (λ m. ends_untold m connection_lost) admin_leaves t
by_event o Tick t = ticked o t
by_event o Stop t = becomes t

-- ---- the end of the game

abbrev pub charged : Event → Table → Deed
charged e t = becomes (record t { cost = t.cost + event_cost e })

abbrev pub is_stop : Event → Bool
is_stop Stop = true
is_stop other = false

-- an event that says that the game is over
abbrev pub stops : Origin → Event → Table → Bool
stops o e t = is_stop e || is_quit o e t

-- the last frame of a game
abbrev pub last_frame : ℕ
last_frame = 4000000000

-- every connection that lives is told, and all end at once
abbrev pub shut_down : Table → Deed
shut_down t = let members = map (λ m. m.conn) t.members in let guests = map (λ a. a.conn) t.admins in
    tells members ServerShutdown (record t { members = []; admins = []; queue = []; over = true })
    ▹ tells_what guests (ToAdmin (Message admins.ServerShutdown)) ▹ tells_what (members ++ guests) End

-- the game is over where it was stopped, at its cost, and at its last frame
abbrev pub closed : Origin → Bool → Table → Deed
closed o stopped t = where_ (stopped || nat_le o.setup.cost t.cost || (t.frame == last_frame)) shut_down t

-- ---- an event

-- whether an event can be taken where the game is not over: the connection that it names is live
abbrev pub names_live : Table → Event → Bool
names_live t (Open door peer) = true
names_live t (Packet conn kind body) = is_live t conn
names_live t (Broken conn) = is_live t conn
names_live t (Shut conn) = is_live t conn
names_live t Tick = true
names_live t Stop = true

abbrev pub takes : Table → Event → Bool
takes t e = not t.over && names_live t e

-- what an event does that can be taken
abbrev pub taken : Origin → Event → Table → Deed
taken o e t = by_event o e t ▹ charged e ▹ closed o (stops o e t)

-- what an event does: the new table, and what is told; an event that can't be taken does nothing
abbrev pub deed : Origin → Event → Table → Deed
deed o e t = where_ (takes t e) (taken o e) t

abbrev pub stepped : Origin → Table → Event → Table
stepped o t e = (deed o e t).table
