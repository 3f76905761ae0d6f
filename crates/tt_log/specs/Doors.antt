-- The two doors and their families of messages, and how an admin ends that is refused: what the laws say of admins.
use Rattle.std.specs.Prelude.{◌≡◌, ℕ, ◌+◌, ◌==◌, ◌&&◌, Bool, true, false, cond, List, [], ◌∷◌, Option, Some, None}
use Rattle.tt_edge.specs.declared.event.Door.{Door}
use Rattle.tt_edge.specs.declared.event.Event.{Event}
use Rattle.tt_edge.specs.declared.event.Event.TheVariants.{Open, Packet, Broken}
use Rattle.tt_game.specs.declared.message.GameMsg.TheVariants as games
use Rattle.tt_admin.specs.declared.message.AdminMsg.{AdminMsg}
use Rattle.tt_admin.specs.declared.message.AdminMsg.TheVariants as admins
use Rattle.tt_rules.specs.declared.status.Verdict.TheVariants.{Ends}
use Rattle.tt_log.specs.Origin.{Origin}
use Rattle.tt_log.specs.Admin.{Admin}
use Rattle.tt_log.specs.Table.{Table, admin_of}
use Rattle.tt_log.specs.Deed.{Said, game, admin}
use Rattle.tt_log.specs.Desk.{read_admin, admin_judged}

-- ---- doors

-- the door at which a connection is opened by events, where so many connections were opened before them
abbrev pub door_from : ℕ → List Event → ℕ → Option Door
door_from n [] conn = None
door_from n (Open door peer ∷ es) conn = cond (n + 1 == conn) (Some door) (door_from (n + 1) es conn)
door_from n (e ∷ es) conn = door_from n es conn

-- the door at which a connection was opened, if it was
abbrev pub door_of : List Event → ℕ → Option Door
door_of events conn = door_from 0 events conn

-- ---- families

abbrev pub IsOfGame : Said → Type 0
IsOfGame (game m) = Unit {0}
IsOfGame (admin m) = ⊥

abbrev pub IsOfAdmins : Said → Type 0
IsOfAdmins (game m) = ⊥
IsOfAdmins (admin m) = Unit {0}

-- ---- an admin that is refused

-- a packet of an admin is judged so: it spells nothing, or it is refused; or its stream breaks, which is judged alike
abbrev pub AdminEndsWith : Origin → Table → Event → Admin → ℕ → Type 0
AdminEndsWith o t (Packet conn kind body) a code = (admin_of t conn ≡ Some a) × (admin_judged o a (read_admin kind body) ≡ Ends code)
AdminEndsWith o t (Broken conn) a code = (admin_of t conn ≡ Some a) × (admin_judged o a None ≡ Ends code)
AdminEndsWith o t other a code = ⊥

-- that the game is over
abbrev pub IsShutdown : Said → Type 0
IsShutdown (game games.ServerShutdown) = Unit {0}
IsShutdown (admin admins.ServerShutdown) = Unit {0}
IsShutdown other = ⊥

-- ---- an admin that has not joined

abbrev pub is_join : Option AdminMsg → Bool
is_join (Some (admins.AdminJoin password application version)) = true
is_join other = false

-- whether an event is a JOIN of this connection
abbrev pub says_join : Event → ℕ → Bool
says_join (Packet conn kind body) c = (conn == c) && is_join (read_admin kind body)
says_join other c = false

-- what it may be told: that there is no room, why it ends, and that the game is over; and where it joins, the protocol and the game
abbrev pub IsFirst : Bool → AdminMsg → Type 0
IsFirst joins admins.ServerFull = Unit {0}
IsFirst joins (admins.ServerError code) = Unit {0}
IsFirst joins admins.ServerShutdown = Unit {0}
IsFirst joins (admins.ServerProtocol version types) = joins ≡ true
IsFirst joins (admins.ServerWelcome name revision dedicated map seed landscape day width height) = joins ≡ true
IsFirst joins other = ⊥

abbrev pub IsFirstWord : Bool → Said → Type 0
IsFirstWord joins (game m) = ⊥
IsFirstWord joins (admin m) = IsFirst joins m
