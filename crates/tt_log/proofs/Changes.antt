-- What rules are made of: how a member changes and what it is told with it, and what others are told.
use Rattle.std.proofs.Common.{◌≡◌, ◌⊎◌, ℕ, ◌+◌, ◌≤◌, ◌<◌, Bool, true, false, List, [], ◌∷◌, ◌++◌, Option, Some, None, refl}
use Rattle.std.specs.Prelude.{codes, length, map, cond, ◌==◌}
use Rattle.tt_frame.specs.Packet.{IsBytes}
use Rattle.tt_frame.specs.Text.{is_plain}
use Rattle.tt_edge.specs.declared.event.Event.{Event}
use Rattle.tt_edge.specs.declared.event.Event.TheVariants.{Packet}
use Rattle.tt_game.specs.declared.message.GameMsg.{GameMsg}
use Rattle.tt_game.specs.declared.message.GameMsg.TheVariants.{ClientJoin, ClientAck, ClientCommand, ClientSetName, ClientMove}
use Rattle.tt_game.specs.declared.message.GameMsg.TheVariants.{ServerNeedGamePassword, ServerNeedCompanyPassword, ServerWelcome}
use Rattle.tt_game.specs.declared.message.GameMsg.TheVariants.{ClientChat, ClientError, ServerFrame, ServerError, ServerGameInfo}
use Rattle.tt_game.specs.declared.message.GameMsg.TheVariants.{ServerClientInfo, ServerJoin, ServerMove, ServerChat, ServerErrorQuit}
use Rattle.tt_game.specs.declared.message.GameMsg.TheVariants.{ServerQuit}
use Rattle.tt_admin.specs.declared.message.AdminMsg.{AdminMsg}
use Rattle.tt_admin.specs.declared.message.AdminMsg.TheVariants as admins
use Rattle.tt_world.specs.declared.command.Entry.{Entry}
use Rattle.tt_world.specs.declared.command.Command.{Command}
use Rattle.tt_world.specs.Random.{next_random}
use Rattle.tt_rules.specs.Commands.{command_of, number_of}
use Rattle.tt_rules.specs.Statuses.{rank}
use Rattle.tt_rules.specs.Verdict.{permits, refusal, verdict_of, first_reason}
use Rattle.tt_rules.specs.declared.status.Verdict.TheVariants.{Allowed}
use Rattle.tt_rules.specs.declared.status.Status.TheVariants.{AuthGame, AuthCompany, Authorized, MapWait, DoneMap, PreActive, Active}
use Rattle.tt_log.specs.declared.deed.Step.{Step}
use Rattle.tt_log.specs.declared.deed.What.{What}
use Rattle.tt_log.specs.declared.deed.What.TheVariants.{Msg, MapPieces, Sync, Stamp}
use Rattle.tt_log.specs.declared.report.Report.{Report}
use Rattle.tt_log.specs.declared.report.Report.TheVariants.{Message}
use Rattle.tt_log.specs.Origin.{Origin}
use Rattle.tt_log.specs.Admin.{allowed_bits}
use Rattle.tt_log.specs.Member.{Member, standing_of}
use Rattle.tt_log.specs.Table.{Table, living_in, count_living, now_in, with_member}
use Rattle.tt_log.specs.Names.{given_name}
use Rattle.tt_log.specs.Frames.{fresh_token, opened_token}
use Rattle.tt_log.specs.Queue.{downloading}
use Rattle.tt_log.specs.Judged.{refused, unless, judged}
use Rattle.tt_log.specs.PacketRules.{first_company, acknowledged, closed_token}
use Rattle.tt_log.specs.Tick.{pieces_of}
use Rattle.tt_log.specs.Ending.{Farewell, Quitting, Failing}
use Rattle.tt_log.specs.Polls.{command_names}
use Rattle.tt_log.specs.Console.{announces, client_line, command_in}
use Rattle.tt_log.specs.Desk.{admin_protocol, read_admin, types_from}
use Rattle.tt_log.specs.Events.{read_msg}
use Rattle.tt_log.specs.History.{IsEvent}
use Rattle.tt_log.proofs.Lists.{Among}
use Rattle.tt_log.proofs.Crew.{On}

abbrev pub step : List ℕ → What → Step
step to w = record { to = to; what = w }

-- ---- what a packet was allowed by

-- the event is the packet of this member that spells the message
abbrev pub Says : Event → Member → GameMsg → Type 0
Says e m msg = (kind : ℕ) × (body : List ℕ) × (e ≡ Packet m.conn kind body) × (read_msg kind body ≡ Some msg)

-- the member says it, its status permits it, and nothing refuses it
pub record Allows (o : Origin) (e : Event) (t : Table) (m : Member) (msg : GameMsg) : Type 0 where
  pub says : Says e m msg
  pub permits : permits msg m.status ≡ true
  pub standing : refusal (standing_of m) (living_in o t) msg ≡ None
  pub table : refused o (living_in o t) t m msg ≡ None

allows-by : (b : Bool) (x y : Option ℕ) → unless (verdict_of (first_reason b x)) y ≡ Allowed → (b ≡ true) × (x ≡ None) × (y ≡ None)
allows-by true None None is = (refl, refl, refl)
allows-by true None (Some code) is = absurd cc
allows-by true (Some code) y is = absurd cc
allows-by false x y is = absurd cc

pub allows : (o : Origin) (e : Event) (t : Table) (m : Member) (msg : GameMsg) → Says e m msg → judged o t m (Some msg) ≡ Allowed
    → Allows o e t m msg
allows o e t m msg says is =
    let a = allows-by (permits msg m.status) (refusal (standing_of m) (living_in o t) msg) (refused o (living_in o t) t m msg) is in
    record { says = says; permits = a.0; standing = a.1; table = a.2 }

-- ---- how a member changes

pub data Change : Type 0 where
  -- on the way to the welcome, with the name and the asked company that it has from then on
  wants_password : (game : Bool) → (name : List ℕ) → (asked : ℕ) → Change
  is_let_in : (name : List ℕ) → (asked : ℕ) → Change
  -- FRAME, with a fresh token or again
  gets_token : Change
  gets_frame : Change
  -- ACK, and becoming ACTIVE
  answers : (frame token : ℕ) → Change
  plays : Change
  -- COMMAND, SET_NAME, MOVE, and a founder's move
  commands : (company code number to : ℕ) → (text : List ℕ) → Command → Change
  has_name : (name : List ℕ) → Change
  goes_to : (company : ℕ) → (digest : Option (List ℕ)) → Change
  founds : (company : ℕ) → Change
  -- the map's pieces, and its end
  gets_pieces : (left : List ℕ) → Change
  has_all : Change

-- the changes that go with the queue
pub data Move : Type 0 where
  queues : Move
  begins_map : Move
  loads : Move

-- how it asked for its name and company: by the JOIN that is answered now, or before
abbrev pub Asks : Origin → Event → Table → Member → List ℕ → ℕ → Type 0
Asks o e t m name asked =
    ((name ≡ m.name) × (asked ≡ m.asked) × (2 ≤ rank m.status) × (rank m.status ≤ 3))
    ⊎ ((rank m.status ≡ 0) × ((revision : List ℕ) × (grf : ℕ) × (wanted : List ℕ) × (name ≡ given_name t m.conn wanted)
    × Allows o e t m (ClientJoin revision grf wanted asked)))

-- when it may change so
abbrev pub May : Origin → Event → Table → Member → Change → Type 0
May o e t m (wants_password game name asked) = Asks o e t m name asked
May o e t m (is_let_in name asked) = Asks o e t m name asked
May o e t m gets_token = (8 ≤ rank m.status) × (m.token ≡ 0)
May o e t m gets_frame = 8 ≤ rank m.status
May o e t m (answers frame token) = Allows o e t m (ClientAck frame token)
May o e t m plays = rank m.status ≡ 8
May o e t m (commands company code number to text command) = (command_of code number to text ≡ Some command)
    × Allows o e t m (ClientCommand company code number to text)
May o e t m (has_name name) = Allows o e t m (ClientSetName name)
May o e t m (goes_to company digest) = Allows o e t m (ClientMove company digest)
May o e t m (founds company) = company < length o.start.companies
May o e t m (gets_pieces left) = rank m.status ≡ 6
May o e t m has_all = rank m.status ≡ 6

-- a command waits, and a token is closed, by a packet of the member alone
abbrev pub By : Event → Member → Change → Type 0
By e m (answers frame token) = Says e m (ClientAck frame token)
By e m (commands company code number to text command) = Says e m (ClientCommand company code number to text)
By e m other = Unit

abbrev pub password_status : Bool → Table → Member → Member
password_status true t m = now_in AuthGame t m
password_status false t m = now_in AuthCompany t m

-- a change that comes in ticks alone, behind the frame
abbrev pub is_behind : Change → Bool
is_behind (founds company) = true
is_behind (gets_pieces left) = true
is_behind has_all = true
is_behind other = false

pub behind-by : (e : Event) (m : Member) (c : Change) → is_behind c ≡ true → By e m c
behind-by e m (founds company) is = tt
behind-by e m (gets_pieces left) is = tt
behind-by e m has_all is = tt
behind-by e m (answers frame token) is = absurd cc
behind-by e m (commands company code number to text command) is = absurd cc
behind-by e m other is = absurd cc

-- the member behind it
abbrev pub turned : Change → Table → Member → Member
turned (wants_password game name asked) t m = password_status game t (record m { name = name; asked = asked })
turned (is_let_in name asked) t m = record (now_in Authorized t (record m { name = name; asked = asked })) { company = first_company asked }
turned gets_token t m = opened_token (fresh_token t.tokens) t m
turned gets_frame t m = record m { told = t.top }
turned (answers frame token) t m = acknowledged frame token m
turned plays t m = now_in Active t m
turned (commands company code number to text command) t m = record m { waiting = m.waiting ++ (company, command) ∷ [] }
turned (has_name name) t m = record m { name = given_name t m.conn name }
turned (goes_to company digest) t m = record m { company = company }
turned (founds company) t m = record m { company = company }
turned (gets_pieces left) t m = record m { pieces = m.pieces + length (pieces_of 4 left) }
turned has_all t m = record m { status = DoneMap }

abbrev pub moved : Move → Table → Member → Member
moved queues t m = now_in MapWait t m
moved begins_map t m = downloading t m
moved loads t m = record (now_in PreActive t m) { acked = m.map_frame; told = t.top }

-- the words of the tokens behind it
abbrev pub words_behind : Change → Table → ℕ × ℕ
words_behind gets_token t = next_random t.tokens
words_behind other t = t.tokens

-- the table behind it
abbrev pub turned_in : Change → Table → Member → Table
turned_in c t m = with_member (turned c t m) (record t { tokens = words_behind c t })

-- what it is told with it
abbrev pub told_with : Change → Origin → Table → Member → List What
told_with (wants_password true name asked) o t m = Msg (ServerNeedGamePassword o.setup.seed o.setup.id) ∷ []
told_with (wants_password false name asked) o t m = Msg (ServerNeedCompanyPassword o.setup.seed o.setup.id) ∷ []
told_with (is_let_in name asked) o t m = Msg (ServerWelcome m.client o.setup.seed o.setup.id) ∷ []
told_with gets_token o t m = Msg (ServerFrame t.frame t.top (fresh_token t.tokens)) ∷ []
told_with gets_frame o t m = Msg (ServerFrame t.frame t.top 0) ∷ []
told_with (gets_pieces left) o t m = MapPieces ∷ []
told_with other o t m = []

abbrev pub steps_with : Change → Origin → Table → Member → List Step
steps_with c o t m = map (λ w. step (m.conn ∷ []) w) (told_with c o t m)

-- ---- what else is told, and what it is made of

-- a member of the table has this client number; and it is named so, and is in this company
abbrev pub IsClient : Table → ℕ → Type 0
IsClient t client = (m : Member) × On t m × (client ≡ m.client)

abbrev pub IsSeated : Table → ℕ → ℕ → List ℕ → Type 0
IsSeated t client company name = (m : Member) × On t m × (client ≡ m.client) × (company ≡ m.company) × (name ≡ m.name)

-- a code for which the rules end a member, or one that it says itself
abbrev pub IsReason : Event → Member → ℕ → Type 0
IsReason e m code = (code ≤ 20) ⊎ Says e m (ClientError code)

abbrev pub IsEnd : Event → Table → ℕ → ℕ → Type 0
IsEnd e t client code = (m : Member) × On t m × (client ≡ m.client) × IsReason e m code

abbrev pub IsFarewell : Event → Member → Farewell → Type 0
IsFarewell e m Quitting = Unit
IsFarewell e m (Failing code) = IsReason e m code

-- a packet spells the message, whose body is bytes where the event is an event of bytes
abbrev pub SaysAside : Event → AdminMsg → Type 0
SaysAside e msg = (kind : ℕ) × (body : List ℕ) × (IsEvent e → IsBytes body) × (read_admin kind body ≡ Some msg)

-- what a member says in a scope, or the server itself: an admin's chat, and what the console announces to all
abbrev pub IsChat : Event → Table → ℕ → ℕ → List ℕ → Type 0
IsChat e t client scope text =
    ((m : Member) × On t m × (client ≡ m.client) × (to : ℕ) × Says e m (ClientChat scope to text))
    ⊎ ((client ≡ 1) × (to : ℕ) × SaysAside e (admins.AdminChat scope to text))
    ⊎ ((client ≡ 1) × (scope ≡ 0) × (line : List ℕ) × SaysAside e (admins.AdminRcon line)
    × (command_in line ≡ announces text))

-- a message of a dialogue that moves nothing: no command, no frame, nothing of the map
abbrev pub IsTalk : Origin → Event → Table → GameMsg → Type 0
IsTalk o e t (ServerError code) = code ≤ 20
IsTalk o e t (ServerGameInfo name frame clients companies max password) =
    (name ≡ o.setup.name) × (frame ≡ t.frame) × (clients ≤ 255) × (companies ≡ count_living (living_in o t)) × (max ≡ o.setup.max_clients)
IsTalk o e t (ServerClientInfo client company name) = IsSeated t client company name
IsTalk o e t (ServerJoin client) = IsClient t client
IsTalk o e t (ServerMove client company) = (m : Member) × On t m × (client ≡ m.client) × (company ≡ m.company)
IsTalk o e t (ServerChat client scope text) = IsChat e t client scope text
IsTalk o e t (ServerErrorQuit client code) = IsEnd e t client code
IsTalk o e t (ServerQuit client) = IsClient t client
IsTalk o e t other = ⊥

-- what those that play are told: talk, entries of the journal, and the word of the world
abbrev pub IsNews : Origin → Event → Table → What → Type 0
IsNews o e t (Msg m) = IsTalk o e t m
IsNews o e t (Stamp entry) = Among entry t.journal
IsNews o e t Sync = Unit
IsNews o e t other = ⊥

-- a line of the console: a short one, or that of a member
abbrev pub IsAnswer : Table → List ℕ → Type 0
IsAnswer t text = ((is_plain text ≡ true) × (length text ≤ 899)) ⊎ ((m : Member) × On t m × (text ≡ client_line m))

-- what admins are told
abbrev pub IsNotice : Origin → Event → Table → AdminMsg → Type 0
IsNotice o e t (admins.ServerError code) = code ≤ 20
IsNotice o e t (admins.ServerClientJoin client) = IsClient t client
IsNotice o e t (admins.ServerClientInfo client name company) = IsSeated t client company name
IsNotice o e t (admins.ServerClientUpdate client name company) = IsSeated t client company name
IsNotice o e t (admins.ServerClientQuit client) = IsClient t client
IsNotice o e t (admins.ServerClientError client code) = IsEnd e t client code
IsNotice o e t (admins.ServerChat scope client text) = IsChat e t client scope text
IsNotice o e t (admins.ServerCmdLogging client company code frame) =
    (entry : Entry) × Among entry t.journal × (client ≡ entry.sender) × (company ≡ entry.company)
    × (code ≡ number_of entry.command.code) × (frame ≡ entry.frame)
IsNotice o e t (admins.ServerProtocol version items) = (version ≡ admin_protocol) × (items ≡ types_from 0 allowed_bits)
IsNotice o e t (admins.ServerPong id) = SaysAside e (admins.AdminPing id)
IsNotice o e t (admins.ServerConsole origin text) = (origin ≡ codes "admin") × SaysAside e (admins.AdminRcon text)
IsNotice o e t (admins.ServerRcon colour text) = (colour ≡ 0) × IsAnswer t text
IsNotice o e t (admins.ServerRconEnd text) = SaysAside e (admins.AdminRcon text)
IsNotice o e t (admins.ServerCmdNames names) = names ≡ command_names
IsNotice o e t other = ⊥

-- what reports are made of is filled in at the end of the event
abbrev pub IsReport : Origin → Event → Table → Report → Type 0
IsReport o e t (Message msg) = IsNotice o e t msg
IsReport o e t other = Unit

-- ---- each change keeps who the member is

pub turned-conn : (c : Change) (t : Table) (m : Member) → (turned c t m).conn ≡ m.conn
turned-conn (wants_password true name asked) t m = refl
turned-conn (wants_password false name asked) t m = refl
turned-conn (answers frame token) t m = by (token == 0)
  where
    by : (b : Bool) → (record (cond b m (closed_token m)) { acked = frame }).conn ≡ m.conn
    by true = refl
    by false = refl
turned-conn (is_let_in name asked) t m = refl
turned-conn gets_token t m = refl
turned-conn gets_frame t m = refl
turned-conn plays t m = refl
turned-conn (commands company code number to text command) t m = refl
turned-conn (has_name name) t m = refl
turned-conn (goes_to company digest) t m = refl
turned-conn (founds company) t m = refl
turned-conn (gets_pieces left) t m = refl
turned-conn has_all t m = refl

pub turned-client : (c : Change) (t : Table) (m : Member) → (turned c t m).client ≡ m.client
turned-client (wants_password true name asked) t m = refl
turned-client (wants_password false name asked) t m = refl
turned-client (answers frame token) t m = by (token == 0)
  where
    by : (b : Bool) → (record (cond b m (closed_token m)) { acked = frame }).client ≡ m.client
    by true = refl
    by false = refl
turned-client (is_let_in name asked) t m = refl
turned-client gets_token t m = refl
turned-client gets_frame t m = refl
turned-client plays t m = refl
turned-client (commands company code number to text command) t m = refl
turned-client (has_name name) t m = refl
turned-client (goes_to company digest) t m = refl
turned-client (founds company) t m = refl
turned-client (gets_pieces left) t m = refl
turned-client has_all t m = refl

pub moved-conn : (v : Move) (t : Table) (m : Member) → (moved v t m).conn ≡ m.conn
moved-conn queues t m = refl
moved-conn begins_map t m = refl
moved-conn loads t m = refl

pub moved-client : (v : Move) (t : Table) (m : Member) → (moved v t m).client ≡ m.client
moved-client queues t m = refl
moved-client begins_map t m = refl
moved-client loads t m = refl
