-- What each packet does that is allowed.
use Rattle.std.specs.Prelude.{ℕ, ◌+◌, min, Bool, not, ◌&&◌, ◌||◌, ◌==◌, nat_le, cond, List, [], ◌∷◌, ◌++◌, map, filter, length, Option}
use Rattle.std.specs.Prelude.{Some, None}
use Rattle.tt_game.specs.declared.message.GameMsg.{GameMsg}
use Rattle.tt_game.specs.declared.message.GameMsg.TheVariants.{ClientJoin, ClientGameInfo, ClientGamePassword, ClientCompanyPassword}
use Rattle.tt_game.specs.declared.message.GameMsg.TheVariants.{ClientGetmap, ClientMapOk, ClientAck, ClientCommand, ClientChat}
use Rattle.tt_game.specs.declared.message.GameMsg.TheVariants.{ClientSetName, ClientSetPassword, ClientMove, ClientError, ClientQuit}
use Rattle.tt_game.specs.declared.message.GameMsg.TheVariants.{ServerGameInfo, ServerNeedGamePassword, ServerNeedCompanyPassword}
use Rattle.tt_game.specs.declared.message.GameMsg.TheVariants.{ServerWelcome, ServerJoin, ServerCommand, ServerChat, ServerClientInfo}
use Rattle.tt_game.specs.declared.message.GameMsg.TheVariants.{ServerMove}
use Rattle.tt_world.specs.declared.command.Code.TheVariants.{NewCompany}
use Rattle.tt_world.specs.declared.command.Command.{Command}
use Rattle.tt_world.specs.declared.command.Entry.{Entry}
use Rattle.tt_rules.specs.Commands.{number_of, command_of}
use Rattle.tt_rules.specs.Verdict.{spectator}
use Rattle.tt_rules.specs.declared.status.Status.TheVariants.{AuthGame, AuthCompany, Authorized, PreActive, Active}
use Rattle.tt_log.specs.declared.deed.What.TheVariants.{Entries}
use Rattle.tt_log.specs.Member.{Member, is_playing, is_in}
use Rattle.tt_log.specs.Origin.{Origin}
use Rattle.tt_log.specs.Table.{Table, living_in, count_living, with_member, welcomed, playing, now_in, digest_of, with_digest}
use Rattle.tt_log.specs.Deed.{tells_what, Deed, ◌▹◌, where_, where_some, becomes, tells, tells_each, tells_playing}
use Rattle.tt_log.specs.Names.{given_name}
use Rattle.tt_log.specs.Frames.{tells_fresh}
use Rattle.tt_log.specs.Queue.{asks, leaves_queue}
use Rattle.tt_log.specs.Judged.{is_empty, founder}
use Rattle.tt_log.specs.Ending.{ends_untold, quits}
use Rattle.tt_log.specs.Watching.{sees_welcome, sees_active, sees_change, sees_chat}

-- ---- messages that speak of a member or an entry

abbrev pub client_info : Member → GameMsg
client_info m = ServerClientInfo m.client m.company m.name

abbrev pub told_command : Entry → GameMsg
told_command e = ServerCommand e.company (number_of e.command.code) e.command.number e.command.to e.command.text e.frame e.sender

-- ---- from the opening to the welcome

-- GAME_INFO: the game in a few numbers
abbrev pub tells_game : Origin → Member → Table → Deed
tells_game o m t = tells (m.conn ∷ []) (ServerGameInfo o.setup.name t.frame (min (length (welcomed t)) 255) (count_living (living_in o t))
    o.setup.max_clients (not (is_empty o.setup.password))) t

-- the company that a member has once it is welcomed: the asked one, none where it asked for a new one
abbrev pub first_company : ℕ → ℕ
first_company asked = cond (asked == founder) spectator asked

-- the welcome: it is AUTHORIZED, and all that play are told of it
abbrev pub welcomes : Origin → Member → Table → Deed
welcomes o m t = let in_ = record (now_in Authorized t m) { company = first_company m.asked } in
    tells (m.conn ∷ []) (ServerWelcome m.client o.setup.seed o.setup.id) (with_member in_ t) ▹ tells_playing (client_info in_)
    ▹ sees_welcome in_

-- the company step: a company with a password asks for it
abbrev pub company_step_by : Option (List ℕ) → Origin → Member → Table → Deed
company_step_by None o m t = welcomes o m t
company_step_by (Some digest) o m t = tells (m.conn ∷ []) (ServerNeedCompanyPassword o.setup.seed o.setup.id)
    (with_member (now_in AuthCompany t m) t)

abbrev pub company_step : Origin → Member → Table → Deed
company_step o m t = company_step_by (digest_of t m.asked) o m t

-- the password step: a game with a password asks for it
abbrev pub password_step_by : List ℕ → Origin → Member → Table → Deed
password_step_by [] o m t = company_step o m t
password_step_by (b ∷ bs) o m t = tells (m.conn ∷ []) (ServerNeedGamePassword o.setup.seed o.setup.id) (with_member (now_in AuthGame t m) t)

abbrev pub password_step : Origin → Member → Table → Deed
password_step o m t = password_step_by o.setup.password o m t

-- JOIN: it is named, then the password step
abbrev pub joins : Origin → Member → List ℕ → ℕ → Table → Deed
joins o m name company t = password_step o (record m { name = given_name t m.conn name; asked = company }) t

-- ---- from the map into the game

-- MAP_OK: PRE_ACTIVE. It is told all welcomed members, the commands behind its map, and how far it may run, with a fresh
-- token. The frame of its map counts as acknowledged
abbrev pub enters : Member → Table → Deed
enters m t = let in_ = record (now_in PreActive t m) { acked = m.map_frame; told = t.top } in
    tells_each m.conn (map client_info (welcomed t)) (with_member in_ t) ▹ tells_what (m.conn ∷ []) (Entries m.map_frame) ▹ tells_fresh in_
    ▹ leaves_queue m.conn

-- a company for a member that asked for a new one, on the server's own list
abbrev pub new_company : Member → Command
new_company m = record { code = NewCompany; number = m.client; to = 0; text = [] }

abbrev pub asks_company : Member → Table → Deed
asks_company m t = becomes (record t { own = t.own ++ new_company m ∷ [] })

-- ACTIVE: the others that play are told; where it asked for a company, one is ordered
abbrev pub becomes_active : Member → Table → Deed
becomes_active m t = let in_ = now_in Active t m in
    tells (filter (λ c. not (c == m.conn)) (playing t)) (ServerJoin m.client) (with_member in_ t) ▹ sees_active in_
    ▹ where_ (m.asked == founder) (asks_company in_)

-- whether an acknowledged frame makes a member ACTIVE
abbrev pub has_caught_up : ℕ → Table → Member → Bool
has_caught_up frame t m = is_in PreActive m && nat_le t.frame (frame + 74)

-- the member without its open token
abbrev pub closed_token : Member → Member
closed_token m = record m { token = 0; token_frame = 0 }

-- the frame is kept, and the open token is closed where this is it; the token 0 is none
abbrev pub acknowledged : ℕ → ℕ → Member → Member
acknowledged frame token m = record (cond (token == 0) m (closed_token m)) { acked = frame }

-- ACK: a token is the open one, or 0
abbrev pub acknowledges : Member → ℕ → ℕ → Table → Deed
acknowledges m frame token t = let in_ = acknowledged frame token m in becomes (with_member in_ t) ▹ where_ (has_caught_up frame t m)
    (becomes_active in_)

-- ---- in the game

-- COMMAND: it waits, with the company for which it was allowed
abbrev pub command_waits : Member → ℕ → Command → Table → Deed
command_waits m company command t = becomes (with_member (record m { waiting = m.waiting ++ (company, command) ∷ [] }) t)

-- whether a member is in the scope of a chat: 0 all, 1 a company, 2 a client
abbrev pub is_in_scope : ℕ → ℕ → Member → Bool
is_in_scope scope to m = (scope == 0) || ((scope == 1) && (m.company == to)) || ((scope == 2) && (m.client == to))

-- CHAT: those that play and are in scope are told, the sender too
abbrev pub chats : ℕ → ℕ → ℕ → List ℕ → Table → Deed
chats client scope to text t = tells (map (λ m. m.conn) (filter (λ m. is_playing m && is_in_scope scope to m) t.members))
    (ServerChat client scope text) t
    ▹ sees_chat client scope text

-- SET_NAME
abbrev pub renames : Member → List ℕ → Table → Deed
renames m name t = let in_ = record m { name = given_name t m.conn name } in tells_playing (client_info in_) (with_member in_ t)
    ▹ sees_change in_

-- SET_PASSWORD: the digest of its company, or none
abbrev pub locks : Member → Option (List ℕ) → Table → Deed
locks m digest t = becomes (with_digest m.company digest t)

-- MOVE, also as a founder's
abbrev pub moves : Member → ℕ → Table → Deed
moves m company t = let in_ = record m { company = company } in tells_playing (ServerMove m.client company) (with_member in_ t)
    ▹ sees_change in_

-- ---- a packet that is allowed: the last of the four places of a row (the others are named in Judged)
abbrev pub does : Origin → Member → GameMsg → Table → Deed
does o m (ClientJoin revision grf name company) t = joins o m name company t
does o m ClientGameInfo t = tells_game o m t
does o m (ClientGamePassword digest) t = company_step o m t
does o m (ClientCompanyPassword digest) t = welcomes o m t
does o m ClientGetmap t = asks m t
does o m ClientMapOk t = enters m t
does o m (ClientAck frame token) t = acknowledges m frame token t
does o m (ClientCommand company code number to text) t = where_some (command_of code number to text) (command_waits m company) t
does o m (ClientChat scope to text) t = chats m.client scope to text t
does o m (ClientSetName name) t = renames m name t
does o m (ClientSetPassword digest) t = locks m digest t
does o m (ClientMove company digest) t = moves m company t
does o m (ClientError code) t = ends_untold m code t
does o m ClientQuit t = quits m t
does o m other t = becomes t
