-- The words in which games are told.
use Rattle.std.specs.Prelude.{ℕ, zero, suc, pos, decimal, ◌+◌, ◌-◌, ◌*◌, Bool, true, false, nat_lt, List, [], ◌∷◌, ◌++◌, codes, drop}
use Rattle.std.specs.Prelude.{flat_map, slice_index, slice_set, replicate, Option, Some, None, option_map, ℤ}
use Rattle.std.specs.Int.{w16, w32, to_le_bytes}
use Rattle.tt_edge.specs.declared.event.Door.TheVariants.{Main}
use Rattle.tt_edge.specs.declared.event.Event.{Event}
use Rattle.tt_edge.specs.declared.event.Event.TheVariants.{Open, Packet}
use Rattle.tt_world.specs.Setup.{plain}
use Rattle.tt_world.specs.declared.setup.Setup.{Setup}
use Rattle.tt_world.specs.declared.company.Company.{Company}
use Rattle.tt_world.specs.declared.sign.Sign.{Sign}
use Rattle.tt_world.specs.declared.command.Code.{Code}
use Rattle.tt_world.specs.declared.command.Entry.{Entry}
use Rattle.tt_world.specs.World.{WorldState}
use Rattle.tt_log.specs.Origin.{Origin, origin_of}
use Rattle.tt_log.specs.Member.{Member}
use Rattle.tt_log.specs.Table.{Table, member_of}
use Rattle.tt_log.specs.declared.deed.Step.{Step}
use Rattle.tt_log.specs.declared.deed.What.{What}
use Rattle.tt_log.specs.declared.deed.What.TheVariants.{End}

-- ---- bytes

-- the value of a digit 0 to 9, or a to f
abbrev pub digit_by : Bool → ℕ → ℕ
digit_by true c = c - 48
digit_by false c = c - 87

abbrev pub digit : ℕ → ℕ
digit c = digit_by (nat_lt c 58) c

-- the bytes that pairs of hexadecimal digits spell
abbrev pub hex : List ℕ → List ℕ
hex [] = []
hex (high ∷ []) = []
hex (high ∷ low ∷ digits) = (digit high * 16 + digit low) ∷ hex digits

-- ---- events

-- a connection opens at the main door
abbrev pub opens : Event
opens = Open Main (record { host = 0 ∷ 0 ∷ 0 ∷ 0 ∷ []; port = 0 })

-- the packet with these bytes: two of size, its number, and its body
abbrev pub packet_event : ℕ → List ℕ → Event
packet_event conn bytes = Packet conn (slice_index bytes 2) (drop 3 bytes)

-- a connection says a packet, told in digits
abbrev pub says : ℕ → List ℕ → Event
says conn digits = packet_event conn (hex digits)

-- ---- from the opening into the game. Each is said on a connection; numbers of 4 bytes come with their low byte first

abbrev pub ann : List ℕ
ann = codes "Ann"

abbrev pub bob : List ℕ
bob = codes "Bob"

abbrev pub cid : List ℕ
cid = codes "Cid"

abbrev pub dan : List ℕ
dan = codes "Dan"

-- JOIN: the revision 13.4, the NewGRF version 13, a name, and the company that it asks for
abbrev pub joins : ℕ → List ℕ → ℕ → Event
joins conn name company = Packet conn 2 (codes "13.4" ++ 0 ∷ 13 ∷ 0 ∷ 0 ∷ 0 ∷ name ++ 0 ∷ company ∷ [])

-- JOIN for no company
abbrev pub spectates : ℕ → List ℕ → Event
spectates conn name = joins conn name 255

-- JOIN for a new company
abbrev pub founds : ℕ → List ℕ → Event
founds conn name = joins conn name 254

-- GAME_INFO
abbrev pub asks_what_game : ℕ → Event
asks_what_game conn = Packet conn 4 []

-- GAME_PASSWORD: the digest in 32 digits
abbrev pub gives_password : ℕ → List ℕ → Event
gives_password conn digest = Packet conn 9 (digest ++ 0 ∷ [])

-- COMPANY_PASSWORD: the digest in 32 digits
abbrev pub gives_company_password : ℕ → List ℕ → Event
gives_company_password conn digest = Packet conn 11 (digest ++ 0 ∷ [])

-- GETMAP
abbrev pub asks_for_map : ℕ → Event
asks_for_map conn = Packet conn 13 []

-- MAP_OK
abbrev pub has_loaded : ℕ → Event
has_loaded conn = Packet conn 19 []

-- ACK: the frame, and the token that it gives back
abbrev pub gives_back : ℕ → ℕ → ℕ → Event
gives_back conn frame token = Packet conn 23 (to_le_bytes w32 frame ++ token ∷ [])

-- ACK with no token
abbrev pub acknowledges : ℕ → ℕ → Event
acknowledges conn frame = gives_back conn frame 0

-- ---- commands

-- COMMAND: a company, a code, a number, another company, and a text
abbrev pub orders : ℕ → ℕ → ℕ → ℕ → ℕ → List ℕ → Event
orders conn company code number to text = Packet conn 24 (company ∷ to_le_bytes w16 code ++ to_le_bytes w32 number ++ to ∷ text ++ 0 ∷ [])

-- IncreaseLoan
abbrev pub borrows : ℕ → ℕ → ℕ → Event
borrows conn company amount = orders conn company 0 amount 0 []

-- DecreaseLoan
abbrev pub repays : ℕ → ℕ → ℕ → Event
repays conn company amount = orders conn company 1 amount 0 []

-- Give
abbrev pub gives : ℕ → ℕ → ℕ → ℕ → Event
gives conn company amount to = orders conn company 2 amount to []

-- PlaceSign, at a tile
abbrev pub places_sign : ℕ → ℕ → ℕ → List ℕ → Event
places_sign conn company tile text = orders conn company 3 tile 0 text

abbrev pub renames_sign : ℕ → ℕ → ℕ → List ℕ → Event
renames_sign conn company id text = orders conn company 4 id 0 text

abbrev pub renames_company : ℕ → ℕ → List ℕ → Event
renames_company conn company name = orders conn company 5 0 0 name

abbrev pub renames_president : ℕ → ℕ → List ℕ → Event
renames_president conn company name = orders conn company 6 0 0 name

-- ---- in the game

-- CHAT: to all (0), to a company (1) or to a client (2)
abbrev pub chats_to : ℕ → ℕ → ℕ → List ℕ → Event
chats_to conn scope to text = Packet conn 26 (scope ∷ to_le_bytes w32 to ++ text ++ 0 ∷ [])

-- SET_NAME
abbrev pub wants_name : ℕ → List ℕ → Event
wants_name conn name = Packet conn 28 (name ++ 0 ∷ [])

-- SET_PASSWORD: the digest in 32 digits, or none
abbrev pub locks_company : ℕ → List ℕ → Event
locks_company conn digest = Packet conn 30 (digest ++ 0 ∷ [])

-- MOVE: to a company, or to none (255), with a digest or none
abbrev pub moves_to : ℕ → ℕ → List ℕ → Event
moves_to conn company digest = Packet conn 31 (company ∷ digest ++ 0 ∷ [])

-- ERROR: a code
abbrev pub tells_error : ℕ → ℕ → Event
tells_error conn code = Packet conn 33 (code ∷ [])

-- QUIT
abbrev pub quits : ℕ → Event
quits conn = Packet conn 35 []

-- ---- games and worlds

-- a game with this setup, from its start
abbrev pub made_from : Setup → Origin
made_from setup = origin_of setup

-- the plain game
abbrev pub plain_game : Origin
plain_game = made_from plain

abbrev pub entry : ℕ → ℕ → ℕ → Code → ℕ → ℕ → List ℕ → Entry
entry frame sender company code number to text =
    record { frame = frame; sender = sender; company = company; command = record { code = code; number = number; to = to; text = text } }

abbrev pub company : ℤ → ℕ → List ℕ → List ℕ → Company
company money loan name president = record { money = money; loan = loan; most = 300000; name = name; president = president }

abbrev pub sign : ℕ → ℕ → ℕ → List ℕ → Sign
sign id owner tile text = record { id = id; owner = owner; tile = tile; text = text }

-- companies in their places
abbrev pub placed : List (ℕ × Company) → List (Option Company)
placed [] = replicate 15 None
placed (c ∷ companies) = slice_set (placed companies) c.0 (Some c.1)

abbrev pub world : ℕ × ℕ → ℕ → ℕ → Bool → List (ℕ × Company) → List Sign → WorldState
world words day part paused companies signs =
    record { words = words; day = day; part = part; paused = paused; companies = placed companies; signs = signs }

-- the name of the member on a connection
abbrev pub name_on : Table → ℕ → Option (List ℕ)
name_on t conn = option_map (λ (m : Member). m.name) (member_of t conn)

-- how many pieces of its map the member on a connection was told
abbrev pub pieces_on : Table → ℕ → Option ℕ
pieces_on t conn = option_map (λ (m : Member). m.pieces) (member_of t conn)

-- the connections that end by a step, and by steps
abbrev pub ended_by : What → List ℕ → List ℕ
ended_by End to = to
ended_by _ to = []

abbrev pub ends_in : List Step → List ℕ
ends_in steps = flat_map (λ (s : Step). ended_by s.what s.to) steps

-- so many companies as they are founded, from number 0 on
abbrev pub founded_from : ℕ → ℕ → List (ℕ × Company)
founded_from n zero = []
founded_from n (suc k) = (n, company (pos 100000) 100000 (codes "Company " ++ decimal (n + 1)) (codes "President")) ∷ founded_from (n + 1) k

-- a game with this setup, from a world with so many companies
abbrev pub with_companies : ℕ → Setup → Origin
with_companies k setup = record { setup = setup; start = world (setup.seed, setup.seed) 0 0 false (founded_from 0 k) [] }
