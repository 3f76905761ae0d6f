-- The line of a packet.
use Rattle.std.specs.Prelude.{◌≡◌, ℕ, List, ◌++◌, codes, Option, Some, None, Result, Ok, Err}
use Rattle.tt_frame.specs.Packet.{Packet}
use Rattle.tt_frame.specs.Unread.{whole}
use Rattle.tt_frame.specs.Tables.{rule_of, name_by, read_by, StopsBy}
use Rattle.tt_frame.specs.Families.{Family as Messages}
use Rattle.tt_game.specs.declared.message.GameMsg.{GameMsg}
use Rattle.tt_game.specs.Apart.{game_family}
use Rattle.tt_admin.specs.declared.message.AdminMsg.{AdminMsg}
use Rattle.tt_admin.specs.Apart.{admin_family}
use Rattle.tt_coord.specs.declared.coord.CoordMsg.{CoordMsg}
use Rattle.tt_coord.specs.Coord.{coord_family}
use Rattle.tt_coord.specs.declared.stun.StunMsg.{StunMsg}
use Rattle.tt_coord.specs.Stun.{stun_family}
use Rattle.tt_coord.specs.declared.turn.TurnMsg.{TurnMsg}
use Rattle.tt_coord.specs.Turn.{turn_family}
use Rattle.tt_show.specs.declared.family.Family.{Family}
use Rattle.tt_show.specs.declared.family.Family.TheVariants.{Game, Admin, Coord, Stun, Turn}
use Rattle.tt_show.specs.Texts.{row_text}

-- the line of a message: its name, and a word for each value
abbrev pub message_text : {M : Type 0} → Messages M → M → List ℕ
message_text family m =
    let p = family.apart m in
    name_by family.table p.kind ++ row_text (rule_of family.table p.kind).fields p.values ++ codes "\n"

-- the line of what a packet was read as, where it spells a message
abbrev pub text_of : {M : Type 0} → Messages M → Result M ℕ → Option (List ℕ)
text_of family (Ok m) = Some (message_text family m)
text_of family (Err at) = None

-- the line of a packet, where it spells a message of the family
abbrev pub text_by : {M : Type 0} → Messages M → Packet → Option (List ℕ)
text_by family p = text_of family (read_by family.table p.kind (whole p.body))

-- ---- the families

-- the messages of a game
abbrev pub game : Messages GameMsg
game = game_family

-- the messages between an admin and the server
abbrev pub admin : Messages AdminMsg
admin = admin_family

-- the messages of the coordinator
abbrev pub coord : Messages CoordMsg
coord = coord_family

-- the messages to its STUN desk
abbrev pub stun : Messages StunMsg
stun = stun_family

-- the messages of its TURN server
abbrev pub turn : Messages TurnMsg
turn = turn_family

-- the line of a packet of this family
abbrev pub packet_text : Family → Packet → Option (List ℕ)
packet_text Game p = text_by game p
packet_text Admin p = text_by admin p
packet_text Coord p = text_by coord p
packet_text Stun p = text_by stun p
packet_text Turn p = text_by turn p

-- where a packet of this family that spells nothing stops: at the first field that isn't there, or at the first byte behind
-- the last one
abbrev pub PacketStops : Family → Packet → ℕ → Type 0
PacketStops Game p at = StopsBy game.table p.kind p.body at
PacketStops Admin p at = StopsBy admin.table p.kind p.body at
PacketStops Coord p at = StopsBy coord.table p.kind p.body at
PacketStops Stun p at = StopsBy stun.table p.kind p.body at
PacketStops Turn p at = StopsBy turn.table p.kind p.body at

-- the word that a line of a list begins with
abbrev pub family_word : Family → List ℕ
family_word Game = codes "game"
family_word Admin = codes "admin"
family_word Coord = codes "coord"
family_word Stun = codes "stun"
family_word Turn = codes "turn"

-- a line is appended, where there is one
abbrev pub Appends : Option (List ℕ) → List ℕ → List ℕ → Type 0
Appends (Some line) before after = after ≡ before ++ line
Appends None before after = ⊥
