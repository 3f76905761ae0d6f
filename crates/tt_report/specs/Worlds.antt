-- The text of a world: its random words, its day, its companies and its signs.
use Rattle.std.specs.Prelude.{ℕ, zero, suc, Bool, true, false, List, [], ◌++◌, codes, Option, None, Some}
use Rattle.std.specs.Int.{w32, to_be_bytes}
use Rattle.std.specs.List.{flat_map}
use Rattle.std.specs.Fmt.{decimal, signed_decimal}
use Rattle.hex.specs.Hex.{encode_lower}
use Rattle.tt_lines.specs.Digits.{bytes_text}
use Rattle.tt_world.specs.declared.company.Company.{Company}
use Rattle.tt_world.specs.declared.sign.Sign.{Sign}
use Rattle.tt_world.specs.World.{WorldState, company_of}

-- a word of 32 bits in eight hexadecimal digits
abbrev pub word_text : ℕ → List ℕ
word_text word = encode_lower (to_be_bytes w32 word)

-- the two random words
abbrev pub words_text : ℕ × ℕ → List ℕ
words_text words = word_text words.0 ++ codes " " ++ word_text words.1

-- whether the world is paused
abbrev pub paused_text : Bool → List ℕ
paused_text true = codes " 1"
paused_text false = codes " 0"

-- the random words, the day, its part, and whether the world is paused
abbrev pub world_text : WorldState → List ℕ
world_text world = words_text world.words ++ codes " " ++ decimal world.day ++ codes " " ++ decimal world.part ++ paused_text world.paused

-- a live company's line: its number, its money, its loan, its name and its president's
abbrev pub company_line : ℕ → Company → List ℕ
company_line number c =
    codes "company " ++ decimal number ++ codes " " ++ signed_decimal c.money ++ codes " " ++ decimal c.loan ++ codes " "
    ++ bytes_text c.name ++ codes " " ++ bytes_text c.president ++ codes "\n"

-- a line for a company, where it is live
abbrev pub place_line : ℕ → Option Company → List ℕ
place_line number None = []
place_line number (Some c) = company_line number c

-- the lines of the live companies whose numbers are below this
abbrev pub company_lines : WorldState → ℕ → List ℕ
company_lines world zero = []
company_lines world (suc n) = company_lines world n ++ place_line n (company_of world n)

-- a sign's id, its owner, and the tile
abbrev pub sign_place : Sign → List ℕ
sign_place g = decimal g.id ++ codes " " ++ decimal g.owner ++ codes " " ++ decimal g.tile

-- a sign's line: where it stands, and its text
abbrev pub sign_line : Sign → List ℕ
sign_line g = codes "sign " ++ sign_place g ++ codes " " ++ bytes_text g.text ++ codes "\n"

-- what a world holds: its companies by number, and its signs by id
abbrev pub holding_lines : WorldState → List ℕ
holding_lines world = company_lines world 15 ++ flat_map sign_line world.signs

-- the server's line: the frame, the greatest permitted frame, and the world
abbrev pub server_line : ℕ → ℕ → WorldState → List ℕ
server_line frame top world = codes "server " ++ decimal frame ++ codes " " ++ decimal top ++ codes " " ++ world_text world ++ codes "\n"
