-- Chat, names, passwords, moves and ends: lists of events, and what a game is made from that is not plain.
use Rattle.tt_rows.specs.Games.{Game}
use Rattle.tt_world.specs.declared.command.Code.TheVariants.{NewCompany}
use Rattle.std.specs.Prelude.{[], ◌∷◌, ◌++◌, replicate, codes, true, false}
use Rattle.tt_edge.specs.declared.event.Event.TheVariants.{Tick, Stop}
use Rattle.tt_world.specs.Setup.{plain}
use Rattle.tt_log.specs.Origin.{Origin}
use Rattle.tt_rows.specs.Words.{made_from, opens, ann, bob, cid, dan, joins, spectates, founds, gives_company_password, asks_for_map}
use Rattle.tt_rows.specs.Words.{has_loaded, acknowledges, chats_to, wants_name, locks_company, moves_to, tells_error, quits, hex}
use Rattle.tt_rows.specs.Words.{plain_game, entry}

-- Chats in the three scopes.
abbrev pub chats : Game
chats = record {
  origin = plain_game;
  events =
      opens ∷ opens ∷ opens ∷ founds 1 ann ∷ asks_for_map 1 ∷ Tick ∷ has_loaded 1 ∷ acknowledges 1 1 ∷ founds 2 bob ∷
      asks_for_map 2 ∷ Tick ∷ has_loaded 2 ∷ acknowledges 2 2 ∷ Tick ∷ spectates 3 cid ∷ chats_to 1 0 0 (codes "all") ∷
      chats_to 1 1 1 (codes "them") ∷ chats_to 2 2 2 (codes "Ann") ∷ chats_to 2 2 9 (codes "none") ∷
      chats_to 1 1 255 (codes "nobody") ∷ [];
  conns = (
    hex (codes "0e000c020000000000000074740007000f00000000070010410000004400114f54544e0002000047414d450000")
        ++ hex (codes "000600000000000052414e44000000080000000000000000434d505900000001005349474e000000020000454e")
        ++ hex (codes "4443000000000300120c001d02000000ff416e6e000c00150100000001000000ff0c001d03000000ff426f6200")
        ++ hex (codes "140019ff080002000000000002000000010000000c001502000000020000000008002002000000000700140300")
        ++ hex (codes "0000140019ff080003000000000003000000010000000c001503000000030000000008002003000000010c001d")
        ++ hex (codes "04000000ff436964000c001b0200000000616c6c000c001b0300000002416e6e00"),
    true,
  )
      ∷ (
        hex (codes "0e000c030000000000000074740007000f01000000070010410000004400114f54544e0002000047414d450000")
            ++ hex (codes "000600000000010052414e4400000008fe2468adffffffff434d505900000001005349474e000000020000454e")
            ++ hex (codes "4443000000000300120c001d0200000000416e6e000c001d03000000ff426f6200140019ff0800020000000000")
            ++ hex (codes "02000000010000000c00150200000002000000c0140019ff080003000000000003000000010000000c00150300")
            ++ hex (codes "0000030000000008002003000000010c001d04000000ff436964000c001b0200000000616c6c000d001b020000")
            ++ hex (codes "00017468656d00"),
        true,
      )
      ∷ (
        hex (codes "0e000c0400000000000000747400"),
        true,
      )
      ∷ [];
  journal =
      entry 2 1 255 NewCompany 2 0 [] ∷ entry 3 1 255 NewCompany 3 0 [] ∷ [];
  frames = (3, 3);
}

-- A name in use gets a number, one that is too long ends its member.
abbrev pub renamed : Game
renamed = record {
  origin = plain_game;
  events =
      opens ∷ opens ∷ founds 1 ann ∷ asks_for_map 1 ∷ Tick ∷ has_loaded 1 ∷ acknowledges 1 1 ∷ founds 2 bob ∷ asks_for_map 2 ∷
      Tick ∷ has_loaded 2 ∷ acknowledges 2 2 ∷ Tick ∷ wants_name 2 ann ∷ wants_name 1 ann ∷
      wants_name 1 (codes "xxxxxxxxxxxxxxxxxxxxxxxx") ∷ wants_name 2 (codes "xxxxxxxxxxxxxxxxxxxxxx") ∷
      wants_name 2 (codes "xxxxxxxxxxxxxxxxxxxxxxxx") ∷ [];
  conns = (
    hex (codes "0e000c020000000000000074740007000f00000000070010410000004400114f54544e0002000047414d450000")
        ++ hex (codes "000600000000000052414e44000000080000000000000000434d505900000001005349474e000000020000454e")
        ++ hex (codes "4443000000000300120c001d02000000ff416e6e000c00150100000001000000ff0c001d03000000ff426f6200")
        ++ hex (codes "140019ff080002000000000002000000010000000c001502000000020000000008002002000000000700140300")
        ++ hex (codes "0000140019ff080003000000000003000000010000000c001503000000030000000008002003000000010f001d")
        ++ hex (codes "0300000001416e6e202331000c001d0200000000416e6e0021001d020000000078787878787878787878787878")
        ++ hex (codes "7878787878787878787878001f001d030000000178787878787878787878787878787878787878787878000800")
        ++ hex (codes "220300000009"),
    true,
  )
      ∷ (
        hex (codes "0e000c030000000000000074740007000f01000000070010410000004400114f54544e0002000047414d450000")
            ++ hex (codes "000600000000010052414e4400000008fe2468adffffffff434d505900000001005349474e000000020000454e")
            ++ hex (codes "4443000000000300120c001d0200000000416e6e000c001d03000000ff426f6200140019ff0800020000000000")
            ++ hex (codes "02000000010000000c00150200000002000000c0140019ff080003000000000003000000010000000c00150300")
            ++ hex (codes "0000030000000008002003000000010f001d0300000001416e6e202331000c001d0200000000416e6e0021001d")
            ++ hex (codes "0200000000787878787878787878787878787878787878787878787878001f001d030000000178787878787878")
            ++ hex (codes "7878787878787878787878787878780004000309"),
        false,
      )
      ∷ [];
  journal =
      entry 2 1 255 NewCompany 2 0 [] ∷ entry 3 1 255 NewCompany 3 0 [] ∷ [];
  frames = (3, 3);
}

-- A company with a password: the right digest, another one, and one for a digest that was taken off.
abbrev pub company_password : Game
company_password = record {
  origin = plain_game;
  events =
      replicate 4 opens ++ (founds 1 ann ∷ asks_for_map 1 ∷ Tick ∷ has_loaded 1 ∷ acknowledges 1 1 ∷ Tick ∷
      locks_company 1 (codes "0123456789abcdef0123456789abcdef") ∷ joins 2 bob 0 ∷
      gives_company_password 2 (codes "0123456789abcdef0123456789abcdef") ∷ joins 3 cid 0 ∷
      gives_company_password 3 (codes "fedcba9876543210fedcba9876543210") ∷ joins 4 dan 0 ∷ locks_company 1 [] ∷
      gives_company_password 4 (codes "0123456789abcdef0123456789abcdef") ∷ []);
  conns = (
    hex (codes "0e000c020000000000000074740007000f00000000070010410000004400114f54544e0002000047414d450000")
        ++ hex (codes "000600000000000052414e44000000080000000000000000434d505900000001005349474e000000020000454e")
        ++ hex (codes "4443000000000300120c001d02000000ff416e6e000c00150100000001000000ff140019ff0800020000000000")
        ++ hex (codes "02000000010000000c001502000000020000000008002002000000000c001d0300000000426f6200"),
    true,
  )
      ∷ (
        hex (codes "0a000a000000007474000e000c0300000000000000747400"),
        true,
      )
      ∷ (
        hex (codes "0a000a000000007474000400030a"),
        false,
      )
      ∷ (
        hex (codes "0a000a000000007474000400030a"),
        false,
      )
      ∷ [];
  journal =
      entry 2 1 255 NewCompany 2 0 [] ∷ [];
  frames = (2, 2);
}

-- Moves into a company with a password, out of it, and to one that is not live.
abbrev pub moves : Game
moves = record {
  origin = plain_game;
  events =
      opens ∷ opens ∷ opens ∷ founds 1 ann ∷ asks_for_map 1 ∷ Tick ∷ has_loaded 1 ∷ acknowledges 1 1 ∷ spectates 2 bob ∷
      asks_for_map 2 ∷ Tick ∷ has_loaded 2 ∷ acknowledges 2 2 ∷ Tick ∷
      locks_company 1 (codes "0123456789abcdef0123456789abcdef") ∷ moves_to 2 0 (codes "fedcba9876543210fedcba9876543210") ∷
      spectates 3 cid ∷ asks_for_map 3 ∷ Tick ∷ has_loaded 3 ∷ acknowledges 3 4 ∷
      moves_to 3 0 (codes "0123456789abcdef0123456789abcdef") ∷ moves_to 3 255 [] ∷ moves_to 1 7 [] ∷ [];
  conns = (
    hex (codes "0e000c020000000000000074740007000f00000000070010410000004400114f54544e0002000047414d450000")
        ++ hex (codes "000600000000000052414e44000000080000000000000000434d505900000001005349474e000000020000454e")
        ++ hex (codes "4443000000000300120c001d02000000ff416e6e000c00150100000001000000ff0c001d03000000ff426f6200")
        ++ hex (codes "140019ff080002000000000002000000010000000c001502000000020000000008002002000000000700140300")
        ++ hex (codes "00000c0015030000000300000000080022030000000a0c001d04000000ff436964000c00150400000004000000")
        ++ hex (codes "0007001404000000080020040000000008002004000000ff0400030b"),
    false,
  )
      ∷ (
        hex (codes "0e000c030000000000000074740007000f01000000070010410000004400114f54544e0002000047414d450000")
            ++ hex (codes "000600000000010052414e4400000008fe2468adffffffff434d505900000001005349474e000000020000454e")
            ++ hex (codes "4443000000000300120c001d0200000000416e6e000c001d03000000ff426f6200140019ff0800020000000000")
            ++ hex (codes "02000000010000000c00150200000002000000c00c00150300000003000000000400030a"),
        false,
      )
      ∷ (
        hex (codes "0e000c040000000000000074740007000f03000000070010660000006900114f54544e0002000047414d450000")
            ++ hex (codes "000600000000030052414e4400000008d75be1b81fffffff434d505900000026010000000000000186a0000186")
            ++ hex (codes "a0000493e009436f6d70616e79203109507265736964656e745349474e000000020000454e4443000000000300")
            ++ hex (codes "120c001d0200000000416e6e000c001d04000000ff436964000c00150400000004000000200800200400000000")
            ++ hex (codes "08002004000000ff080022020000000b"),
        true,
      )
      ∷ [];
  journal =
      entry 2 1 255 NewCompany 2 0 [] ∷ [];
  frames = (4, 4);
}

-- A stop ends the game for all.
abbrev pub stopped : Game
stopped = record {
  origin = plain_game;
  events =
      opens ∷ opens ∷ founds 1 ann ∷ asks_for_map 1 ∷ Tick ∷ has_loaded 1 ∷ acknowledges 1 1 ∷ founds 2 bob ∷ asks_for_map 2 ∷
      Tick ∷ has_loaded 2 ∷ acknowledges 2 2 ∷ Tick ∷ Stop ∷ Tick ∷ opens ∷ [];
  conns = (
    hex (codes "0e000c020000000000000074740007000f00000000070010410000004400114f54544e0002000047414d450000")
        ++ hex (codes "000600000000000052414e44000000080000000000000000434d505900000001005349474e000000020000454e")
        ++ hex (codes "4443000000000300120c001d02000000ff416e6e000c00150100000001000000ff0c001d03000000ff426f6200")
        ++ hex (codes "140019ff080002000000000002000000010000000c001502000000020000000008002002000000000700140300")
        ++ hex (codes "0000140019ff080003000000000003000000010000000c00150300000003000000000800200300000001030025"),
    false,
  )
      ∷ (
        hex (codes "0e000c030000000000000074740007000f01000000070010410000004400114f54544e0002000047414d450000")
            ++ hex (codes "000600000000010052414e4400000008fe2468adffffffff434d505900000001005349474e000000020000454e")
            ++ hex (codes "4443000000000300120c001d0200000000416e6e000c001d03000000ff426f6200140019ff0800020000000000")
            ++ hex (codes "02000000010000000c00150200000002000000c0140019ff080003000000000003000000010000000c00150300")
            ++ hex (codes "000003000000000800200300000001030025"),
        false,
      )
      ∷ [];
  journal =
      entry 2 1 255 NewCompany 2 0 [] ∷ entry 3 1 255 NewCompany 3 0 [] ∷ [];
  frames = (3, 3);
}

-- a game that ends at a cost of 200
abbrev pub cost_reached_game : Origin
cost_reached_game = made_from (record plain { cost = 200 })

-- The game ends at its cost.
abbrev pub cost_reached : Game
cost_reached = record {
  origin = cost_reached_game;
  events =
      opens ∷ opens ∷ spectates 1 ann ∷ Tick ∷ Tick ∷ spectates 2 bob ∷ [];
  conns = (
    hex (codes "0e000c0200000000000000747400030025"),
    false,
  )
      ∷ (
        hex (codes "030025"),
        false,
      )
      ∷ [];
  journal =
      [];
  frames = (0, 0);
}

-- One quits, and one tells an error.
abbrev pub quits_and_errors : Game
quits_and_errors = record {
  origin = plain_game;
  events =
      opens ∷ opens ∷ opens ∷ spectates 1 ann ∷ asks_for_map 1 ∷ Tick ∷ has_loaded 1 ∷ acknowledges 1 1 ∷ spectates 2 bob ∷
      asks_for_map 2 ∷ Tick ∷ has_loaded 2 ∷ acknowledges 2 2 ∷ spectates 3 cid ∷ quits 3 ∷ tells_error 2 9 ∷ Tick ∷ [];
  conns = (
    hex (codes "0e000c020000000000000074740007000f00000000070010410000004400114f54544e0002000047414d450000")
        ++ hex (codes "000600000000000052414e44000000080000000000000000434d505900000001005349474e000000020000454e")
        ++ hex (codes "4443000000000300120c001d02000000ff416e6e000c00150100000001000000ff0c001d03000000ff426f6200")
        ++ hex (codes "0c0015020000000200000000070014030000000c001d04000000ff436964000700240400000008002203000000")
        ++ hex (codes "090c0015030000000300000000"),
    true,
  )
      ∷ (
        hex (codes "0e000c030000000000000074740007000f01000000070010410000004400114f54544e0002000047414d450000")
            ++ hex (codes "000600000000010052414e4400000008fe2468adffffffff434d505900000001005349474e000000020000454e")
            ++ hex (codes "4443000000000300120c001d02000000ff416e6e000c001d03000000ff426f62000c00150200000002000000c0")
            ++ hex (codes "0c001d04000000ff4369640007002404000000"),
        false,
      )
      ∷ (
        hex (codes "0e000c0400000000000000747400"),
        false,
      )
      ∷ [];
  journal =
      [];
  frames = (3, 3);
}

-- a game that ends at a cost of 128, which is that of two openings
abbrev pub cost_met_game : Origin
cost_met_game = made_from (record plain { cost = 128 })

-- The game ends with the event that brings the record to its cost.
abbrev pub cost_met : Game
cost_met = record {
  origin = cost_met_game;
  events =
      opens ∷ opens ∷ [];
  conns = (
    hex (codes "030025"),
    false,
  )
      ∷ (
        hex (codes "030025"),
        false,
      )
      ∷ [];
  journal =
      [];
  frames = (0, 0);
}
