-- Ways into a game that the first games leave out.
use Rattle.std.specs.Prelude.{[], ◌∷◌, ◌++◌, true, false, codes}
use Rattle.tt_edge.specs.declared.event.Event.TheVariants.{Shut, Tick}
use Rattle.tt_world.specs.Setup.{plain}
use Rattle.tt_rows.specs.Words.{plain_game, made_from, with_companies, hex, opens, ann, bob, cid, dan, joins, spectates, founds}
use Rattle.tt_rows.specs.Words.{asks_what_game, gives_password, gives_company_password, asks_for_map, has_loaded, acknowledges}
use Rattle.tt_rows.specs.Words.{locks_company, quits}
use Rattle.tt_rows.specs.Games.{Game}

-- GAME_INFO counts the welcomed members and the live companies, tells the frame and not the permitted one, and that there is a password.
abbrev pub counts_of_a_game : Game
counts_of_a_game = record {
  origin = with_companies 2 (record plain { frame_freq = 3; password = codes "tttttttttttttttttttttttttttttttt" });
  events =
      opens ∷ spectates 1 ann ∷ gives_password 1 (codes "70bc8f4b72a86921468bf8e8441dce51") ∷ asks_for_map 1 ∷ Tick ∷
      has_loaded 1 ∷ acknowledges 1 1 ∷ opens ∷ spectates 2 bob ∷ gives_password 2 (codes "70bc8f4b72a86921468bf8e8441dce51") ∷
      opens ∷ asks_what_game 3 ∷ [];
  conns = (
    hex (codes "0a0008000000007474000e000c020000000000000074740007000f000000000700108b0000008e00114f54544e000200")
        ++ hex (codes "0047414d450000000600000000000052414e44000000080000000000000000434d50590000004b020000000000000186")
        ++ hex (codes "a0000186a0000493e009436f6d70616e79203109507265736964656e740100000000000186a0000186a0000493e00943")
        ++ hex (codes "6f6d70616e79203209507265736964656e745349474e000000020000454e4443000000000300120c001d02000000ff41")
        ++ hex (codes "6e6e000c00150100000004000000ff0c001d03000000ff426f6200"),
    true,
  )
      ∷ (
        hex (codes "0a0008000000007474000e000c0300000000000000747400"),
        true,
      )
      ∷ (
        hex (codes "10000547616d65000100000002021901"),
        true,
      )
      ∷ [];
  journal =
      [];
  frames = (1, 4);
}

-- A name counts as soon as its member is past INACTIVE, and the number behind it is the least free one.
abbrev pub three_want_one_name : Game
three_want_one_name = record {
  origin = made_from (record plain { password = codes "tttttttttttttttttttttttttttttttt" });
  events =
      opens ∷ opens ∷ opens ∷ spectates 1 ann ∷ spectates 2 ann ∷ spectates 3 ann ∷
      gives_password 3 (codes "70bc8f4b72a86921468bf8e8441dce51") ∷
      gives_password 2 (codes "70bc8f4b72a86921468bf8e8441dce51") ∷ asks_for_map 3 ∷ Tick ∷ has_loaded 3 ∷ acknowledges 3 1 ∷
      asks_for_map 2 ∷ Tick ∷ has_loaded 2 ∷ acknowledges 2 2 ∷ [];
  conns = (
    hex (codes "0a000800000000747400"),
    true,
  )
      ∷ (
        hex (codes "0a0008000000007474000e000c030000000000000074740007000f01000000070010410000004400114f54544e000200")
            ++ hex (codes "0047414d450000000600000000010052414e4400000008fe2468adffffffff434d505900000001005349474e00000002")
            ++ hex (codes "0000454e4443000000000300120f001d03000000ff416e6e202331000f001d04000000ff416e6e202332000c00150200")
            ++ hex (codes "000002000000c0"),
        true,
      )
      ∷ (
        hex (codes "0a0008000000007474000e000c040000000000000074740007000f00000000070010410000004400114f54544e000200")
            ++ hex (codes "0047414d450000000600000000000052414e44000000080000000000000000434d505900000001005349474e00000002")
            ++ hex (codes "0000454e4443000000000300120f001d03000000ff416e6e202331000f001d04000000ff416e6e202332000c00150100")
            ++ hex (codes "000001000000ff0c001502000000020000000007001403000000"),
        true,
      )
      ∷ [];
  journal =
      [];
  frames = (2, 2);
}

-- The name of a member that has not joined is not taken.
abbrev pub an_unnamed_one_has_no_name : Game
an_unnamed_one_has_no_name = record {
  origin = plain_game;
  events =
      opens ∷ opens ∷ spectates 1 (codes "?") ∷ asks_for_map 1 ∷ Tick ∷ has_loaded 1 ∷ acknowledges 1 1 ∷ [];
  conns = (
    hex (codes "0e000c020000000000000074740007000f00000000070010410000004400114f54544e0002000047414d450000000600")
        ++ hex (codes "000000000052414e44000000080000000000000000434d505900000001005349474e000000020000454e444300000000")
        ++ hex (codes "0300120a001d02000000ff3f000c00150100000001000000ff"),
    true,
  )
      ∷ (
        [],
        true,
      )
      ∷ [];
  journal =
      [];
  frames = (1, 1);
}

-- Where one that waits leaves, those behind it are told their number, and nobody else.
abbrev pub a_waiting_one_leaves : Game
a_waiting_one_leaves = record {
  origin = plain_game;
  events =
      opens ∷ opens ∷ opens ∷ opens ∷ spectates 1 ann ∷ spectates 2 bob ∷ spectates 3 cid ∷ spectates 4 dan ∷ asks_for_map 1 ∷
      asks_for_map 2 ∷ asks_for_map 3 ∷ asks_for_map 4 ∷ quits 3 ∷ [];
  conns = (
    hex (codes "0e000c020000000000000074740007000f0000000007001041000000"),
    true,
  )
      ∷ (
        hex (codes "0e000c030000000000000074740004000e01"),
        true,
      )
      ∷ (
        hex (codes "0e000c040000000000000074740004000e02"),
        false,
      )
      ∷ (
        hex (codes "0e000c050000000000000074740004000e0304000e02"),
        true,
      )
      ∷ [];
  journal =
      [];
  frames = (0, 0);
}

-- With fifteen companies none can be asked for anew.
abbrev pub no_number_is_free : Game
no_number_is_free = record {
  origin = with_companies 15 plain;
  events =
      opens ∷ founds 1 ann ∷ [];
  conns = (
    hex (codes "0400030b"),
    false,
  )
      ∷ [];
  journal =
      [];
  frames = (0, 0);
}

-- A game with a password asks for the company password too.
abbrev pub both_passwords : Game
both_passwords = record {
  origin = with_companies 1 (record plain { password = codes "tttttttttttttttttttttttttttttttt" });
  events =
      opens ∷ opens ∷ joins 1 ann 0 ∷ gives_password 1 (codes "70bc8f4b72a86921468bf8e8441dce51") ∷ asks_for_map 1 ∷ Tick ∷
      has_loaded 1 ∷ acknowledges 1 1 ∷ locks_company 1 (codes "00000000000000000000000000000000") ∷ joins 2 bob 0 ∷
      gives_password 2 (codes "70bc8f4b72a86921468bf8e8441dce51") ∷
      gives_company_password 2 (codes "00000000000000000000000000000000") ∷ [];
  conns = (
    hex (codes "0a0008000000007474000e000c020000000000000074740007000f00000000070010660000006900114f54544e000200")
        ++ hex (codes "0047414d450000000600000000000052414e44000000080000000000000000434d505900000026010000000000000186")
        ++ hex (codes "a0000186a0000493e009436f6d70616e79203109507265736964656e745349474e000000020000454e44430000000003")
        ++ hex (codes "00120c001d0200000000416e6e000c00150100000001000000ff0c001d0300000000426f6200"),
    true,
  )
      ∷ (
        hex (codes "0a0008000000007474000a000a000000007474000e000c0300000000000000747400"),
        true,
      )
      ∷ [];
  journal =
      [];
  frames = (1, 1);
}

-- A connection that is shut is told of as lost, and not as one that quit.
abbrev pub shut_with_a_code : Game
shut_with_a_code = record {
  origin = plain_game;
  events =
      opens ∷ opens ∷ spectates 1 ann ∷ asks_for_map 1 ∷ Tick ∷ has_loaded 1 ∷ acknowledges 1 1 ∷ spectates 2 bob ∷ Shut 2 ∷ [];
  conns = (
    hex (codes "0e000c020000000000000074740007000f00000000070010410000004400114f54544e0002000047414d450000000600")
        ++ hex (codes "000000000052414e44000000080000000000000000434d505900000001005349474e000000020000454e444300000000")
        ++ hex (codes "0300120c001d02000000ff416e6e000c00150100000001000000ff0c001d03000000ff426f62000800220300000003"),
    true,
  )
      ∷ (
        hex (codes "0e000c0300000000000000747400"),
        false,
      )
      ∷ [];
  journal =
      [];
  frames = (1, 1);
}
