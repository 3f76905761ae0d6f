-- What admins are told at once of chats, the console and commands; and what players are told of admins.
use Rattle.std.specs.Prelude.{[], codes, false, true, ◌++◌, ◌∷◌}
use Rattle.tt_edge.specs.declared.event.Event.TheVariants.{Tick}
use Rattle.tt_world.specs.declared.command.Code.TheVariants.{IncreaseLoan, Pause, PlaceSign, RenamePresident}
use Rattle.tt_rows.specs.Words.{ann, bob, borrows, chats_to, cid, entry, hex, joins, opens, places_sign, quits, renames_president}
use Rattle.tt_rows.specs.Words.{spectates, wants_name}
use Rattle.tt_rows.specs.AdminWords.{admin_chats, admin_game, admin_game_with, ann_came, brings_chat, comes_aside, enters, gives_line}
use Rattle.tt_rows.specs.AdminWords.{greeted, pings, tells_script, wants_updates}
use Rattle.tt_rows.specs.Games.{Game}

-- A chat is told of whatever its scope, with the client that spoke; an admin without the bit is told nothing.
abbrev pub news_of_chats : Game
news_of_chats = record {
  origin = admin_game;
  events = (opens ∷ spectates 1 ann ∷ []) ++ enters 1 1 ++ comes_aside 2 ++ (wants_updates 2 5 64 ∷ []) ++ comes_aside 3 ++
      chats_to 1 0 0 (codes "a") ∷ chats_to 1 1 3 (codes "b") ∷ chats_to 1 2 9 (codes "c") ∷ [];
  conns =
      (ann_came ++ hex (codes "0a001b02000000006100"), true)
      ∷ (greeted ++ hex (codes "0a0077000200000061000a0077010200000062000a007702020000006300"), true)
      ∷ (greeted, true)
      ∷ [];
  journal = [];
  frames = (1, 1);
}

-- An admin that speaks is told of it too, as client 1, and so is the other admin.
abbrev pub news_of_own_chats : Game
news_of_own_chats = record {
  origin = admin_game;
  events = comes_aside 1 ++ (wants_updates 1 5 64 ∷ []) ++ comes_aside 2 ++ wants_updates 2 5 64 ∷
      admin_chats 1 0 0 (codes "a") ∷ admin_chats 2 2 9 (codes "b") ∷ gives_line 1 (codes "say c") ∷ [];
  conns = (
    greeted ++ hex (codes "0a0077000100000061000a00770201000000620008007800006f6b0009007d7361792063000a007700010000006300"),
    true,
  )
      ∷ (greeted ++ hex (codes "0a0077000100000061000a0077020100000062000a007700010000006300"), true)
      ∷ [];
  journal = [];
  frames = (0, 0);
}

-- Chats of an admin reach those that play and are in scope: all, a company, a client.
abbrev pub admins_chat : Game
admins_chat = record {
  origin = admin_game_with 2;
  events = (opens ∷ opens ∷ opens ∷ joins 1 ann 0 ∷ joins 2 bob 1 ∷ joins 3 cid 0 ∷ []) ++ enters 1 1 ++ enters 2 2 ++
      comes_aside 4 ++ admin_chats 4 0 0 (codes "all") ∷ admin_chats 4 1 0 (codes "them") ∷
      admin_chats 4 2 3 (codes "Bob") ∷ admin_chats 4 2 4 (codes "none") ∷ [];
  conns = (
    hex (codes "0e000c020000000000000074740007000f000000000700108b0000008e00114f54544e0002000047414d450000000600")
        ++ hex (codes "000000000052414e44000000080000000000000000434d50590000004b020000000000000186a0000186a0000493e009")
        ++ hex (codes "436f6d70616e79203109507265736964656e740100000000000186a0000186a0000493e009436f6d70616e7920320950")
        ++ hex (codes "7265736964656e745349474e000000020000454e4443000000000300120c001d0200000000416e6e000c001d03000000")
        ++ hex (codes "01426f62000c001d0400000000436964000c00150100000001000000ff0c001502000000020000000007001403000000")
        ++ hex (codes "0c001b0100000000616c6c000d001b01000000017468656d00"),
    true,
  )
      ∷ (
        hex (codes "0e000c030000000000000074740007000f010000000700108b0000008e00114f54544e0002000047414d450000000600")
            ++ hex (codes "000000010052414e4400000008fe2468adffffffff434d50590000004b020000000000000186a0000186a0000493e009")
            ++ hex (codes "436f6d70616e79203109507265736964656e740100000000000186a0000186a0000493e009436f6d70616e7920320950")
            ++ hex (codes "7265736964656e745349474e000000020000454e4443000000000300120c001d0200000000416e6e000c001d03000000")
            ++ hex (codes "01426f62000c001d0400000000436964000c00150200000002000000c00c001b0100000000616c6c000c001b01000000")
            ++ hex (codes "02426f6200"),
        true,
      )
      ∷ (hex (codes "0e000c0400000000000000747400"), true)
      ∷ (greeted, true)
      ∷ [];
  journal = [];
  frames = (2, 2);
}

-- A line of the console is told of before it is answered, to the admin that gave it and to the others; unknown lines too.
abbrev pub news_of_lines : Game
news_of_lines = record {
  origin = admin_game;
  events = comes_aside 1 ++ (wants_updates 1 6 64 ∷ []) ++ comes_aside 2 ++ (wants_updates 2 6 64 ∷ []) ++ comes_aside 3 ++
      gives_line 1 (codes "pause") ∷ gives_line 2 (codes "x") ∷ [];
  conns = (
    greeted ++ hex (codes "0f007961646d696e0070617573650008007800006f6b0009007d7061757365000b007961646d696e007800"),
    true,
  )
      ∷ (
        greeted ++ hex (codes "0f007961646d696e007061757365000b007961646d696e0078001500780000756e6b6e6f776e20636f6d6d616e640005")
            ++ hex (codes "007d7800"),
        true,
      )
      ∷ (greeted, true)
      ∷ [];
  journal = [];
  frames = (0, 0);
}

-- Each entry is told of as it is stamped, done or not: the server's own for no company, with client, company, code and frame.
abbrev pub news_of_commands : Game
news_of_commands = record {
  origin = admin_game_with 1;
  events = (opens ∷ joins 1 ann 0 ∷ []) ++ enters 1 1 ++ comes_aside 2 ++ wants_updates 2 8 64 ∷ borrows 1 0 10000 ∷
      borrows 1 0 1 ∷ places_sign 1 0 5 (codes "a") ∷ gives_line 2 (codes "pause") ∷ Tick ∷ Tick ∷ [];
  conns = (
    hex (codes "0e000c020000000000000074740007000f00000000070010660000006900114f54544e0002000047414d450000000600")
        ++ hex (codes "000000000052414e44000000080000000000000000434d505900000026010000000000000186a0000186a0000493e009")
        ++ hex (codes "436f6d70616e79203109507265736964656e745349474e000000020000454e4443000000000300120c001d0200000000")
        ++ hex (codes "416e6e000c00150100000001000000ff140019ff07000100000000000200000001000000140019000000102700000000")
        ++ hex (codes "020000000200000014001900000001000000000002000000020000000c00150200000002000000001500190003000500")
        ++ hex (codes "000000610003000000020000000c0015030000000300000000"),
    true,
  )
      ∷ (
        greeted ++ hex (codes "08007800006f6b0009007d7061757365000e007f01000000ff0700020000000e007f02000000000000020000000e007f")
            ++ hex (codes "02000000000000020000000e007f0200000000030003000000"),
        true,
      )
      ∷ [];
  journal = entry 2 1 255 Pause 1 0 [] ∷ entry 2 2 0 IncreaseLoan 10000 0 [] ∷ entry 2 2 0 IncreaseLoan 1 0 [] ∷
      entry 3 2 0 PlaceSign 5 0 (codes "a") ∷ [];
  frames = (3, 3);
}

-- An admin that asked for nothing, and one that took its bits back, are told nothing.
abbrev pub no_news : Game
no_news = record {
  origin = admin_game_with 1;
  events = (opens ∷ joins 1 ann 0 ∷ []) ++ enters 1 1 ++ comes_aside 2 ++ comes_aside 3 ++ wants_updates 3 1 64 ∷
      wants_updates 3 2 64 ∷ wants_updates 3 5 64 ∷ wants_updates 3 6 64 ∷ wants_updates 3 8 64 ∷ wants_updates 3 1 1 ∷
      wants_updates 3 2 0 ∷ wants_updates 3 5 0 ∷ wants_updates 3 6 0 ∷ wants_updates 3 8 0 ∷ chats_to 1 0 0 (codes "a") ∷
      gives_line 2 (codes "x") ∷ renames_president 1 0 (codes "P") ∷ Tick ∷ wants_name 1 bob ∷ quits 1 ∷ [];
  conns = (
    hex (codes "0e000c020000000000000074740007000f00000000070010660000006900114f54544e0002000047414d450000000600")
        ++ hex (codes "000000000052414e44000000080000000000000000434d505900000026010000000000000186a0000186a0000493e009")
        ++ hex (codes "436f6d70616e79203109507265736964656e745349474e000000020000454e4443000000000300120c001d0200000000")
        ++ hex (codes "416e6e000c00150100000001000000ff0a001b020000000061001500190006000000000000500002000000020000000c")
        ++ hex (codes "00150200000002000000000c001d0200000000426f6200"),
    false,
  )
      ∷ (greeted ++ hex (codes "1500780000756e6b6e6f776e20636f6d6d616e640005007d7800"), true)
      ∷ (greeted, true)
      ∷ [];
  journal = entry 2 2 0 RenamePresident 0 0 (codes "P") ∷ [];
  frames = (2, 2);
}

-- GAMESCRIPT and EXTERNAL_CHAT do nothing.
abbrev pub scripts_and_other_chats : Game
scripts_and_other_chats = record {
  origin = admin_game;
  events = (opens ∷ spectates 1 ann ∷ []) ++ enters 1 1 ++ comes_aside 2 ++ wants_updates 2 5 64 ∷
      tells_script 2 (codes "a") ∷ brings_chat 2 ∷ pings 2 1 ∷ [];
  conns = (ann_came, true) ∷ (greeted ++ hex (codes "07007e01000000"), true) ∷ [];
  journal = [];
  frames = (1, 1);
}
