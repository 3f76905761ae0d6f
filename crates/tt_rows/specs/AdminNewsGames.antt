-- What admins are told at once of clients and companies, where they have asked for it.
use Rattle.std.specs.Prelude.{[], codes, false, true, ◌++◌, ◌∷◌}
use Rattle.tt_edge.specs.declared.event.Event.TheVariants.{Broken, Shut, Tick}
use Rattle.tt_world.specs.declared.command.Code.TheVariants.{NewCompany, RenameCompany, RenamePresident}
use Rattle.tt_rows.specs.Words.{acknowledges, ann, asks_for_map, bob, chats_to, cid, entry, founds, gives_company_password}
use Rattle.tt_rows.specs.Words.{has_loaded, hex, joins, locks_company, moves_to, opens, quits, renames_company, renames_president}
use Rattle.tt_rows.specs.Words.{spectates, tells_error, wants_name}
use Rattle.tt_rows.specs.AdminWords.{admin_game, admin_game_with, ann_came, comes_aside, enters, greeted, pings, polls, wants_updates}
use Rattle.tt_rows.specs.AdminWords.{zeros}
use Rattle.tt_rows.specs.Games.{Game}

-- A welcome tells CLIENT_INFO, to those that asked for it alone, and the JOIN of one that is not welcomed tells nothing.
abbrev pub news_of_a_welcome : Game
news_of_a_welcome = record {
  origin = admin_game;
  events = comes_aside 1 ++ (wants_updates 1 1 64 ∷ []) ++ comes_aside 2 ++ opens ∷ opens ∷ spectates 3 ann ∷
      spectates 4 (codes "") ∷ [];
  conns =
      (greeted ++ hex (codes "0c006d02000000416e6e00ff"), true)
      ∷ (greeted, true)
      ∷ (hex (codes "0e000c0200000000000000747400"), true)
      ∷ (hex (codes "04000314"), false)
      ∷ [];
  journal = [];
  frames = (0, 0);
}

-- Who becomes active is told of, and who only has the map is not.
abbrev pub news_of_an_entry : Game
news_of_an_entry = record {
  origin = admin_game;
  events = (opens ∷ []) ++ comes_aside 2 ++ wants_updates 2 1 64 ∷ spectates 1 ann ∷ asks_for_map 1 ∷ Tick ∷ has_loaded 1 ∷
      pings 2 1 ∷ acknowledges 1 1 ∷ pings 2 2 ∷ acknowledges 1 1 ∷ [];
  conns =
      (ann_came, true)
      ∷ (greeted ++ hex (codes "0c006d02000000416e6e00ff07007e0100000007006c0200000007007e02000000"), true)
      ∷ [];
  journal = [];
  frames = (1, 1);
}

-- A name is told of, also where it is the same one, and one that is refused as an end.
abbrev pub news_of_a_name : Game
news_of_a_name = record {
  origin = admin_game;
  events = (opens ∷ spectates 1 ann ∷ []) ++ enters 1 1 ++ comes_aside 2 ++ wants_updates 2 1 64 ∷ wants_name 1 bob ∷
      wants_name 1 bob ∷ wants_name 1 (codes "") ∷ [];
  conns =
      (ann_came ++ hex (codes "0c001d02000000ff426f62000c001d02000000ff426f620004000314"), false)
      ∷ (greeted ++ hex (codes "0c006e02000000426f6200ff0c006e02000000426f6200ff0800700200000014"), true)
      ∷ [];
  journal = [];
  frames = (1, 1);
}

-- A move is told of, also one to its own company.
abbrev pub news_of_moves : Game
news_of_moves = record {
  origin = admin_game_with 2;
  events = (opens ∷ joins 1 ann 0 ∷ []) ++ enters 1 1 ++ comes_aside 2 ++ wants_updates 2 1 64 ∷ moves_to 1 1 [] ∷
      moves_to 1 1 [] ∷ moves_to 1 255 [] ∷ [];
  conns = (
    hex (codes "0e000c020000000000000074740007000f000000000700108b0000008e00114f54544e0002000047414d450000000600")
        ++ hex (codes "000000000052414e44000000080000000000000000434d50590000004b020000000000000186a0000186a0000493e009")
        ++ hex (codes "436f6d70616e79203109507265736964656e740100000000000186a0000186a0000493e009436f6d70616e7920320950")
        ++ hex (codes "7265736964656e745349474e000000020000454e4443000000000300120c001d0200000000416e6e000c001501000000")
        ++ hex (codes "01000000ff0800200200000001080020020000000108002002000000ff"),
    true,
  )
      ∷ (greeted ++ hex (codes "0c006e02000000416e6e00010c006e02000000416e6e00010c006e02000000416e6e00ff"), true)
      ∷ [];
  journal = [];
  frames = (1, 1);
}

-- A founded company is told of as the frame runs, and then that its founder moves there.
abbrev pub news_of_a_founder : Game
news_of_a_founder = record {
  origin = admin_game;
  events = (opens ∷ founds 1 ann ∷ []) ++ enters 1 1 ++ comes_aside 2 ++ wants_updates 2 1 64 ∷ wants_updates 2 2 64 ∷
      wants_updates 2 8 64 ∷ Tick ∷ [];
  conns =
      (ann_came ++ hex (codes "140019ff080002000000000002000000010000000c00150200000002000000000800200200000000"), true)
      ∷ (
        greeted ++ hex (codes "0e007f01000000ff0800020000000400710019007200436f6d70616e79203100507265736964656e7400000c006e0200")
            ++ hex (codes "0000416e6e0000"),
        true,
      )
      ∷ [];
  journal = entry 2 1 255 NewCompany 2 0 [] ∷ [];
  frames = (2, 2);
}

-- QUIT is told of, and the end of one that was not welcomed is not.
abbrev pub news_of_a_quit : Game
news_of_a_quit = record {
  origin = admin_game;
  events = (opens ∷ opens ∷ spectates 1 ann ∷ []) ++ comes_aside 3 ++ wants_updates 3 1 64 ∷ quits 1 ∷ quits 2 ∷ [];
  conns =
      (hex (codes "0e000c0200000000000000747400"), false)
      ∷ ([], false)
      ∷ (greeted ++ hex (codes "07006f02000000"), true)
      ∷ [];
  journal = [];
  frames = (0, 0);
}

-- Any other end is told of with its code: a packet that is refused, an error that is told, and a lost connection.
abbrev pub news_of_ends : Game
news_of_ends = record {
  origin = admin_game;
  events = (opens ∷ opens ∷ opens ∷ spectates 1 ann ∷ spectates 2 bob ∷ spectates 3 cid ∷ []) ++ comes_aside 4 ++
      wants_updates 4 1 64 ∷ chats_to 1 0 0 (codes "a") ∷ tells_error 2 2 ∷ Shut 3 ∷ [];
  conns =
      (hex (codes "0e000c020000000000000074740004000307"), false)
      ∷ (hex (codes "0e000c0300000000000000747400"), false)
      ∷ (hex (codes "0e000c0400000000000000747400"), false)
      ∷ (greeted ++ hex (codes "080070020000000708007003000000020800700400000003"), true)
      ∷ [];
  journal = [];
  frames = (0, 0);
}

-- The ends of those that were not welcomed are not told of: a refusal, an error, a broken stream, a lost connection.
abbrev pub news_of_no_end : Game
news_of_no_end = record {
  origin = admin_game;
  events = (opens ∷ opens ∷ opens ∷ opens ∷ []) ++ comes_aside 5 ++ wants_updates 5 1 64 ∷ spectates 1 (codes "") ∷
      tells_error 2 2 ∷ Broken 3 ∷ Shut 4 ∷ pings 5 1 ∷ [];
  conns =
      (hex (codes "04000314"), false)
      ∷ ([], false)
      ∷ (hex (codes "04000304"), false)
      ∷ ([], false)
      ∷ (greeted ++ hex (codes "07007e01000000"), true)
      ∷ [];
  journal = [];
  frames = (0, 0);
}

-- Renamings in one frame tell COMPANY_UPDATE each right after its own entry; one that is not done tells nothing.
abbrev pub news_of_names : Game
news_of_names = record {
  origin = admin_game_with 1;
  events = (opens ∷ joins 1 ann 0 ∷ []) ++ enters 1 1 ++ comes_aside 2 ++ wants_updates 2 2 64 ∷
      renames_company 1 0 (codes "A") ∷ renames_company 1 0 (codes "B") ∷ Tick ∷ renames_president 1 0 (codes "P") ∷
      renames_company 1 0 (codes "") ∷ Tick ∷ [];
  conns = (
    hex (codes "0e000c020000000000000074740007000f00000000070010660000006900114f54544e0002000047414d450000000600")
        ++ hex (codes "000000000052414e44000000080000000000000000434d505900000026010000000000000186a0000186a0000493e009")
        ++ hex (codes "436f6d70616e79203109507265736964656e745349474e000000020000454e4443000000000300120c001d0200000000")
        ++ hex (codes "416e6e000c00150100000001000000ff1500190005000000000000410002000000020000001500190005000000000000")
        ++ hex (codes "420002000000020000000c00150200000002000000001500190006000000000000500003000000020000001400190005")
        ++ hex (codes "0000000000000003000000020000000c0015030000000300000000"),
    true,
  )
      ∷ (
        greeted ++ hex (codes "110073004100507265736964656e740000110073004200507265736964656e740000090073004200500000"),
        true,
      )
      ∷ [];
  journal = entry 2 2 0 RenameCompany 0 0 (codes "A") ∷ entry 2 2 0 RenameCompany 0 0 (codes "B") ∷
      entry 3 2 0 RenamePresident 0 0 (codes "P") ∷ entry 3 2 0 RenameCompany 0 0 [] ∷ [];
  frames = (3, 3);
}

-- News of a company say whether it has a password; the password by itself is no news.
abbrev pub news_of_a_locked_company : Game
news_of_a_locked_company = record {
  origin = admin_game_with 1;
  events = (opens ∷ joins 1 ann 0 ∷ []) ++ enters 1 1 ++ comes_aside 2 ++ wants_updates 2 2 64 ∷ locks_company 1 zeros ∷
      renames_president 1 0 (codes "P") ∷ Tick ∷ [];
  conns = (
    hex (codes "0e000c020000000000000074740007000f00000000070010660000006900114f54544e0002000047414d450000000600")
        ++ hex (codes "000000000052414e44000000080000000000000000434d505900000026010000000000000186a0000186a0000493e009")
        ++ hex (codes "436f6d70616e79203109507265736964656e745349474e000000020000454e4443000000000300120c001d0200000000")
        ++ hex (codes "416e6e000c00150100000001000000ff1500190006000000000000500002000000020000000c00150200000002000000")
        ++ hex (codes "00"),
    true,
  )
      ∷ (greeted ++ hex (codes "11007300436f6d70616e79203100500001"), true)
      ∷ [];
  journal = entry 2 2 0 RenamePresident 0 0 (codes "P") ∷ [];
  frames = (2, 2);
}

-- A founder that has left before the frame has founded its company all the same.
abbrev pub news_of_a_lost_founder : Game
news_of_a_lost_founder = record {
  origin = admin_game;
  events = (opens ∷ founds 1 ann ∷ []) ++ enters 1 1 ++ comes_aside 2 ++ wants_updates 2 1 64 ∷ wants_updates 2 2 64 ∷
      quits 1 ∷ Tick ∷ [];
  conns =
      (ann_came, false)
      ∷ (greeted ++ hex (codes "07006f020000000400710019007200436f6d70616e79203100507265736964656e740000"), true)
      ∷ [];
  journal = entry 2 1 255 NewCompany 2 0 [] ∷ [];
  frames = (2, 2);
}

-- Who is asked for a company's password is not welcomed yet; the right one is a welcome, and is told of.
abbrev pub news_of_a_password : Game
news_of_a_password = record {
  origin = admin_game_with 1;
  events = (opens ∷ opens ∷ joins 1 ann 0 ∷ []) ++ enters 1 1 ++ (locks_company 1 zeros ∷ []) ++ comes_aside 3 ++
      wants_updates 3 1 64 ∷ joins 2 bob 0 ∷ polls 3 1 3 ∷ gives_company_password 2 zeros ∷ [];
  conns = (
    hex (codes "0e000c020000000000000074740007000f00000000070010660000006900114f54544e0002000047414d450000000600")
        ++ hex (codes "000000000052414e44000000080000000000000000434d505900000026010000000000000186a0000186a0000493e009")
        ++ hex (codes "436f6d70616e79203109507265736964656e745349474e000000020000454e4443000000000300120c001d0200000000")
        ++ hex (codes "416e6e000c00150100000001000000ff0c001d0300000000426f6200"),
    true,
  )
      ∷ (hex (codes "0a000a000000007474000e000c0300000000000000747400"), true)
      ∷ (greeted ++ hex (codes "0c006d03000000426f620000"), true)
      ∷ [];
  journal = [];
  frames = (1, 1);
}

-- Of two foundings in one frame the second finds no number free: it is stamped, and no company is told of.
abbrev pub news_of_one_founding : Game
news_of_one_founding = record {
  origin = admin_game_with 14;
  events = comes_aside 1 ++ (wants_updates 1 2 64 ∷ wants_updates 1 8 64 ∷ opens ∷ opens ∷ founds 2 ann ∷
      founds 3 bob ∷ []) ++ enters 2 1 ++ asks_for_map 3 ∷ Tick ∷ has_loaded 3 ∷ acknowledges 3 2 ∷ Tick ∷ [];
  conns = (
    greeted ++ hex (codes "0e007f01000000ff0800020000000400710e1a00720e436f6d70616e7920313500507265736964656e7400000e007f01")
        ++ hex (codes "000000ff080003000000"),
    true,
  ) ∷ [];
  journal = entry 2 1 255 NewCompany 2 0 [] ∷ entry 3 1 255 NewCompany 3 0 [] ∷ [];
  frames = (3, 3);
}
