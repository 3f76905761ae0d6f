-- The console: each command, what it answers and what it does.
use Rattle.std.specs.Prelude.{[], codes, false, true, ◌++◌, ◌∷◌}
use Rattle.tt_edge.specs.declared.event.Event.TheVariants.{Stop, Tick}
use Rattle.tt_world.specs.declared.command.Code.TheVariants.{Pause}
use Rattle.tt_rows.specs.Words.{ann, asks_for_map, bob, cid, entry, hex, joins, opens, quits, spectates}
use Rattle.tt_rows.specs.AdminWords.{admin_game, admin_game_with, admin_joins, ann_came, comes_aside, enters, gives_line, greeted}
use Rattle.tt_rows.specs.AdminWords.{opens_aside, pings, wants_updates}
use Rattle.tt_rows.specs.AdminPollsGames.{debts_game}
use Rattle.tt_rows.specs.Games.{Game}

-- `pause` is an entry of the server's own for the next frame, and the world stands from then on.
abbrev pub pauses : Game
pauses = record {
  origin = admin_game;
  events = comes_aside 1 ++ Tick ∷ gives_line 1 (codes "pause") ∷ Tick ∷ Tick ∷ [];
  conns = (greeted ++ hex (codes "08007800006f6b0009007d706175736500"), true) ∷ [];
  journal = entry 2 1 255 Pause 1 0 [] ∷ [];
  frames = (3, 3);
}

-- `unpause` lets it go on; said twice it is two entries.
abbrev pub goes_on_again : Game
goes_on_again = record {
  origin = admin_game;
  events = comes_aside 1 ++ gives_line 1 (codes "pause") ∷ gives_line 1 (codes "unpause") ∷ gives_line 1 (codes "unpause") ∷
      Tick ∷ Tick ∷ [];
  conns = (
    greeted ++ hex (codes "08007800006f6b0009007d70617573650008007800006f6b000b007d756e70617573650008007800006f6b000b007d75")
        ++ hex (codes "6e706175736500"),
    true,
  ) ∷ [];
  journal = entry 1 1 255 Pause 1 0 [] ∷ entry 1 1 255 Pause 0 0 [] ∷ entry 1 1 255 Pause 0 0 [] ∷ [];
  frames = (2, 2);
}

-- `kick` ends a member that plays, and the others and the admins are told so as of any other end.
abbrev pub kicks : Game
kicks = record {
  origin = admin_game;
  events = (opens ∷ opens ∷ spectates 1 ann ∷ spectates 2 bob ∷ []) ++ enters 1 1 ++ enters 2 2 ++ comes_aside 3 ++
      wants_updates 3 1 64 ∷ gives_line 3 (codes "kick 2") ∷ [];
  conns = (
    hex (codes "0e000c020000000000000074740007000f00000000070010410000004400114f54544e0002000047414d450000000600")
        ++ hex (codes "000000000052414e44000000080000000000000000434d505900000001005349474e000000020000454e444300000000")
        ++ hex (codes "0300120c001d02000000ff416e6e000c001d03000000ff426f62000c00150100000001000000ff0c0015020000000200")
        ++ hex (codes "000000070014030000000400030c"),
    false,
  )
      ∷ (
        hex (codes "0e000c030000000000000074740007000f01000000070010410000004400114f54544e0002000047414d450000000600")
            ++ hex (codes "000000010052414e4400000008fe2468adffffffff434d505900000001005349474e000000020000454e444300000000")
            ++ hex (codes "0300120c001d02000000ff416e6e000c001d03000000ff426f62000c00150200000002000000c0080022020000000c"),
        true,
      )
      ∷ (greeted ++ hex (codes "08007800006f6b000a007d6b69636b203200080070020000000c"), true)
      ∷ [];
  journal = [];
  frames = (2, 2);
}

-- A member that was not welcomed is told so, and nobody else learns of it.
abbrev pub kicks_the_unwelcomed : Game
kicks_the_unwelcomed = record {
  origin = admin_game;
  events = (opens ∷ opens ∷ spectates 1 ann ∷ []) ++ enters 1 1 ++ comes_aside 3 ++ wants_updates 3 1 64 ∷
      gives_line 3 (codes "kick 3") ∷ [];
  conns =
      (ann_came, true)
      ∷ (hex (codes "0400030c"), false)
      ∷ (greeted ++ hex (codes "08007800006f6b000a007d6b69636b203300"), true)
      ∷ [];
  journal = [];
  frames = (1, 1);
}

-- A downloader that is kicked leaves the queue, and the next one downloads.
abbrev pub kicks_the_downloader : Game
kicks_the_downloader = record {
  origin = admin_game;
  events = (opens ∷ opens ∷ spectates 1 ann ∷ spectates 2 bob ∷ asks_for_map 1 ∷ asks_for_map 2 ∷ []) ++ comes_aside 3 ++
      gives_line 3 (codes "kick 2") ∷ [];
  conns =
      (hex (codes "0e000c020000000000000074740007000f00000000070010410000000400030c"), false)
      ∷ (hex (codes "0e000c030000000000000074740004000e0107000f0000000007001041000000"), true)
      ∷ (greeted ++ hex (codes "08007800006f6b000a007d6b69636b203200"), true)
      ∷ [];
  journal = [];
  frames = (0, 0);
}

-- Client 1 is the server itself and no member; nor is one that is gone, or that never was.
abbrev pub kicks_nobody : Game
kicks_nobody = record {
  origin = admin_game;
  events = (opens ∷ opens ∷ quits 1 ∷ []) ++ comes_aside 3 ++ gives_line 3 (codes "kick 1") ∷
      gives_line 3 (codes "kick 2") ∷ gives_line 3 (codes "kick 4294967295") ∷ gives_line 3 (codes "kick 0") ∷ [];
  conns =
      ([], false)
      ∷ ([], true)
      ∷ (
        greeted ++ hex (codes "14007800006e6f207375636820636c69656e74000a007d6b69636b20310014007800006e6f207375636820636c69656e")
            ++ hex (codes "74000a007d6b69636b20320014007800006e6f207375636820636c69656e740013007d6b69636b203432393439363732")
            ++ hex (codes "39350014007800006e6f207375636820636c69656e74000a007d6b69636b203000"),
        true,
      )
      ∷ [];
  journal = [];
  frames = (0, 0);
}

-- A number with a leading zero, none, two blanks, one too large, and a further word are no `kick`.
abbrev pub kick_is_spelled : Game
kick_is_spelled = record {
  origin = admin_game;
  events = (opens ∷ []) ++ comes_aside 2 ++ gives_line 2 (codes "kick 02") ∷ gives_line 2 (codes "kick") ∷
      gives_line 2 (codes "kick ") ∷ gives_line 2 (codes "kick  2") ∷ gives_line 2 (codes "kick 4294967296") ∷
      gives_line 2 (codes "kick 2 2") ∷ gives_line 2 (codes "kick 2 ") ∷ gives_line 2 (codes "kick x") ∷ [];
  conns =
      ([], true)
      ∷ (
        greeted ++ hex (codes "1500780000756e6b6e6f776e20636f6d6d616e64000b007d6b69636b203032001500780000756e6b6e6f776e20636f6d")
            ++ hex (codes "6d616e640008007d6b69636b001500780000756e6b6e6f776e20636f6d6d616e640009007d6b69636b20001500780000")
            ++ hex (codes "756e6b6e6f776e20636f6d6d616e64000b007d6b69636b202032001500780000756e6b6e6f776e20636f6d6d616e6400")
            ++ hex (codes "13007d6b69636b2034323934393637323936001500780000756e6b6e6f776e20636f6d6d616e64000c007d6b69636b20")
            ++ hex (codes "322032001500780000756e6b6e6f776e20636f6d6d616e64000b007d6b69636b203220001500780000756e6b6e6f776e")
            ++ hex (codes "20636f6d6d616e64000a007d6b69636b207800"),
        true,
      )
      ∷ [];
  journal = [];
  frames = (0, 0);
}

-- `say` is a chat of client 1 to all, and what is said is all that follows one blank.
abbrev pub says_to_all : Game
says_to_all = record {
  origin = admin_game;
  events = (opens ∷ spectates 1 ann ∷ []) ++ enters 1 1 ++ comes_aside 2 ++ wants_updates 2 5 64 ∷
      gives_line 2 (codes "say a b") ∷ gives_line 2 (codes "say  c") ∷ [];
  conns =
      (ann_came ++ hex (codes "0c001b0100000000612062000b001b0100000000206300"), true)
      ∷ (
        greeted ++ hex (codes "08007800006f6b000b007d73617920612062000c007700010000006120620008007800006f6b000a007d736179202063")
            ++ hex (codes "000b00770001000000206300"),
        true,
      )
      ∷ [];
  journal = [];
  frames = (1, 1);
}

-- Words in another case, with blanks about them, or with nothing to say are unknown; so is an empty line.
abbrev pub unknown_lines : Game
unknown_lines = record {
  origin = admin_game;
  events = comes_aside 1 ++ gives_line 1 (codes "Pause") ∷ gives_line 1 (codes "pause ") ∷ gives_line 1 (codes " pause") ∷
      gives_line 1 (codes "say") ∷ gives_line 1 (codes "say ") ∷ gives_line 1 (codes "clients x") ∷ gives_line 1 [] ∷
      gives_line 1 (codes "saya") ∷ gives_line 1 (codes "quit now") ∷ [];
  conns = (
    greeted ++ hex (codes "1500780000756e6b6e6f776e20636f6d6d616e640009007d5061757365001500780000756e6b6e6f776e20636f6d6d61")
        ++ hex (codes "6e64000a007d706175736520001500780000756e6b6e6f776e20636f6d6d616e64000a007d2070617573650015007800")
        ++ hex (codes "00756e6b6e6f776e20636f6d6d616e640007007d736179001500780000756e6b6e6f776e20636f6d6d616e640008007d")
        ++ hex (codes "73617920001500780000756e6b6e6f776e20636f6d6d616e64000d007d636c69656e74732078001500780000756e6b6e")
        ++ hex (codes "6f776e20636f6d6d616e640004007d001500780000756e6b6e6f776e20636f6d6d616e640008007d7361796100150078")
        ++ hex (codes "0000756e6b6e6f776e20636f6d6d616e64000c007d71756974206e6f7700"),
    true,
  ) ∷ [];
  journal = [];
  frames = (0, 0);
}

-- `clients` lists the welcomed, in order of arrival, each with its number, company and name.
abbrev pub lists_clients : Game
lists_clients = record {
  origin = admin_game_with 1;
  events = (opens ∷ opens ∷ opens ∷ joins 3 cid 0 ∷ spectates 1 (codes "Ann #1") ∷ []) ++ comes_aside 4 ++
      gives_line 4 (codes "clients") ∷ quits 1 ∷ quits 3 ∷ gives_line 4 (codes "clients") ∷ [];
  conns =
      (hex (codes "0e000c0200000000000000747400"), false)
      ∷ ([], true)
      ∷ (hex (codes "0e000c0400000000000000747400"), false)
      ∷ (
        greeted ++ hex (codes "1200780000322032353520416e6e202331000d0078000034203020436964000b007d636c69656e7473000b007d636c69")
            ++ hex (codes "656e747300"),
        true,
      )
      ∷ [];
  journal = [];
  frames = (0, 0);
}

-- `companies` lists those that live, each with its number, money, loan and name; money may be below zero.
abbrev pub lists_companies : Game
lists_companies = record {
  origin = debts_game;
  events = comes_aside 1 ++ comes_aside 2 ++ gives_line 2 (codes "companies") ∷ [];
  conns =
      (greeted, true)
      ∷ (
        greeted ++ hex (codes "1f0078000030202d33303030302033303030303020436f6d70616e792031002400780000322039303030303030303030")
            ++ hex (codes "303030303030203020436f6d70616e792033000d007d636f6d70616e69657300"),
        true,
      )
      ∷ [];
  journal = [];
  frames = (0, 0);
}

-- Where none lives the line is answered by its end alone.
abbrev pub lists_no_companies : Game
lists_no_companies = record {
  origin = admin_game;
  events = comes_aside 1 ++ gives_line 1 (codes "companies") ∷ [];
  conns = (greeted ++ hex (codes "0d007d636f6d70616e69657300"), true) ∷ [];
  journal = [];
  frames = (0, 0);
}

-- `quit` is answered, and then the game is over, and nothing more is taken.
abbrev pub quits_the_game : Game
quits_the_game = record {
  origin = admin_game;
  events = opens_aside ∷ admin_joins 1 ∷ gives_line 1 (codes "quit") ∷ Tick ∷ [];
  conns = (greeted ++ hex (codes "08007800006f6b0008007d717569740003006a"), false) ∷ [];
  journal = [];
  frames = (0, 0);
}

-- Before JOIN `quit` is refused as any line is, and the game goes on.
abbrev pub quits_before_joining : Game
quits_before_joining = record {
  origin = admin_game;
  events = opens ∷ opens_aside ∷ gives_line 2 (codes "quit") ∷ Tick ∷ [];
  conns = ([], true) ∷ (hex (codes "04006607"), false) ∷ [];
  journal = [];
  frames = (1, 1);
}

-- All that live are told so at both doors, in whatever status, and no admin is told of their ends.
abbrev pub quit_at_both_doors : Game
quit_at_both_doors = record {
  origin = admin_game;
  events = (opens ∷ opens ∷ opens_aside ∷ spectates 1 ann ∷ []) ++ comes_aside 4 ++ wants_updates 4 1 64 ∷
      gives_line 4 (codes "quit") ∷ opens ∷ [];
  conns =
      (hex (codes "0e000c0200000000000000747400030025"), false)
      ∷ (hex (codes "030025"), false)
      ∷ (hex (codes "03006a"), false)
      ∷ (greeted ++ hex (codes "08007800006f6b0008007d717569740003006a"), false)
      ∷ [];
  journal = [];
  frames = (0, 0);
}

-- The same where the game is stopped.
abbrev pub stop_at_both_doors : Game
stop_at_both_doors = record {
  origin = admin_game;
  events = (opens ∷ opens_aside ∷ []) ++ comes_aside 3 ++ Stop ∷ pings 3 1 ∷ [];
  conns = (hex (codes "030025"), false) ∷ (hex (codes "03006a"), false) ∷ (greeted ++ hex (codes "03006a"), false) ∷ [];
  journal = [];
  frames = (0, 0);
}
