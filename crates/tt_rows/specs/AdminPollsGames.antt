-- What admins ask for: which types and bits they may, and what they are answered.
use Rattle.std.specs.Prelude.{[], codes, false, neg_ℤ, pos, true, ◌++◌, ◌∷◌}
use Rattle.tt_edge.specs.declared.event.Event.TheVariants.{Tick}
use Rattle.tt_world.specs.Setup.{plain}
use Rattle.tt_log.specs.Origin.{Origin}
use Rattle.tt_rows.specs.Words.{ann, bob, company, hex, joins, locks_company, opens, sign, spectates, world}
use Rattle.tt_rows.specs.AdminWords.{admin_game, admin_game_with, before_day, comes_aside, enters, greeted, greeted_on, pings, polls}
use Rattle.tt_rows.specs.AdminWords.{polls_all, wants_updates, zeros}
use Rattle.tt_rows.specs.Games.{Game}

-- a company in debt with a sign, and a rich one with two
abbrev pub debts_game : Origin
debts_game = record {
  setup = record plain { admin_password = codes "pw" };
  start = world (0, 0) 0 0 false
      ((0, company (neg_ℤ (pos 30000)) 300000 (codes "Company 1") (codes "President"))
      ∷ (2, company (pos 9000000000000000) 0 (codes "Company 3") (codes "President")) ∷ [])
      (sign 0 2 5 (codes "a") ∷ sign 1 2 6 (codes "b") ∷ sign 4 0 7 (codes "c") ∷ []);
}

-- A type above 9 is refused, and a bit that its type may not have, with others that it may.
abbrev pub updates_not_allowed : Game
updates_not_allowed = record {
  origin = admin_game;
  events = comes_aside 1 ++ comes_aside 2 ++ comes_aside 3 ++ comes_aside 4 ++ comes_aside 5 ++ wants_updates 1 10 0 ∷
      wants_updates 2 0 64 ∷ wants_updates 3 3 63 ∷ wants_updates 4 7 65 ∷ wants_updates 5 256 2 ∷ [];
  conns =
      (greeted ++ hex (codes "04006604"), false)
      ∷ (greeted ++ hex (codes "04006604"), false)
      ∷ (greeted ++ hex (codes "04006604"), false)
      ∷ (greeted ++ hex (codes "04006604"), false)
      ∷ (greeted ++ hex (codes "04006604"), false)
      ∷ [];
  journal = [];
  frames = (0, 0);
}

-- All bits that each type may have are taken, and no bits at all.
abbrev pub all_bits_allowed : Game
all_bits_allowed = record {
  origin = admin_game;
  events = comes_aside 1 ++ wants_updates 1 0 63 ∷ wants_updates 1 1 65 ∷ wants_updates 1 2 65 ∷ wants_updates 1 3 61 ∷
      wants_updates 1 4 61 ∷ wants_updates 1 5 64 ∷ wants_updates 1 6 64 ∷ wants_updates 1 7 1 ∷ wants_updates 1 8 64 ∷
      wants_updates 1 9 64 ∷ wants_updates 1 0 0 ∷ wants_updates 1 1 0 ∷ wants_updates 1 2 0 ∷ wants_updates 1 3 0 ∷
      wants_updates 1 4 0 ∷ wants_updates 1 5 0 ∷ wants_updates 1 6 0 ∷ wants_updates 1 7 0 ∷ wants_updates 1 8 0 ∷
      wants_updates 1 9 0 ∷ pings 1 7 ∷ [];
  conns = (greeted ++ hex (codes "07007e07000000"), true) ∷ [];
  journal = [];
  frames = (0, 0);
}

-- A type that is only told at once may not be asked for, nor one above 9.
abbrev pub polls_not_allowed : Game
polls_not_allowed = record {
  origin = admin_game;
  events = comes_aside 1 ++ comes_aside 2 ++ comes_aside 3 ++ comes_aside 4 ++ polls_all 1 5 ∷ polls_all 2 10 ∷
      polls_all 3 9 ∷ polls_all 4 255 ∷ [];
  conns =
      (greeted ++ hex (codes "04006604"), false)
      ∷ (greeted ++ hex (codes "04006604"), false)
      ∷ (greeted ++ hex (codes "04006604"), false)
      ∷ (greeted ++ hex (codes "04006604"), false)
      ∷ [];
  journal = [];
  frames = (0, 0);
}

-- The day of the world is told, whatever id is asked for, and WELCOME has it too.
abbrev pub asks_for_the_day : Game
asks_for_the_day = record {
  origin = before_day 30 0;
  events = comes_aside 1 ++ (polls_all 1 0 ∷ Tick ∷ polls 1 0 5 ∷ []) ++ comes_aside 2;
  conns = (greeted_on 29 ++ hex (codes "07006b1d00000007006b1e000000"), true) ∷ (greeted_on 30, true) ∷ [];
  journal = [];
  frames = (1, 1);
}

-- Of welcomed clients, in order of arrival: of one, of all, and of nobody. One that was not welcomed is none.
abbrev pub asks_for_clients : Game
asks_for_clients = record {
  origin = admin_game_with 1;
  events = (opens ∷ opens ∷ opens ∷ joins 2 bob 0 ∷ spectates 1 ann ∷ []) ++ comes_aside 4 ++ polls 4 1 3 ∷ polls_all 4 1 ∷
      polls 4 1 4 ∷ polls 4 1 9 ∷ polls 4 1 1 ∷ pings 4 1 ∷ polls 4 1 2 ∷ [];
  conns =
      (hex (codes "0e000c0200000000000000747400"), true)
      ∷ (hex (codes "0e000c0300000000000000747400"), true)
      ∷ ([], true)
      ∷ (
        greeted ++ hex (codes "0c006d03000000426f6200000c006d02000000416e6e00ff0c006d03000000426f62000007007e010000000c006d0200")
            ++ hex (codes "0000416e6e00ff"),
        true,
      )
      ∷ [];
  journal = [];
  frames = (0, 0);
}

-- Of companies, in rising order, each with its names and whether it has a password: all, one, and one that does not live.
abbrev pub asks_for_companies : Game
asks_for_companies = record {
  origin = admin_game_with 2;
  events = (opens ∷ joins 1 ann 1 ∷ []) ++ enters 1 1 ++ (locks_company 1 zeros ∷ []) ++ comes_aside 2 ++ polls_all 2 2 ∷
      polls 2 2 0 ∷ polls 2 2 2 ∷ polls 2 2 256 ∷ pings 2 1 ∷ locks_company 1 [] ∷ polls 2 2 1 ∷ [];
  conns = (
    hex (codes "0e000c020000000000000074740007000f000000000700108b0000008e00114f54544e0002000047414d450000000600")
        ++ hex (codes "000000000052414e44000000080000000000000000434d50590000004b020000000000000186a0000186a0000493e009")
        ++ hex (codes "436f6d70616e79203109507265736964656e740100000000000186a0000186a0000493e009436f6d70616e7920320950")
        ++ hex (codes "7265736964656e745349474e000000020000454e4443000000000300120c001d0200000001416e6e000c001501000000")
        ++ hex (codes "01000000ff"),
    true,
  )
      ∷ (
        greeted ++ hex (codes "19007200436f6d70616e79203100507265736964656e74000019007201436f6d70616e79203200507265736964656e74")
            ++ hex (codes "000119007200436f6d70616e79203100507265736964656e74000007007e0100000019007201436f6d70616e79203200")
            ++ hex (codes "507265736964656e740000"),
        true,
      )
      ∷ [];
  journal = [];
  frames = (1, 1);
}

-- Money in two's complement of 64 bits, and the loan: of all, of one, and of one that does not live.
abbrev pub asks_for_money : Game
asks_for_money = record {
  origin = debts_game;
  events = comes_aside 1 ++ polls_all 1 3 ∷ polls 1 3 2 ∷ polls 1 3 1 ∷ pings 1 1 ∷ [];
  conns = (
    greeted ++ hex (codes "10007500d08affffffffffffe0930400100075020080faca73f91f0000000000100075020080faca73f91f0000000000")
        ++ hex (codes "07007e01000000"),
    true,
  ) ∷ [];
  journal = [];
  frames = (0, 0);
}

-- How many signs each company owns: of all, of one, and of one that does not live.
abbrev pub asks_for_signs : Game
asks_for_signs = record {
  origin = debts_game;
  events = comes_aside 1 ++ polls_all 1 4 ∷ polls 1 4 0 ∷ polls 1 4 1 ∷ pings 1 1 ∷ [];
  conns = (greeted ++ hex (codes "06007600010006007602020006007600010007007e01000000"), true) ∷ [];
  journal = [];
  frames = (0, 0);
}

-- The commands and their names, whatever id is asked for.
abbrev pub asks_for_names : Game
asks_for_names = record {
  origin = admin_game;
  events = comes_aside 1 ++ polls_all 1 7 ∷ polls 1 7 3 ∷ [];
  conns = (
    greeted ++ hex (codes "82007a010000496e6372656173654c6f616e0001010044656372656173654c6f616e000102004769766500010300506c")
        ++ hex (codes "6163655369676e0001040052656e616d655369676e0001050052656e616d65436f6d70616e790001060052656e616d65")
        ++ hex (codes "507265736964656e74000107005061757365000108004e6577436f6d70616e79000082007a010000496e637265617365")
        ++ hex (codes "4c6f616e0001010044656372656173654c6f616e000102004769766500010300506c6163655369676e0001040052656e")
        ++ hex (codes "616d655369676e0001050052656e616d65436f6d70616e790001060052656e616d65507265736964656e740001070050")
        ++ hex (codes "61757365000108004e6577436f6d70616e790000"),
    true,
  ) ∷ [];
  journal = [];
  frames = (0, 0);
}
