-- The side door: how an admin joins, and what is refused before and after it.
use Rattle.std.specs.Prelude.{[], codes, false, replicate, true, ◌++◌, ◌∷◌}
use Rattle.tt_edge.specs.declared.event.Event.TheVariants.{Broken, Shut, Tick}
use Rattle.tt_world.specs.Setup.{plain}
use Rattle.tt_log.specs.Origin.{Origin}
use Rattle.tt_rows.specs.Words.{ann, hex, made_from, opens, plain_game, says, spectates, world}
use Rattle.tt_rows.specs.AdminWords.{admin_chats, admin_game, admin_joins, admin_joins_as, admin_quits, brings_chat, comes_aside}
use Rattle.tt_rows.specs.AdminWords.{gives_line, greeted, opens_aside, pings, polls_all, tells_script, wants_updates}
use Rattle.tt_rows.specs.Games.{Game}

-- another name, revision, seed and id, and the next tick begins day 257
abbrev pub elsewhere : Origin
elsewhere = record {
  setup = record plain { seed = 16909060; name = codes "Elsewhere"; revision = codes "14.0"; id = codes "zz"; admin_password = codes "pw" };
  start = world (0, 0) 256 73 false [] [];
}

-- the main door has one place
abbrev pub one_place_game : Origin
one_place_game = made_from (record plain { admin_password = codes "pw"; max_clients = 1 })

-- who is there has little time to join
abbrev pub slow_game : Origin
slow_game = made_from (record plain { admin_password = codes "pw"; init = 3 })

-- A JOIN with the password is told the protocol and the game, and a PING its own number.
abbrev pub greeted_and_answered : Game
greeted_and_answered = record {
  origin = admin_game;
  events = opens_aside ∷ admin_joins 1 ∷ pings 1 305419896 ∷ [];
  conns = (greeted ++ hex (codes "07007e78563412"), true) ∷ [];
  journal = [];
  frames = (0, 0);
}

-- A second JOIN ends its admin, whatever it says.
abbrev pub joins_twice : Game
joins_twice = record {
  origin = admin_game;
  events = comes_aside 1 ++ comes_aside 2 ++ admin_joins 1 ∷ admin_joins_as 2 [] [] [] ∷ [];
  conns = (greeted ++ hex (codes "04006607"), false) ∷ (greeted ++ hex (codes "04006607"), false) ∷ [];
  journal = [];
  frames = (0, 0);
}

-- An empty application and an empty version are refused, and before the password is looked at.
abbrev pub names_wanted : Game
names_wanted = record {
  origin = admin_game;
  events = opens_aside ∷ opens_aside ∷ opens_aside ∷ admin_joins_as 1 (codes "pw") [] (codes "1") ∷
      admin_joins_as 2 (codes "pw") (codes "cli") [] ∷ admin_joins_as 3 (codes "px") [] (codes "1") ∷ [];
  conns = (hex (codes "04006604"), false) ∷ (hex (codes "04006604"), false) ∷ (hex (codes "04006604"), false) ∷ [];
  journal = [];
  frames = (0, 0);
}

-- Where no password of admins is set nobody joins, be it without one.
abbrev pub no_password_set : Game
no_password_set = record {
  origin = plain_game;
  events = opens_aside ∷ opens_aside ∷ admin_joins 1 ∷ admin_joins_as 2 [] (codes "cli") (codes "1") ∷ [];
  conns = (hex (codes "0400660a"), false) ∷ (hex (codes "0400660a"), false) ∷ [];
  journal = [];
  frames = (0, 0);
}

-- Another password is refused: a shorter one, a longer one, and none.
abbrev pub another_password : Game
another_password = record {
  origin = admin_game;
  events = opens_aside ∷ opens_aside ∷ opens_aside ∷ opens_aside ∷ admin_joins_as 1 (codes "px") (codes "cli") (codes "1") ∷
      admin_joins_as 2 (codes "p") (codes "cli") (codes "1") ∷ admin_joins_as 3 (codes "pww") (codes "cli") (codes "1") ∷
      admin_joins_as 4 [] (codes "cli") (codes "1") ∷ [];
  conns =
      (hex (codes "0400660a"), false)
      ∷ (hex (codes "0400660a"), false)
      ∷ (hex (codes "0400660a"), false)
      ∷ (hex (codes "0400660a"), false)
      ∷ [];
  journal = [];
  frames = (0, 0);
}

-- Before JOIN each packet but QUIT is refused; QUIT ends untold.
abbrev pub before_joining : Game
before_joining = record {
  origin = admin_game;
  events = replicate 8 opens_aside ++ pings 1 1 ∷ polls_all 2 0 ∷ admin_chats 3 0 0 (codes "a") ∷
      gives_line 4 (codes "clients") ∷ wants_updates 5 10 1 ∷ tells_script 6 (codes "a") ∷ brings_chat 7 ∷ admin_quits 8 ∷ [];
  conns =
      (hex (codes "04006607"), false)
      ∷ (hex (codes "04006607"), false)
      ∷ (hex (codes "04006607"), false)
      ∷ (hex (codes "04006607"), false)
      ∷ (hex (codes "04006607"), false)
      ∷ (hex (codes "04006607"), false)
      ∷ (hex (codes "04006607"), false)
      ∷ ([], false)
      ∷ [];
  journal = [];
  frames = (0, 0);
}

-- QUIT and a lost connection end untold, and what comes after them is not taken.
abbrev pub leaves : Game
leaves = record {
  origin = admin_game;
  events = comes_aside 1 ++ comes_aside 2 ++ admin_quits 1 ∷ Shut 2 ∷ pings 1 1 ∷ opens_aside ∷ Shut 3 ∷ [];
  conns = (greeted, false) ∷ (greeted, false) ∷ ([], false) ∷ [];
  journal = [];
  frames = (0, 0);
}

-- A packet of the server is refused, before JOIN and after it.
abbrev pub packets_of_servers : Game
packets_of_servers = record {
  origin = admin_game;
  events = (opens_aside ∷ []) ++ comes_aside 2 ++ says 1 (codes "03006a") ∷ says 2 (codes "030064") ∷ [];
  conns = (hex (codes "04006607"), false) ∷ (greeted ++ hex (codes "04006607"), false) ∷ [];
  journal = [];
  frames = (0, 0);
}

-- What spells nothing ends with code 4, before JOIN and after it: no type, a field that is missing, one byte more, a scope above 2.
abbrev pub spells_nothing : Game
spells_nothing = record {
  origin = admin_game;
  events = (opens_aside ∷ []) ++ comes_aside 2 ++ (opens_aside ∷ []) ++ comes_aside 4 ++ comes_aside 5 ++
      says 1 (codes "030009") ∷ says 2 (codes "0500070000") ∷ says 3 (codes "05000000ff") ∷ says 4 (codes "04000100") ∷
      says 5 (codes "0a000403000000006100") ∷ [];
  conns =
      (hex (codes "04006604"), false)
      ∷ (greeted ++ hex (codes "04006604"), false)
      ∷ (hex (codes "04006604"), false)
      ∷ (greeted ++ hex (codes "04006604"), false)
      ∷ (greeted ++ hex (codes "04006604"), false)
      ∷ [];
  journal = [];
  frames = (0, 0);
}

-- A stream that breaks ends with code 4, before JOIN and after it.
abbrev pub streams_break : Game
streams_break = record {
  origin = admin_game;
  events = (opens_aside ∷ []) ++ comes_aside 2 ++ Broken 1 ∷ Broken 2 ∷ [];
  conns = (hex (codes "04006604"), false) ∷ (greeted ++ hex (codes "04006604"), false) ∷ [];
  journal = [];
  frames = (0, 0);
}

-- A seventeenth is told that the side is full, joined or not; once one has left there is room for one. Members do not count.
abbrev pub sixteen_aside : Game
sixteen_aside = record {
  origin = admin_game;
  events = (opens ∷ []) ++ replicate 16 opens_aside ++ opens_aside ∷ admin_quits 2 ∷ opens_aside ∷ opens_aside ∷ [];
  conns =
      ([], true)
      ∷ ([], false)
      ∷ ([], true)
      ∷ ([], true)
      ∷ ([], true)
      ∷ ([], true)
      ∷ ([], true)
      ∷ ([], true)
      ∷ ([], true)
      ∷ ([], true)
      ∷ ([], true)
      ∷ ([], true)
      ∷ ([], true)
      ∷ ([], true)
      ∷ ([], true)
      ∷ ([], true)
      ∷ ([], true)
      ∷ (hex (codes "030064"), false)
      ∷ ([], true)
      ∷ (hex (codes "030064"), false)
      ∷ [];
  journal = [];
  frames = (0, 0);
}

-- An admin that has not joined ends after its limit, and one that has joined does not.
abbrev pub slow_to_join : Game
slow_to_join = record {
  origin = slow_game;
  events = (opens_aside ∷ []) ++ comes_aside 2 ++ (Tick ∷ opens_aside ∷ []) ++ replicate 3 Tick;
  conns = (hex (codes "04006611"), false) ∷ (greeted, true) ∷ ([], true) ∷ [];
  journal = [];
  frames = (4, 4);
}

-- At just its limit it may still join.
abbrev pub just_in_time : Game
just_in_time = record {
  origin = slow_game;
  events = (opens_aside ∷ []) ++ replicate 3 Tick ++ admin_joins 1 ∷ Tick ∷ [];
  conns = (greeted, true) ∷ [];
  journal = [];
  frames = (4, 4);
}

-- WELCOME has the name, the revision and the seed of the setup, and the day of the world.
abbrev pub greeted_elsewhere : Game
greeted_elsewhere = record {
  origin = elsewhere;
  events = (opens_aside ∷ admin_joins 1 ∷ Tick ∷ []) ++ comes_aside 2;
  conns = (
    hex (codes "370067030100003f00010100410001020041000103003d000104003d0001050040000106004000010700010001080040")
        ++ hex (codes "00010900400000210068456c736577686572650031342e3000010004030201000001000000010001"),
    true,
  )
      ∷ (
        hex (codes "370067030100003f00010100410001020041000103003d000104003d0001050040000106004000010700010001080040")
            ++ hex (codes "00010900400000210068456c736577686572650031342e3000010004030201000101000000010001"),
        true,
      )
      ∷ [];
  journal = [];
  frames = (1, 1);
}

-- Admins take no place and no client number of the main door.
abbrev pub doors_apart : Game
doors_apart = record {
  origin = one_place_game;
  events = comes_aside 1 ++ opens_aside ∷ opens ∷ opens ∷ spectates 3 ann ∷ [];
  conns =
      (greeted, true)
      ∷ ([], true)
      ∷ (hex (codes "0e000c0200000000000000747400"), true)
      ∷ (hex (codes "030000"), false)
      ∷ [];
  journal = [];
  frames = (0, 0);
}
