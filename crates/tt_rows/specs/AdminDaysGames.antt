-- What admins are told on days that begin, by the periods that they asked for.
use Rattle.std.specs.Prelude.{[], codes, false, replicate, true, ℕ, ◌++◌, ◌-◌, ◌∷◌}
use Rattle.tt_edge.specs.declared.event.Event.TheVariants.{Tick}
use Rattle.tt_world.specs.Setup.{plain}
use Rattle.tt_world.specs.declared.command.Code.TheVariants.{NewCompany, Pause}
use Rattle.tt_log.specs.Origin.{Origin}
use Rattle.tt_rows.specs.Words.{acknowledges, ann, asks_for_map, bob, entry, founds, has_loaded, hex, opens, spectates, world}
use Rattle.tt_rows.specs.AdminWords.{before_day, comes_aside, gives_line, greeted_on, opens_aside, pings, wants_updates}
use Rattle.tt_rows.specs.Games.{Game}

-- a game that begins four ticks before a day, and in which there is little time to join
abbrev pub slow_before_day : ℕ → Origin
slow_before_day day = record {
  setup = record plain { admin_password = codes "pw"; init = 3 };
  start = world (0, 0) (day - 1) 70 false [] [];
}

-- A daily type is told on each day that begins, and on no other tick.
abbrev pub each_day : Game
each_day = record {
  origin = before_day 5 0;
  events = comes_aside 1 ++ (wants_updates 1 0 2 ∷ Tick ∷ pings 1 1 ∷ []) ++ replicate 73 Tick ++ pings 1 2 ∷ Tick ∷ [];
  conns = (greeted_on 4 ++ hex (codes "07006b0500000007007e0100000007007e0200000007006b06000000"), true) ∷ [];
  journal = [];
  frames = (75, 75);
}

-- On day 7 weekly types are told, and on day 6 they are not.
abbrev pub each_week : Game
each_week = record {
  origin = before_day 6 0;
  events = comes_aside 1 ++ (wants_updates 1 0 4 ∷ Tick ∷ pings 1 1 ∷ []) ++ replicate 73 Tick ++ pings 1 2 ∷ Tick ∷ [];
  conns = (greeted_on 5 ++ hex (codes "07007e0100000007007e0200000007006b07000000"), true) ∷ [];
  journal = [];
  frames = (75, 75);
}

-- On day 30 daily and monthly types are told, others are not.
abbrev pub each_month : Game
each_month = record {
  origin = before_day 30 0;
  events = comes_aside 1 ++ comes_aside 2 ++ comes_aside 3 ++ comes_aside 4 ++ comes_aside 5 ++ wants_updates 1 0 2 ∷
      wants_updates 2 0 4 ∷ wants_updates 3 0 8 ∷ wants_updates 4 0 16 ∷ wants_updates 5 0 32 ∷ Tick ∷ [];
  conns =
      (greeted_on 29 ++ hex (codes "07006b1e000000"), true)
      ∷ (greeted_on 29, true)
      ∷ (greeted_on 29 ++ hex (codes "07006b1e000000"), true)
      ∷ (greeted_on 29, true)
      ∷ (greeted_on 29, true)
      ∷ [];
  journal = [];
  frames = (1, 1);
}

-- On day 90 quarterly types are told besides.
abbrev pub each_quarter : Game
each_quarter = record {
  origin = before_day 90 0;
  events = comes_aside 1 ++ comes_aside 2 ++ comes_aside 3 ++ comes_aside 4 ++ comes_aside 5 ++ wants_updates 1 0 2 ∷
      wants_updates 2 0 4 ∷ wants_updates 3 0 8 ∷ wants_updates 4 0 16 ∷ wants_updates 5 0 32 ∷ Tick ∷ [];
  conns =
      (greeted_on 89 ++ hex (codes "07006b5a000000"), true)
      ∷ (greeted_on 89, true)
      ∷ (greeted_on 89 ++ hex (codes "07006b5a000000"), true)
      ∷ (greeted_on 89 ++ hex (codes "07006b5a000000"), true)
      ∷ (greeted_on 89, true)
      ∷ [];
  journal = [];
  frames = (1, 1);
}

-- On day 360 annual types are told besides.
abbrev pub each_year : Game
each_year = record {
  origin = before_day 360 0;
  events = comes_aside 1 ++ comes_aside 2 ++ comes_aside 3 ++ comes_aside 4 ++ comes_aside 5 ++ wants_updates 1 0 2 ∷
      wants_updates 2 0 4 ∷ wants_updates 3 0 8 ∷ wants_updates 4 0 16 ∷ wants_updates 5 0 32 ∷ Tick ∷ [];
  conns =
      (greeted_on 359 ++ hex (codes "07006b68010000"), true)
      ∷ (greeted_on 359, true)
      ∷ (greeted_on 359 ++ hex (codes "07006b68010000"), true)
      ∷ (greeted_on 359 ++ hex (codes "07006b68010000"), true)
      ∷ (greeted_on 359 ++ hex (codes "07006b68010000"), true)
      ∷ [];
  journal = [];
  frames = (1, 1);
}

-- Where several bits are due a type is told once, though it may be asked for too.
abbrev pub told_once : Game
told_once = record {
  origin = before_day 360 0;
  events = comes_aside 1 ++ wants_updates 1 0 63 ∷ Tick ∷ [];
  conns = (greeted_on 359 ++ hex (codes "07006b68010000"), true) ∷ [];
  journal = [];
  frames = (1, 1);
}

-- The day, then the money and then the signs of each company, to each admin; the money is that of the new day.
abbrev pub types_in_order : Game
types_in_order = record {
  origin = before_day 30 2;
  events = comes_aside 1 ++ (opens_aside ∷ []) ++ comes_aside 3 ++ wants_updates 3 4 12 ∷ wants_updates 3 3 8 ∷
      wants_updates 3 0 8 ∷ wants_updates 1 4 8 ∷ wants_updates 1 3 12 ∷ wants_updates 1 0 16 ∷ Tick ∷ [];
  conns = (
    greeted_on 29 ++ hex (codes "10007500e788010000000000a0860100100075017786010000000000a0860100060076000000060076010000"),
    true,
  )
      ∷ ([], true)
      ∷ (
        greeted_on 29 ++ hex (codes "07006b1e00000010007500e788010000000000a0860100100075017786010000000000a0860100060076000000060076")
            ++ hex (codes "010000"),
        true,
      )
      ∷ [];
  journal = [];
  frames = (1, 1);
}

-- A bit that says when a type may be asked for is no period, and bits are replaced.
abbrev pub only_asked : Game
only_asked = record {
  origin = before_day 7 0;
  events = comes_aside 1 ++ comes_aside 2 ++ wants_updates 1 0 1 ∷ wants_updates 2 0 4 ∷ wants_updates 2 0 8 ∷ Tick ∷
      pings 1 1 ∷ pings 2 1 ∷ [];
  conns =
      (greeted_on 6 ++ hex (codes "07007e01000000"), true)
      ∷ (greeted_on 6 ++ hex (codes "07007e01000000"), true)
      ∷ [];
  journal = [];
  frames = (1, 1);
}

-- A world that is paused has no days that begin.
abbrev pub paused_days : Game
paused_days = record {
  origin = before_day 7 0;
  events = comes_aside 1 ++ wants_updates 1 0 63 ∷ gives_line 1 (codes "pause") ∷ Tick ∷ Tick ∷
      gives_line 1 (codes "unpause") ∷ Tick ∷ Tick ∷ [];
  conns = (
    greeted_on 6 ++ hex (codes "08007800006f6b0009007d70617573650008007800006f6b000b007d756e70617573650007006b07000000"),
    true,
  ) ∷ [];
  journal = entry 1 1 255 Pause 1 0 [] ∷ entry 3 1 255 Pause 0 0 [] ∷ [];
  frames = (4, 4);
}

-- In one tick: what is stamped, what the frame founds, that its founder moves, who is late, and then the day.
abbrev pub a_tick_in_order : Game
a_tick_in_order = record {
  origin = slow_before_day 7;
  events = comes_aside 1 ++ wants_updates 1 0 2 ∷ wants_updates 1 1 64 ∷ wants_updates 1 2 64 ∷ wants_updates 1 8 64 ∷
      wants_updates 1 3 4 ∷ wants_updates 1 4 4 ∷ opens ∷ opens ∷ founds 2 ann ∷ spectates 3 bob ∷ asks_for_map 2 ∷ Tick ∷
      has_loaded 2 ∷ Tick ∷ Tick ∷ acknowledges 2 0 ∷ Tick ∷ [];
  conns = (
    greeted_on 6 ++ hex (codes "0c006d02000000416e6e00ff0c006d03000000426f6200ff07006c020000000e007f01000000ff080004000000040071")
        ++ hex (codes "0019007200436f6d70616e79203100507265736964656e7400000c006e02000000416e6e000008007003000000110700")
        ++ hex (codes "6b0700000010007500fd88010000000000a0860100060076000000"),
    true,
  )
      ∷ (
        hex (codes "0e000c020000000000000074740007000f00000000070010410000004400114f54544e0002000047414d450000000600")
            ++ hex (codes "000006460052414e44000000080000000000000000434d505900000001005349474e000000020000454e444300000000")
            ++ hex (codes "0300120c001d02000000ff416e6e000c001d03000000ff426f62000c00150100000001000000ff0c0015020000000200")
            ++ hex (codes "0000000c0015030000000300000000140019ff080002000000000004000000010000000c001504000000040000000008")
            ++ hex (codes "002002000000000800220300000011"),
        true,
      )
      ∷ (hex (codes "0e000c030000000000000074740004000311"), false)
      ∷ [];
  journal = entry 4 1 255 NewCompany 2 0 [] ∷ [];
  frames = (4, 4);
}

-- An admin that has not joined in time ends before the day is told.
abbrev pub gone_before_its_day : Game
gone_before_its_day = record {
  origin = slow_before_day 7;
  events = (opens_aside ∷ []) ++ comes_aside 2 ++ (wants_updates 2 0 4 ∷ []) ++ replicate 4 Tick;
  conns = (hex (codes "04006611"), false) ∷ (greeted_on 6 ++ hex (codes "07006b07000000"), true) ∷ [];
  journal = [];
  frames = (4, 4);
}
