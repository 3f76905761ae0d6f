-- Tokens: FRAME tells a token, and ACK gives it back.
use Rattle.std.specs.Prelude.{ℕ, true, false, List, [], ◌∷◌, ◌++◌, codes}
use Rattle.tt_edge.specs.declared.event.Event.{Event}
use Rattle.tt_edge.specs.declared.event.Event.TheVariants.{Tick}
use Rattle.tt_rows.specs.Words.{plain_game, hex, opens, ann, spectates, asks_for_map, has_loaded, acknowledges, gives_back}
use Rattle.tt_rows.specs.LimitsGames.{short_lag_game}
use Rattle.tt_rows.specs.Games.{Game}

-- a spectator comes in; FRAME 1 tells it the token 255, and FRAME 2 none
abbrev pub comes_in : List Event
comes_in = opens ∷ spectates 1 ann ∷ asks_for_map 1 ∷ Tick ∷ has_loaded 1 ∷ Tick ∷ []

abbrev pub told_so_far : List ℕ
told_so_far =
    hex (codes "0e000c020000000000000074740007000f00000000070010410000004400114f54544e0002000047414d4500000006000000")
    ++ hex (codes "00000052414e44000000080000000000000000434d505900000001005349474e000000020000454e4443000000000300120c")
    ++ hex (codes "001d02000000ff416e6e000c00150100000001000000ff0c0015020000000200000000")

-- The token is given back, and the next FRAME has a fresh one.
abbrev pub given_back : Game
given_back = record {
  origin = plain_game;
  events = comes_in ++ gives_back 1 1 255 ∷ Tick ∷ [];
  conns = (told_so_far ++ hex (codes "0c00150300000003000000c0"), true) ∷ [];
  journal = [];
  frames = (3, 3);
}

-- Another token than the open one ends its member.
abbrev pub another_token : Game
another_token = record {
  origin = plain_game;
  events = comes_in ++ gives_back 1 1 254 ∷ [];
  conns = (told_so_far ++ hex (codes "04000307"), false) ∷ [];
  journal = [];
  frames = (2, 2);
}

-- A token that was given back is open no longer.
abbrev pub twice_given_back : Game
twice_given_back = record {
  origin = plain_game;
  events = comes_in ++ gives_back 1 1 255 ∷ gives_back 1 1 255 ∷ [];
  conns = (told_so_far ++ hex (codes "04000307"), false) ∷ [];
  journal = [];
  frames = (2, 2);
}

-- While a token is open each further FRAME has none.
abbrev pub none_given_back : Game
none_given_back = record {
  origin = plain_game;
  events = comes_in ++ acknowledges 1 1 ∷ Tick ∷ Tick ∷ [];
  conns = (told_so_far ++ hex (codes "0c00150300000003000000000c0015040000000400000000"), true) ∷ [];
  journal = [];
  frames = (4, 4);
}

-- A token may come back later, with a later frame.
abbrev pub late_given_back : Game
late_given_back = record {
  origin = plain_game;
  events = comes_in ++ acknowledges 1 1 ∷ Tick ∷ gives_back 1 3 255 ∷ Tick ∷ [];
  conns = (told_so_far ++ hex (codes "0c00150300000003000000000c00150400000004000000c0"), true) ∷ [];
  journal = [];
  frames = (4, 4);
}

-- A frame that was not permitted ends its member before the token is looked at, and none may be lost by it.
abbrev pub wrong_frame_first : Game
wrong_frame_first = record {
  origin = plain_game;
  events = comes_in ++ gives_back 1 9 255 ∷ [];
  conns = (told_so_far ++ hex (codes "04000307"), false) ∷ [];
  journal = [];
  frames = (2, 2);
}

-- A token that is open for longer than the lag ends its member, though it acknowledges each frame.
abbrev pub open_for_long : Game
open_for_long = record {
  origin = short_lag_game;
  events = comes_in ++ acknowledges 1 2 ∷ Tick ∷ acknowledges 1 3 ∷ Tick ∷ acknowledges 1 4 ∷ Tick ∷ acknowledges 1 5 ∷ Tick
      ∷ acknowledges 1 6 ∷ Tick ∷ acknowledges 1 7 ∷ Tick ∷ [];
  conns = (
    told_so_far ++ hex (codes "0c00150300000003000000000c00150400000004000000000c00150500000005000000000c00150600000006000000000c00")
        ++ hex (codes "150700000007000000000c001508000000080000000004000311"),
    false,
  ) ∷ [];
  journal = [];
  frames = (8, 8);
}

-- One that is open for just the lag does not.
abbrev pub open_for_the_lag : Game
open_for_the_lag = record {
  origin = short_lag_game;
  events = comes_in ++ acknowledges 1 2 ∷ Tick ∷ acknowledges 1 3 ∷ Tick ∷ acknowledges 1 4 ∷ Tick ∷ acknowledges 1 5 ∷ Tick
      ∷ acknowledges 1 6 ∷ Tick ∷ [];
  conns = (
    told_so_far ++ hex (codes "0c00150300000003000000000c00150400000004000000000c00150500000005000000000c00150600000006000000000c00")
        ++ hex (codes "15070000000700000000"),
    true,
  ) ∷ [];
  journal = [];
  frames = (7, 7);
}
