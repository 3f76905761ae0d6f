-- First steps: lists of events, all but the last one of the plain game.
use Rattle.tt_rows.specs.Games.{Game}
use Rattle.std.specs.Prelude.{ℕ, zero, suc, ◌+◌, false, pos, List, [], ◌∷◌, ◌++◌, replicate, codes, true}
use Rattle.tt_edge.specs.declared.event.Event.{Event}
use Rattle.tt_edge.specs.declared.event.Event.TheVariants.{Broken, Shut, Tick}
use Rattle.tt_world.specs.Setup.{plain}
use Rattle.tt_world.specs.declared.sign.Sign.{Sign}
use Rattle.tt_log.specs.Origin.{Origin}
use Rattle.tt_rows.specs.Words.{company, sign, world, opens, ann, bob, joins, spectates, asks_what_game, asks_for_map, has_loaded}
use Rattle.tt_rows.specs.Words.{acknowledges, chats_to, quits, says, hex, plain_game}

-- A welcomed member that never asks for the map ends behind 101 ticks.
abbrev pub welcomed_and_quiet : Game
welcomed_and_quiet = record {
  origin = plain_game;
  events =
      (opens ∷ spectates 1 ann ∷ []) ++ replicate 101 Tick;
  conns = (
    hex (codes "0e000c020000000000000074740004000311"),
    false,
  )
      ∷ [];
  journal =
      [];
  frames = (101, 101);
}

-- Who asks what game this is is told so, and stays.
abbrev pub told_of_the_game : Game
told_of_the_game = record {
  origin = plain_game;
  events =
      opens ∷ asks_what_game 1 ∷ [];
  conns = (
    hex (codes "10000547616d65000000000000001900"),
    true,
  )
      ∷ [];
  journal =
      [];
  frames = (0, 0);
}

-- Another revision ends with its code.
abbrev pub another_revision : Game
another_revision = record {
  origin = plain_game;
  events =
      opens ∷ says 1 (codes "11000231332e33000d000000416e6e00ff") ∷ [];
  conns = (
    hex (codes "04000308"),
    false,
  )
      ∷ [];
  journal =
      [];
  frames = (0, 0);
}

-- Another NewGRF version ends with the same code.
abbrev pub another_grf_version : Game
another_grf_version = record {
  origin = plain_game;
  events =
      opens ∷ says 1 (codes "11000231332e34000e000000416e6e00ff") ∷ [];
  conns = (
    hex (codes "04000308"),
    false,
  )
      ∷ [];
  journal =
      [];
  frames = (0, 0);
}

-- A company that does not live can not be asked for.
abbrev pub no_such_company : Game
no_such_company = record {
  origin = plain_game;
  events =
      opens ∷ joins 1 ann 0 ∷ [];
  conns = (
    hex (codes "0400030b"),
    false,
  )
      ∷ [];
  journal =
      [];
  frames = (0, 0);
}

-- Files that nobody asked for are not expected.
abbrev pub files_unasked : Game
files_unasked = record {
  origin = plain_game;
  events =
      opens ∷ says 1 (codes "030007") ∷ [];
  conns = (
    hex (codes "04000307"),
    false,
  )
      ∷ [];
  journal =
      [];
  frames = (0, 0);
}

-- A stream that breaks ends its connection, welcomed or not.
abbrev pub broken_behind_the_welcome : Game
broken_behind_the_welcome = record {
  origin = plain_game;
  events =
      opens ∷ spectates 1 ann ∷ Broken 1 ∷ [];
  conns = (
    hex (codes "0e000c020000000000000074740004000304"),
    false,
  )
      ∷ [];
  journal =
      [];
  frames = (0, 0);
}

-- A connection that is shut is told nothing by this.
abbrev pub shut_untold : Game
shut_untold = record {
  origin = plain_game;
  events =
      opens ∷ spectates 1 ann ∷ Shut 1 ∷ [];
  conns = (
    hex (codes "0e000c0200000000000000747400"),
    false,
  )
      ∷ [];
  journal =
      [];
  frames = (0, 0);
}

-- A name of 22 bytes that is in use has no room for a number.
abbrev pub name_too_long_with_a_number : Game
name_too_long_with_a_number = record {
  origin = plain_game;
  events =
      opens ∷ opens ∷ spectates 1 (codes "aaaaaaaaaaaaaaaaaaaaaa") ∷ spectates 2 (codes "aaaaaaaaaaaaaaaaaaaaaa") ∷ [];
  conns = (
    hex (codes "0e000c0200000000000000747400"),
    true,
  )
      ∷ (
        hex (codes "04000309"),
        false,
      )
      ∷ [];
  journal =
      [];
  frames = (0, 0);
}

-- A name of 21 bytes that is in use gets a number, and has 24 then.
abbrev pub name_with_a_number : Game
name_with_a_number = record {
  origin = plain_game;
  events =
      opens ∷ opens ∷ spectates 1 (codes "aaaaaaaaaaaaaaaaaaaaa") ∷ spectates 2 (codes "aaaaaaaaaaaaaaaaaaaaa") ∷ [];
  conns = (
    hex (codes "0e000c0200000000000000747400"),
    true,
  )
      ∷ (
        hex (codes "0e000c0300000000000000747400"),
        true,
      )
      ∷ [];
  journal =
      [];
  frames = (0, 0);
}

-- The map is asked for once.
abbrev pub map_asked_for_twice : Game
map_asked_for_twice = record {
  origin = plain_game;
  events =
      opens ∷ spectates 1 ann ∷ asks_for_map 1 ∷ asks_for_map 1 ∷ [];
  conns = (
    hex (codes "0e000c020000000000000074740007000f000000000700104100000004000307"),
    false,
  )
      ∷ [];
  journal =
      [];
  frames = (0, 0);
}

-- A map is loaded once it was told, not before.
abbrev pub map_loaded_before_it_came : Game
map_loaded_before_it_came = record {
  origin = plain_game;
  events =
      opens ∷ spectates 1 ann ∷ has_loaded 1 ∷ [];
  conns = (
    hex (codes "0e000c020000000000000074740004000307"),
    false,
  )
      ∷ [];
  journal =
      [];
  frames = (0, 0);
}

-- Who is welcomed does not join again.
abbrev pub joins_twice : Game
joins_twice = record {
  origin = plain_game;
  events =
      opens ∷ spectates 1 ann ∷ spectates 1 ann ∷ [];
  conns = (
    hex (codes "0e000c020000000000000074740004000307"),
    false,
  )
      ∷ [];
  journal =
      [];
  frames = (0, 0);
}

-- Who quits is told nothing.
abbrev pub quits_at_once : Game
quits_at_once = record {
  origin = plain_game;
  events =
      opens ∷ quits 1 ∷ [];
  conns = (
    [],
    false,
  )
      ∷ [];
  journal =
      [];
  frames = (0, 0);
}

-- An empty name is told before a company that does not live.
abbrev pub name_judged_before_company : Game
name_judged_before_company = record {
  origin = plain_game;
  events =
      opens ∷ joins 1 [] 0 ∷ [];
  conns = (
    hex (codes "04000314"),
    false,
  )
      ∷ [];
  journal =
      [];
  frames = (0, 0);
}

-- Who ends before its welcome is not told of.
abbrev pub stranger_ends_unheard : Game
stranger_ends_unheard = record {
  origin = plain_game;
  events =
      opens ∷ spectates 1 ann ∷ asks_for_map 1 ∷ Tick ∷ has_loaded 1 ∷ opens ∷ Broken 2 ∷ [];
  conns = (
    hex (codes "0e000c020000000000000074740007000f00000000070010410000004400114f54544e0002000047414d450000")
        ++ hex (codes "000600000000000052414e44000000080000000000000000434d505900000001005349474e000000020000454e")
        ++ hex (codes "4443000000000300120c001d02000000ff416e6e000c00150100000001000000ff"),
    true,
  )
      ∷ (
        hex (codes "04000304"),
        false,
      )
      ∷ [];
  journal =
      [];
  frames = (1, 1);
}

-- A chat is told to those that play, and not to one that is only welcomed.
abbrev pub chat_in_the_game : Game
chat_in_the_game = record {
  origin = plain_game;
  events =
      opens ∷ spectates 1 ann ∷ asks_for_map 1 ∷ Tick ∷ has_loaded 1 ∷ acknowledges 1 1 ∷ opens ∷ spectates 2 bob ∷
      chats_to 1 0 0 (codes "Hi") ∷ [];
  conns = (
    hex (codes "0e000c020000000000000074740007000f00000000070010410000004400114f54544e0002000047414d450000")
        ++ hex (codes "000600000000000052414e44000000080000000000000000434d505900000001005349474e000000020000454e")
        ++ hex (codes "4443000000000300120c001d02000000ff416e6e000c00150100000001000000ff0c001d03000000ff426f6200")
        ++ hex (codes "0b001b0200000000486900"),
    true,
  )
      ∷ (
        hex (codes "0e000c0300000000000000747400"),
        true,
      )
      ∷ [];
  journal =
      [];
  frames = (1, 1);
}

-- The pieces of a map that were told stay counted once it was told whole.
abbrev pub map_told_whole : List Event
map_told_whole =
    opens ∷ spectates 1 ann ∷ asks_for_map 1 ∷ Tick ∷ []

-- so many signs of company 0 from an id on, each with a text of 31 bytes
abbrev pub signs_from : ℕ → ℕ → List Sign
signs_from id zero = []
signs_from id (suc n) = sign id 0 0 (replicate 31 97) ∷ signs_from (id + 1) n

-- a game that begins with a company and 200 signs of 39 bytes each: a map of six pieces
abbrev pub signs_game : Origin
signs_game = record {
  setup = plain;
  start = world (0, 0) 0 0 false ((0, company (pos 100000) 100000 (codes "Company 1") (codes "President")) ∷ []) (signs_from 0 200);
}

-- Four pieces are told in a tick, and the last two in the next one.
abbrev pub map_told_in_two_ticks : List Event
map_told_in_two_ticks =
    opens ∷ spectates 1 ann ∷ asks_for_map 1 ∷ Tick ∷ Tick ∷ []
