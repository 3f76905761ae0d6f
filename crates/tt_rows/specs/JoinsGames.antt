-- Joining and downloading: lists of events, and what a game is made from that is not plain.
use Rattle.tt_rows.specs.Games.{Game}
use Rattle.std.specs.Prelude.{[], ◌∷◌, ◌++◌, replicate, codes, true, false}
use Rattle.tt_edge.specs.declared.event.Event.TheVariants.{Broken, Shut, Tick}
use Rattle.tt_world.specs.Setup.{plain}
use Rattle.tt_log.specs.Origin.{Origin}
use Rattle.tt_rows.specs.Words.{made_from, opens, ann, bob, joins, spectates, asks_what_game, gives_password, asks_for_map, has_loaded}
use Rattle.tt_rows.specs.Words.{says, hex, plain_game}

-- A bad size ends its own connection alone.
abbrev pub two_joins_one_broken : Game
two_joins_one_broken = record {
  origin = plain_game;
  events =
      opens ∷ opens ∷ Broken 1 ∷ spectates 2 ann ∷ [];
  conns = (
    hex (codes "04000304"),
    false,
  )
      ∷ (
        hex (codes "0e000c0300000000000000747400"),
        true,
      )
      ∷ [];
  journal =
      [];
  frames = (0, 0);
}

-- An empty name ends with its code.
abbrev pub empty_name : Game
empty_name = record {
  origin = plain_game;
  events =
      opens ∷ spectates 1 [] ∷ [];
  conns = (
    hex (codes "04000314"),
    false,
  )
      ∷ [];
  journal =
      [];
  frames = (0, 0);
}

-- Two members want one name.
abbrev pub same_name : Game
same_name = record {
  origin = plain_game;
  events =
      opens ∷ opens ∷ spectates 1 ann ∷ spectates 2 ann ∷ [];
  conns = (
    hex (codes "0e000c0200000000000000747400"),
    true,
  )
      ∷ (
        hex (codes "0e000c0300000000000000747400"),
        true,
      )
      ∷ [];
  journal =
      [];
  frames = (0, 0);
}

-- A spectator from its opening into the game.
abbrev pub whole_join : Game
whole_join = record {
  origin = plain_game;
  events =
      opens ∷ spectates 1 ann ∷ asks_for_map 1 ∷ Tick ∷ has_loaded 1 ∷ Tick ∷ [];
  conns = (
    hex (codes "0e000c020000000000000074740007000f00000000070010410000004400114f54544e0002000047414d450000")
        ++ hex (codes "000600000000000052414e44000000080000000000000000434d505900000001005349474e000000020000454e")
        ++ hex (codes "4443000000000300120c001d02000000ff416e6e000c00150100000001000000ff0c0015020000000200000000"),
    true,
  )
      ∷ [];
  journal =
      [];
  frames = (2, 2);
}

-- The second waits until the first has its map.
abbrev pub next_downloads : Game
next_downloads = record {
  origin = plain_game;
  events =
      opens ∷ opens ∷ spectates 1 ann ∷ spectates 2 bob ∷ asks_for_map 1 ∷ asks_for_map 2 ∷ Tick ∷ has_loaded 1 ∷ [];
  conns = (
    hex (codes "0e000c020000000000000074740007000f00000000070010410000004400114f54544e0002000047414d450000")
        ++ hex (codes "000600000000000052414e44000000080000000000000000434d505900000001005349474e000000020000454e")
        ++ hex (codes "4443000000000300120c001d02000000ff416e6e000c001d03000000ff426f62000c00150100000001000000ff"),
    true,
  )
      ∷ (
        hex (codes "0e000c030000000000000074740004000e0107000f0100000007001041000000"),
        true,
      )
      ∷ [];
  journal =
      [];
  frames = (1, 1);
}

-- The second begins where the first leaves.
abbrev pub first_leaves : Game
first_leaves = record {
  origin = plain_game;
  events =
      opens ∷ opens ∷ spectates 1 ann ∷ spectates 2 bob ∷ asks_for_map 1 ∷ asks_for_map 2 ∷ Shut 1 ∷ [];
  conns = (
    hex (codes "0e000c020000000000000074740007000f0000000007001041000000"),
    false,
  )
      ∷ (
        hex (codes "0e000c030000000000000074740004000e0107000f0000000007001041000000"),
        true,
      )
      ∷ [];
  journal =
      [];
  frames = (0, 0);
}

-- a game with a password
abbrev pub password_game : Origin
password_game = made_from (record plain { password = codes "tttttttttttttttttttttttttttttttt" })

-- A game with a password asks for it.
abbrev pub asked_for_password : Game
asked_for_password = record {
  origin = password_game;
  events =
      opens ∷ spectates 1 ann ∷ [];
  conns = (
    hex (codes "0a000800000000747400"),
    true,
  )
      ∷ [];
  journal =
      [];
  frames = (0, 0);
}

-- The right digest is let in.
abbrev pub right_password : Game
right_password = record {
  origin = password_game;
  events =
      opens ∷ spectates 1 ann ∷ gives_password 1 (codes "70bc8f4b72a86921468bf8e8441dce51") ∷ [];
  conns = (
    hex (codes "0a0008000000007474000e000c0200000000000000747400"),
    true,
  )
      ∷ [];
  journal =
      [];
  frames = (0, 0);
}

-- Another digest ends with its code.
abbrev pub wrong_password : Game
wrong_password = record {
  origin = password_game;
  events =
      opens ∷ spectates 1 ann ∷ gives_password 1 (codes "70bc8f4b72a86921468bf8e8441dce52") ∷ [];
  conns = (
    hex (codes "0a0008000000007474000400030a"),
    false,
  )
      ∷ [];
  journal =
      [];
  frames = (0, 0);
}

-- a game for one client
abbrev pub full_game : Origin
full_game = made_from (record plain { max_clients = 1 })

-- More than may be there are told so, and use up a client number.
abbrev pub full : Game
full = record {
  origin = full_game;
  events =
      opens ∷ opens ∷ spectates 1 ann ∷ Shut 1 ∷ opens ∷ spectates 3 bob ∷ [];
  conns = (
    hex (codes "0e000c0200000000000000747400"),
    false,
  )
      ∷ (
        hex (codes "030000"),
        false,
      )
      ∷ (
        hex (codes "0e000c0400000000000000747400"),
        true,
      )
      ∷ [];
  journal =
      [];
  frames = (0, 0);
}

-- Packets of a server are not expected from a client, and one that spells nothing is an illegal one.
abbrev pub servers_packets : Game
servers_packets = record {
  origin = plain_game;
  events =
      opens ∷ opens ∷ opens ∷
      says 1 (codes "2c00060205000000abababababababababababababababab05000000abababababababababababababababab") ∷
      says 2 (codes "0400063f") ∷ says 3 (codes "060011000000") ∷ [];
  conns = (
    hex (codes "04000307"),
    false,
  )
      ∷ (
        hex (codes "04000304"),
        false,
      )
      ∷ (
        hex (codes "04000307"),
        false,
      )
      ∷ [];
  journal =
      [];
  frames = (0, 0);
}

-- Packets that a status does not permit, the numbers of a game, and a company that is not live.
abbrev pub wrong_times : Game
wrong_times = record {
  origin = plain_game;
  events =
      replicate 4 opens ++ (asks_for_map 1 ∷ spectates 2 bob ∷ spectates 2 bob ∷ asks_what_game 3 ∷ says 3 (codes "030025") ∷
      joins 4 ann 14 ∷ []);
  conns = (
    hex (codes "04000307"),
    false,
  )
      ∷ (
        hex (codes "0e000c030000000000000074740004000307"),
        false,
      )
      ∷ (
        hex (codes "10000547616d6500000000000000190004000307"),
        false,
      )
      ∷ (
        hex (codes "0400030b"),
        false,
      )
      ∷ [];
  journal =
      [];
  frames = (0, 0);
}
