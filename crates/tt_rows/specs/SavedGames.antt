-- Saved games: a game starts from the world of a map.
use Rattle.std.specs.Prelude.{ℕ, true, false, pos, List, [], ◌∷◌, ◌++◌, codes}
use Rattle.tt_edge.specs.declared.event.Event.TheVariants.{Tick}
use Rattle.tt_world.specs.Setup.{plain}
use Rattle.tt_world.specs.World.{WorldState}
use Rattle.tt_log.specs.Origin.{Origin}
use Rattle.tt_rows.specs.Words.{hex, company, world, opens, ann, joins, asks_for_map}
use Rattle.tt_rows.specs.Games.{Game}

-- the map of a saved game, in version 1: the last part of day 29, and one company with the name A and the president B
abbrev pub saved_map : List ℕ
saved_map =
    hex (codes "4f54544e0001000047414d45000000060000001d490052414e44000000080000000000000000434d50590000001201000000")
    ++ hex (codes "000000000000000493e0014101425349474e000000020000454e444300000000")

-- its world: the company of a map of version 1 has the greatest loan of a new one
abbrev pub saved_world : WorldState
saved_world = world (0, 0) 29 73 false ((0, company (pos 0) 300000 (codes "A") (codes "B")) ∷ []) []

abbrev pub saved_game : Origin
saved_game = record { setup = plain; start = saved_world }

-- A frame behind the start is day 30: its company has earned, and has paid for its loan.
abbrev pub goes_on : Game
goes_on = record {
  origin = saved_game;
  events = Tick ∷ [];
  conns = [];
  journal = [];
  frames = (1, 1);
}

-- Who joins may ask for the saved company, and is told the map of the start, in version 2.
abbrev pub told_the_start : Game
told_the_start = record {
  origin = saved_game;
  events = opens ∷ joins 1 ann 0 ∷ asks_for_map 1 ∷ [];
  conns = (hex (codes "0e000c020000000000000074740007000f0000000007001056000000"), true) ∷ [];
  journal = [];
  frames = (0, 0);
}
