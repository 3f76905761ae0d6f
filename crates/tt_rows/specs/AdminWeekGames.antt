-- A week from the start: 518 ticks.
use Rattle.std.specs.Prelude.{[], codes, false, replicate, ◌++◌, ◌∷◌}
use Rattle.tt_edge.specs.declared.event.Event.TheVariants.{Tick}
use Rattle.tt_rows.specs.Words.{hex}
use Rattle.tt_rows.specs.AdminWords.{admin_game, comes_aside, greeted, polls_all, wants_updates}
use Rattle.tt_rows.specs.Games.{Game}

-- The day is told on day 7 alone. To be told of it at once cannot be asked for, and no company lives to be told of.
abbrev pub news_of_a_week : Game
news_of_a_week = record {
  origin = admin_game;
  events = comes_aside 1 ++ (wants_updates 1 0 4 ∷ polls_all 1 2 ∷ []) ++ replicate 518 Tick ++ wants_updates 1 0 64 ∷ [];
  conns = (greeted ++ hex (codes "07006b0700000004006604"), false) ∷ [];
  journal = [];
  frames = (518, 518);
}
