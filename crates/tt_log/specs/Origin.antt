-- What a game is made from, and the journal at this game: lockstep's words, where worlds are those of the world's crate
-- and entries are commands of companies.
use Rattle.std.specs.Prelude.{ℕ, ◌<◌, ◌≤◌, ◌^◌, List}
use Rattle.tt_frame.specs.Text.{IsName}
use Rattle.tt_lockstep.specs.Game.{Game}
use Rattle.tt_lockstep.specs.Journal as journal
use Rattle.tt_world.specs.declared.setup.Setup.{Setup}
use Rattle.tt_world.specs.declared.command.Entry.{Entry}
use Rattle.tt_world.specs.Setup.{Fits}
use Rattle.tt_world.specs.World.{WorldState, start}
use Rattle.tt_world.specs.Commands.{applied}
use Rattle.tt_world.specs.Economy.{framed}
use Rattle.tt_map.specs.Maps.{IsTold}
use Rattle.tt_log.specs.Saved.{last_start_day}

-- a game's setup, and the world that it starts with: a saved one, or the setup's own
pub record Origin : Type 0 where
  pub setup : Setup
  pub start : WorldState

-- a new game begins with the setup's own world
abbrev pub origin_of : Setup → Origin
origin_of setup = record { setup = setup; start = start setup }

-- what games are made from: a setup in range, its numbers and texts as their types say, and a world that a map tells, so
-- early that no game comes to a day that no map tells
pub record IsOrigin (o : Origin) : Type 0 where
  pub setup : Fits o.setup
  pub seed : o.setup.seed < 2 ^ 32
  pub name : IsName o.setup.name
  pub revision : IsName o.setup.revision
  pub id : IsName o.setup.id
  pub start : IsTold o.start
  pub early : o.start.day ≤ last_start_day

-- the game as lockstep sees it: entries by their frames, what an entry and a frame make of a world, and the word that a
-- client compares, which is the first of the two random words
abbrev pub game_of : Origin → Game WorldState Entry
game_of o = record {
  frame_of = λ (e : Entry). e.frame;
  applied = λ (w : WorldState) (e : Entry). (applied w e).0;
  framed = framed;
  word = λ (w : WorldState). w.words.0;
  start = o.start;
  lead = o.setup.frame_freq;
}

-- a journal: its frames do not fall
abbrev pub IsJournal : Origin → List Entry → Type 0
IsJournal o entries = journal.IsJournal (game_of o) entries

-- the entries of a frame, and those above one, in order
abbrev pub at_frame : Origin → ℕ → List Entry → List Entry
at_frame o f entries = journal.of_frame (game_of o) f entries

abbrev pub above : Origin → ℕ → List Entry → List Entry
above o f entries = journal.above (game_of o) f entries

-- the world so many frames after another, which is that of frame s
abbrev pub folded : Origin → WorldState → ℕ → List Entry → ℕ → WorldState
folded o w s entries frames = journal.folded (game_of o) w s entries frames

-- the world at a frame: every entry up to it, from the game's start
abbrev pub world_at : Origin → List Entry → ℕ → WorldState
world_at o entries f = journal.world_at (game_of o) entries f
