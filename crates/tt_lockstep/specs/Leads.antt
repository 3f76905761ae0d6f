-- How a server of one's own is tied to this one: each thing that it does leads from what a connection sees of it to what the connection
-- sees then.
use Rattle.std.specs.Prelude.{◌≡◌, ℕ, suc, List, [], map}
use Rattle.std.specs.List.{AllByRecursion}
use Rattle.tt_lockstep.specs.Game.{Game}
use Rattle.tt_lockstep.specs.Told.{Told, Command}
use Rattle.tt_lockstep.specs.Server.{Server, Step, Stage, Playing, after, stream}

module _ {W E : Type 0} (game : Game W E) where
  -- some steps lead from one server to the other, and by them the connection is told just this
  pub record Leads (old : Server E) (ts : List (Told W E)) (new : Server E) : Type 0 where
    pub steps : List (Step E)
    pub after_is : after game old steps ≡ new
    pub stream_is : stream game old steps ≡ ts

  -- these entries, told to those that play
  abbrev pub entries_if_playing : Stage → List E → List (Told W E)
  entries_if_playing (Playing s) es = map (λ e. Command e) es
  entries_if_playing stage es = []

  -- each entry is stamped for the frame above the permitted one
  abbrev pub AreStamped : ℕ → List E → Type 0
  AreStamped permitted es = AllByRecursion (λ e. game.frame_of e ≡ suc permitted) es
