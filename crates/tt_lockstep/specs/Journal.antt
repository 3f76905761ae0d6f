-- The journal: the entries of a game in the order in which they were stamped, and the worlds that they make from the start.
use Rattle.std.specs.Prelude.{ℕ, zero, suc, ◌+◌, ◌≤◌, ◌<◌, if◌then◌else◌, List, [], ◌∷◌, ◌==◌, nat_lt}
use Rattle.std.specs.List.{AllByRecursion}
use Rattle.tt_lockstep.specs.Game.{Game}

module _ {W E : Type 0} (game : Game W E) where
  -- the entries of a frame, in order
  abbrev pub of_frame : ℕ → List E → List E
  of_frame f [] = []
  of_frame f (e ∷ es) = if game.frame_of e == f then e ∷ of_frame f es else of_frame f es

  -- the entries above a frame, in order
  abbrev pub above : ℕ → List E → List E
  above f [] = []
  above f (e ∷ es) = if nat_lt f (game.frame_of e) then e ∷ above f es else above f es

  -- a world after these entries, one behind the other
  abbrev pub applied_all : W → List E → W
  applied_all w [] = w
  applied_all w (e ∷ es) = applied_all (game.applied w e) es

  -- the world k frames after w, which is the world at frame s: for each frame its entries are applied, and then it is run
  abbrev pub folded : W → ℕ → List E → ℕ → W
  folded w s journal zero = w
  folded w s journal (suc k) = game.framed (applied_all (folded w s journal k) (of_frame (s + suc k) journal))

  -- the world at a frame, from scratch: every entry up to that frame, from the game's start
  abbrev pub world_at : List E → ℕ → W
  world_at journal f = folded game.start 0 journal f

  -- each entry is for a frame above n
  abbrev pub AreAbove : ℕ → List E → Type 0
  AreAbove n es = AllByRecursion (λ e. n < game.frame_of e) es

  -- each entry is for a frame of at most n
  abbrev pub AreUpTo : ℕ → List E → Type 0
  AreUpTo n es = AllByRecursion (λ e. game.frame_of e ≤ n) es

  -- the frames of the entries are at least n and do not fall
  abbrev pub AreRising : ℕ → List E → Type 0
  AreRising n [] = Unit
  AreRising n (e ∷ es) = (n ≤ game.frame_of e) × AreRising (game.frame_of e) es

  -- a journal: entries whose frames do not fall
  abbrev pub IsJournal : List E → Type 0
  IsJournal es = AreRising 0 es
