-- What a game is here: worlds that entries change and that run frame by frame. Nothing else of it matters to lockstep.
use Rattle.std.specs.Prelude.{ℕ}

-- a game whose worlds are W and whose entries are E
pub record Game (W E : Type 0) : Type 0 where
  -- the frame that an entry is stamped for
  pub frame_of : E → ℕ
  -- what an entry makes of a world; where the world refuses it, the same world
  pub applied : W → E → W
  -- what the running of a frame makes of a world
  pub framed : W → W
  -- the word of a world: two worlds are compared by their words
  pub word : W → ℕ
  -- the world at frame 0
  pub start : W
  -- by how many frames the permitted frame runs ahead of the frame that was run
  pub lead : ℕ
