-- What a server tells a connection, as far as lockstep cares.
use Rattle.std.specs.Prelude.{ℕ}

-- one thing that is told; a stream is a list of them
pub data Told (W E : Type 0) : Type 0 where
  -- the map has come whole: the frame at which it was made, and its world
  Map : ℕ → W → Told W E
  -- an entry of the journal
  Command : E → Told W E
  -- the server's frame, and the permitted frame: the one up to which a client may run
  Frame : ℕ → ℕ → Told W E
  -- a frame, and the word of the world at it
  Sync : ℕ → ℕ → Told W E
  -- anything that changes nothing of this: a chat, a name, a piece of a map
  Other : Told W E
  -- what is not permitted where it stands; a true server never tells it
  Stray : Told W E
  -- the last thing: it ends the connection
  End : Told W E
