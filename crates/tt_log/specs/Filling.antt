-- What the steps of a deed are filled in from.
use Rattle.std.specs.Prelude.{ℕ, List}
use Rattle.tt_world.specs.declared.command.Entry.{Entry}
use Rattle.tt_world.specs.World.{WorldState}

-- what is filled in from: the frame, its world and that before the event, the journal, the companies with a password, each
-- with its digest, and the bytes of the running download that were not told yet
pub record Filling : Type 0 where
  pub frame : ℕ
  pub world : WorldState
  pub before : WorldState
  pub journal : List Entry
  pub digests : List (ℕ × List ℕ)
  pub left : List ℕ
