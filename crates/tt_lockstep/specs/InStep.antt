-- What it is to be in step: the one sentence that the lockstep theorem promises of every client.
use Rattle.std.specs.Prelude.{◌≡◌, List}
use Rattle.tt_lockstep.specs.Game.{Game}
use Rattle.tt_lockstep.specs.Journal.{world_at}
use Rattle.tt_lockstep.specs.Shown.{Joining, Running, EndedJoining, Ended, WrongJoining, Wrong, world_of}
use Rattle.tt_lockstep.specs.Client.{Client, Following, Desync}

module _ {W E : Type 0} (game : Game W E) where
  -- once a client has its map, its world at its frame is that of the journal, also after it was ended; and it is neither wrong nor out of
  -- step
  abbrev pub IsInStep : List E → Client W E → Type 0
  IsInStep journal (Following Joining f) = Unit
  IsInStep journal (Following (Running v) f) = world_of game v f ≡ world_at game journal f
  IsInStep journal (Following EndedJoining f) = Unit
  IsInStep journal (Following (Ended v) f) = world_of game v f ≡ world_at game journal f
  IsInStep journal (Following WrongJoining f) = ⊥
  IsInStep journal (Following (Wrong v) f) = ⊥
  IsInStep journal (Desync v f g mine theirs) = ⊥
