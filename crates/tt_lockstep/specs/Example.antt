-- A small game, to see that the theorem speaks of something: worlds are numbers, and an entry is the frame that it is stamped for.
use Rattle.std.specs.Prelude.{ℕ, ◌+◌, ◌*◌, List, [], ◌∷◌}
use Rattle.tt_lockstep.specs.Game.{Game}
use Rattle.tt_lockstep.specs.Journal.{world_at}
use Rattle.tt_lockstep.specs.Told.{Told, Map, Command, Frame, Sync, Other}
use Rattle.tt_lockstep.specs.Server.{after, initial, stream, Step, Stamp, RunFrame, TellSync, TellOther, BeginMap, EndMap, BeginPlay}
use Rattle.tt_lockstep.specs.Shown.{Joining, Running, EndedJoining, Ended, WrongJoining, Wrong, world_of}
use Rattle.tt_lockstep.specs.Client.{Call, Feed, Advance, Client, Following, Desync, unfed, run}

-- an entry adds its frame to the world, and a frame doubles the world and adds 1
abbrev pub small : Game ℕ ℕ
small = record { frame_of = λ e. e; applied = λ w e. w + e; framed = λ w. 2 * w + 1; word = λ w. w; start = 1; lead = 2 }

-- A connection is given the map of frame 1 and begins to play at frame 4. Of the entries before that, the first is in its map, the second
-- was run since, and the third is still to be run. Then another client leaves; and at last an order comes, which a server may stamp for one
-- of
-- the frames 5, 6 and 7: the true one takes the last, and the other two are no entries of its
abbrev pub small_steps : List (Step ℕ)
small_steps =
    Stamp 1 ∷ RunFrame ∷ BeginMap
    ∷ Stamp 4 ∷ RunFrame ∷ EndMap ∷ RunFrame ∷ RunFrame
    ∷ Stamp 7 ∷ BeginPlay ∷ TellSync ∷ TellOther
    ∷ Stamp 5 ∷ Stamp 6 ∷ Stamp 7 ∷ RunFrame ∷ RunFrame ∷ RunFrame ∷ TellSync ∷ []

-- what it is told: the world of frame 1 is 5, that of frame 4 is 55, and that of frame 7 is 475
abbrev pub small_stream : List (Told ℕ ℕ)
small_stream = Map 1 5 ∷ Command 4 ∷ Command 7 ∷ Frame 4 6 ∷ Sync 4 55 ∷ Other ∷ Command 7 ∷ Frame 7 9 ∷ Sync 7 475 ∷ []

-- a client that is fed a stream whole, and runs as far as it may behind each thing
abbrev pub eager : List (Told ℕ ℕ) → List (Call ℕ ℕ)
eager [] = []
eager (t ∷ ts) = Feed t ∷ Advance 9 ∷ eager ts

-- where a client of the small game comes to, in numbers
pub data Ending : Type 0 where
  -- it has no map
  Mapless : Ending
  -- the frame that it has run, its world there, and the journal's world there
  Ran : ℕ → ℕ → ℕ → Ending
  -- it was told what is not permitted
  ToldWrong : Ending
  -- the frame at which it is out of step, its own word there, and the one that was told
  OutOfStep : ℕ → ℕ → ℕ → Ending

-- the ending of a client, with the journal that its server has in the end
abbrev pub ending_of : Game ℕ ℕ → List ℕ → Client ℕ ℕ → Ending
ending_of game journal (Following Joining f) = Mapless
ending_of game journal (Following (Running v) f) = Ran f (world_of game v f) (world_at game journal f)
ending_of game journal (Following EndedJoining f) = Mapless
ending_of game journal (Following (Ended v) f) = Ran f (world_of game v f) (world_at game journal f)
ending_of game journal (Following WrongJoining f) = ToldWrong
ending_of game journal (Following (Wrong v) f) = ToldWrong
ending_of game journal (Desync v f g mine theirs) = OutOfStep g mine theirs

-- where the eager client of a server comes to
abbrev pub ending : Game ℕ ℕ → List (Step ℕ) → Ending
ending game steps = ending_of game (after game initial steps).journal (run game unfed (eager (stream game initial steps)))
