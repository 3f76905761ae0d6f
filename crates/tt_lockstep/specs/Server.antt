-- The server, as one connection sees it. What it does for all others shows here by the journal and the frames alone.
use Rattle.std.specs.Prelude.{ℕ, suc, ◌+◌, if◌then◌else◌, List, [], ◌∷◌, ◌++◌, ◌==◌, nat_lt, map}
use Rattle.tt_lockstep.specs.Game.{Game}
use Rattle.tt_lockstep.specs.Journal.{above, world_at}
use Rattle.tt_lockstep.specs.Told.{Told, Map, Command, Frame, Sync, Other, End}

-- how far the connection has come; the number is its map frame, the frame at which its map was made
pub data Stage : Type 0 where
  -- no map was begun for it, or it is still to be opened
  BeforeMap : Stage
  -- its map is on the way
  Loading : ℕ → Stage
  -- its map was told whole
  Loaded : ℕ → Stage
  -- it is told every entry, frame and word
  Playing : ℕ → Stage
  -- it has ended
  Gone : Stage

-- the server: two frames, its journal, and the stage of one connection
pub record Server (E : Type 0) : Type 0 where
  -- the frame that was run last
  pub frame : ℕ
  -- the permitted frame: the greatest up to which any client may run
  pub permitted : ℕ
  pub journal : List E
  -- of the one connection that is watched
  pub stage : Stage

-- what a server may do, in any order
pub data Step (E : Type 0) : Type 0 where
  -- an entry is put on the journal, and told to those that play
  Stamp : E → Step E
  -- a frame is run; where that passes the permitted frame, a new one is told
  RunFrame : Step E
  -- the word of the world at the frame is told
  TellSync : Step E
  -- anything else is told
  TellOther : Step E
  -- the connection's map is begun: it is that of the frame as it is now
  BeginMap : Step E
  -- the last piece of its map is told
  EndMap : Step E
  -- it has its map, and plays from now on
  BeginPlay : Step E
  -- it is told that it ends
  Leave : Step E
  -- it ends, and is told nothing
  Vanish : Step E

-- nothing has happened yet
abbrev pub initial : {E : Type 0} → Server E
initial = record { frame = 0; permitted = 0; journal = []; stage = BeforeMap }

-- the stage after a map is begun at frame f
abbrev pub begun : ℕ → Stage → Stage
begun f BeforeMap = Loading f
begun f stage = stage

-- the stage after the last piece of the map
abbrev pub loaded : Stage → Stage
loaded (Loading s) = Loaded s
loaded stage = stage

-- the stage after the connection begins to play
abbrev pub playing : Stage → Stage
playing (Loaded s) = Playing s
playing stage = stage

module _ {W E : Type 0} where
  -- what is told to those that play
  abbrev pub if_playing : Stage → Told W E → List (Told W E)
  if_playing (Playing s) t = t ∷ []
  if_playing stage t = []

  -- what is told to those that are there
  abbrev pub if_there : Stage → Told W E → List (Told W E)
  if_there Gone t = []
  if_there stage t = t ∷ []

module _ {W E : Type 0} (game : Game W E) where
  -- the map's end: its world is the one at the map frame
  abbrev pub told_map : List E → Stage → List (Told W E)
  told_map journal (Loading s) = Map s (world_at game journal s) ∷ []
  told_map journal stage = []

  -- who begins to play is told each entry above its map frame, in order, and then how far it may run
  abbrev pub told_joiner : List E → ℕ → ℕ → Stage → List (Told W E)
  told_joiner journal frame permitted (Loaded s) = map (λ e. Command e) (above game s journal) ++ Frame frame permitted ∷ []
  told_joiner journal frame permitted stage = []

  -- the server after a step; an entry that is not stamped for the frame above the permitted one changes nothing
  abbrev pub stepped : Server E → Step E → Server E
  stepped server (Stamp e) =
      if game.frame_of e == suc server.permitted then record server { journal = server.journal ++ e ∷ [] } else server
  stepped server RunFrame =
      if nat_lt server.permitted (suc server.frame)
      then record server { frame = suc server.frame; permitted = suc server.frame + game.lead }
      else record server { frame = suc server.frame }
  stepped server TellSync = server
  stepped server TellOther = server
  stepped server BeginMap = record server { stage = begun server.frame server.stage }
  stepped server EndMap = record server { stage = loaded server.stage }
  stepped server BeginPlay = record server { stage = playing server.stage }
  stepped server Leave = record server { stage = Gone }
  stepped server Vanish = record server { stage = Gone }

  -- what the connection is told by a step
  abbrev pub told : Server E → Step E → List (Told W E)
  told server (Stamp e) = if game.frame_of e == suc server.permitted then if_playing server.stage (Command e) else []
  told server RunFrame =
      if nat_lt server.permitted (suc server.frame) then if_playing server.stage (Frame (suc server.frame) (suc server.frame + game.lead))
      else []
  told server TellSync = if_playing server.stage (Sync server.frame (game.word (world_at game server.journal server.frame)))
  told server TellOther = if_there server.stage Other
  told server BeginMap = []
  told server EndMap = told_map server.journal server.stage
  told server BeginPlay = told_joiner server.journal server.frame server.permitted server.stage
  told server Leave = if_there server.stage End
  told server Vanish = []

  -- the server after these steps
  abbrev pub after : Server E → List (Step E) → Server E
  after server [] = server
  after server (step ∷ steps) = after (stepped server step) steps

  -- the connection's stream: all that it is told by these steps, in order
  abbrev pub stream : Server E → List (Step E) → List (Told W E)
  stream server [] = []
  stream server (step ∷ steps) = told server step ++ stream (stepped server step) steps
