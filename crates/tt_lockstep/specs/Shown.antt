-- What a stream shows a client: the table of what is permitted, and what is made of it. A client trusts nothing that it is told.
use Rattle.std.specs.Prelude.{ℕ, ◌-◌, if◌then◌else◌, List, [], ◌∷◌, ◌++◌, nat_lt, nat_le}
use Rattle.tt_lockstep.specs.Game.{Game}
use Rattle.tt_lockstep.specs.Journal.{folded}
use Rattle.tt_lockstep.specs.Told.{Told, Map, Command, Frame, Sync, Other, End}

-- a frame, the word that its world is said to have, and how far the client might run when it was told so
pub record SyncPoint : Type 0 where
  pub frame : ℕ
  pub word : ℕ
  pub permitted : ℕ

-- what a client that has its map was told
pub record View (W E : Type 0) : Type 0 where
  -- the world of its map, and the frame at which the map was made
  pub map_world : W
  pub map_frame : ℕ
  -- the frame up to which it may run
  pub permitted : ℕ
  -- the frame of the last entry, or the map frame
  pub last_entry : ℕ
  pub entries : List E
  pub syncs : List SyncPoint

-- what a stream shows: how far its client has come by it, and what it was told
pub data Shown (W E : Type 0) : Type 0 where
  -- it has no map yet
  Joining : Shown W E
  -- it has its map, and may run
  Running : View W E → Shown W E
  -- it was ended, before it had its map
  EndedJoining : Shown W E
  -- and after
  Ended : View W E → Shown W E
  -- it was told what is not permitted, before it had its map
  WrongJoining : Shown W E
  -- and after
  Wrong : View W E → Shown W E

-- a client that has its map, and was told nothing yet
abbrev pub fresh : {W E : Type 0} → ℕ → W → View W E
fresh s w = record { map_world = w; map_frame = s; permitted = s; last_entry = s; entries = []; syncs = [] }

module _ {W E : Type 0} (game : Game W E) where
  -- an entry lies above the permitted frame, and not below the last entry
  abbrev pub with_entry : View W E → E → Shown W E
  with_entry v e =
      if nat_lt v.permitted (game.frame_of e)
      then (if nat_le v.last_entry (game.frame_of e) then Running (record v {
        last_entry = game.frame_of e;
        entries = v.entries
            ++ e ∷ [];
      }) else Wrong v)
      else Wrong v

  -- the permitted frame is not below the server's frame, and does not fall
  abbrev pub with_frame : View W E → ℕ → ℕ → Shown W E
  with_frame v f max =
      if nat_le f max then (if nat_le v.permitted max then Running (record v { permitted = max }) else Wrong v) else Wrong v

  -- a word is kept, with how far one might run when it came
  abbrev pub with_sync : View W E → ℕ → ℕ → Shown W E
  with_sync v f w = Running (record v { syncs = v.syncs ++ record { frame = f; word = w; permitted = v.permitted } ∷ [] })

  -- what is permitted, and what is made of it. All else is wrong, and what comes behind an end counts for nothing
  abbrev pub seen : Shown W E → Told W E → Shown W E
  seen Joining (Map s w) = Running (fresh s w)
  seen Joining Other = Joining
  seen Joining End = EndedJoining
  seen Joining t = WrongJoining
  seen (Running v) (Command e) = with_entry v e
  seen (Running v) (Frame f max) = with_frame v f max
  seen (Running v) (Sync f w) = with_sync v f w
  seen (Running v) Other = Running v
  seen (Running v) End = Ended v
  seen (Running v) t = Wrong v
  seen ended t = ended

  -- what is made of a whole stream
  abbrev pub shown : Shown W E → List (Told W E) → Shown W E
  shown h [] = h
  shown h (t ∷ ts) = shown (seen h t) ts

  -- the world that a client has at a frame: that of its map, and the entries that it was told
  abbrev pub world_of : View W E → ℕ → W
  world_of v f = folded game v.map_world v.map_frame v.entries (f - v.map_frame)
