-- How a client is fed and run: the frame that it has come to, and where it finds itself out of step.
use Rattle.std.specs.Prelude.{ℕ, zero, suc, ◌+◌, Bool, if◌then◌else◌, not, List, [], ◌∷◌, ◌==◌, ◌&&◌, nat_lt, nat_le}
use Rattle.tt_lockstep.specs.Game.{Game}
use Rattle.tt_lockstep.specs.Told.{Told, Map, Sync}
use Rattle.tt_lockstep.specs.Shown.{View, SyncPoint, Shown, Joining, Running, seen, with_sync, world_of}

-- a call of a client: it is fed one more thing of its stream, or told to run so many frames
pub data Call (W E : Type 0) : Type 0 where
  Feed : Told W E → Call W E
  Advance : ℕ → Call W E

-- all that it was fed, in order
abbrev pub fed : {W E : Type 0} → List (Call W E) → List (Told W E)
fed [] = []
fed (Feed t ∷ calls) = t ∷ fed calls
fed (Advance n ∷ calls) = fed calls

-- a client, as its calls leave it
pub data Client (W E : Type 0) : Type 0 where
  -- it follows its stream: what it was shown, and the frame that it has run
  Following : Shown W E → ℕ → Client W E
  -- it is out of step: what it was shown, the frame that it has run, the frame that was compared, its own word there, and the one that was
  -- told
  Desync : View W E → ℕ → ℕ → ℕ → ℕ → Client W E

-- nothing was fed yet
abbrev pub unfed : {W E : Type 0} → Client W E
unfed = Following Joining 0

module _ {W E : Type 0} (game : Game W E) where
  -- a client at frame f has run frame g, and that was one of the last 128
  abbrev pub is_recent : View W E → ℕ → ℕ → Bool
  is_recent v f g = nat_lt v.map_frame g && (nat_le g f && nat_lt f (g + 128))

  -- a word that comes is compared where its frame was run recently. It is kept in any case: that of a frame to come is compared then
  abbrev pub compared : View W E → ℕ → ℕ → ℕ → Client W E
  compared v f g w =
      if is_recent v f g && not (game.word (world_of game v g) == w)
      then Desync v f g (game.word (world_of game v g)) w
      else Following (with_sync game v g w) f

  -- a client at frame f is fed one more thing; its map sets its frame
  abbrev pub hearing : Shown W E → ℕ → Told W E → Client W E
  hearing Joining f (Map s w) = Following (seen game Joining (Map s w)) s
  hearing (Running v) f (Sync g w) = compared v f g w
  hearing h f t = Following (seen game h t) f

  -- a client that is out of step stays so
  abbrev pub hears : Client W E → Told W E → Client W E
  hears (Following h f) t = hearing h f t
  hears desync t = desync

  -- a frame that was run is compared with each word that was told of it before
  abbrev pub run_to : View W E → ℕ → List SyncPoint → Client W E
  run_to v f [] = Following (Running v) f
  run_to v f (sync ∷ syncs) =
      if sync.frame == f && not (game.word (world_of game v f) == sync.word)
      then Desync v f f (game.word (world_of game v f)) sync.word
      else run_to v f syncs

  -- one more frame, where it is permitted; who has no map or has ended runs none
  abbrev pub one_frame : Client W E → Client W E
  one_frame (Following (Running v) f) = if nat_lt f v.permitted then run_to v (suc f) v.syncs else Following (Running v) f
  one_frame client = client

  -- so many frames, as far as is permitted
  abbrev pub advanced : ℕ → Client W E → Client W E
  advanced zero client = client
  advanced (suc n) client = advanced n (one_frame client)

  -- a client after these calls
  abbrev pub run : Client W E → List (Call W E) → Client W E
  run client [] = client
  run client (Feed t ∷ calls) = run (hears client t) calls
  run client (Advance n ∷ calls) = run (advanced n client) calls
