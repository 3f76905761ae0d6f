-- A client as a program runs it: it has one world, and of its stream it keeps no more than it still needs.
use Rattle.std.specs.Prelude.{
  ◌≡◌,
  ℕ,
  zero,
  suc,
  ◌-◌,
  min,
  if◌then◌else◌,
  not,
  ◌&&◌,
  List,
  [],
  ◌∷◌,
  ◌++◌,
  ◌==◌,
  Option,
  Some,
  None,
  nat_lt,
  nat_le,
  take,
}
use Rattle.tt_lockstep.specs.Game.{Game}
use Rattle.tt_lockstep.specs.Journal.{of_frame, above, applied_all, world_at}
use Rattle.tt_lockstep.specs.Told.{Told, Map, Command, Frame, Sync, Other, End}
use Rattle.tt_lockstep.specs.Shown.{SyncPoint, View, Joining, Running, EndedJoining, Ended, WrongJoining, Wrong, world_of}
use Rattle.tt_lockstep.specs.Client.{Call, Feed, Advance, Client, Following, Desync}

-- what a running client keeps
pub record Kept (W E : Type 0) : Type 0 where
  -- its world, and the frame that it has run
  pub world : W
  pub frame : ℕ
  -- the frame up to which it may run, and the frame of the last entry, or the map frame
  pub permitted : ℕ
  pub last_entry : ℕ
  -- the entries above its frame
  pub entries : List E
  -- its own words of the last frames that it has run, the newest first: 128 at most
  pub words : List ℕ
  -- the words that it was told of frames above its own
  pub syncs : List SyncPoint

-- a running client: as a client is, by what it keeps
pub data Runner (W E : Type 0) : Type 0 where
  RunnerJoining : Runner W E
  RunnerRunning : Kept W E → Runner W E
  RunnerEndedJoining : Runner W E
  RunnerEnded : Kept W E → Runner W E
  RunnerWrongJoining : Runner W E
  RunnerWrong : Kept W E → Runner W E
  -- the frame that was compared, its own word there, and the one that was told
  RunnerDesync : Kept W E → ℕ → ℕ → ℕ → Runner W E

-- the words that were told of frames above one
abbrev pub syncs_above : ℕ → List SyncPoint → List SyncPoint
syncs_above f [] = []
syncs_above f (sync ∷ syncs) = if nat_lt f sync.frame then sync ∷ syncs_above f syncs else syncs_above f syncs

-- the word that stands at a place, counted from 0
abbrev pub word_at : ℕ → List ℕ → Option ℕ
word_at n [] = None
word_at zero (word ∷ words) = Some word
word_at (suc n) (word ∷ words) = word_at n words

-- the words of so many frames, from a frame down
abbrev pub words_down : (ℕ → ℕ) → ℕ → ℕ → List ℕ
words_down word f zero = []
words_down word f (suc n) = word f ∷ words_down word (f - 1) n

module _ {W E : Type 0} (game : Game W E) where
  -- what is kept of an entry: it waits for its frame
  abbrev pub kept_entry : Kept W E → E → Kept W E
  kept_entry k e = record k { last_entry = game.frame_of e; entries = k.entries ++ e ∷ [] }

  -- an entry comes
  abbrev pub runner_entry : Kept W E → E → Runner W E
  runner_entry k e =
      if nat_lt k.permitted (game.frame_of e)
      then (if nat_le k.last_entry (game.frame_of e) then RunnerRunning (kept_entry k e) else RunnerWrong k)
      else RunnerWrong k

  -- a permitted frame comes
  abbrev pub runner_max : Kept W E → ℕ → ℕ → Runner W E
  runner_max k f max = if nat_le f max then (if nat_le k.permitted max then RunnerRunning (record k { permitted = max }) else RunnerWrong
      k) else RunnerWrong k

  -- a word of a frame that was run comes: it is compared with the word that is kept, if one is
  abbrev pub runner_compared : Kept W E → ℕ → ℕ → Option ℕ → Runner W E
  runner_compared k g theirs None = RunnerRunning k
  runner_compared k g theirs (Some mine) = if mine == theirs then RunnerRunning k else RunnerDesync k g mine theirs

  -- a word comes: that of a frame still to be run is kept
  abbrev pub runner_sync : Kept W E → ℕ → ℕ → Runner W E
  runner_sync k g w =
      if nat_lt k.frame g
      then RunnerRunning (record k { syncs = k.syncs ++ record { frame = g; word = w; permitted = k.permitted } ∷ [] })
      else runner_compared k g w (word_at (k.frame - g) k.words)

  -- one more thing of its stream
  abbrev pub runner_hears : Runner W E → Told W E → Runner W E
  runner_hears RunnerJoining (Map s w) =
      RunnerRunning (record { world = w; frame = s; permitted = s; last_entry = s; entries = []; words = []; syncs = [] })
  runner_hears RunnerJoining Other = RunnerJoining
  runner_hears RunnerJoining End = RunnerEndedJoining
  runner_hears RunnerJoining t = RunnerWrongJoining
  runner_hears (RunnerRunning k) (Command e) = runner_entry k e
  runner_hears (RunnerRunning k) (Frame f max) = runner_max k f max
  runner_hears (RunnerRunning k) (Sync g w) = runner_sync k g w
  runner_hears (RunnerRunning k) Other = RunnerRunning k
  runner_hears (RunnerRunning k) End = RunnerEnded k
  runner_hears (RunnerRunning k) t = RunnerWrong k
  runner_hears ended t = ended

  -- a frame was run: it is compared with each word that was told of it
  abbrev pub runner_checked : Kept W E → ℕ → ℕ → List SyncPoint → Runner W E
  runner_checked k f mine [] = RunnerRunning k
  runner_checked k f mine (sync ∷ syncs) =
      if sync.frame == f && not (mine == sync.word) then RunnerDesync k f mine sync.word else runner_checked k f mine syncs

  -- what is kept after one more frame, with its new world
  abbrev pub kept_on : Kept W E → W → Kept W E
  kept_on k w =
      record k {
        world = w;
        frame = suc k.frame;
        entries = above game (suc k.frame) k.entries;
        words = take 128 (game.word w ∷ k.words);
        syncs = syncs_above (suc k.frame) k.syncs;
      }

  -- the world after one more frame
  abbrev pub next_world : Kept W E → W
  next_world k = game.framed (applied_all game k.world (of_frame game (suc k.frame) k.entries))

  -- one more frame, where it is permitted
  abbrev pub runner_frame : Runner W E → Runner W E
  runner_frame (RunnerRunning k) =
      if nat_lt k.frame k.permitted then runner_checked (kept_on k (next_world k)) (suc k.frame) (game.word (next_world k)) k.syncs else
      RunnerRunning k
  runner_frame runner = runner

  -- so many frames
  abbrev pub runner_advanced : ℕ → Runner W E → Runner W E
  runner_advanced zero runner = runner
  runner_advanced (suc n) runner = runner_advanced n (runner_frame runner)

  -- a running client after these calls
  abbrev pub runner_run : Runner W E → List (Call W E) → Runner W E
  runner_run runner [] = runner
  runner_run runner (Feed t ∷ calls) = runner_run (runner_hears runner t) calls
  runner_run runner (Advance n ∷ calls) = runner_run (runner_advanced n runner) calls

  -- what is to be kept of a view, at a frame
  abbrev pub kept_of : View W E → ℕ → Kept W E
  kept_of v f =
      record {
        world = world_of game v f;
        frame = f;
        permitted = v.permitted;
        last_entry = v.last_entry;
        entries = above game f v.entries;
        words = words_down (λ g. game.word (world_of game v g)) f (min 128 (f - v.map_frame));
        syncs = syncs_above f v.syncs;
      }

  -- the running client that a client is
  abbrev pub runner_of : Client W E → Runner W E
  runner_of (Following Joining f) = RunnerJoining
  runner_of (Following (Running v) f) = RunnerRunning (kept_of v f)
  runner_of (Following EndedJoining f) = RunnerEndedJoining
  runner_of (Following (Ended v) f) = RunnerEnded (kept_of v f)
  runner_of (Following WrongJoining f) = RunnerWrongJoining
  runner_of (Following (Wrong v) f) = RunnerWrong (kept_of v f)
  runner_of (Desync v f g mine theirs) = RunnerDesync (kept_of v f) g mine theirs

  -- a running client is in step: its one world is that of the journal at its frame, once it has its map
  abbrev pub IsRunnerInStep : List E → Runner W E → Type 0
  IsRunnerInStep journal RunnerJoining = Unit
  IsRunnerInStep journal (RunnerRunning k) = k.world ≡ world_at game journal k.frame
  IsRunnerInStep journal RunnerEndedJoining = Unit
  IsRunnerInStep journal (RunnerEnded k) = k.world ≡ world_at game journal k.frame
  IsRunnerInStep journal RunnerWrongJoining = ⊥
  IsRunnerInStep journal (RunnerWrong k) = ⊥
  IsRunnerInStep journal (RunnerDesync k g mine theirs) = ⊥
