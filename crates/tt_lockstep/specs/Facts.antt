-- What the theorem rests on: what a client was shown agrees with the journal, and every step of the server keeps it so.
use Rattle.std.specs.Prelude.{◌≡◌, ℕ, suc, ◌+◌, ◌<◌, ◌≤◌, List}
use Rattle.std.specs.List.{AllByRecursion}
use Rattle.tt_lockstep.specs.Game.{Game}
use Rattle.tt_lockstep.specs.Journal.{of_frame, above, world_at, AreUpTo, IsJournal}
use Rattle.tt_lockstep.specs.Server.{Server, Stage, BeforeMap, Loading, Loaded, Playing, Gone}
use Rattle.tt_lockstep.specs.Shown.{View, SyncPoint, Shown, Joining, Running, EndedJoining, Ended, WrongJoining, Wrong, fresh}

module _ {W E : Type 0} (game : Game W E) where
  -- a word is that of the journal's world at its frame, and when it came no client might run further than the lead from it
  pub record SyncAgrees (journal : List E) (permitted : ℕ) (sync : SyncPoint) : Type 0 where
    pub within : sync.frame ≤ permitted
    pub word_is : sync.word ≡ game.word (world_at game journal sync.frame)
    pub near : sync.permitted ≤ sync.frame + game.lead

  -- and each of these words is so
  abbrev pub SyncsAgree : List E → ℕ → List SyncPoint → Type 0
  SyncsAgree journal permitted syncs = AllByRecursion (λ sync. SyncAgrees journal permitted sync) syncs

  -- what a client was told agrees with the journal: its map, its words, and of each frame that it may run all entries, in order
  pub record ViewAgrees (journal : List E) (permitted : ℕ) (v : View W E) : Type 0 where
    pub map_is : v.map_world ≡ world_at game journal v.map_frame
    pub reach : v.map_frame ≤ v.permitted
    pub within : v.permitted ≤ permitted
    pub has : (f : ℕ) → v.map_frame < f → f ≤ v.permitted → of_frame game f v.entries ≡ of_frame game f journal
    pub syncs_are : SyncsAgree journal permitted v.syncs

  -- and nothing was told that is not permitted
  abbrev pub Agrees : List E → ℕ → Shown W E → Type 0
  Agrees journal permitted Joining = Unit
  Agrees journal permitted (Running v) = ViewAgrees journal permitted v
  Agrees journal permitted EndedJoining = Unit
  Agrees journal permitted (Ended v) = ViewAgrees journal permitted v
  Agrees journal permitted WrongJoining = ⊥
  Agrees journal permitted (Wrong v) = ⊥

  -- of a connection that plays: it was told exactly the entries above its map frame, in order, and it may run just as far as the server
  -- permits
  pub record IsInPlay (journal : List E) (frame permitted : ℕ) (s : ℕ) (v : View W E) : Type 0 where
    pub map_frame_is : v.map_frame ≡ s
    pub reach : s ≤ frame
    pub map_is : v.map_world ≡ world_at game journal s
    pub entries_are : v.entries ≡ above game s journal
    pub permitted_is : v.permitted ≡ permitted
    pub last_is : v.last_entry ≤ suc permitted
    pub syncs_are : SyncsAgree journal permitted v.syncs

  -- what a connection was shown fits its stage: no entry before it plays, then exactly those above its map frame
  abbrev pub Fits : List E → ℕ → ℕ → Stage → Shown W E → Type 0
  Fits journal frame permitted BeforeMap h = h ≡ Joining
  Fits journal frame permitted (Loading s) h = (s ≤ frame) × (h ≡ Joining)
  Fits journal frame permitted (Loaded s) h = (s ≤ frame) × (h ≡ Running (fresh s (world_at game journal s)))
  Fits journal frame permitted (Playing s) h = (v : View W E) × (h ≡ Running v) × IsInPlay journal frame permitted s v
  Fits journal frame permitted Gone h = Agrees journal permitted h

  -- what every step of the server keeps, of it and of what its connection was shown so far
  pub record IsKept (server : Server E) (h : Shown W E) : Type 0 where
    pub ahead : server.frame ≤ server.permitted
    pub near : server.permitted ≤ server.frame + game.lead
    pub rising : IsJournal game server.journal
    pub stamped : AreUpTo game (suc server.permitted) server.journal
    pub fits : Fits server.journal server.frame server.permitted server.stage h
