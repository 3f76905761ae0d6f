-- Wrong servers and wrong clients, to see that the theorem is not blunt: in the small game each goes astray.
-- A server has five rules by which it may go wrong. Each wrong server here is the true one but for a single rule.
use Rattle.std.specs.Prelude.{ℕ, zero, suc, ◌-◌, if◌then◌else◌, List, [], ◌∷◌, ◌++◌, ◌==◌, nat_lt, nat_le, map}
use Rattle.tt_lockstep.specs.Game.{Game}
use Rattle.tt_lockstep.specs.Journal.{above, applied_all, world_at}
use Rattle.tt_lockstep.specs.Told.{Told, Map, Command, Frame, Sync}
use Rattle.tt_lockstep.specs.Server.{
  Server,
  Step,
  Stage,
  Loading,
  Loaded,
  Stamp,
  RunFrame,
  TellSync,
  TellOther,
  BeginMap,
  EndMap,
  BeginPlay,
  if_playing,
  stepped,
  told,
  initial,
  after,
  stream,
}
use Rattle.tt_lockstep.specs.Client.{Call, Feed, Advance, unfed, run}
use Rattle.tt_lockstep.specs.Runner.{
  Kept,
  Runner,
  RunnerJoining,
  RunnerRunning,
  RunnerEndedJoining,
  RunnerEnded,
  RunnerWrongJoining,
  RunnerWrong,
  RunnerDesync,
  kept_entry,
  kept_on,
  next_world,
  runner_hears,
  runner_checked,
}
use Rattle.tt_lockstep.specs.Example.{Ending, Mapless, Ran, ToldWrong, OutOfStep, eager, ending_of, small}

-- the five rules
pub record Rules (W E : Type 0) : Type 0 where
  -- the frame that an entry is stamped for
  pub stamp_frame : Server E → ℕ
  -- the entries that are told to one that begins to play, by its map frame
  pub joiner_entries : Server E → ℕ → List E
  -- the world whose word is told
  pub sync_world : Server E → W
  -- the world that is told as the map, by its map frame
  pub map_world : Server E → ℕ → W
  -- the entries that stay on the journal when another client leaves
  pub kept_entries : Server E → List E

module _ {W E : Type 0} (game : Game W E) where
  -- the rules of the true server
  abbrev pub true_rules : Rules W E
  true_rules =
      record {
        stamp_frame = λ server. suc server.permitted;
        joiner_entries = λ server s. above game s server.journal;
        sync_world = λ server. world_at game server.journal server.frame;
        map_world = λ server s. world_at game server.journal s;
        kept_entries = λ server. server.journal;
      }

  -- the entries up to a frame
  abbrev pub up_to : ℕ → List E → List E
  up_to f [] = []
  up_to f (e ∷ es) = if nat_le (game.frame_of e) f then e ∷ up_to f es else up_to f es

  -- a joiner is not told the entries that are stamped and were not run
  abbrev pub misses_stamped : Rules W E
  misses_stamped = record true_rules { joiner_entries = λ server s. up_to server.frame (above game s server.journal) }

  -- a joiner is told the whole journal
  abbrev pub tells_whole_journal : Rules W E
  tells_whole_journal = record true_rules { joiner_entries = λ server s. server.journal }

  -- a joiner is told the entries above the server's frame, and not above its map frame
  abbrev pub tells_above_own_frame : Rules W E
  tells_above_own_frame = record true_rules { joiner_entries = λ server s. above game server.frame server.journal }

  -- an entry is stamped for the next frame
  abbrev pub stamps_next_frame : Rules W E
  stamps_next_frame = record true_rules { stamp_frame = λ server. suc server.frame }

  -- an entry is stamped for the permitted frame
  abbrev pub stamps_permitted_frame : Rules W E
  stamps_permitted_frame = record true_rules { stamp_frame = λ server. server.permitted }

  -- the word is that of the world before the frame
  abbrev pub tells_word_before : Rules W E
  tells_word_before = record true_rules { sync_world = λ server. world_at game server.journal (server.frame - 1) }

  -- the map is that of the frame at which its last piece is told, and not of its map frame
  abbrev pub tells_later_map : Rules W E
  tells_later_map = record true_rules { map_world = λ server s. world_at game server.journal server.frame }

  -- entries that were only tried have changed the world: those that are stamped and were not run
  abbrev pub keeps_test_runs : Rules W E
  keeps_test_runs = record true_rules {
    sync_world = λ server. applied_all game (world_at game server.journal server.frame)
        (above game server.frame server.journal);
  }

  -- when a client leaves, what is stamped and was not run is dropped
  abbrev pub drops_stamped : Rules W E
  drops_stamped = record true_rules { kept_entries = λ server. up_to server.frame server.journal }

  module _ (rules : Rules W E) where
    -- a server by these rules, after a step: every other step is the true one
    abbrev pub ruled_stepped : Server E → Step E → Server E
    ruled_stepped server (Stamp e) =
        if game.frame_of e == rules.stamp_frame server then record server { journal = server.journal ++ e ∷ [] } else server
    ruled_stepped server TellOther = record server { journal = rules.kept_entries server }
    ruled_stepped server step = stepped game server step

    -- the map's end, by its rule
    abbrev pub ruled_map : Server E → Stage → List (Told W E)
    ruled_map server (Loading s) = Map s (rules.map_world server s) ∷ []
    ruled_map server stage = []

    -- what is told to one that begins to play, by its rule
    abbrev pub ruled_joiner : Server E → Stage → List (Told W E)
    ruled_joiner server (Loaded s) = map (λ e. Command e) (rules.joiner_entries server s) ++ Frame server.frame server.permitted ∷ []
    ruled_joiner server stage = []

    -- what it tells the connection by a step: at every other step, what the true one tells
    abbrev pub ruled_told : Server E → Step E → List (Told W E)
    ruled_told server (Stamp e) = if game.frame_of e == rules.stamp_frame server then if_playing server.stage (Command e) else []
    ruled_told server TellSync = if_playing server.stage (Sync server.frame (game.word (rules.sync_world server)))
    ruled_told server EndMap = ruled_map server server.stage
    ruled_told server BeginPlay = ruled_joiner server server.stage
    ruled_told server step = told game server step

    -- it after these steps
    abbrev pub ruled_after : Server E → List (Step E) → Server E
    ruled_after server [] = server
    ruled_after server (step ∷ steps) = ruled_after (ruled_stepped server step) steps

    -- all that the connection is told by them
    abbrev pub ruled_stream : Server E → List (Step E) → List (Told W E)
    ruled_stream server [] = []
    ruled_stream server (step ∷ steps) = ruled_told server step ++ ruled_stream (ruled_stepped server step) steps

-- the rules by which a running client may go wrong
pub record ClientRules (W E : Type 0) : Type 0 where
  -- the frame to which it may run
  pub may_run_to : Kept W E → ℕ
  -- what it keeps of an entry
  pub entry_kept : Kept W E → E → Kept W E

module _ {W E : Type 0} (game : Game W E) where
  -- the rules of the true client
  abbrev pub true_client_rules : ClientRules W E
  true_client_rules = record { may_run_to = λ k. k.permitted; entry_kept = λ k e. kept_entry game k e }

  -- a client runs one frame past the permitted one
  abbrev pub runs_past_permitted : ClientRules W E
  runs_past_permitted = record true_client_rules { may_run_to = λ k. suc k.permitted }

  -- a client applies an entry as soon as it comes, and not at its frame
  abbrev pub applies_at_once : ClientRules W E
  applies_at_once =
      record true_client_rules { entry_kept = λ k e. record k { last_entry = game.frame_of e; world = game.applied k.world e } }

  module _ (rules : ClientRules W E) where
    -- an entry comes to a client by these rules
    abbrev pub ruled_entry : Kept W E → E → Runner W E
    ruled_entry k e =
        if nat_lt k.permitted (game.frame_of e)
        then (if nat_le k.last_entry (game.frame_of e) then RunnerRunning (rules.entry_kept k e) else RunnerWrong k)
        else RunnerWrong k

    -- one more thing of its stream: all else is as with the true client
    abbrev pub ruled_hears : Runner W E → Told W E → Runner W E
    ruled_hears (RunnerRunning k) (Command e) = ruled_entry k e
    ruled_hears runner t = runner_hears game runner t

    -- one more frame, where the rule lets it
    abbrev pub ruled_frame : Runner W E → Runner W E
    ruled_frame (RunnerRunning k) =
        if nat_lt k.frame (rules.may_run_to k)
        then runner_checked game (kept_on game k (next_world game k)) (suc k.frame) (game.word (next_world game k)) k.syncs
        else RunnerRunning k
    ruled_frame runner = runner

    -- so many frames
    abbrev pub ruled_advanced : ℕ → Runner W E → Runner W E
    ruled_advanced zero runner = runner
    ruled_advanced (suc n) runner = ruled_advanced n (ruled_frame runner)

    -- the client after these calls
    abbrev pub ruled_run : Runner W E → List (Call W E) → Runner W E
    ruled_run runner [] = runner
    ruled_run runner (Feed t ∷ calls) = ruled_run (ruled_hears runner t) calls
    ruled_run runner (Advance n ∷ calls) = ruled_run (ruled_advanced n runner) calls

-- where the eager client of a server by these rules comes to
abbrev pub ending_under : (game : Game ℕ ℕ) → Rules ℕ ℕ → List (Step ℕ) → Ending
ending_under game rules steps =
    ending_of game (ruled_after game rules initial steps).journal (run game unfed (eager (ruled_stream game rules initial steps)))

-- the small game where each tick permits its frame alone
abbrev pub small_by_one : Game ℕ ℕ
small_by_one = record small { lead = 0 }

-- Two ticks, and a connection that plays from the first on. In the second tick an order comes: it may be stamped before FRAME is told, or
-- behind it
abbrev pub tick_steps : List (Step ℕ)
tick_steps = RunFrame ∷ BeginMap ∷ EndMap ∷ BeginPlay ∷ Stamp 2 ∷ RunFrame ∷ Stamp 2 ∷ TellSync ∷ []

-- the ending of a running client, with the journal that its server has in the end
abbrev pub runner_ending : Game ℕ ℕ → List ℕ → Runner ℕ ℕ → Ending
runner_ending game journal RunnerJoining = Mapless
runner_ending game journal (RunnerRunning k) = Ran k.frame k.world (world_at game journal k.frame)
runner_ending game journal RunnerEndedJoining = Mapless
runner_ending game journal (RunnerEnded k) = Ran k.frame k.world (world_at game journal k.frame)
runner_ending game journal RunnerWrongJoining = ToldWrong
runner_ending game journal (RunnerWrong k) = ToldWrong
runner_ending game journal (RunnerDesync k g mine theirs) = OutOfStep g mine theirs

-- where the true server's eager client by these rules comes to
abbrev pub ending_with : Game ℕ ℕ → ClientRules ℕ ℕ → List (Step ℕ) → Ending
ending_with game rules steps =
    runner_ending game (after game initial steps).journal (ruled_run game rules RunnerJoining (eager (stream game initial steps)))
