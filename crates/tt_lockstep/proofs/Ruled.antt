-- By the true rules, a server and a client are the true ones.
use Rattle.std.proofs.Common.{◌≡◌, ℕ, zero, suc, List, [], ◌∷◌, refl, ap, ◌∙◌}
use Rattle.tt_lockstep.specs.Game.{Game}
use Rattle.tt_lockstep.specs.Told.{Told, Command}
use Rattle.tt_lockstep.specs.Server.{
  Server,
  Stage,
  BeforeMap,
  Loading,
  Loaded,
  Playing,
  Gone,
  Step,
  Stamp,
  RunFrame,
  TellSync,
  TellOther,
  BeginMap,
  EndMap,
  BeginPlay,
  Leave,
  Vanish,
  stepped,
  told,
  told_map,
  told_joiner,
}
use Rattle.tt_lockstep.specs.Client.{Call, Feed, Advance}
use Rattle.tt_lockstep.specs.Runner.{Runner, RunnerRunning, runner_hears, runner_frame, runner_advanced, runner_run}
use Rattle.tt_lockstep.specs.Wrong.{
  true_rules,
  ruled_stepped,
  ruled_map,
  ruled_joiner,
  ruled_told,
  true_client_rules,
  ruled_hears,
  ruled_frame,
  ruled_advanced,
  ruled_run,
}

module _ {W E : Type 0} (game : Game W E) where
  pub stepped_is : (server : Server E) (step : Step E) → ruled_stepped game (true_rules game) server step ≡ stepped game server step
  stepped_is server (Stamp e) = refl
  stepped_is server RunFrame = refl
  stepped_is server TellSync = refl
  stepped_is server TellOther = refl
  stepped_is server BeginMap = refl
  stepped_is server EndMap = refl
  stepped_is server BeginPlay = refl
  stepped_is server Leave = refl
  stepped_is server Vanish = refl

  map_is : (server : Server E) (stage : Stage) → ruled_map game (true_rules game) server stage ≡ told_map game server.journal stage
  map_is server BeforeMap = refl
  map_is server (Loading s) = refl
  map_is server (Loaded s) = refl
  map_is server (Playing s) = refl
  map_is server Gone = refl

  joiner_is : (server : Server E) (stage : Stage) → ruled_joiner game (true_rules game) server stage ≡ told_joiner game server.journal
      server.frame server.permitted stage
  joiner_is server BeforeMap = refl
  joiner_is server (Loading s) = refl
  joiner_is server (Loaded s) = refl
  joiner_is server (Playing s) = refl
  joiner_is server Gone = refl

  pub told_is : (server : Server E) (step : Step E) → ruled_told game (true_rules game) server step ≡ told game server step
  told_is server (Stamp e) = refl
  told_is server RunFrame = refl
  told_is server TellSync = refl
  told_is server TellOther = refl
  told_is server BeginMap = refl
  told_is server EndMap = map_is server server.stage
  told_is server BeginPlay = joiner_is server server.stage
  told_is server Leave = refl
  told_is server Vanish = refl

  hears_is : (runner : Runner W E) (t : Told W E) → ruled_hears game (true_client_rules game) runner t ≡ runner_hears game runner t
  hears_is (RunnerRunning k) (Command e) = refl
  hears_is (RunnerRunning k) t = refl
  hears_is runner t = refl

  frame_is : (runner : Runner W E) → ruled_frame game (true_client_rules game) runner ≡ runner_frame game runner
  frame_is (RunnerRunning k) = refl
  frame_is runner = refl

  advanced_is : (n : ℕ) (runner : Runner W E) → ruled_advanced game (true_client_rules game) n runner ≡ runner_advanced game n runner
  advanced_is zero runner = refl
  advanced_is (suc n) runner =
      ap (λ r. ruled_advanced game (true_client_rules game) n r) (frame_is runner) ∙ advanced_is n (runner_frame game runner)

  pub run_is : (runner : Runner W E) (calls : List (Call W E)) → ruled_run game (true_client_rules game) runner calls ≡ runner_run game
      runner calls
  run_is runner [] = refl
  run_is runner (Feed t ∷ calls) =
      ap (λ r. ruled_run game (true_client_rules game) r calls) (hears_is runner t) ∙ run_is (runner_hears game runner t) calls
  run_is runner (Advance n ∷ calls) =
      ap (λ r. ruled_run game (true_client_rules game) r calls) (advanced_is n runner) ∙ run_is (runner_advanced game n runner) calls
