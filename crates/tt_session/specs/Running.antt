-- How a client that plays stands.
use Rattle.std.specs.Prelude.{◌≡◌, ℕ, Some}
use Rattle.tt_lockstep.specs.Runner.{Runner, RunnerJoining, RunnerRunning, RunnerDesync}
use Rattle.tt_world.specs.declared.command.Entry.{Entry}
use Rattle.tt_world.specs.World.{WorldState}
use Rattle.tt_log.specs.Shown.{Phase, Joining, Loaded}
use Rattle.tt_client.specs.Held.{Held, frame_of, permitted_of}
use Rattle.tt_client.specs.Player.{Player}
use Rattle.tt_client.specs.Saying.{IsSaying}
use Rattle.tt_client.specs.State.{state_of}
use Rattle.tt_client.specs.declared.state.State.TheVariants as state

-- it runs, has run this frame, and may run up to that one
pub record RunsAt (h : Held) (frame permitted : ℕ) : Type 0 where
  pub running : state_of h.player ≡ state.Running
  pub frame_is : frame_of h.player ≡ Some frame
  pub permitted_is : permitted_of h.player ≡ Some permitted

-- who joins has no world, and who has loaded its map runs, or is out of step
abbrev pub Agrees : Phase → Runner WorldState Entry → Type 0
Agrees Joining RunnerJoining = Unit {0}
Agrees Joining other = ⊥
Agrees Loaded (RunnerRunning k) = Unit {0}
Agrees Loaded (RunnerDesync k frame mine theirs) = Unit {0}
Agrees Loaded other = ⊥
Agrees other runs = Unit {0}

-- what holds of every client: its phase and what runs agree, and nothing stands behind where no acknowledgement waits
abbrev pub IsSound : Player (Runner WorldState Entry) → Type 0
IsSound p = IsSaying p.saying × Agrees p.phase p.runs
