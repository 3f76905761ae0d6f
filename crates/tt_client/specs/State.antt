-- What a client answers of itself.
use Rattle.std.specs.Prelude.{Bool, true, false}
use Rattle.tt_lockstep.specs.Runner.{Runner}
use Rattle.tt_world.specs.declared.command.Entry.{Entry}
use Rattle.tt_world.specs.World.{WorldState}
use Rattle.tt_log.specs.Shown.{Phase, Joining, Loaded, EndedWith, ShutDown, WrongAt}
use Rattle.tt_client.specs.declared.state.State.{State}
use Rattle.tt_client.specs.declared.state.State.TheVariants as state
use Rattle.tt_client.specs.Player.{Mark, Off, Player}
use Rattle.tt_client.specs.Runs.{runner_mark}

abbrev pub state_in : Phase → State
state_in Joining = state.Joining
state_in Loaded = state.Running
state_in (EndedWith code) = state.Ended code
state_in ShutDown = state.Shutdown
state_in (WrongAt at) = state.Wrong at

-- it is out of step, or stands as its phase says
abbrev pub state_by : Mark → Phase → State
state_by (Off frame mine theirs) phase = state.Desync frame mine theirs
state_by other phase = state_in phase

abbrev pub state_of : Player (Runner WorldState Entry) → State
state_of p = state_by (runner_mark p.runs) p.phase

abbrev pub is_running : State → Bool
is_running state.Running = true
is_running other = false
