-- How a client stands by its stream: joining, in the game, or at an end that stands in it.
use Rattle.std.specs.Prelude.{◌≡◌, ◌⊎◌, ℕ, List, [], ◌∷◌, Some}
use Rattle.tt_game.specs.declared.message.GameMsg.TheVariants.{ServerFull, ServerBanned, ServerError, ServerShutdown}
use Rattle.tt_world.specs.declared.command.Entry.{Entry}
use Rattle.tt_world.specs.World.{WorldState}
use Rattle.tt_lockstep.specs.Shown as lockstep
use Rattle.tt_lockstep.specs.Client.{Client, Following, Desync}
use Rattle.tt_lockstep.specs.Runner.{Runner, RunnerJoining, RunnerRunning, RunnerEndedJoining, RunnerEnded, RunnerWrongJoining}
use Rattle.tt_lockstep.specs.Runner.{RunnerWrong, RunnerDesync}
use Rattle.tt_rules.specs.Codes.{kicked}
use Rattle.tt_log.specs.Shown.{Item, Phase, Joining, Loaded, EndedWith, ShutDown, server_full}

-- one of these items is so
abbrev pub SomeItem : (Item → Type 0) → List Item → Type 0
SomeItem P [] = ⊥
SomeItem P (i ∷ items) = P i ⊎ SomeItem P items

-- it is the error of this code, or it tells that the server is full, which stands for a code
abbrev pub TellsCode : ℕ → Item → Type 0
TellsCode code i = (i.msg ≡ Some (ServerError code)) ⊎ ((i.msg ≡ Some ServerFull) × (code ≡ server_full))

-- it tells that the game is over
abbrev pub TellsShutdown : Item → Type 0
TellsShutdown i = i.msg ≡ Some ServerShutdown

-- the client has ended, and its end stands there
abbrev pub HasEnded : Phase → List Item → Type 0
HasEnded (EndedWith code) items = SomeItem (TellsCode code) items
HasEnded ShutDown items = SomeItem TellsShutdown items
HasEnded other items = ⊥

-- the client is joining, or in the game, or has ended by an end that stands there; it is never wrong
abbrev pub IsRightPhase : Phase → List Item → Type 0
IsRightPhase Joining items = Unit
IsRightPhase Loaded items = Unit
IsRightPhase other items = HasEnded other items

-- a client stands as this phase says: it is joining, runs, or has ended by an end that stands there; it is neither wrong nor
-- out of step
abbrev pub IsAt : Client WorldState Entry → Phase → List Item → Type 0
IsAt (Following lockstep.Joining f) phase items = phase ≡ Joining
IsAt (Following (lockstep.Running v) f) phase items = phase ≡ Loaded
IsAt (Following lockstep.EndedJoining f) phase items = HasEnded phase items
IsAt (Following (lockstep.Ended v) f) phase items = HasEnded phase items
IsAt (Following lockstep.WrongJoining f) phase items = ⊥
IsAt (Following (lockstep.Wrong v) f) phase items = ⊥
IsAt (Desync v f g mine theirs) phase items = ⊥

-- the same of a client as a program runs it
abbrev pub IsRunnerAt : Runner WorldState Entry → Phase → List Item → Type 0
IsRunnerAt RunnerJoining phase items = phase ≡ Joining
IsRunnerAt (RunnerRunning k) phase items = phase ≡ Loaded
IsRunnerAt RunnerEndedJoining phase items = HasEnded phase items
IsRunnerAt (RunnerEnded k) phase items = HasEnded phase items
IsRunnerAt RunnerWrongJoining phase items = ⊥
IsRunnerAt (RunnerWrong k) phase items = ⊥
IsRunnerAt (RunnerDesync k g mine theirs) phase items = ⊥

-- ---- any stream, whoever wrote it

-- it tells this code, or that the client is banned, which stands for a code
abbrev pub AnyCode : ℕ → Item → Type 0
AnyCode code i = TellsCode code i ⊎ ((i.msg ≡ Some ServerBanned) × (code ≡ kicked))

-- where the client has ended, its end stands there
abbrev pub AnyEnd : Phase → List Item → Type 0
AnyEnd (EndedWith code) items = SomeItem (AnyCode code) items
AnyEnd ShutDown items = SomeItem TellsShutdown items
AnyEnd other items = Unit
