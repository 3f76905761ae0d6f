-- The client as the code has it, seen as a player.
use Rattle.std.specs.Prelude.{◌≡◌, ℕ, if◌then◌else◌, List, [], ◌∷◌, ◌++◌, Option, Some, None, IsSome}
use Rattle.tt_lockstep.specs.Runner.{Kept, Runner, RunnerJoining, RunnerRunning, RunnerEndedJoining, RunnerEnded, RunnerWrongJoining}
use Rattle.tt_lockstep.specs.Runner.{RunnerWrong, RunnerDesync}
use Rattle.tt_world.specs.declared.command.Entry.{Entry}
use Rattle.tt_world.specs.World.{WorldState}
use Rattle.tt_log.specs.Shown as book
use Rattle.tt_client.specs.declared.login.Login.{Login}
use Rattle.tt_client.specs.Calls.{Call, Step, Feed, Advance, Submit, Take, Run, Say, Give}
use Rattle.tt_client.specs.Player.{Player, heard_all, is_on, joined, stepped}
use Rattle.tt_client.specs.Runs.{running}
use Rattle.tt_client.specs.Cutting.{cut_at}
use Rattle.tt_client.specs.declared.running.Mismatch.{Mismatch}
use Rattle.tt_client.specs.declared.stage.Phase.{Phase}
use Rattle.tt_client.specs.declared.stage.Phase.TheVariants.{Joining, Loaded, Ended, Shutdown, Wrong}
use Rattle.tt_client.specs.declared.stage.Stage.{Stage}
use Rattle.tt_client.specs.declared.stage.Stage.TheVariants.{Asking, Greeted, Begun, Fetching, InPlay, Parted}

abbrev pub place_of : Stage → List ℕ → book.Place
place_of Asking come = book.Asking
place_of Greeted come = book.Greeted
place_of (Begun frame) come = book.Begun frame
place_of (Fetching frame size) come = book.Fetching frame size come
place_of InPlay come = book.InPlay
place_of Parted come = book.Parted

abbrev pub phase_of : Phase → book.Phase
phase_of Joining = book.Joining
phase_of Loaded = book.Loaded
phase_of (Ended code) = book.EndedWith code
phase_of Shutdown = book.ShutDown
phase_of (Wrong at) = book.WrongAt at

-- what runs, before the map and after it
abbrev pub unmapped : Phase → Runner WorldState Entry
unmapped Joining = RunnerJoining
unmapped Loaded = RunnerJoining
unmapped (Ended code) = RunnerEndedJoining
unmapped Shutdown = RunnerEndedJoining
unmapped (Wrong at) = RunnerWrongJoining

abbrev pub mapped : Phase → Kept WorldState Entry → Runner WorldState Entry
mapped Joining k = RunnerRunning k
mapped Loaded k = RunnerRunning k
mapped (Ended code) k = RunnerEnded k
mapped Shutdown k = RunnerEnded k
mapped (Wrong at) k = RunnerWrong k

abbrev pub off_or : Option Mismatch → Phase → Kept WorldState Entry → Runner WorldState Entry
off_or None phase k = mapped phase k
off_or (Some m) phase k = RunnerDesync k m.frame m.mine m.theirs

abbrev pub runner_in : Phase → Option Mismatch → Option (Kept WorldState Entry) → Runner WorldState Entry
runner_in phase off None = unmapped phase
runner_in phase off (Some k) = off_or off phase k

-- who joins stands before its map, has none, and is not out of step; who plays has one; who was ended is not out of step
abbrev pub IsBeforeMap : Stage → Type 0
IsBeforeMap InPlay = ⊥
IsBeforeMap Parted = ⊥
IsBeforeMap other = Unit

abbrev pub Stands : Stage → Phase → Option Mismatch → Option (Kept WorldState Entry) → Type 0
Stands stage Joining off runs = IsBeforeMap stage × (off ≡ None) × (runs ≡ None)
Stands stage Loaded off runs = (stage ≡ InPlay) × IsSome runs
Stands stage (Ended code) off runs = off ≡ None
Stands stage Shutdown off runs = off ≡ None
Stands stage (Wrong at) off runs = off ≡ None

-- it has ended
abbrev pub HasEnded : Phase → Type 0
HasEnded Joining = ⊥
HasEnded Loaded = ⊥
HasEnded other = Unit

-- ---- what it answers of what runs

-- what runs, or ran to its end
abbrev pub kept_in : Runner WorldState Entry → Option (Kept WorldState Entry)
kept_in (RunnerRunning k) = Some k
kept_in (RunnerEnded k) = Some k
kept_in (RunnerWrong k) = Some k
kept_in (RunnerDesync k frame mine theirs) = Some k
kept_in other = None

abbrev pub world_by : Option (Kept WorldState Entry) → Option WorldState
world_by None = None
world_by (Some k) = Some k.world

abbrev pub frame_by : Option (Kept WorldState Entry) → Option ℕ
frame_by None = None
frame_by (Some k) = Some k.frame

abbrev pub permitted_by : Option (Kept WorldState Entry) → Option ℕ
permitted_by None = None
permitted_by (Some k) = Some k.permitted

abbrev pub world_of : Player (Runner WorldState Entry) → Option WorldState
world_of p = world_by (kept_in p.runs)

abbrev pub frame_of : Player (Runner WorldState Entry) → Option ℕ
frame_of p = frame_by (kept_in p.runs)

abbrev pub permitted_of : Player (Runner WorldState Entry) → Option ℕ
permitted_of p = permitted_by (kept_in p.runs)

-- ---- the whole client

pub record Held : Type 0 where
  pub login : Login
  pub player : Player (Runner WorldState Entry)
  -- the bytes that were fed and are no whole packet yet, and the place of the stream at which they begin
  pub rest : List ℕ
  pub at : ℕ

-- before all calls
abbrev pub held_first : Login → Held
held_first login = record { login = login; player = joined running login; rest = []; at = 0 }

-- a piece: all items that are whole by it are heard, one behind the other. After its end it forgets what is fed
abbrev pub fed_on : List ℕ → Held → Held
fed_on piece h =
    let cut = cut_at h.at (h.rest ++ piece) in
    if is_on running h.login h.player
    then record h { player = heard_all running h.login cut.items h.player; rest = cut.rest; at = cut.at }
    else h

-- a call that feeds nothing
abbrev pub held_on : Step → Held → Held
held_on step h = record h { player = stepped running h.login h.player step }

abbrev pub with_call : Held → Call → Held
with_call h (Feed piece) = fed_on piece h
with_call h (Advance n) = held_on (Run n) h
with_call h (Submit company command) = held_on (Say company command) h
with_call h (Take room) = held_on (Give room) h

-- after these calls
abbrev pub held_after : Held → List Call → Held
held_after h [] = h
held_after h (c ∷ calls) = held_after (with_call h c) calls

abbrev pub held : Login → List Call → Held
held login calls = held_after (held_first login) calls
