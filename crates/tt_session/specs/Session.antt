-- What a finished run of the player did, in totals at its end.
use Rattle.std.specs.Prelude.{◌≡◌, ℕ, ◌+◌, ◌≤◌, ◌⊎◌, List, [], ◌∷◌, ◌++◌, length, replicate, Option, Some, None}
use Rattle.std.specs.List.{AllByRecursion}
use Rattle.std.specs.Io.KnownBytes.{Appends}
use Rattle.tt_edge.specs.declared.ticker.Beat.{Beat}
use Rattle.tt_edge.specs.declared.ticker.Beat.TheVariants as beat
use Rattle.tt_edge.specs.Count.{Rose}
use Rattle.tt_edge.specs.Link.{LinkCounts, Rises}
use Rattle.tt_edge.specs.Listener.{TickCounts}
use Rattle.tt_edge.specs.Sink.{AppendsPart}
use Rattle.tt_edge.specs.Told.{Adds}
use Rattle.tt_rounds.specs.Chain.{Each}
use Rattle.tt_rounds.specs.Links.{LinkNow}
use Rattle.tt_rounds.specs.Pacing.{IsPaced}
use Rattle.tt_client.specs.Held.{Held}
use Rattle.tt_client.specs.Saying.{bytes_of}
use Rattle.tt_client.specs.State.{state_of}
use Rattle.tt_client.specs.declared.state.State.{State}
use Rattle.tt_client.specs.declared.state.State.TheVariants as state
use Rattle.tt_play_file.specs.declared.line.Act.TheVariants.{Quit as QuitLine}
use Rattle.tt_play_file.specs.declared.line.TimedLine.{TimedLine}
use Rattle.tt_session.specs.declared.end.PlayEnd.{PlayEnd}
use Rattle.tt_session.specs.declared.end.PlayEnd.TheVariants as end
use Rattle.tt_session.specs.Acting.{Action, Does, Standing, begun, Acts, pieces, EndsNone, IsIdle}

-- what is known of the ticker and of the sink
pub record TickerNow : Type 0 where
  pub counts : TickCounts
  pub beats : Option (List Beat)

pub record SinkNow : Type 0 where
  pub held : Option (List ℕ)
  pub faults : ℕ

abbrev pub ticker_now : {T : Type 0} → (T → TickCounts) → (T → Option (List Beat)) → T → TickerNow
ticker_now counts beats ticker = record { counts = counts ticker; beats = beats ticker }

abbrev pub sink_now : {K : Type 0} → (K → Option (List ℕ)) → (K → ℕ) → K → SinkNow
sink_now held faults sink = record { held = held sink; faults = faults sink }

-- nothing that was read is lost, unless memory ran out
abbrev pub IsLost : PlayEnd → List ℕ → Type 0
IsLost end.Memory lost = Unit {0}
IsLost other lost = lost ≡ []

-- what was printed was written, whole unless the sink failed
abbrev pub IsPrinted : PlayEnd → SinkNow → SinkNow → List ℕ → Type 0
IsPrinted end.SinkFault k k' text = AppendsPart k.held k'.held text × Rose k.faults k'.faults
IsPrinted other k k' text = Appends k.held k'.held text × (k'.faults ≡ k.faults)

-- the beat with which a run ended, where one was told
abbrev pub last_beat : PlayEnd → List Beat
last_beat end.Stopped = beat.Stop ∷ []
last_beat other = []

-- a client that is still to run, or runs
abbrev pub GoesOn : State → Type 0
GoesOn state.Joining = Unit {0}
GoesOn state.Running = Unit {0}
GoesOn other = ⊥

abbrev pub IsEnded : State → Type 0
IsEnded (state.Ended code) = Unit {0}
IsEnded other = ⊥

abbrev pub IsWrong : State → Type 0
IsWrong (state.Wrong at) = Unit {0}
IsWrong other = ⊥

abbrev pub IsDesync : State → Type 0
IsDesync (state.Desync frame mine theirs) = Unit {0}
IsDesync other = ⊥

-- the end that a client comes to by itself
abbrev pub IsEndOf : State → Option PlayEnd → Type 0
IsEndOf s None = GoesOn s
IsEndOf s (Some end.Shutdown) = s ≡ state.Shutdown
IsEndOf s (Some end.Desync) = IsDesync s
IsEndOf s (Some end.Wrong) = IsWrong s
IsEndOf s (Some end.Ended) = IsEnded s
IsEndOf s (Some other) = ⊥

-- the last action was to do a line that ends the run, and no action before it was
abbrev pub IsQuit : List Action → Type 0
IsQuit actions = (before : List Action) × (line : TimedLine) × (actions ≡ before ++ Does line ∷ []) × (line.act ≡ QuitLine)
    × AllByRecursion EndsNone before

-- A line that ends the run is done where it ends so, and is the last action. Where it ends otherwise none was done.
abbrev pub QuitsSo : PlayEnd → List Action → Type 0
QuitsSo end.Quit actions = IsQuit actions
QuitsSo other actions = AllByRecursion EndsNone actions

-- at a beat all was written that the client has said; or else a write answered Nothing, the last of them
abbrev pub AllSaid : LinkCounts → LinkCounts → List ℕ → Held → Type 0
AllSaid c c' waits h = ((waits ≡ []) × (bytes_of h.player.saying ≡ [])) ⊎ (Rises c.idle_writes c'.idle_writes × (1 ≤ c'.stalled))

-- Each end has its cause, in the state of the client, in the file, or in one of the counts; and what goes with it.
abbrev pub EndsSo : LinkCounts → LinkCounts → TickCounts → TickCounts → List Action → List ℕ → Standing → PlayEnd → Type 0
EndsSo c c' t t' actions waits s end.Quit = IsQuit actions × GoesOn (state_of s.client.player)
EndsSo c c' t t' actions waits s end.Shutdown = state_of s.client.player ≡ state.Shutdown
EndsSo c c' t t' actions waits s end.Stopped = Rises t.stops t'.stops × (t'.faults ≡ t.faults) × (c'.faults ≡ c.faults) × (c'.ends ≡ c.ends)
    × AllSaid c c' waits s.client × GoesOn (state_of s.client.player) × IsIdle s.left s.client
EndsSo c c' t t' actions waits s end.TickerFault = Rises t.faults t'.faults × AllSaid c c' waits s.client
    × GoesOn (state_of s.client.player) × IsIdle s.left s.client
EndsSo c c' t t' actions waits s end.SinkFault = GoesOn (state_of s.client.player)
EndsSo c c' t t' actions waits s end.Memory = Unit {0}
EndsSo c c' t t' actions waits s end.Desync = IsDesync (state_of s.client.player)
EndsSo c c' t t' actions waits s end.Wrong = IsWrong (state_of s.client.player)
EndsSo c c' t t' actions waits s end.Ended = IsEnded (state_of s.client.player)
EndsSo c c' t t' actions waits s end.LinkEnd = Rises c.ends c'.ends × GoesOn (state_of s.client.player) × IsIdle s.left s.client
EndsSo c c' t t' actions waits s end.LinkFault = Rises c.faults c'.faults × GoesOn (state_of s.client.player) × IsIdle s.left s.client

-- the ticker's count of faults is as before, unless it failed
abbrev pub IsTold : PlayEnd → TickCounts → TickCounts → Type 0
IsTold end.TickerFault t t' = Rises t.faults t'.faults
IsTold other t t' = t'.faults ≡ t.faults

-- A run of a player: `client` is its client at the start, `lines` are those of its file.
pub record Session (client : Held) (lines : List TimedLine) (l l' : LinkNow) (t t' : TickerNow) (k k' : SinkNow) (e : PlayEnd) : Type 0
  where
    -- one list of actions. The lines done are the first of the file, in order, each done while the client runs at its frame or
    -- above; no advance passes the frame of the first line that is not done; and no other command is submitted.
    pub actions : List Action
    pub last : Standing
    pub acts : Each Acts (begun client lines) actions last
    -- nothing is done behind a line that ends the run
    pub quits : QuitsSo e actions
    -- the pieces fed, joined, are the bytes read
    pub lost : List ℕ
    pub none_lost : IsLost e lost
    pub read : Appends l.read l'.read (pieces actions ++ lost)
    -- the bytes written are the first of those that were taken of what the client says
    pub out : List ℕ
    pub waits : List ℕ
    pub front : last.said ≡ out ++ waits
    pub written : Appends l.held l'.held out
    -- the sink got what the lines done have printed
    pub printed : IsPrinted e k k' last.printed
    -- the beats that were told, and how many they may be by what was read
    pub ticks : ℕ
    pub told : Adds t.beats t'.beats (replicate ticks beat.Tick ++ last_beat e)
    pub ticker : IsTold e t.counts t'.counts
    pub paced : IsPaced (ticks + length (last_beat e)) (length (pieces actions ++ lost)) l.counts l'.counts
    -- the end
    pub ended : EndsSo l.counts l'.counts t.counts t'.counts actions waits last e
