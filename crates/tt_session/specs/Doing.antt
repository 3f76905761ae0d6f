-- What doing the lines that are due comes to.
use Rattle.std.specs.Prelude.{◌≡◌, ℕ, ◌≤◌, min, List, [], ◌∷◌, ◌++◌}
use Rattle.std.specs.List.{AllByRecursion}
use Rattle.std.specs.Io.KnownBytes.{Appends}
use Rattle.tt_edge.specs.Count.{Rose}
use Rattle.tt_edge.specs.Sink.{AppendsPart}
use Rattle.tt_rounds.specs.Chain.{Each}
use Rattle.tt_client.specs.Held.{Held}
use Rattle.tt_client.specs.State.{state_of}
use Rattle.tt_client.specs.declared.state.State.TheVariants as state
use Rattle.tt_play_file.specs.declared.line.Act.{Act}
use Rattle.tt_play_file.specs.declared.line.Act.TheVariants.{Quit as QuitLine}
use Rattle.tt_play_file.specs.declared.line.TimedLine.{TimedLine}
use Rattle.tt_session.specs.declared.acting.Acted.{Acted}
use Rattle.tt_session.specs.declared.acting.Acted.TheVariants as acted
use Rattle.tt_session.specs.Acting.{Action, Standing, Acts, pieces, client_by, text_by, EndsNone, IsIdle, IsOther, IsRunningAt}
use Rattle.tt_session.specs.Session.{SinkNow, IsQuit}

-- the first line is due at this frame
abbrev pub IsDue : ℕ → List TimedLine → Type 0
IsDue frame [] = ⊥
IsDue frame (line ∷ lines) = line.at ≤ frame

-- and for this client
abbrev pub IsFirstDue : List TimedLine → Held → Type 0
IsFirstDue [] h = ⊥
IsFirstDue (line ∷ lines) h = IsRunningAt line.at h

-- the frame of the first line, or the permitted one, whichever is lower
abbrev pub goal_at : ℕ → List TimedLine → ℕ
goal_at permitted [] = permitted
goal_at permitted (line ∷ lines) = min line.at permitted

-- one line: it was done, it ends the run, the sink failed at its text, or memory ran out and it was not done
abbrev pub DoesLine : Act → Held → Held → SinkNow → SinkNow → Acted → Type 0
DoesLine act h h' k k' acted.Going = (h' ≡ client_by act h) × Appends k.held k'.held (text_by act h) × (k'.faults ≡ k.faults)
    × IsOther act
DoesLine act h h' k k' acted.Quit = (act ≡ QuitLine) × (h' ≡ h) × (k' ≡ k)
DoesLine act h h' k k' acted.SinkFault = (h' ≡ client_by act h) × AppendsPart k.held k'.held (text_by act h) × Rose k.faults k'.faults
    × IsOther act
DoesLine act h h' k k' acted.Memory = (h' ≡ h) × (k' ≡ k)

-- the first line: it is gone, and was done so
pub record DoesNext (left left' : List TimedLine) (h h' : Held) (k k' : SinkNow) (r : Acted) : Type 0 where
  pub line : TimedLine
  pub is : left ≡ line ∷ left'
  pub does : DoesLine line.act h h' k k' r

-- the text of lines was written: whole, but for a fault of the sink
abbrev pub IsWritten : SinkNow → SinkNow → List ℕ → Acted → Type 0
IsWritten k k' text acted.SinkFault = AppendsPart k.held k'.held text × Rose k.faults k'.faults
IsWritten k k' text other = Appends k.held k'.held text × (k'.faults ≡ k.faults)

-- how the client and the lines stand then, and whether a line ended the run
abbrev pub StandsSo : List Action → Standing → List TimedLine → Acted → Type 0
StandsSo actions s left acted.Going = (s.left ≡ left) × IsIdle s.left s.client × AllByRecursion EndsNone actions
StandsSo actions s left acted.Quit = IsQuit actions × (state_of s.client.player ≡ state.Running)
StandsSo actions s left acted.SinkFault = (state_of s.client.player ≡ state.Running) × AllByRecursion EndsNone actions
StandsSo actions s left acted.Memory = AllByRecursion EndsNone actions

-- Lines were done and frames were run, one behind the other; nothing was fed, and nothing was taken to be said.
pub record ActsRound (s : Standing) (left : List TimedLine) (client : Held) (k k' : SinkNow) (r : Acted) : Type 0 where
  pub actions : List Action
  pub last : Standing
  pub acts : Each Acts s actions last
  pub fed : pieces actions ≡ []
  pub said : last.said ≡ s.said
  pub client_is : last.client ≡ client
  pub text : List ℕ
  pub printed : last.printed ≡ s.printed ++ text
  pub written : IsWritten k k' text r
  pub stands : StandsSo actions last left r
