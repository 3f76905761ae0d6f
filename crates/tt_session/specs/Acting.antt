-- What a player does, action by action: its client is fed, runs and says, and the lines of its file are done.
use Rattle.std.specs.Prelude.{◌≡◌, ℕ, ◌<◌, ◌≤◌, List, [], ◌∷◌, ◌++◌, length, take, Some, IfSome}
use Rattle.tt_client.specs.declared.state.State.TheVariants as state
use Rattle.tt_client.specs.Calls.{Feed, Advance, Submit, Take}
use Rattle.tt_client.specs.Held.{Held, with_call, frame_of, permitted_of}
use Rattle.tt_client.specs.Saying.{bytes_of}
use Rattle.tt_client.specs.State.{state_of}
use Rattle.tt_report.specs.Clients.{lines_of_client}
use Rattle.tt_play_file.specs.declared.line.Act.{Act}
use Rattle.tt_play_file.specs.declared.line.Act.TheVariants.{Print, Quit, Do}
use Rattle.tt_play_file.specs.declared.line.TimedLine.{TimedLine}

pub data Action : Type 0 where
  -- a piece is fed to the client
  Feeds : (piece : List ℕ) → Action
  -- the client may run so many frames
  Runs : (frames : ℕ) → Action
  -- the next line of the file is done
  Does : (line : TimedLine) → Action
  -- these bytes are taken of what the client says
  Takes : (bytes : List ℕ) → Action

-- how a run stands
pub record Standing : Type 0 where
  -- the lines that are not done
  pub left : List TimedLine
  pub client : Held
  -- what the lines done have printed, and the bytes that were taken of what the client says
  pub printed : List ℕ
  pub said : List ℕ

-- nothing was done yet
abbrev pub begun : Held → List TimedLine → Standing
begun client lines = record { left = lines; client = client; printed = []; said = [] }

-- what a line makes of the client: a command is submitted for its own company, and else the client is as before
abbrev pub client_by : Act → Held → Held
client_by Print h = h
client_by Quit h = h
client_by (Do command) h = with_call h (Submit h.player.company command)

-- what a line prints: the client's lines, as those of client 1
abbrev pub text_by : Act → Held → List ℕ
text_by Print h = lines_of_client 1 h
text_by Quit h = []
text_by (Do command) h = []

-- the client runs at this frame or above
pub record IsRunningAt (at : ℕ) (h : Held) : Type 0 where
  pub running : state_of h.player ≡ state.Running
  pub frame : ℕ
  pub is : frame_of h.player ≡ Some frame
  pub reached : at ≤ frame

-- the frame of the first line that is not done is not passed
abbrev pub IsNotPast : List TimedLine → Held → Type 0
IsNotPast [] h = Unit {0}
IsNotPast (line ∷ lines) h = IfSome (frame_of h.player) (λ frame. frame ≤ line.at)

-- one action
abbrev pub Acts : Standing → Action → Standing → Type 0
Acts s (Feeds piece) t = t ≡ record s { client = with_call s.client (Feed piece) }
Acts s (Runs frames) t = (t ≡ record s { client = with_call s.client (Advance frames) }) × IsNotPast s.left t.client
Acts s (Does line) t = IsRunningAt line.at s.client × (s.left ≡ line ∷ t.left)
    × (t ≡ record {
      left = t.left;
      client = client_by line.act s.client;
      printed = s.printed ++ text_by line.act s.client;
      said = s.said;
    })
Acts s (Takes bytes) t = (bytes ≡ take (length bytes) (bytes_of s.client.player.saying))
    × (t ≡ record s { client = with_call s.client (Take (length bytes)); said = s.said ++ bytes })

-- a line that ends no run
abbrev pub IsOther : Act → Type 0
IsOther Print = Unit {0}
IsOther Quit = ⊥
IsOther (Do command) = Unit {0}

-- an action that ends no run
abbrev pub EndsNone : Action → Type 0
EndsNone (Feeds piece) = Unit {0}
EndsNone (Runs frames) = Unit {0}
EndsNone (Does line) = IsOther line.act
EndsNone (Takes bytes) = Unit {0}

-- the pieces that actions feed, joined
abbrev pub pieces : List Action → List ℕ
pieces [] = []
pieces (Feeds piece ∷ actions) = piece ++ pieces actions
pieces (Runs frames ∷ actions) = pieces actions
pieces (Does line ∷ actions) = pieces actions
pieces (Takes bytes ∷ actions) = pieces actions

-- the frame of the first line lies above this one
abbrev pub IsLater : ℕ → List TimedLine → Type 0
IsLater frame [] = Unit {0}
IsLater frame (line ∷ lines) = frame < line.at

-- Nothing is left to be done: of a client that runs, no permitted frame that is not run; and no line is due, unless a frame is
-- permitted below it.
abbrev pub IsIdle : List TimedLine → Held → Type 0
IsIdle left h = state_of h.player ≡ state.Running
    → IfSome (frame_of h.player) (λ frame. IsLater frame left × IfSome (permitted_of h.player) (λ permitted. permitted ≤ frame))
