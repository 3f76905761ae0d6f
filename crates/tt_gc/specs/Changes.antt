-- What is planned to be done to a table, where that may be done, and the table behind it.
use Rattle.std.specs.Prelude.{◌≡◌, ℕ, ◌+◌, ◌-◌, ◌<◌, ◌^◌, List, [], ◌++◌, Option, Some, None, true, false, cond, is_some}
use Rattle.tt_attempts.specs.Attempts.{stepped}
use Rattle.tt_attempts.specs.Codes.{words_behind}
use Rattle.tt_attempts.specs.declared.attempt.Stage.{Stage}
use Rattle.tt_gc_table.specs.declared.setup.GcSetup.{GcSetup}
use Rattle.tt_gc_table.specs.declared.heard.Hearing.{Hearing}
use Rattle.tt_gc_table.specs.Table.{Table, Meeting, connection_of, server_on, server_by, drawn_by, meeting_of, with_info, with_meeting}
use Rattle.tt_gc_table.specs.Codes.{new_token, behind_token}
use Rattle.tt_gc_table.specs.Meetings.{is_over, is_heard}
use Rattle.tt_gc_table.specs.Ending.{goes, leaves}
use Rattle.tt_gc_table.specs.Desk.{with_note}
use Rattle.tt_gc_table.specs.Parts.{opened, passed_over, registered, drawn, begun}
use Rattle.tt_gc_table.specs.Deed.{Deed}
use Rattle.tt_gc_table.specs.Told.{bytes_to}
use Rattle.tt_gc_table.specs.Tells.{Tell, told_to}
use Rattle.tt_gc.specs.declared.change.Change.{Change}
use Rattle.tt_gc.specs.declared.change.Change.TheVariants.{Stay, Arrive, Refuse, Quit, Go, Note, Register, Draw, Update, Pass, Begin, Hear}
use Rattle.tt_gc.specs.declared.change.Change.TheVariants.{Beat}

-- the table behind it
abbrev pub applied : GcSetup → Change → Table → Table
applied s Stay t = t
applied s (Arrive side peer) t = opened side peer t
applied s (Refuse side peer) t = passed_over t
applied s (Quit conn) t = (leaves s conn t).table
applied s (Go conn) t = (goes conn t).table
applied s (Note conn token side peer) t = (goes conn (with_meeting token (with_note side peer) t)).table
applied s (Register conn kind port code) t = registered conn code kind port t
applied s (Draw conn kind port code secret random) t = drawn conn (record { code = code; secret = secret }) kind port random t
applied s (Update conn info) t = with_info conn info t
applied s (Pass random) t = behind_token t
applied s (Begin random meeting) t = begun meeting t
applied s (Hear token hearing) t = (is_heard s hearing.heard token t).table
applied s Beat t = record t { ticks = t.ticks + 1 }

-- what is done where an attempt hears something, or where it doesn't
abbrev pub heard_change : List ℕ → Option Hearing → Change
heard_change token None = Stay
heard_change token (Some hearing) = Hear token hearing

-- what is done where an attempt begins, which may be over at once
abbrev pub first_change : ℕ × ℕ → Stage → Meeting → Change
first_change random stage meeting = cond (is_over stage) (Pass random) (Begin random meeting)

-- a connection is there on which no server is
pub record IsPlain (conn : ℕ) (t : Table) : Type 0 where
  pub there : is_some (connection_of t conn) ≡ true
  pub unregistered : is_some (server_on t conn) ≡ false

pub record MayNote (conn : ℕ) (token : List ℕ) (t : Table) : Type 0 where
  pub there : is_some (connection_of t conn) ≡ true
  pub unregistered : is_some (server_on t conn) ≡ false
  pub meeting : Meeting
  pub found : meeting_of t token ≡ Some meeting

pub record MayRegister (conn : ℕ) (code : List ℕ) (t : Table) : Type 0 where
  pub there : is_some (connection_of t conn) ≡ true
  pub unregistered : is_some (server_on t conn) ≡ false
  pub free : is_some (server_by t code) ≡ false

pub record MayDraw (conn : ℕ) (code : List ℕ) (t : Table) : Type 0 where
  pub there : is_some (connection_of t conn) ≡ true
  pub unregistered : is_some (server_on t conn) ≡ false
  pub new : is_some (drawn_by t code) ≡ false
  pub free : is_some (server_by t code) ≡ false

pub record MayBegin (words : ℕ × ℕ) (t : Table) : Type 0 where
  pub few : t.attempts < 2 ^ 32 - 1
  pub words_are : words ≡ words_behind 8 t.words

pub record MayOpen (words : ℕ × ℕ) (token : List ℕ) (t : Table) : Type 0 where
  pub few : t.attempts < 2 ^ 32 - 1
  pub words_are : words ≡ words_behind 8 t.words
  pub token_is : token ≡ new_token t

pub record MayHear (token : List ℕ) (h : Hearing) (t : Table) : Type 0 where
  pub meeting : Meeting
  pub found : meeting_of t token ≡ Some meeting
  pub stage : h.stage ≡ (stepped meeting.state.ways meeting.state.stage h.heard).stage

-- it may be done
abbrev pub Fits : Change → Table → Type 0
Fits Stay t = Unit {0}
Fits (Arrive side peer) t = t.openings < 2 ^ 32 - 1
Fits (Refuse side peer) t = t.openings < 2 ^ 32 - 1
Fits (Quit conn) t = is_some (connection_of t conn) ≡ true
Fits (Go conn) t = IsPlain conn t
Fits (Note conn token side peer) t = MayNote conn token t
Fits (Register conn kind port code) t = MayRegister conn code t
Fits (Draw conn kind port code secret random) t = MayDraw conn code t
Fits (Update conn info) t = Unit {0}
Fits (Pass random) t = MayBegin random t
Fits (Begin random meeting) t = MayOpen random meeting.token t
Fits (Hear token hearing) t = MayHear token hearing t
Fits Beat t = t.ticks < 2 ^ 64 - 1

-- what is planned of a rule, where the table is this one: all that it tells stands behind what was told before, and what is done is
-- what the rule does
pub record IsPlanned (s : GcSetup) (d : Deed) (t : Table) (old new : List Tell) (change : Change) : Type 0 where
  pub told : (c : ℕ) → told_to c new ≡ told_to c old ++ bytes_to c d.told
  pub done : applied s change t ≡ d.table
  pub fits : Fits change t

-- what is planned of a rule that tells nobody anything
pub record IsDone (d : Deed) (t : Table) (change : Change) : Type 0 where
  pub told : (c : ℕ) → bytes_to c d.told ≡ []
  pub done : (s : GcSetup) → applied s change t ≡ d.table
  pub fits : Fits change t
