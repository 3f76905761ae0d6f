-- What is planned where an open attempt hears something.
use Rattle.std.specs.Prelude.{◌≡◌, List, [], ◌∷◌, ◌++◌, ℕ, Option, Some, None}
use Rattle.tt_attempts.specs.Attempts.{stepped}
use Rattle.tt_gc_table.specs.declared.setup.GcSetup.{GcSetup}
use Rattle.tt_gc_table.specs.declared.heard.Hearing.{Hearing}
use Rattle.tt_gc_table.specs.Table.{Table, Meeting, meeting_of}
use Rattle.tt_gc_table.specs.Meetings.{hears_it}
use Rattle.tt_gc_table.specs.Told.{bytes_to}
use Rattle.tt_attempts.specs.declared.attempt.Heard.{Heard}

-- the open attempt with this token hears it, comes so far, and this is the table then
pub record Hears (s : GcSetup) (token : List ℕ) (h : Hearing) (t after : Table) : Type 0 where
  pub meeting : Meeting
  pub found : meeting_of t token ≡ Some meeting
  pub stage : h.stage ≡ (stepped meeting.state.ways meeting.state.stage h.heard).stage
  pub after_is : after ≡ (hears_it s h.heard meeting t).table

-- where nothing is planned all stays
abbrev pub Reaches : GcSetup → List ℕ → Option Hearing → Table → Table → Type 0
Reaches s token None t after = after ≡ t
Reaches s token (Some h) t after = Hears s token h t after

-- what a connection is told where each of these hears something, each judged by the same table
abbrev pub told_each : GcSetup → Heard → Table → ℕ → List Meeting → List ℕ
told_each s h t c [] = []
told_each s h t c (m ∷ ms) = bytes_to c (hears_it s h m t).told ++ told_each s h t c ms
