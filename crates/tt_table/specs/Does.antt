-- When a change is what an event does.
use Rattle.std.specs.Prelude.{◌≡◌, ℕ, ◌+◌, ◌≤◌, ◌<◌, ◌^◌, Bool, true, false, List, [], Option, Some, None, length, is_some}
use Rattle.std.specs.List.{list_any}
use Rattle.tt_edge.specs.declared.event.Event.{Event}
use Rattle.tt_edge.specs.Event.{is_tick}
use Rattle.tt_map.specs.Layout.{map_of}
use Rattle.tt_world.specs.declared.command.Entry.{Entry}
use Rattle.tt_world.specs.World.{WorldState}
use Rattle.tt_log.specs.declared.deed.What.{What}
use Rattle.tt_log.specs.declared.deed.What.TheVariants.{ToAdmin, MapBegin}
use Rattle.tt_log.specs.declared.report.Report.{Report}
use Rattle.tt_log.specs.declared.report.Report.TheVariants.{Message, CompanyNews}
use Rattle.tt_log.specs.Events.{by_event, stops}
use Rattle.tt_log.specs.Origin.{Origin, at_frame}
use Rattle.tt_log.specs.Table.{Table, world_of}
use Rattle.tt_members.specs.declared.step.Step.{Step}
use Rattle.tt_members.specs.Crew.{crew_of}
use Rattle.tt_members.specs.Planned.{Planned}
use Rattle.tt_members.specs.Steps.{stamped_in, steps_in}
use Rattle.tt_join.specs.Members.{IsNext, Kept}
use Rattle.tt_table.specs.declared.change.Change.{Change}
use Rattle.tt_table.specs.Change.{changed, committed_by, steps_by, steps_of}
use Rattle.tt_table.specs.Held.{Played}

-- ---- what of the world a change needs

abbrev pub is_begin : What → Bool
is_begin MapBegin = true
is_begin other = false

-- a map begins
abbrev pub begins_map : List Step → Bool
begins_map steps = list_any (λ (s : Step). is_begin s.what) steps

-- it is filled in from the world behind
abbrev pub is_of_world : Report → Bool
is_of_world (Message m) = false
is_of_world CompanyNews = false
is_of_world other = true

abbrev pub needs_world : What → Bool
needs_world (ToAdmin report) = is_of_world report
needs_world other = false

-- something is told that is filled in from the world behind
abbrev pub need_world : List Step → Bool
need_world steps = list_any (λ (s : Step). needs_world s.what) steps

-- ---- what an event does

-- a change tells what the rule of an event tells, and makes of the table and of the members' part of it what the rule makes of them
pub record Does (o : Origin) (e : Event) (t : Table) (c : Change) : Type 0 where
  pub told : steps_in t.admins (steps_of c) ≡ (by_event o e t).told
  pub table : changed c t ≡ (by_event o e t).table
  pub crew : committed_by c.plan (crew_of o t) ≡ crew_of o (by_event o e t).table

-- the entries that are carried out with an event: at a tick those of its frame, some of which may be stamped by it
abbrev pub due_by : Bool → Origin → Table → List Entry
due_by true o t = at_frame o t.frame t.journal
due_by false o t = []

-- the world behind, where it is there
abbrev pub IsBehind : Origin → Table → Option WorldState → Type 0
IsBehind o behind None = Unit {0}
IsBehind o behind (Some w) = w ≡ world_of o behind

-- the map that begins is that of the world behind
abbrev pub IsBegun : Origin → Table → Option (List ℕ) → Type 0
IsBegun o behind None = Unit {0}
IsBegun o behind (Some bytes) = bytes ≡ map_of (world_of o behind)

-- a change is all that an event does
pub record IsChange (o : Origin) (e : Event) (t : Table) (c : Change) : Type 0 where
  pub does : Does o e t c
  pub beats : c.beats ≡ is_tick e
  pub due : c.due.items ≡ due_by (is_tick e) o (by_event o e t).table
  pub stops : c.stops ≡ stops o e t
  pub behind : IsBehind o (by_event o e t).table c.behind
  pub needed : is_tick e ≡ true → need_world (steps_of c) ≡ true → is_some c.behind ≡ true
  pub begins : is_some c.download ≡ begins_map (steps_of c)
  pub begun : IsBegun o (by_event o e t).table c.download

-- ---- a change can be put in force

abbrev pub IsNextBy : Kept → Option Planned → Type 0
IsNextBy k None = Unit {0}
IsNextBy k (Some p) = IsNext k p

-- there is room for what is put in force without memory
pub record HasRoom (g : Played) (c : Change) : Type 0 where
  pub members : IsNextBy g.members c.plan
  pub entries : length (stamped_in (steps_by c.plan)) ≤ g.room
  pub events : 1 ≤ g.spare
  pub few : length g.events + 1 < 2 ^ 63
