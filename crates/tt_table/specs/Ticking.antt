-- What a tick does besides the members' plan: to the admins, and with the world behind it.
use Rattle.std.specs.Prelude.{◌≡◌, ℕ, ◌-◌, Bool, true, false, not, ◌&&◌, ◌||◌, ◌==◌, nat_lt, List, [], ◌∷◌, ◌++◌, map, filter, find}
use Rattle.std.specs.Prelude.{flat_map, Option, Some, None, is_some, if◌then◌else◌}
use Rattle.std.specs.List.{list_any}
use Rattle.tt_admin.specs.declared.message.AdminMsg.TheVariants.{ServerError}
use Rattle.tt_map.specs.Layout.{map_of}
use Rattle.tt_world.specs.declared.command.Entry.{Entry}
use Rattle.tt_world.specs.World.{WorldState}
use Rattle.tt_rules.specs.Codes.{timeout_computer}
use Rattle.tt_log.specs.declared.deed.What.TheVariants.{ToAdmin, End}
use Rattle.tt_log.specs.declared.report.Report.{Report}
use Rattle.tt_log.specs.declared.report.Report.TheVariants.{Message, Date, CompanyEconomy, CompanyStats}
use Rattle.tt_log.specs.Admin.{Admin, date_updates, economy_updates, stats_updates}
use Rattle.tt_log.specs.Polls.{everyone}
use Rattle.tt_log.specs.Table.{is_admin_on}
use Rattle.tt_admin_desk.specs.Seats.{told_on}
use Rattle.tt_members.specs.declared.step.Audience.TheVariants.{One}
use Rattle.tt_members.specs.declared.step.Step.{Step}
use Rattle.tt_members.specs.Planned.{Planned}
use Rattle.tt_members.specs.Steps.{says}
use Rattle.tt_table.specs.declared.change.Change.{Change}
use Rattle.tt_table.specs.declared.change.Seating.TheVariants.{Leave}
use Rattle.tt_table.specs.Does.{begins_map, need_world}

-- ---- the limits of admins

-- an admin that has not joined in so many frames
abbrev pub is_late : ℕ → ℕ → Admin → Bool
is_late most frame a = not a.joined && nat_lt most (frame - a.since)

-- the connections of those
abbrev pub late_conns : ℕ → ℕ → List Admin → List ℕ
late_conns most frame admins = map (λ a. a.conn) (filter (is_late most frame) admins)

-- each is told its code, and ends
abbrev pub limit_steps : List ℕ → List Step
limit_steps [] = []
limit_steps (conn ∷ conns) = says (One conn) (ToAdmin (Message (ServerError timeout_computer))) ∷ says (One conn) End ∷ limit_steps conns

-- ---- a day that begins

-- a report, where a test holds
abbrev pub report_if : Bool → ℕ → Report → List Step
report_if true conn r = says (One conn) (ToAdmin r) ∷ []
report_if false conn r = []

-- what is told of each type on a day to an admin on this connection, if there is one
abbrev pub period_steps : ℕ → Option Admin → ℕ → List Step
period_steps day a conn = report_if (told_on day date_updates a) conn Date
    ++ (report_if (told_on day economy_updates a) conn (CompanyEconomy everyone)
    ++ report_if (told_on day stats_updates a) conn (CompanyStats everyone))

-- to each admin, in order of arrival
abbrev pub day_steps : ℕ → List Admin → List Step
day_steps day admins = flat_map (λ a. period_steps day (find (is_admin_on a.conn) admins) a.conn) admins

-- where the day behind is another one
abbrev pub new_day_steps : ℕ → Option WorldState → List Admin → List Step
new_day_steps before None admins = []
new_day_steps before (Some w) admins = if w.day == before then [] else day_steps w.day admins

-- ---- the world behind

-- the last of the parts of a day
abbrev pub last_part : ℕ
last_part = 73

-- it is needed where something is told of it, where a map begins, and where a day may begin of which admins are told
abbrev pub wants_world : ℕ → List Step → List Admin → Bool
wants_world part steps admins = need_world steps || (begins_map steps || ((part == last_part) && list_any (λ a. a.joined) admins))

-- a world, where it is there
abbrev pub IsWorld : WorldState → Option WorldState → Type 0
IsWorld w None = Unit {0}
IsWorld w (Some v) = v ≡ w

-- the map of a world, where it is there
abbrev pub IsMapOf : WorldState → Option (List ℕ) → Type 0
IsMapOf w None = Unit {0}
IsMapOf w (Some bytes) = bytes ≡ map_of w

-- ---- the whole

-- a change is what a tick does, by a plan for the members, in a frame, with these entries, from the world before it
pub record IsTick (most frame : ℕ) (admins : List Admin) (before after : WorldState) (p : Planned) (entries : List Entry) (c : Change)
    : Type 0 where
  pub plan : c.plan ≡ Some p
  pub seating : c.seating ≡ Leave (late_conns most frame admins)
  pub first : c.first ≡ []
  pub last : c.last ≡ limit_steps (late_conns most frame admins) ++ new_day_steps before.day c.behind admins
  pub aside : c.aside ≡ false
  pub beats : c.beats ≡ true
  pub due : c.due.items ≡ entries
  pub stops : c.stops ≡ false
  pub behind : IsWorld after c.behind
  pub wanted : is_some c.behind ≡ wants_world before.part p.steps admins
  pub begins : is_some c.download ≡ begins_map p.steps
  pub begun : IsMapOf after c.download
