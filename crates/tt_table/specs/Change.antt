-- What an event is to do, as plain data: to the members, to the admins, and what it tells.
use Rattle.std.specs.Prelude.{◌+◌, not, ◌==◌, List, [], ◌∷◌, ◌++◌, filter, Option, Some, None}
use Rattle.std.specs.List.{list_any}
use Rattle.tt_log.specs.Admin.{Admin, new_admin}
use Rattle.tt_log.specs.Table.{Table, admin_of}
use Rattle.tt_admin_desk.specs.declared.heard.Heard.{Heard}
use Rattle.tt_admin_desk.specs.Seats.{committed as committed_aside}
use Rattle.tt_members.specs.declared.step.Step.{Step}
use Rattle.tt_members.specs.Crew.{Crew}
use Rattle.tt_members.specs.Planned.{Planned}
use Rattle.tt_members.specs.Done.{committed, counted, done}
use Rattle.tt_table.specs.declared.change.Change.{Change}
use Rattle.tt_table.specs.declared.change.Seating.{Seating}
use Rattle.tt_table.specs.declared.change.Seating.TheVariants.{Stay, Arrive, Settle, Leave}

-- ---- what is told

abbrev pub steps_by : Option Planned → List Step
steps_by None = []
steps_by (Some p) = p.steps

-- all steps, in order: those before the members' plan, the plan's, and those behind it
abbrev pub steps_of : Change → List Step
steps_of c = c.first ++ (steps_by c.plan ++ c.last)

-- ---- the admins

abbrev pub settled : Heard → Option Admin → Table → List Admin
settled heard None t = t.admins
settled heard (Some a) t = (committed_aside heard a t).admins

-- the admins of a table behind a change: all stay, one comes in, one has what was heard of it put in force, or some leave
abbrev pub seated : Seating → Table → List Admin
seated Stay t = t.admins
seated Arrive t = t.admins ++ new_admin (t.openings + 1) t.frame ∷ []
seated (Settle conn heard) t = settled heard (admin_of t conn) t
seated (Leave conns) t = filter (λ a. not (list_any (λ c. c == a.conn) conns)) t.admins

-- ---- the table

abbrev pub done_by : Option Planned → Table → Table
done_by None t = t
done_by (Some p) t = done p t

abbrev pub committed_by : Option Planned → Crew → Crew
committed_by None crew = crew
committed_by (Some p) crew = committed p crew

-- the table behind a change: the members' plan is done, the admins are seated, and an opening at the side door is counted
abbrev pub changed : Change → Table → Table
changed c t = record (done_by c.plan t) { admins = seated c.seating t; openings = counted c.aside (done_by c.plan t).openings }
