-- What an admin is told when it asks for a type of updates, and what it is told of itself on days that begin.
use Rattle.std.specs.Prelude.{ℕ, Bool, not, ◌||◌, ◌==◌, List, [], ◌∷◌, map, filter, flat_map, slice_index, codes, if◌then◌else◌}
use Rattle.tt_admin.specs.declared.message.AdminMsg.TheVariants.{ServerClientInfo, ServerCmdNames}
use Rattle.tt_log.specs.declared.deed.What.TheVariants.{ToAdmin}
use Rattle.tt_log.specs.declared.report.Report.{Report}
use Rattle.tt_log.specs.declared.report.Report.TheVariants.{Message, Date, CompanyInfo, CompanyEconomy, CompanyStats}
use Rattle.tt_log.specs.Origin.{Origin}
use Rattle.tt_log.specs.Member.{Member}
use Rattle.tt_log.specs.Admin.{Admin, date_updates, client_updates, company_updates, economy_updates, stats_updates, name_updates, is_due}
use Rattle.tt_log.specs.Table.{Table, welcomed, world_of}
use Rattle.tt_log.specs.Deed.{Deed, ◌▹◌, becomes, where_}

-- one admin is told reports, in order
abbrev pub tells_admin : ℕ → List Report → Table → Deed
tells_admin conn reports t = record { table = t; told = map (λ r. record { to = conn ∷ []; what = ToAdmin r }) reports }

-- ---- who is asked for

-- the id that stands for all
abbrev pub everyone : ℕ
everyone = 4294967295

abbrev pub is_asked : ℕ → ℕ → Bool
is_asked id number = (id == everyone) || (id == number)

-- ---- what is told

-- of the welcomed clients that are asked for, in order of arrival
abbrev pub client_report : Member → Report
client_report m = Message (ServerClientInfo m.client m.name m.company)

abbrev pub client_reports : ℕ → Table → List Report
client_reports id t = map client_report (filter (λ m. is_asked id m.client) (welcomed t))

-- a command's code and its name
abbrev pub command_name : ℕ → List ℕ → ℕ × (List ℕ × Unit {0})
command_name code name = (code, (name, tt))

-- the commands by their codes
abbrev pub command_names : List (ℕ × (List ℕ × Unit {0}))
command_names =
    command_name 0 (codes "IncreaseLoan")
    ∷ command_name 1 (codes "DecreaseLoan")
    ∷ command_name 2 (codes "Give")
    ∷ command_name 3 (codes "PlaceSign")
    ∷ command_name 4 (codes "RenameSign")
    ∷ command_name 5 (codes "RenameCompany")
    ∷ command_name 6 (codes "RenamePresident")
    ∷ command_name 7 (codes "Pause")
    ∷ command_name 8 (codes "NewCompany")
    ∷ []

-- of a type: what of it is told of an id, or of all. The day and the names are no one's
abbrev pub poll_answers : ℕ → ℕ → Table → List Report
poll_answers kind id t =
    if kind == date_updates then Date ∷ []
    else if kind == client_updates then client_reports id t
    else if kind == company_updates then CompanyInfo id ∷ []
    else if kind == economy_updates then CompanyEconomy id ∷ []
    else if kind == stats_updates then CompanyStats id ∷ []
    else if kind == name_updates then Message (ServerCmdNames command_names) ∷ []
    else []

-- ---- on a day that begins

-- the types that are told by periods, in order
abbrev pub period_types : List ℕ
period_types = date_updates ∷ economy_updates ∷ stats_updates ∷ []

-- what an admin is told of a type on a day: all of it where a bit is set whose period divides the day
abbrev pub due_of : ℕ → Admin → Table → ℕ → List Report
due_of day a t kind = if is_due day (slice_index a.bits kind) then poll_answers kind everyone t else []

abbrev pub due_reports : ℕ → Admin → Table → List Report
due_reports day a t = flat_map (due_of day a t) period_types

-- each of those that have joined, in order of arrival
abbrev pub each_told : ℕ → List Admin → Table → Deed
each_told day [] t = becomes t
each_told day (a ∷ admins) t = tells_admin a.conn (due_reports day a t) t ▹ each_told day admins

abbrev pub day_told : ℕ → Table → Deed
day_told day t = each_told day (filter (λ a. a.joined) t.admins) t

-- where the day is another one than before
abbrev pub admins_told : ℕ → Origin → Table → Deed
admins_told before o t = let day = (world_of o t).day in where_ (not (day == before)) (day_told day) t
