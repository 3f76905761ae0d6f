-- What comes to the members and to the admins of a game, and what is planned of it.
use Rattle.std.specs.Prelude.{◌≡◌, ℕ, ◌+◌, ◌≤◌, Bool, true, false, List, [], ◌∷◌, ◌++◌, map, Option, Some, None, codes, is_some}
use Rattle.tt_edge.specs.declared.event.Event.{Event}
use Rattle.tt_edge.specs.Event.{is_tick}
use Rattle.tt_log.specs.declared.deed.What.TheVariants.{ToAdmin, End}
use Rattle.tt_log.specs.declared.report.Report.{Report}
use Rattle.tt_log.specs.declared.report.Report.TheVariants.{Message}
use Rattle.tt_log.specs.Admin.{Admin, console_updates}
use Rattle.tt_log.specs.Console.{is_quit_line, lines_of}
use Rattle.tt_log.specs.Deed.{Deed, becomes}
use Rattle.tt_log.specs.Desk.{admin_greeting}
use Rattle.tt_log.specs.Events.{by_event, stops}
use Rattle.tt_log.specs.Origin.{Origin}
use Rattle.tt_log.specs.Polls.{poll_answers}
use Rattle.tt_log.specs.Table.{Table, admin_of}
use Rattle.tt_admin.specs.declared.message.AdminMsg.{AdminMsg}
use Rattle.tt_admin.specs.declared.message.AdminMsg.TheVariants.{AdminChat, ServerConsole, ServerError, ServerPong, ServerRconEnd}
use Rattle.tt_admin_desk.specs.declared.commands.ConsoleCommand.{ConsoleCommand}
use Rattle.tt_admin_desk.specs.declared.heard.Heard.{Heard}
use Rattle.tt_admin_desk.specs.declared.heard.Heard.TheVariants.{Joined, Ask, Say, Console, Pong, Leave as Leaves, Ends}
use Rattle.tt_admin_desk.specs.Asked.{meant}
use Rattle.tt_admin_desk.specs.Hearing.{does}
use Rattle.tt_members.specs.declared.step.Audience.TheVariants.{One}
use Rattle.tt_members.specs.declared.step.Step.{Step}
use Rattle.tt_members.specs.Crew.{crew_of}
use Rattle.tt_members.specs.Steps.{says, shows, steps_in}
use Rattle.tt_join.specs.declared.input.Input.{Input}
use Rattle.tt_join.specs.declared.input.Input.TheVariants as inputs
use Rattle.tt_join.specs.Inputs.{by_input}
use Rattle.tt_table.specs.declared.change.Change.{Change}
use Rattle.tt_table.specs.declared.change.Seating.{Seating}
use Rattle.tt_table.specs.declared.change.Seating.TheVariants.{Stay, Settle, Leave}
use Rattle.tt_table.specs.Change.{committed_by, done_by, steps_by}
use Rattle.tt_table.specs.Does.{IsBegun, begins_map}

-- ---- to the members

-- what can come: an opening is the next one, and words have one of three scopes
abbrev pub Comes : Table → Input → Type 0
Comes t (inputs.Open conn) = conn ≡ t.openings + 1
Comes t (inputs.Say scope to text) = scope ≤ 2
Comes t other = Unit {0}

-- an event is what comes to the members: it is no tick and does not say that the game is over, and its rule is that of an input
pub record IsInput (o : Origin) (t : Table) (e : Event) (input : Input) : Type 0 where
  pub tick : is_tick e ≡ false
  pub stops : stops o e t ≡ false
  pub rule : by_event o e t ≡ by_input input o t

-- an order of the console may be something that comes to the members
abbrev pub by_order : Option Input → Origin → Table → Deed
by_order None o t = becomes t
by_order (Some input) o t = by_input input o t

abbrev pub ComesBy : Table → Option Input → Type 0
ComesBy t None = Unit {0}
ComesBy t (Some input) = Comes t input

-- a change holds the members' plan of a rule, and nothing else but the download that begins with it, where one begins
pub record IsPlanned (o : Origin) (t : Table) (d : Deed) (c : Change) : Type 0 where
  pub told : steps_in t.admins (steps_by c.plan) ≡ d.told
  pub table : done_by c.plan t ≡ d.table
  pub crew : committed_by c.plan (crew_of o t) ≡ crew_of o d.table
  pub begins : is_some c.download ≡ begins_map (steps_by c.plan)
  pub begun : IsBegun o t c.download
  pub seating : c.seating ≡ Stay
  pub first : c.first ≡ []
  pub last : c.last ≡ []
  pub aside : c.aside ≡ false
  pub beats : c.beats ≡ false
  pub due : c.due.items ≡ []
  pub stops : c.stops ≡ false
  pub behind : c.behind ≡ None

-- ---- to the admins

-- the game is over by what was heard
abbrev pub quits_in : Heard → Bool
quits_in (Console text command) = is_quit_line (meant command)
quits_in other = false

-- the numbers of what was heard are in their ranges
abbrev pub IsFit : Heard → Type 0
IsFit (Say scope to text) = scope ≤ 2
IsFit (Ends code) = code ≤ 20
IsFit other = Unit {0}

-- the scope of an admin's words is one of three
abbrev pub HasScope : AdminMsg → Type 0
HasScope (AdminChat scope to text) = scope ≤ 2
HasScope other = Unit {0}

-- an event is what was heard of the admin on a connection
pub record IsHeard (o : Origin) (t : Table) (e : Event) (conn : ℕ) (heard : Heard) : Type 0 where
  pub tick : is_tick e ≡ false
  pub stops : stops o e t ≡ quits_in heard
  pub rule : (a : Admin) → admin_of t conn ≡ Some a → by_event o e t ≡ does heard a t

-- what becomes of the admin on a connection
abbrev pub seating_of : ℕ → Heard → Seating
seating_of conn Leaves = Leave (conn ∷ [])
seating_of conn (Ends code) = Leave (conn ∷ [])
seating_of conn other = Settle conn other

-- what was heard concerns the admin alone: it is neither words for members nor a line of the console
abbrev pub is_own : Heard → Bool
is_own (Say scope to text) = false
is_own (Console text command) = false
is_own other = true

-- one admin is told reports, in order
abbrev pub answered : ℕ → List Report → List Step
answered conn reports = map (λ r. says (One conn) (ToAdmin r)) reports

-- what the admin on a connection is told by what was heard of it, where this concerns it alone
abbrev pub own_steps : ℕ → Heard → Table → List Step
own_steps conn Joined t = answered conn admin_greeting
own_steps conn (Ask question) t = answered conn (poll_answers question.kind question.id t)
own_steps conn (Pong id) t = answered conn (Message (ServerPong id) ∷ [])
own_steps conn Leaves t = says (One conn) End ∷ []
own_steps conn (Ends code) t = answered conn (Message (ServerError code) ∷ []) ++ says (One conn) End ∷ []
own_steps conn other t = []

-- what is told of a line of the console before it is done: admins see the line, and the one that gave it is answered
abbrev pub console_steps : ℕ → List ℕ → ConsoleCommand → Table → List Step
console_steps conn text command t = shows console_updates (ServerConsole (codes "admin") text)
    ∷ answered conn (lines_of (meant command) t ++ Message (ServerRconEnd text) ∷ [])

-- a change holds what concerns one admin, and nothing else
pub record IsAside (steps : List Step) (seat : Seating) (opens : Bool) (c : Change) : Type 0 where
  pub first : c.first ≡ steps
  pub seating : c.seating ≡ seat
  pub aside : c.aside ≡ opens
  pub plan : c.plan ≡ None
  pub last : c.last ≡ []
  pub beats : c.beats ≡ false
  pub due : c.due.items ≡ []
  pub stops : c.stops ≡ false
  pub behind : c.behind ≡ None
  pub download : c.download ≡ None
