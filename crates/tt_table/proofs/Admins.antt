-- What was heard of an admin, planned: its answers, and what becomes of it.
use Rattle.std.proofs.Common.{◌≡◌, ℕ, ◌+◌, ◌<◌, ◌≤◌, arith, List, [], ◌∷◌, ◌++◌, Option, Some, true, false, Bool, refl}
use Rattle.std.proofs.Common.{ap, ap₂, sym, subst, ◌∙◌, cond}
use Rattle.std.specs.Prelude.{◌==◌, ◌||◌, ◌^◌, not, codes, filter, length, nat_le}
use Rattle.std.specs.List.{list_any}
use Rattle.std.proofs.lemmas.Bool.{eqb-true, eq-eqb, ne_eqb}
use Rattle.tt_edge.specs.declared.event.Door.TheVariants.{Side}
use Rattle.tt_edge.specs.declared.event.Event.{Event}
use Rattle.tt_edge.specs.declared.event.Event.TheVariants.{Open}
use Rattle.tt_edge.specs.declared.event.Peer.{Peer}
use Rattle.tt_admin.specs.declared.message.AdminMsg.TheVariants.{ServerConsole, ServerFull, ServerRconEnd}
use Rattle.tt_log.specs.declared.deed.Step as book
use Rattle.tt_log.specs.declared.deed.What.TheVariants.{End, ToAdmin}
use Rattle.tt_log.specs.declared.report.Report.{Report}
use Rattle.tt_log.specs.declared.report.Report.TheVariants.{Message}
use Rattle.tt_log.specs.Admin.{Admin, console_updates}
use Rattle.tt_log.specs.Console.{console_does, is_quit_line, lines_of, obeys}
use Rattle.tt_log.specs.Deed.{Deed, ◌▹◌}
use Rattle.tt_log.specs.Desk.{admin_arrives, admin_greeting, counted_aside, most_admins}
use Rattle.tt_log.specs.Events.{by_event}
use Rattle.tt_log.specs.Origin.{Origin}
use Rattle.tt_log.specs.Polls.{poll_answers, tells_admin}
use Rattle.tt_log.specs.Table.{Table, admin_of, is_admin_on, without_admin}
use Rattle.tt_log.specs.Watching.{sees_console, watching}
use Rattle.tt_log.proofs.Lists.{found-passes}
use Rattle.tt_admin_desk.specs.declared.commands.ConsoleCommand.{ConsoleCommand}
use Rattle.tt_admin_desk.specs.declared.heard.Heard.{Heard}
use Rattle.tt_admin_desk.specs.declared.heard.Heard.TheVariants.{Joined, Bits, Ask, Say, Console, Pong, Nothing, Leave as Leaves, Ends}
use Rattle.tt_admin_desk.specs.Asked.{meant}
use Rattle.tt_admin_desk.specs.Hearing.{does}
use Rattle.tt_members.specs.declared.step.Audience.TheVariants.{One}
use Rattle.tt_members.specs.declared.step.Step.{Step}
use Rattle.tt_members.specs.Planned.{Planned}
use Rattle.tt_members.specs.Steps.{says, stamped_in, steps_in}
use Rattle.tt_join.specs.declared.input.Input.TheVariants as inputs
use Rattle.tt_join.specs.Inputs.{by_input}
use Rattle.tt_table.specs.declared.change.Change.{Change}
use Rattle.tt_table.specs.declared.change.Seating.TheVariants.{Stay, Arrive, Leave}
use Rattle.tt_table.specs.declared.change.Seating.{Seating}
use Rattle.tt_table.specs.Change.{seated, settled, steps_by}
use Rattle.tt_table.specs.Coming.{answered, console_steps, IsAside, IsHeard, IsPlanned, is_own, own_steps, quits_in, seating_of}
use Rattle.tt_table.specs.Does.{HasRoom, IsChange, IsNextBy, begins_map}
use Rattle.tt_table.specs.Held.{Played}
use Rattle.tt_table.proofs.Coming.{answered_told, answers_begin_nothing, aside_change, input_change, planned_change}

-- ---- who is there

pub on_conn : (t : Table) (conn : ℕ) (a : Admin) → admin_of t conn ≡ Some a → a.conn ≡ conn
on_conn t conn a is = eqb-true a.conn conn (found-passes (is_admin_on conn) a t.admins is)

same_test : (b : Bool) (x y : ℕ) → (x == y) ≡ b → (y == x) ≡ b
same_test true x y is = eq-eqb y x (sym (eqb-true x y is))
same_test false x y is = ne_eqb y x (λ e. let so : (x == y) ≡ true = eq-eqb x y (sym e) in absurd cc)

without_one : (conn : ℕ) (admins : List Admin)
    → filter (λ (a : Admin). not (list_any (λ (c : ℕ). c == a.conn) (conn ∷ []))) admins
    ≡ filter (λ (a : Admin). not (is_admin_on conn a)) admins
without_one conn [] = refl
without_one conn (a ∷ admins) =
    keeps (conn == a.conn) (a.conn == conn) a _ _ (same_test (a.conn == conn) a.conn conn refl) (without_one conn admins)
  where
    keeps : (x y : Bool) (b : Admin) (bs cs : List Admin) → x ≡ y → bs ≡ cs
        → cond (not (x || false)) (b ∷ bs) bs ≡ cond (not y) (b ∷ cs) cs
    keeps true true b bs cs same rest = rest
    keeps false false b bs cs same rest = ap (λ (l : List Admin). b ∷ l) rest
    keeps true false b bs cs same rest = absurd cc
    keeps false true b bs cs same rest = absurd cc

-- ---- what concerns one admin alone

own_told : (h : Heard) (a : Admin) (t : Table) → is_own h ≡ true → steps_in t.admins (own_steps a.conn h t) ≡ (does h a t).told
own_told Joined a t own = answered_told a.conn t.admins admin_greeting
own_told (Bits kind bits) a t own = refl
own_told (Ask question) a t own = answered_told a.conn t.admins (poll_answers question.kind question.id t)
own_told (Say scope to text) a t own = absurd cc
own_told (Console text command) a t own = absurd cc
own_told (Pong id) a t own = refl
own_told Nothing a t own = refl
own_told Leaves a t own = refl
own_told (Ends code) a t own = refl

own_begins : (h : Heard) (conn : ℕ) (t : Table) → begins_map (own_steps conn h t) ≡ false
own_begins Joined conn t = refl
own_begins (Bits kind bits) conn t = refl
own_begins (Ask question) conn t = answers_begin_nothing conn (poll_answers question.kind question.id t)
own_begins (Say scope to text) conn t = refl
own_begins (Console text command) conn t = refl
own_begins (Pong id) conn t = refl
own_begins Nothing conn t = refl
own_begins Leaves conn t = refl
own_begins (Ends code) conn t = refl

leaves_table : (conn : ℕ) (a : Admin) (t : Table) → a.conn ≡ conn
    → record t { admins = seated (Leave (conn ∷ [])) t } ≡ without_admin a.conn t
leaves_table conn a t at =
    ap (λ (l : List Admin). record t { admins = l }) (without_one conn t.admins) ∙ ap (λ (k : ℕ). without_admin k t) (sym at)

own_table : (h : Heard) (conn : ℕ) (a : Admin) (t : Table) → is_own h ≡ true → admin_of t conn ≡ Some a → a.conn ≡ conn
    → record t { admins = seated (seating_of conn h) t } ≡ (does h a t).table
own_table Joined conn a t own is at = ap (λ (x : Option Admin). record t { admins = settled Joined x t }) is
own_table (Bits kind bits) conn a t own is at = ap (λ (x : Option Admin). record t { admins = settled (Bits kind bits) x t }) is
own_table (Ask question) conn a t own is at = ap (λ (x : Option Admin). record t { admins = settled (Ask question) x t }) is
own_table (Say scope to text) conn a t own is at = absurd cc
own_table (Console text command) conn a t own is at = absurd cc
own_table (Pong id) conn a t own is at = ap (λ (x : Option Admin). record t { admins = settled (Pong id) x t }) is
own_table Nothing conn a t own is at = ap (λ (x : Option Admin). record t { admins = settled Nothing x t }) is
own_table Leaves conn a t own is at = leaves_table conn a t at
own_table (Ends code) conn a t own is at = leaves_table conn a t at

pub own_change : (o : Origin) (e : Event) (t : Table) (conn : ℕ) (h : Heard) (c : Change) (a : Admin) → admin_of t conn ≡ Some a
    → is_own h ≡ true → IsHeard o t e conn h → IsAside (own_steps conn h t) (seating_of conn h) false c → IsChange o e t c
own_change o e t conn h c a is own heard aside =
    let at : a.conn ≡ conn = on_conn t conn a is in
    let rule : by_event o e t ≡ does h a t = heard.rule a is in
    aside_change o e t c (own_steps conn h t) (seating_of conn h) false heard.tick aside (own_begins h conn t)
    (ap (λ (k : ℕ). steps_in t.admins (own_steps k h t)) (sym at) ∙ own_told h a t own ∙ sym (ap (λ (d : Deed). d.told) rule))
    (own_table h conn a t own is at ∙ sym (ap (λ (d : Deed). d.table) rule))
    (heard.stops ∙ quiet h own)
  where
    quiet : (g : Heard) → is_own g ≡ true → quits_in g ≡ false
    quiet Joined so = refl
    quiet (Bits kind bits) so = refl
    quiet (Ask question) so = refl
    quiet (Say scope to text) so = refl
    quiet (Console text command) so = absurd cc
    quiet (Pong id) so = refl
    quiet Nothing so = refl
    quiet Leaves so = refl
    quiet (Ends code) so = refl

-- a change without a plan wants no room but that for its event
pub aside_room : (g : Played) (steps : List Step) (seat : Seating) (opens : Bool) (c : Change) → IsAside steps seat opens c → 1 ≤ g.spare
    → length g.events + 1 < 2 ^ 63 → HasRoom g c
aside_room g steps seat opens c is spare few = record {
  members = subst (IsNextBy g.members) (sym is.plan) tt;
  entries = subst (λ (p : Option Planned). length (stamped_in (steps_by p)) ≤ g.room) (sym is.plan) (omega arith);
  events = spare;
  few = few;
}

-- ---- what comes to the members by an admin

pub say_change : (o : Origin) (e : Event) (t : Table) (conn scope to : ℕ) (text : List ℕ) (c : Change) (a : Admin)
    → admin_of t conn ≡ Some a
    → IsHeard o t e conn (Say scope to text) → IsPlanned o t (by_input (inputs.Say scope to text) o t) c → IsChange o e t c
say_change o e t conn scope to text c a is heard plan =
    input_change o e t (inputs.Say scope to text) c
    (record { tick = heard.tick; stops = heard.stops; rule = heard.rule a is }) plan

first_told : (conn : ℕ) (text : List ℕ) (command : ConsoleCommand) (t : Table)
    → steps_in t.admins (console_steps conn text command t)
    ≡ (sees_console text t ▹ tells_admin conn (lines_of (meant command) t ++ Message (ServerRconEnd text) ∷ [])).told
first_told conn text command t =
    ap (λ (l : List book.Step).
    record { to = watching console_updates t; what = ToAdmin (Message (ServerConsole (codes "admin") text)) } ∷ l)
    (answered_told conn t.admins (lines_of (meant command) t ++ Message (ServerRconEnd text) ∷ []))

pub console_change : (o : Origin) (e : Event) (t : Table) (conn : ℕ) (text : List ℕ) (command : ConsoleCommand) (c : Change) (a : Admin)
    (d : Deed) (first : List Step) (quits : Bool) → admin_of t conn ≡ Some a → IsHeard o t e conn (Console text command)
    → IsPlanned o t d c → d ≡ console_does (meant command) t → first ≡ console_steps conn text command t
    → quits ≡ is_quit_line (meant command) → IsChange o e t (record c { first = first; stops = quits })
console_change o e t conn text command c a d first quits is heard plan done told quitting =
    let rule : by_event o e t ≡ obeys (meant command) a.conn text t = heard.rule a is in
    let at : a.conn ≡ conn = on_conn t conn a is in
    let reports : List Report = lines_of (meant command) t ++ Message (ServerRconEnd text) ∷ [] in
    planned_change o e t d c first quits heard.tick plan (ap begins_map told ∙ answers_begin_nothing conn reports)
    (ap (λ (l : List Step). steps_in t.admins l ++ d.told) told
    ∙ ap₂ (λ (x : List book.Step) (y : Deed). x ++ y.told) (first_told conn text command t) done
    ∙ ap (λ (k : ℕ). (obeys (meant command) k text t).told) (sym at) ∙ sym (ap (λ (y : Deed). y.told) rule))
    (ap (λ (y : Deed). y.table) done ∙ sym (ap (λ (y : Deed). y.table) rule))
    (quitting ∙ sym heard.stops)

-- ---- an opening

pub refused_change : (o : Origin) (t : Table) (peer : Peer) (c : Change) → nat_le most_admins (length t.admins) ≡ true
    → IsAside (answered (t.openings + 1) (Message ServerFull ∷ []) ++ says (One (t.openings + 1)) End ∷ []) Stay true c
    → IsChange o (Open Side peer) t c
refused_change o t peer c full is =
    let rule : by_event o (Open Side peer) t ≡ admin_arrives true (counted_aside t) =
    ap (λ (b : Bool). admin_arrives b (counted_aside t)) full in
    aside_change o (Open Side peer) t c
    (answered (t.openings + 1) (Message ServerFull ∷ []) ++ says (One (t.openings + 1)) End ∷ []) Stay true
    refl is refl (sym (ap (λ (d : Deed). d.told) rule)) (sym (ap (λ (d : Deed). d.table) rule)) refl

pub arriving_change : (o : Origin) (t : Table) (peer : Peer) (c : Change) → nat_le most_admins (length t.admins) ≡ false
    → IsAside [] Arrive true c → IsChange o (Open Side peer) t c
arriving_change o t peer c full is =
    let rule : by_event o (Open Side peer) t ≡ admin_arrives false (counted_aside t) =
    ap (λ (b : Bool). admin_arrives b (counted_aside t)) full in
    aside_change o (Open Side peer) t c [] Arrive true refl is refl (sym (ap (λ (d : Deed). d.told) rule))
    (sym (ap (λ (d : Deed). d.table) rule)) refl
