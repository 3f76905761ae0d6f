-- A change that holds what is planned of an event is what the event does.
use Rattle.std.proofs.Common.{◌≡◌, ℕ, List, [], ◌∷◌, ◌++◌, Option, Some, None, false, Bool, refl, ap, ap₂, sym, subst, ◌∙◌}
use Rattle.std.proofs.Common.{append-nil}
use Rattle.std.specs.Prelude.{◌||◌, is_some, map}
use Rattle.std.proofs.lemmas.List.{map-append}
use Rattle.std.proofs.lemmas.List.Folds.{list_any-append}
use Rattle.tt_edge.specs.declared.event.Event.{Event}
use Rattle.tt_edge.specs.Event.{is_tick}
use Rattle.tt_world.specs.declared.command.Entry.{Entry}
use Rattle.tt_map.specs.Layout.{map_of}
use Rattle.tt_log.specs.declared.deed.Step as book
use Rattle.tt_log.specs.declared.deed.What.TheVariants.{ToAdmin}
use Rattle.tt_log.specs.declared.report.Report.{Report}
use Rattle.tt_log.specs.Admin.{Admin}
use Rattle.tt_log.specs.Deed.{Deed}
use Rattle.tt_log.specs.Events.{by_event, stops}
use Rattle.tt_log.specs.Origin.{Origin, world_at}
use Rattle.tt_log.specs.Table.{Table, world_of}
use Rattle.tt_log.proofs.Clock.{SameClock, event-same}
use Rattle.tt_members.specs.declared.step.Step.{Step}
use Rattle.tt_members.specs.Crew.{crew_of}
use Rattle.tt_members.specs.Done.{counted}
use Rattle.tt_members.specs.Planned.{Planned}
use Rattle.tt_members.specs.Steps.{steps_in}
use Rattle.tt_join.specs.declared.input.Input.{Input}
use Rattle.tt_join.specs.Inputs.{by_input}
use Rattle.tt_table.specs.declared.change.Change.{Change}
use Rattle.tt_table.specs.declared.change.Seating.{Seating}
use Rattle.tt_table.specs.Change.{committed_by, done_by, seated, steps_by, steps_of}
use Rattle.tt_table.specs.Coming.{answered, IsAside, IsInput, IsPlanned}
use Rattle.tt_table.specs.Does.{Does, IsBegun, IsBehind, IsChange, begins_map, due_by}

-- ---- what is no tick

same_world : (o : Origin) (t u : Table) → SameClock t u → world_of o u ≡ world_of o t
same_world o t u same = ap₂ (λ (entries : List Entry) (frame : ℕ). world_at o entries frame) same.journal same.frame

begun_same : (o : Origin) (t u : Table) (download : Option (List ℕ)) → world_of o u ≡ world_of o t → IsBegun o t download
    → IsBegun o u download
begun_same o t u None same begun = tt
begun_same o t u (Some bytes) same begun = begun ∙ sym (ap map_of same)

-- what tells and does what the rule of an event does that is no tick, and holds the map of the world where one begins, is all that
-- the event does
pub is_whole : (o : Origin) (e : Event) (t : Table) (c : Change) → is_tick e ≡ false → Does o e t c → c.beats ≡ false → c.due.items ≡ []
    → c.stops ≡ stops o e t → c.behind ≡ None → is_some c.download ≡ begins_map (steps_of c) → IsBegun o t c.download
    → IsChange o e t c
is_whole o e t c tick does beats due stopping behind begins begun = record {
  does = does;
  beats = beats ∙ sym tick;
  due = due ∙ sym (ap (λ (b : Bool). due_by b o (by_event o e t).table) tick);
  stops = stopping;
  behind = subst (IsBehind o (by_event o e t).table) (sym behind) tt;
  needed = λ ticks need. absurd cc;
  begins = begins;
  begun = begun_same o t (by_event o e t).table c.download (same_world o t (by_event o e t).table (event-same o e t tick)) begun;
}

-- ---- the steps

-- only the steps before a plan and the plan's
pub told_steps : (admins : List Admin) (first steps : List Step)
    → steps_in admins (first ++ (steps ++ [])) ≡ steps_in admins first ++ steps_in admins steps
told_steps admins first steps =
    ap (λ (x : List Step). steps_in admins (first ++ x)) (append-nil steps) ∙ map-append _ first steps

pub begins_steps : (first steps : List Step) → begins_map first ≡ false → begins_map (first ++ (steps ++ [])) ≡ begins_map steps
begins_steps first steps none =
    list_any-append _ first (steps ++ []) ∙ ap (λ (b : Bool). b || begins_map (steps ++ [])) none ∙ ap begins_map (append-nil steps)

-- the table behind a change that leaves the admins
pub stays_seated : (plan : Option Planned) (t : Table)
    → record (done_by plan t) { admins = t.admins; openings = (done_by plan t).openings } ≡ done_by plan t
stays_seated None t = refl
stays_seated (Some p) t = refl

-- ---- members

-- a change that holds the members' plan of a rule is what an event does that tells something before it, and then does the same
pub planned_change : (o : Origin) (e : Event) (t : Table) (d : Deed) (c : Change) (first : List Step) (quits : Bool) → is_tick e ≡ false
    → IsPlanned o t d c → begins_map first ≡ false → steps_in t.admins first ++ d.told ≡ (by_event o e t).told
    → d.table ≡ (by_event o e t).table → quits ≡ stops o e t → IsChange o e t (record c { first = first; stops = quits })
planned_change o e t d c first quits tick plan none told same quitting =
    let steps : List Step = steps_by c.plan in
    let all : first ++ (steps ++ c.last) ≡ first ++ (steps ++ []) = ap (λ (l : List Step). first ++ (steps ++ l)) plan.last in
    is_whole o e t (record c { first = first; stops = quits }) tick
    (record {
      told = ap (steps_in t.admins) all ∙ told_steps t.admins first steps
          ∙ ap (λ (x : List book.Step). steps_in t.admins first ++ x) plan.told ∙ told;
      table = ap₂ (λ (s : Seating) (b : Bool).
          record (done_by c.plan t) { admins = seated s t; openings = counted b (done_by c.plan t).openings })
          plan.seating plan.aside ∙ stays_seated c.plan t ∙ plan.table ∙ same;
      crew = plan.crew ∙ ap (crew_of o) same;
    })
    plan.beats plan.due quitting plan.behind
    (plan.begins ∙ sym (ap begins_map all ∙ begins_steps first steps none)) plan.begun

-- what comes to the members
pub input_change : (o : Origin) (e : Event) (t : Table) (input : Input) (c : Change) → IsInput o t e input
    → IsPlanned o t (by_input input o t) c → IsChange o e t c
input_change o e t input c is plan =
    planned_change o e t (by_input input o t) c c.first c.stops is.tick plan (ap begins_map plan.first)
    (ap (λ (l : List Step). steps_in t.admins l ++ (by_input input o t).told) plan.first ∙ sym (ap (λ (d : Deed). d.told) is.rule))
    (sym (ap (λ (d : Deed). d.table) is.rule)) (plan.stops ∙ sym is.stops)

-- ---- admins

pub answered_told : (conn : ℕ) (admins : List Admin) (reports : List Report)
    → steps_in admins (answered conn reports) ≡ map (λ r. record { to = conn ∷ []; what = ToAdmin r }) reports
answered_told conn admins [] = refl
answered_told conn admins (r ∷ reports) = ap (λ (l : List book.Step). record { to = conn ∷ []; what = ToAdmin r } ∷ l)
    (answered_told conn admins reports)

pub answers_begin_nothing : (conn : ℕ) (reports : List Report) → begins_map (answered conn reports) ≡ false
answers_begin_nothing conn [] = refl
answers_begin_nothing conn (r ∷ reports) = answers_begin_nothing conn reports

-- a change that concerns one admin alone
pub aside_change : (o : Origin) (e : Event) (t : Table) (c : Change) (steps : List Step) (seating : Seating) (aside : Bool)
    → is_tick e ≡ false → IsAside steps seating aside c → begins_map steps ≡ false → steps_in t.admins steps ≡ (by_event o e t).told
    → record t { admins = seated seating t; openings = counted aside t.openings } ≡ (by_event o e t).table → stops o e t ≡ false
    → IsChange o e t c
aside_change o e t c steps seating aside tick is none told same going =
    let all : steps_of c ≡ steps =
    ap₂ (λ (f : List Step) (p : Option Planned). f ++ (steps_by p ++ c.last)) is.first is.plan
    ∙ ap (λ (l : List Step). steps ++ l) is.last ∙ append-nil steps
    in
    is_whole o e t c tick
    (record {
      told = ap (steps_in t.admins) all ∙ told;
      table = ap (λ (p : Option Planned).
          record (done_by p t) { admins = seated c.seating t; openings = counted c.aside (done_by p t).openings })
          is.plan
          ∙ ap₂ (λ (s : Seating) (b : Bool). record t { admins = seated s t; openings = counted b t.openings }) is.seating is.aside ∙ same;
      crew = ap (λ (p : Option Planned). committed_by p (crew_of o t)) is.plan ∙ ap (crew_of o) same;
    })
    is.beats is.due (is.stops ∙ sym going) is.behind
    (ap is_some is.download ∙ sym (ap begins_map all ∙ none)) (subst (IsBegun o t) (sym is.download) tt)
