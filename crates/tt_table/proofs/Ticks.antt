-- A tick, whole: what a change says of it is what the book of a game says.
use Rattle.std.proofs.Common.{◌≡◌, ℕ, ◌+◌, ◌≤◌, List, [], ◌∷◌, ◌++◌, refl, ap, ap₂, sym, subst, ◌∙◌, true, false, Bool, Option, Some, None}
use Rattle.std.proofs.Common.{append_assoc, append-nil, cond}
use Rattle.std.proofs.Common.{inl, inr}
use Rattle.std.specs.Prelude.{◌==◌, ◌&&◌, ◌||◌, not, filter, find, flat_map, is_some, if◌then◌else◌}
use Rattle.std.specs.List.{list_any}
use Rattle.std.proofs.lemmas.Bool.{and_cases, eq-eqb, or_parts}
use Rattle.std.proofs.lemmas.List.{append_cancel_left}
use Rattle.tt_edge.specs.declared.event.Event.TheVariants.{Tick}
use Rattle.tt_lockstep.specs.Journal.{AreAbove}
use Rattle.tt_lockstep.proofs.Journals.{AreAbove-less}
use Rattle.tt_map.specs.Layout.{map_of}
use Rattle.tt_world.specs.declared.command.Entry.{Entry}
use Rattle.tt_world.specs.World.{WorldState}
use Rattle.tt_log.specs.declared.deed.Step.{Step}
use Rattle.tt_log.specs.declared.report.Report.{Report}
use Rattle.tt_log.specs.declared.report.Report.TheVariants.{Date, CompanyEconomy, CompanyStats}
use Rattle.tt_log.specs.Admin.{Admin, date_updates, economy_updates, stats_updates}
use Rattle.tt_log.specs.Deed.{Deed, ◌▹◌, where_}
use Rattle.tt_log.specs.Desk.{admins_limited}
use Rattle.tt_log.specs.Events.{by_event}
use Rattle.tt_log.specs.History.{AreRising}
use Rattle.tt_log.specs.Origin.{Origin, at_frame, game_of}
use Rattle.tt_log.specs.Polls.{admins_told, day_told, everyone}
use Rattle.tt_log.specs.Table.{Table, is_admin_on, world_of}
use Rattle.tt_log.specs.Tick.{stamps}
use Rattle.tt_log.proofs.Crew.{admin_conns}
use Rattle.tt_log.proofs.Entries.{for-above, stamps-for}
use Rattle.tt_admin_desk.specs.Seats.{told_on}
use Rattle.tt_members.specs.declared.step.Step.{Step as Said}
use Rattle.tt_members.specs.Crew.{crew_of}
use Rattle.tt_members.specs.Done.{counted, done}
use Rattle.tt_members.specs.Planned.{Planned}
use Rattle.tt_members.specs.Steps.{stamped_in, steps_in}
use Rattle.tt_join.specs.declared.input.Input.TheVariants.{Tick as Beat}
use Rattle.tt_join.specs.Inputs.{by_input}
use Rattle.tt_join.specs.Ties.{IsTied, outside, outside_by}
use Rattle.tt_table.specs.declared.change.Change.{Change}
use Rattle.tt_table.specs.declared.change.Seating.{Seating}
use Rattle.tt_table.specs.declared.change.Seating.TheVariants.{Leave}
use Rattle.tt_table.specs.Change.{changed, committed_by, done_by, seated, steps_by, steps_of}
use Rattle.tt_table.specs.Does.{Does, IsBegun, IsBehind, IsChange, begins_map, due_by, is_begin, need_world, needs_world}
use Rattle.tt_table.specs.Frames.{ran}
use Rattle.tt_table.specs.Ticking.{IsMapOf, IsTick, IsWorld, day_steps, last_part, late_conns, limit_steps, new_day_steps, period_steps}
use Rattle.tt_table.specs.Ticking.{report_if, wants_world}
use Rattle.tt_table.proofs.Days.{each_is, joined_stay, none_joined, steps_append, told_all, told_to}
use Rattle.tt_table.proofs.Limits.{AllFound, all_found, limits_are, staying, told_at}
use Rattle.tt_table.proofs.Running.{day_stays, world_ran}

-- ---- steps that need nothing of the world

any_append : {A : Type 0} (f : A → Bool) (xs ys : List A) → list_any f (xs ++ ys) ≡ (list_any f xs || list_any f ys)
any_append f [] ys = refl
any_append f (x ∷ xs) ys =
    ap (λ (b : Bool). f x || b) (any_append f xs ys) ∙ or_regroup (f x) (list_any f xs) (list_any f ys)
  where
    or_regroup : (a b c : Bool) → (a || (b || c)) ≡ ((a || b) || c)
    or_regroup true b c = refl
    or_regroup false b c = refl

none_append : {A : Type 0} (f : A → Bool) (xs ys : List A) → list_any f xs ≡ false → list_any f ys ≡ false → list_any f (xs ++ ys) ≡ false
none_append f xs ys first more = any_append f xs ys ∙ ap₂ (λ (a b : Bool). a || b) first more

limits_need : (conns : List ℕ) → need_world (limit_steps conns) ≡ false
limits_need [] = refl
limits_need (conn ∷ conns) = limits_need conns

limits_begin : (conns : List ℕ) → begins_map (limit_steps conns) ≡ false
limits_begin [] = refl
limits_begin (conn ∷ conns) = limits_begin conns

periods_begin : (x y z : Bool) (conn : ℕ) (r s t : Report) (more : List Said) → begins_map more ≡ false
    → begins_map ((report_if x conn r ++ (report_if y conn s ++ report_if z conn t)) ++ more) ≡ false
periods_begin true true true conn r s t more none = none
periods_begin true true false conn r s t more none = none
periods_begin true false true conn r s t more none = none
periods_begin true false false conn r s t more none = none
periods_begin false true true conn r s t more none = none
periods_begin false true false conn r s t more none = none
periods_begin false false true conn r s t more none = none
periods_begin false false false conn r s t more none = none

day_begins : (day : ℕ) (all admins : List Admin)
    → begins_map (flat_map (λ (a : Admin). period_steps day (find (is_admin_on a.conn) all) a.conn) admins) ≡ false
day_begins day all [] = refl
day_begins day all (a ∷ admins) =
    let x : Option Admin = find (is_admin_on a.conn) all in
    periods_begin (told_on day date_updates x) (told_on day economy_updates x) (told_on day stats_updates x) a.conn Date
    (CompanyEconomy everyone) (CompanyStats everyone) (flat_map (λ (b : Admin). period_steps day (find (is_admin_on b.conn) all) b.conn)
    admins) (day_begins day all admins)

new_day_by : (b : Bool) (day : ℕ) (admins : List Admin) → begins_map (if b then [] else day_steps day admins) ≡ false
new_day_by true day admins = refl
new_day_by false day admins = day_begins day admins admins

new_day_begins : (before : ℕ) (x : Option WorldState) (admins : List Admin) → begins_map (new_day_steps before x admins) ≡ false
new_day_begins before None admins = refl
new_day_begins before (Some w) admins = new_day_by (w.day == before) w.day admins

-- ---- the day

day_deed : (b : Bool) (day : ℕ) (v : Table) → where_ b (day_told day) v
    ≡ told_at v (cond b (flat_map (told_to day v) (filter (λ (a : Admin). a.joined) v.admins)) [])
day_deed true day v = each_is day (filter (λ (a : Admin). a.joined) v.admins) v
day_deed false day v = refl

-- what the book tells of a day, where this is the day before and these are the admins that have joined
abbrev day_said : ℕ → ℕ → Table → List Admin → List Step
day_said before day v joined = cond (not (day == before)) (flat_map (told_to day v) joined) []

said_by : (b : Bool) (before day : ℕ) (admins audience : List Admin) (v : Table) → AllFound admins admins
    → steps_in audience (if b then [] else day_steps day admins)
    ≡ cond (not b) (flat_map (told_to day v) (filter (λ (a : Admin). a.joined) admins)) []
said_by true before day admins audience v found = refl
said_by false before day admins audience v found = told_all day admins admins audience v found

none_said : (b : Bool) (day : ℕ) (v : Table) → cond b (flat_map (told_to day v) []) [] ≡ []
none_said true day v = refl
none_said false day v = refl

-- where the world behind was not needed, nothing is told
day_untold : (before day part : ℕ) (steps : List Said) (admins : List Admin) (v : Table) → wants_world part steps admins ≡ false
    → ((part == last_part) ≡ false → day ≡ before) → day_said before day v (filter (λ (a : Admin). a.joined) admins) ≡ []
day_untold before day part steps admins v wants stays =
    let turns : Bool = (part == last_part) && list_any (λ (x : Admin). x.joined) admins in
    let a = (or_parts (need_world steps) (begins_map steps || turns) wants).1 in
    let b = (or_parts (begins_map steps) turns a).1 in
    elim (and_cases (part == last_part) (list_any (λ (x : Admin). x.joined) admins) b) [
      | inl early ↦ ap (λ (c : Bool). cond (not c) (flat_map (told_to day v) (filter (λ (x : Admin). x.joined) admins)) [])
          (eq-eqb day before (stays early))
      | inr none ↦ ap (λ (joined : List Admin). day_said before day v joined) (none_joined admins none)
          ∙ none_said (not (day == before)) day v
    ]

day_is : (x : Option WorldState) (before part : ℕ) (steps : List Said) (w : WorldState) (admins audience : List Admin) (v : Table)
    → AllFound admins admins → IsWorld w x → is_some x ≡ wants_world part steps admins → ((part == last_part) ≡ false → w.day ≡ before)
    → steps_in audience (new_day_steps before x admins) ≡ day_said before w.day v (filter (λ (a : Admin). a.joined) admins)
day_is None before part steps w admins audience v found is wants stays =
    sym (day_untold before w.day part steps admins v (sym wants) stays)
day_is (Some u) before part steps w admins audience v found is wants stays =
    said_by (u.day == before) before u.day admins audience v found
    ∙ ap (λ (y : WorldState). day_said before y.day v (filter (λ (a : Admin). a.joined) admins)) is

-- ---- the deed

-- the table behind a tick, by the plan for the members and the connections of those that have left
abbrev pub behind_tick : Planned → List ℕ → Table → Table
behind_tick p conns t = record (done p t) { admins = staying conns t.admins }

-- and what was told by then
abbrev limited_at : Planned → List ℕ → Table → Deed
limited_at p conns t = told_at (behind_tick p conns t) (steps_in t.admins p.steps ++ steps_in t.admins (limit_steps conns))

limits_deed : (o : Origin) (t : Table) (p : Planned) → AreRising 0 (admin_conns t.admins) → IsTied o t Beat p
    → (by_input Beat o t ▹ admins_limited o) ≡ limited_at p (late_conns o.setup.init (done p t).frame t.admins) t
limits_deed o t p rise tied =
    let first : by_input Beat o t ≡ told_at (done p t) (steps_in t.admins p.steps) = ap₂ told_at (sym tied.table) (sym tied.told) in
    ap (λ (d : Deed). d ▹ admins_limited o) first
    ∙ ap (λ (d : Deed). told_at d.table (steps_in t.admins p.steps ++ d.told))
    (limits_are o 0 t.admins t.admins (done p t) rise (all_found 0 t.admins rise))

-- what a tick needs to know
pub record Ticks (o : Origin) (t : Table) (p : Planned) : Type 0 where
  pub rule : by_event o Tick t ≡ (by_input Beat o t ▹ admins_limited o ▹ admins_told (world_of o t).day o)
  pub out : outside (by_input Beat o t).table ≡ outside_by Beat o t
  pub tied : IsTied o t Beat p
  pub rise : AreRising 0 (admin_conns t.admins)
  pub near : t.frame ≤ t.top

frame_is : (o : Origin) (t : Table) (p : Planned) → Ticks o t p → (done p t).frame ≡ t.frame + 1
frame_is o t p h = ap (λ (u : Table). u.frame) h.tied.table ∙ ap (λ (u : Table). u.frame) h.out

stamped_is : (o : Origin) (t : Table) (p : Planned) → Ticks o t p → stamped_in p.steps ≡ stamps t
stamped_is o t p h = append_cancel_left t.journal (stamped_in p.steps) (stamps t)
    (ap (λ (u : Table). u.journal) h.tied.table ∙ ap (λ (u : Table). u.journal) h.out)

stamped_above : (o : Origin) (t : Table) (p : Planned) → Ticks o t p → AreAbove (game_of o) t.frame (stamped_in p.steps)
stamped_above o t p h = subst (λ (es : List Entry). AreAbove (game_of o) t.frame es) (sym (stamped_is o t p h))
    (AreAbove-less (game_of o) t.frame t.top (stamps t) (for-above o t.top (stamps t) (stamps-for t)) h.near)

-- the admins that are late in the frame that is run
abbrev late_in : Origin → Table → List ℕ
late_in o t = late_conns o.setup.init (t.frame + 1) t.admins

abbrev deed_of : Origin → Table → Planned → Deed
deed_of o t p =
    let d : Deed = limited_at p (late_in o t) t in
    told_at d.table (d.told ++ day_said (world_of o t).day (world_of o (done p t)).day d.table (filter (λ (a : Admin). a.joined) t.admins))

deed_is : (o : Origin) (t : Table) (p : Planned) → Ticks o t p → by_event o Tick t ≡ deed_of o t p
deed_is o t p h =
    let v : Table = behind_tick p (late_in o t) t in
    let day : ℕ = (world_of o (done p t)).day in
    let told : List Step = steps_in t.admins p.steps ++ steps_in t.admins (limit_steps (late_in o t)) in
    let limited : (by_input Beat o t ▹ admins_limited o) ≡ limited_at p (late_in o t) t =
    limits_deed o t p h.rise h.tied
    ∙ ap (λ (frame : ℕ). limited_at p (late_conns o.setup.init frame t.admins) t) (frame_is o t p h)
    in
    h.rule
    ∙ ap (λ (d : Deed). d ▹ admins_told (world_of o t).day o) limited
    ∙ ap (λ (d : Deed). told_at d.table (told ++ d.told)) (day_deed (not (day == (world_of o t).day)) day v)
    ∙ ap (λ (joined : List Admin). told_at v (told ++ day_said (world_of o t).day day v joined))
    (joined_stay o.setup.init (t.frame + 1) t.admins (all_found 0 t.admins h.rise))

-- ---- the world

world_is : (o : Origin) (t : Table) (p : Planned) (due : List Entry) → Ticks o t p
    → due ≡ at_frame o (t.frame + 1) (t.journal ++ stamped_in p.steps) → world_of o (done p t) ≡ ran o (world_of o t) due
world_is o t p due h is =
    ap (λ (f : ℕ). world_of o (record (done p t) { frame = f })) (frame_is o t p h)
    ∙ world_ran o t.journal (stamped_in p.steps) t.frame (stamped_above o t p h)
    ∙ ap (λ (es : List Entry). ran o (world_of o t) es) (sym is)

-- ---- a change

behind_is : (o : Origin) (x : Option WorldState) (w : WorldState) (u : Table) → IsWorld w x → w ≡ world_of o u → IsBehind o u x
behind_is o None w u is same = tt
behind_is o (Some v) w u is same = is ∙ same

begun_is : (o : Origin) (x : Option (List ℕ)) (w : WorldState) (u : Table) → IsMapOf w x → w ≡ world_of o u → IsBegun o u x
begun_is o None w u is same = tt
begun_is o (Some bytes) w u is same = is ∙ ap map_of same

-- where the world behind is not there, nothing is told of it
needed_by : (x : Option WorldState) (before part : ℕ) (conns : List ℕ) (steps : List Said) (admins : List Admin)
    → is_some x ≡ wants_world part steps admins
    → need_world (steps ++ (limit_steps conns ++ new_day_steps before x admins)) ≡ true → is_some x ≡ true
needed_by (Some w) before part conns steps admins wants needs = refl
needed_by None before part conns steps admins wants needs =
    let first : need_world steps ≡ false =
    (or_parts (need_world steps) (begins_map steps || ((part == last_part) && list_any (λ (a : Admin). a.joined) admins)) (sym wants)).0
    in
    let rest : need_world (limit_steps conns ++ []) ≡ false = ap need_world (append-nil (limit_steps conns)) ∙ limits_need conns in
    let none : need_world (steps ++ (limit_steps conns ++ [])) ≡ false =
    none_append (λ (s : Said). needs_world s.what) steps (limit_steps conns ++ []) first rest
    in
    absurd (cc (none, needs))

-- all that a change of a tick tells
steps_are : (most frame : ℕ) (admins : List Admin) (before behind : WorldState) (p : Planned) (due : List Entry) (c : Change)
    → IsTick most frame admins before behind p due c
    → steps_of c ≡ p.steps ++ (limit_steps (late_conns most frame admins) ++ new_day_steps before.day c.behind admins)
steps_are most frame admins before behind p due c is =
    ap₂ (λ (first rest : List Said). first ++ rest) is.first (ap₂ (λ (x : Option Planned) (last : List Said). steps_by x ++ last) is.plan
    is.last)

-- it makes of a table what the plan makes of it, and those that are late have left
changed_is : (c : Change) (p : Planned) (conns : List ℕ) (t : Table) → c.plan ≡ Some p → c.seating ≡ Leave conns → c.aside ≡ false
    → changed c t ≡ behind_tick p conns t
changed_is c p conns t plan seating aside =
    ap (λ (x : Option Planned). record (done_by x t) {
      admins = seated c.seating t;
      openings = counted c.aside (done_by x t).openings;
    }) plan
    ∙ ap₂ (λ (s : Seating) (b : Bool). record (done p t) { admins = seated s t; openings = counted b (done p t).openings }) seating aside

does_is : (o : Origin) (t : Table) (p : Planned) (due : List Entry) (c : Change) → Ticks o t p
    → due ≡ at_frame o (t.frame + 1) (t.journal ++ stamped_in p.steps)
    → IsTick o.setup.init (t.frame + 1) t.admins (world_of o t) (ran o (world_of o t) due) p due c → Does o Tick t c
does_is o t p due c h entries is =
    let conns : List ℕ = late_in o t in
    let deed : by_event o Tick t ≡ deed_of o t p = deed_is o t p h in
    let new : List Said = new_day_steps (world_of o t).day c.behind t.admins in
    let world : ran o (world_of o t) due ≡ world_of o (done p t) = sym (world_is o t p due h entries) in
    let v : Table = behind_tick p conns t in
    let joined : List Admin = filter (λ (a : Admin). a.joined) t.admins in
    let day : steps_in t.admins new ≡ day_said (world_of o t).day (world_of o (done p t)).day v joined =
    day_is c.behind (world_of o t).day (world_of o t).part p.steps (ran o (world_of o t) due) t.admins t.admins v
    (all_found 0 t.admins h.rise) is.behind is.wanted (day_stays o (world_of o t) due)
    ∙ ap (λ (w : WorldState). day_said (world_of o t).day w.day v joined) world
    in
    record {
      told = ap (steps_in t.admins) (steps_are o.setup.init (t.frame + 1) t.admins (world_of o t) (ran o (world_of o t) due) p due c is)
          ∙ steps_append t.admins p.steps (limit_steps conns ++ new)
          ∙ ap (λ (more : List Step). steps_in t.admins p.steps ++ more) (steps_append t.admins (limit_steps conns) new)
          ∙ sym (append_assoc (steps_in t.admins p.steps) (steps_in t.admins (limit_steps conns)) (steps_in t.admins new))
          ∙ ap (λ (more : List Step). (steps_in t.admins p.steps ++ steps_in t.admins (limit_steps conns)) ++ more) day
          ∙ ap (λ (d : Deed). d.told) (sym deed);
      table = changed_is c p conns t is.plan is.seating is.aside ∙ ap (λ (d : Deed). d.table) (sym deed);
      crew = ap (λ (x : Option Planned). committed_by x (crew_of o t)) is.plan ∙ h.tied.crew ∙ ap (crew_of o) (sym h.tied.table)
          ∙ ap (λ (d : Deed). crew_of o d.table) (sym deed);
    }

pub change_is : (o : Origin) (t : Table) (p : Planned) (due : List Entry) (c : Change) → Ticks o t p
    → due ≡ at_frame o (t.frame + 1) (t.journal ++ stamped_in p.steps)
    → IsTick o.setup.init (t.frame + 1) t.admins (world_of o t) (ran o (world_of o t) due) p due c → IsChange o Tick t c
change_is o t p due c h entries is =
    let conns : List ℕ = late_in o t in
    let before : WorldState = world_of o t in
    let deed : by_event o Tick t ≡ deed_of o t p = deed_is o t p h in
    let world : ran o before due ≡ world_of o (by_event o Tick t).table =
    sym (world_is o t p due h entries) ∙ ap (λ (d : Deed). world_of o d.table) (sym deed)
    in
    let steps : steps_of c ≡ p.steps ++ (limit_steps conns ++ new_day_steps before.day c.behind t.admins) =
    steps_are o.setup.init (t.frame + 1) t.admins before (ran o before due) p due c is
    in
    record {
      does = does_is o t p due c h entries is;
      beats = is.beats;
      due = is.due ∙ entries ∙ ap (λ (f : ℕ). at_frame o f (t.journal ++ stamped_in p.steps)) (sym (frame_is o t p h))
          ∙ ap (λ (d : Deed). due_by true o d.table) (sym deed);
      stops = is.stops;
      behind = behind_is o c.behind (ran o before due) (by_event o Tick t).table is.behind world;
      needed = λ ticks needs. needed_by c.behind before.day before.part conns p.steps t.admins is.wanted
          (ap need_world (sym steps) ∙ needs);
      begins = is.begins ∙ sym (ap begins_map steps ∙ any_append (λ (s : Said). is_begin s.what) p.steps (limit_steps conns ++ new_day_steps
          before.day c.behind t.admins)
          ∙ ap (λ (b : Bool). begins_map p.steps || b) (none_append (λ (s : Said). is_begin s.what) (limit_steps conns) (new_day_steps
          before.day c.behind t.admins) (limits_begin conns) (new_day_begins before.day c.behind t.admins))
          ∙ or_no (begins_map p.steps));
      begun = begun_is o c.download (ran o before due) (by_event o Tick t).table is.begun world;
    }
  where
    or_no : (b : Bool) → (b || false) ≡ b
    or_no true = refl
    or_no false = refl
