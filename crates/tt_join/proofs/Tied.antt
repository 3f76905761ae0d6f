-- A plan for the members of a game, put in force, makes of the members what they are behind the rule.
use Rattle.std.proofs.Common.{◌≡◌, ℕ, ◌+◌, ◌≤◌, List, [], ◌∷◌, ◌++◌, refl, sym, ap, ap₂, subst, ◌∙◌, true, false, Bool, Option, Some, None}
use Rattle.std.proofs.Common.{arith, append-nil}
use Rattle.std.specs.Prelude.{cond, filter, if◌then◌else◌, nat_lt}
use Rattle.std.proofs.lemmas.List.{append_cancel_left}
use Rattle.std.proofs.lemmas.List.Elements.{filter-append}
use Rattle.tt_world.specs.declared.command.Code.{Code}
use Rattle.tt_world.specs.declared.command.Code.TheVariants.{NewCompany}
use Rattle.tt_world.specs.declared.command.Entry.{Entry}
use Rattle.tt_log.specs.Origin.{Origin, above}
use Rattle.tt_log.specs.Table.{Table}
use Rattle.tt_members.specs.Crew.{crew_of, founder_by, founders_in}
use Rattle.tt_members.specs.Done.{committed, done, founders_behind, frame_behind}
use Rattle.tt_members.specs.Planned.{Planned}
use Rattle.tt_members.specs.Steps.{stamped_in}
use Rattle.tt_members.specs.declared.edit.Beat.{Beat}
use Rattle.tt_join.specs.declared.input.Input.{Input}
use Rattle.tt_join.specs.declared.input.Input.TheVariants.{Open, Msg, Bad, Shut, Own, Kick, Say, Tick}
use Rattle.tt_join.specs.Inputs.{by_input}
use Rattle.tt_join.specs.Ties.{outside, outside_by, run}
use Rattle.tt_join.proofs.Founded.{founders_append}
use Rattle.tt_join.proofs.Outside.{all_left}

-- ---- founders behind a frame

-- those of a later frame than this one
abbrev later_than : ℕ → List (ℕ × ℕ) → List (ℕ × ℕ)
later_than frame fs = filter (λ (f : ℕ × ℕ). nat_lt frame f.0) fs

kept_later : (code : Code) (e : Entry) (frame : ℕ) (fs : List (ℕ × ℕ)) → nat_lt frame e.frame ≡ true
    → later_than frame (founder_by code e ++ fs) ≡ founder_by code e ++ later_than frame fs
kept_later NewCompany e frame fs is = ap (λ (b : Bool). cond b ((e.frame, e.command.number) ∷ later_than frame fs) (later_than frame fs)) is
kept_later code e frame fs is = refl

passed_later : (code : Code) (e : Entry) (frame : ℕ) (fs : List (ℕ × ℕ)) → nat_lt frame e.frame ≡ false
    → later_than frame (founder_by code e ++ fs) ≡ later_than frame fs
passed_later NewCompany e frame fs is =
    ap (λ (b : Bool). cond b ((e.frame, e.command.number) ∷ later_than frame fs) (later_than frame fs)) is
passed_later code e frame fs is = refl

later_head : (b : Bool) (e : Entry) (frame : ℕ) (xs es : List Entry) → nat_lt frame e.frame ≡ b
    → later_than frame (founders_in es) ≡ founders_in xs
    → later_than frame (founder_by e.command.code e ++ founders_in es) ≡ founders_in (if b then e ∷ xs else xs)
later_head true e frame xs es is later = kept_later e.command.code e frame (founders_in es) is
    ∙ ap (λ (fs : List (ℕ × ℕ)). founder_by e.command.code e ++ fs) later
later_head false e frame xs es is later = passed_later e.command.code e frame (founders_in es) is ∙ later

-- the founders of entries that are behind a frame
later_founders : (o : Origin) (frame : ℕ) (es : List Entry) → later_than frame (founders_in es) ≡ founders_in (above o frame es)
later_founders o frame [] = refl
later_founders o frame (e ∷ es) = later_head (nat_lt frame e.frame) e frame (above o frame es) es refl (later_founders o frame es)

twice_head : (b c : Bool) (o : Origin) (low high : ℕ) (e : Entry) (es : List Entry) → low ≤ high → nat_lt low e.frame ≡ b
    → nat_lt high e.frame ≡ c → above o high (above o low es) ≡ above o high es
    → above o high (if b then e ∷ above o low es else above o low es) ≡ (if c then e ∷ above o high es else above o high es)
twice_head true c o low high e es order first second later =
    ap (λ (d : Bool). if d then e ∷ above o high (above o low es) else above o high (above o low es)) second
    ∙ ap (λ (xs : List Entry). if c then e ∷ xs else xs) later
twice_head false true o low high e es order first second later = absurd (grind (arith, first, second, order))
twice_head false false o low high e es order first second later = later

above_twice : (o : Origin) (low high : ℕ) (es : List Entry) → low ≤ high → above o high (above o low es) ≡ above o high es
above_twice o low high [] order = refl
above_twice o low high (e ∷ es) order =
    twice_head (nat_lt low e.frame) (nat_lt high e.frame) o low high e es order refl refl (above_twice o low high es order)

above_head : (b : Bool) (e : Entry) (xs ys zs : List Entry) → xs ≡ ys ++ zs
    → (if b then e ∷ xs else xs) ≡ (if b then e ∷ ys else ys) ++ zs
above_head true e xs ys zs is = ap (λ (es : List Entry). e ∷ es) is
above_head false e xs ys zs is = is

above_append : (o : Origin) (frame : ℕ) (xs ys : List Entry) → above o frame (xs ++ ys) ≡ above o frame xs ++ above o frame ys
above_append o frame [] ys = refl
above_append o frame (e ∷ xs) ys =
    above_head (nat_lt frame e.frame) e (above o frame (xs ++ ys)) (above o frame xs) (above o frame ys) (above_append o frame xs ys)

-- where a frame was run
run_founders : (o : Origin) (low high : ℕ) (journal new : List Entry) → low ≤ high
    → later_than high (founders_in (above o low journal) ++ founders_in new) ≡ founders_in (above o high (journal ++ new))
run_founders o low high journal new order =
    filter-append (λ (f : ℕ × ℕ). nat_lt high f.0) (founders_in (above o low journal)) (founders_in new)
    ∙ ap₂ (λ (fs gs : List (ℕ × ℕ)). fs ++ gs)
    (later_founders o high (above o low journal) ∙ ap founders_in (above_twice o low high journal order)) (later_founders o high new)
    ∙ sym (founders_append (above o high journal) (above o high new))
    ∙ ap founders_in (sym (above_append o high journal new))

-- where none was run
same_founders : (o : Origin) (frame : ℕ) (journal new : List Entry) → new ≡ []
    → founders_in (above o frame journal) ++ founders_in new ≡ founders_in (above o frame (journal ++ new))
same_founders o frame journal new is =
    ap (λ (es : List Entry). founders_in (above o frame journal) ++ founders_in es) is
    ∙ append-nil (founders_in (above o frame journal))
    ∙ ap (λ (es : List Entry). founders_in (above o frame es)) (sym (append-nil journal) ∙ ap (λ (es : List Entry). journal ++ es) (sym is))

-- ---- what a plan makes of the clock

-- a plan that runs a frame to a later one, or one that runs none and stamps nothing
abbrev IsTimely : Option Beat → ℕ → List Entry → Type 0
IsTimely None frame new = new ≡ []
IsTimely (Some beat) frame new = frame ≤ beat.frame

founders_so : (beat : Option Beat) (o : Origin) (frame : ℕ) (journal new : List Entry) → IsTimely beat frame new
    → founders_behind beat (founders_in (above o frame journal) ++ founders_in new)
    ≡ founders_in (above o (frame_behind beat frame) (journal ++ new))
founders_so None o frame journal new timely = same_founders o frame journal new timely
founders_so (Some beat) o frame journal new timely = run_founders o frame beat.frame journal new timely

-- by what the rule makes of the clock
still_timely : (beat : Option Beat) (frame : ℕ) (journal new : List Entry) → frame_behind beat frame ≡ frame → journal ++ new ≡ journal
    → IsTimely beat frame new
still_timely None frame journal new same none = append_cancel_left journal new [] (none ∙ sym (append-nil journal))
still_timely (Some beat) frame journal new same none = omega (arith, same)

run_timely : (beat : Option Beat) (frame : ℕ) (new : List Entry) → frame_behind beat frame ≡ frame + 1 → IsTimely beat frame new
run_timely None frame new more = absurd (omega (arith, more))
run_timely (Some beat) frame new more = omega (arith, more)

timely : (input : Input) (o : Origin) (t : Table) (p : Planned) → done p t ≡ (by_input input o t).table
    → IsTimely p.beat t.frame (stamped_in p.steps)
timely input o t p is = by input (ap outside is ∙ all_left input o t)
  where
    still : outside (done p t) ≡ outside t → IsTimely p.beat t.frame (stamped_in p.steps)
    still same = still_timely p.beat t.frame t.journal (stamped_in p.steps) (ap (λ (x : Table). x.frame) same)
        (ap (λ (x : Table). x.journal) same)

    by : (input : Input) → outside (done p t) ≡ outside_by input o t → IsTimely p.beat t.frame (stamped_in p.steps)
    by Tick same = run_timely p.beat t.frame (stamped_in p.steps) (ap (λ (x : Table). x.frame) same)
    by (Open conn) same = still_timely p.beat t.frame t.journal (stamped_in p.steps) (ap (λ (x : Table). x.frame) same)
        (ap (λ (x : Table). x.journal) same)
    by (Msg conn msg) same = still same
    by (Bad conn) same = still same
    by (Shut conn) same = still same
    by (Own command) same = still same
    by (Kick client) same = still same
    by (Say scope to text) same = still same

-- ---- the members behind a plan

pub crew_behind : (input : Input) (o : Origin) (t : Table) (p : Planned) → done p t ≡ (by_input input o t).table
    → committed p (crew_of o t) ≡ crew_of o (by_input input o t).table
crew_behind input o t p is =
    ap (λ (fs : List (ℕ × ℕ)). record (crew_of o (done p t)) { founders = fs })
    (founders_so p.beat o t.frame t.journal (stamped_in p.steps) (timely input o t p is))
    ∙ ap (crew_of o) is
