-- What admins are told of a day that begins, as the book of a game says it admin by admin.
use Rattle.std.proofs.Common.{◌≡◌, ℕ, List, [], ◌∷◌, ◌++◌, refl, ap, ap₂, sym, subst, ◌∙◌, true, false, Bool, Option, Some, cond}
use Rattle.std.specs.Prelude.{◌==◌, ◌&&◌, ◌||◌, ◌-◌, nat_lt, not, map, filter, find, flat_map, slice_index, if◌then◌else◌}
use Rattle.std.specs.List.{list_any}
use Rattle.std.proofs.lemmas.Bool.{eqb-true}
use Rattle.tt_log.specs.declared.deed.Step.{Step}
use Rattle.tt_log.specs.declared.deed.What.TheVariants.{ToAdmin}
use Rattle.tt_log.specs.declared.report.Report.{Report}
use Rattle.tt_log.specs.declared.report.Report.TheVariants.{Date, CompanyEconomy, CompanyStats}
use Rattle.tt_log.specs.Admin.{Admin, date_updates, economy_updates, stats_updates, is_due}
use Rattle.tt_log.specs.Deed.{Deed}
use Rattle.tt_log.specs.Polls.{due_reports, each_told, everyone}
use Rattle.tt_log.specs.Table.{Table, is_admin_on}
use Rattle.tt_members.specs.declared.step.Step.{Step as Said}
use Rattle.tt_members.specs.Steps.{step_in, steps_in}
use Rattle.tt_table.specs.Ticking.{is_late, late_conns, period_steps, report_if}
use Rattle.tt_table.proofs.Limits.{AllFound, staying, told_at}

-- ---- the book's rule

abbrev told_one : ℕ → Report → Step
told_one conn r = record { to = conn ∷ []; what = ToAdmin r }

-- what the book tells one admin
abbrev pub told_to : ℕ → Table → Admin → List Step
told_to day t a = map (told_one a.conn) (due_reports day a t)

pub each_is : (day : ℕ) (admins : List Admin) (t : Table)
    → each_told day admins t ≡ told_at t (flat_map (told_to day t) admins)
each_is day [] t = refl
each_is day (a ∷ admins) t =
    ap (λ (d : Deed). told_at d.table (told_to day t a ++ d.told)) (each_is day admins t)

-- ---- one admin

-- the reports of the types that are due
abbrev due_by : Bool → Bool → Bool → List Report
due_by x y z = (if x then Date ∷ [] else []) ++ ((if y then CompanyEconomy everyone ∷ [] else [])
    ++ ((if z then CompanyStats everyone ∷ [] else []) ++ []))

told_by : (x y z : Bool) (conn : ℕ) (audience : List Admin)
    → steps_in audience (report_if x conn Date ++ (report_if y conn (CompanyEconomy everyone) ++ report_if z conn (CompanyStats everyone)))
    ≡ map (told_one conn) (due_by x y z)
told_by true true true conn audience = refl
told_by true true false conn audience = refl
told_by true false true conn audience = refl
told_by true false false conn audience = refl
told_by false true true conn audience = refl
told_by false true false conn audience = refl
told_by false false true conn audience = refl
told_by false false false conn audience = refl

-- where it has joined it is told what is due, and else nothing
period_by : (joined : Bool) (day conn : ℕ) (bits : List ℕ) (audience : List Admin)
    → steps_in audience (report_if (joined && is_due day (slice_index bits date_updates)) conn Date
    ++ (report_if (joined && is_due day (slice_index bits economy_updates)) conn (CompanyEconomy everyone)
    ++ report_if (joined && is_due day (slice_index bits stats_updates)) conn (CompanyStats everyone)))
    ≡ cond joined (map (told_one conn) (due_by (is_due day (slice_index bits date_updates))
    (is_due day (slice_index bits economy_updates)) (is_due day (slice_index bits stats_updates)))) []
period_by true day conn bits audience =
    told_by (is_due day (slice_index bits date_updates)) (is_due day (slice_index bits economy_updates))
    (is_due day (slice_index bits stats_updates)) conn audience
period_by false day conn bits audience = refl

one_told : (day : ℕ) (a : Admin) (x : Option Admin) (audience : List Admin) (t : Table) → x ≡ Some a
    → steps_in audience (period_steps day x a.conn) ≡ cond a.joined (told_to day t a) []
one_told day a x audience t is =
    ap (λ (y : Option Admin). steps_in audience (period_steps day y a.conn)) is ∙ period_by a.joined day a.conn a.bits audience

-- ---- all of them

pub steps_append : (audience : List Admin) (xs ys : List Said) → steps_in audience (xs ++ ys) ≡ steps_in audience xs ++ steps_in audience ys
steps_append audience [] ys = refl
steps_append audience (s ∷ xs) ys = ap (λ (more : List Step). step_in audience s ∷ more) (steps_append audience xs ys)

joined_head : (b : Bool) (a : Admin) (f : Admin → List Step) (admins : List Admin) (xs ys : List Step) → xs ≡ cond b (f a) []
    → ys ≡ flat_map f (filter (λ (x : Admin). x.joined) admins)
    → xs ++ ys ≡ flat_map f (cond b (a ∷ filter (λ (x : Admin). x.joined) admins) (filter (λ (x : Admin). x.joined) admins))
joined_head true a f admins xs ys first more = ap₂ (λ (us vs : List Step). us ++ vs) first more
joined_head false a f admins xs ys first more = ap₂ (λ (us vs : List Step). us ++ vs) first more

pub told_all : (day : ℕ) (all admins audience : List Admin) (t : Table) → AllFound all admins
    → steps_in audience (flat_map (λ (a : Admin). period_steps day (find (is_admin_on a.conn) all) a.conn) admins)
    ≡ flat_map (told_to day t) (filter (λ (a : Admin). a.joined) admins)
told_all day all [] audience t found = refl
told_all day all (a ∷ admins) audience t found =
    steps_append audience (period_steps day (find (is_admin_on a.conn) all) a.conn) (flat_map (λ (b : Admin).
    period_steps day (find (is_admin_on b.conn) all) b.conn) admins)
    ∙ joined_head a.joined a (told_to day t) admins (steps_in audience (period_steps day (find (is_admin_on a.conn) all) a.conn))
    (steps_in audience (flat_map (λ (b : Admin). period_steps day (find (is_admin_on b.conn) all) b.conn) admins))
    (one_told day a (find (is_admin_on a.conn) all) audience t found.0) (told_all day all admins audience t found.1)

-- ---- who is late has not joined

late_head : (b c : Bool) (most frame : ℕ) (a y : Admin) (more all : List Admin) → is_late most frame a ≡ b → (a.conn == y.conn) ≡ c
    → find (is_admin_on a.conn) all ≡ Some a → find (is_admin_on y.conn) all ≡ Some y → y.joined ≡ true
    → list_any (λ (d : ℕ). d == y.conn) (map (λ (x : Admin). x.conn) more) ≡ false
    → list_any (λ (d : ℕ). d == y.conn) (map (λ (x : Admin). x.conn) (cond b (a ∷ more) more)) ≡ false
late_head false c most frame a y more all late is found at joined none = none
late_head true false most frame a y more all late is found at joined none = ap₂ (λ (d e : Bool). d || e) is none
late_head true true most frame a y more all late is found at joined none =
    let here : find (is_admin_on y.conn) all ≡ Some a =
    subst (λ (n : ℕ). find (is_admin_on n) all ≡ Some a) (eqb-true a.conn y.conn is) found
    in
    let both : Some a ≡ Some y = sym here ∙ at in
    let one : a ≡ y = cc in
    let has : a.joined ≡ true = ap (λ (x : Admin). x.joined) one ∙ joined in
    let early : is_late most frame a ≡ false = ap (λ (d : Bool). not d && nat_lt most (frame - a.since)) has in
    absurd (cc (late, early))

not_late : (most frame : ℕ) (all admins : List Admin) (y : Admin) → AllFound all admins → find (is_admin_on y.conn) all ≡ Some y
    → y.joined ≡ true → list_any (λ (d : ℕ). d == y.conn) (late_conns most frame admins) ≡ false
not_late most frame all [] y found at joined = refl
not_late most frame all (a ∷ admins) y found at joined =
    late_head (is_late most frame a) (a.conn == y.conn) most frame a y (filter (is_late most frame) admins) all refl refl found.0 at joined
    (not_late most frame all admins y found.1 at joined)

stay_head : (b c : Bool) (a : Admin) (xs ys : List Admin) → a.joined ≡ b → (b ≡ true → c ≡ false)
    → filter (λ (x : Admin). x.joined) xs ≡ filter (λ (x : Admin). x.joined) ys
    → filter (λ (x : Admin). x.joined) (cond (not c) (a ∷ xs) xs)
    ≡ cond b (a ∷ filter (λ (x : Admin). x.joined) ys) (filter (λ (x : Admin). x.joined) ys)
stay_head b false a xs ys is other same = ap₂ (λ (t : Bool) (zs : List Admin). cond t (a ∷ zs) zs) is same
stay_head true true a xs ys is other same = let no : true ≡ false = other refl in absurd cc
stay_head false true a xs ys is other same = same

joined_by : (most frame : ℕ) (all admins : List Admin) → AllFound all all → AllFound all admins
    → filter (λ (a : Admin). a.joined) (staying (late_conns most frame all) admins) ≡ filter (λ (a : Admin). a.joined) admins
joined_by most frame all [] found there = refl
joined_by most frame all (a ∷ admins) found there =
    stay_head a.joined (list_any (λ (d : ℕ). d == a.conn) (late_conns most frame all)) a (staying (late_conns most frame all) admins) admins
    refl (not_late most frame all all a found there.0) (joined_by most frame all admins found there.1)

-- who has joined stays
pub joined_stay : (most frame : ℕ) (admins : List Admin) → AllFound admins admins
    → filter (λ (a : Admin). a.joined) (staying (late_conns most frame admins) admins) ≡ filter (λ (a : Admin). a.joined) admins
joined_stay most frame admins found = joined_by most frame admins admins found found

none_head : (b : Bool) (a : Admin) (admins : List Admin) → a.joined ≡ b → (b || list_any (λ (x : Admin). x.joined) admins) ≡ false
    → (list_any (λ (x : Admin). x.joined) admins ≡ false → filter (λ (x : Admin). x.joined) admins ≡ [])
    → cond b (a ∷ filter (λ (x : Admin). x.joined) admins) (filter (λ (x : Admin). x.joined) admins) ≡ []
none_head true a admins is none more = let no : true ≡ false = none in absurd cc
none_head false a admins is none more = more none

pub none_joined : (admins : List Admin) → list_any (λ (a : Admin). a.joined) admins ≡ false → filter (λ (a : Admin). a.joined) admins ≡ []
none_joined [] none = refl
none_joined (a ∷ admins) none = none_head a.joined a admins refl none (none_joined admins)
