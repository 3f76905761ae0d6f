-- The limits of admins: who is late is told its code and ends, as the book of a game says it admin by admin.
use Rattle.std.proofs.Common.{◌≡◌, ℕ, ◌<◌, List, [], ◌∷◌, ◌++◌, refl, ap, ap₂, sym, ◌∙◌, true, false, Bool, Option, Some, cond, arith}
use Rattle.std.specs.Prelude.{◌==◌, ◌||◌, not, map, filter, find}
use Rattle.std.specs.List.{AllByRecursion, list_any}
use Rattle.std.proofs.lemmas.Bool.{eq-eqb, eqb-true, ne_eqb}
use Rattle.tt_rules.specs.Codes.{timeout_computer}
use Rattle.tt_log.specs.declared.deed.Step.{Step}
use Rattle.tt_log.specs.Admin.{Admin}
use Rattle.tt_log.specs.Deed.{Deed, ◌▹◌, where_, where_some}
use Rattle.tt_log.specs.Desk.{admin_ends, admin_limited, each_admin_limited, is_slow}
use Rattle.tt_log.specs.History.{AreRising}
use Rattle.tt_log.specs.Origin.{Origin}
use Rattle.tt_log.specs.Table.{Table, is_admin_on, without_admin}
use Rattle.tt_log.proofs.Crew.{admin_conns}
use Rattle.tt_members.specs.Steps.{steps_in}
use Rattle.tt_table.specs.Ticking.{is_late, late_conns, limit_steps}

-- ---- each admin is found on its connection

abbrev pub AllFound : List Admin → List Admin → Type 0
AllFound all admins = AllByRecursion (λ (a : Admin). find (is_admin_on a.conn) all ≡ Some a) admins

-- it is another connection than those of admins that came later
abbrev IsApart : ℕ → Admin → Type 0
IsApart c a = (c == a.conn) ≡ false

above_apart : (k c : ℕ) (admins : List Admin) → AreRising k (admin_conns admins) → c ≡ k → AllByRecursion (IsApart c) admins
above_apart k c [] rise is = tt
above_apart k c (a ∷ admins) rise is =
    let later : k < a.conn = rise.0 in
    (ne_eqb c a.conn (λ same. omega (arith, same, later, is)), each a.conn admins rise.1 (omega (arith, later, is)))
  where
    each : (n : ℕ) (more : List Admin) → AreRising n (admin_conns more) → c < n → AllByRecursion (IsApart c) more
    each n [] up low = tt
    each n (b ∷ more) up low =
        let later : n < b.conn = up.0 in
        (ne_eqb c b.conn (λ same. omega (arith, same, later, low)), each b.conn more up.1 (omega (arith, later, low)))

found_here : (a : Admin) (more : List Admin) → find (is_admin_on a.conn) (a ∷ more) ≡ Some a
found_here a more = ap (λ (b : Bool). cond b (Some a) (find (is_admin_on a.conn) more)) (eq-eqb a.conn a.conn refl)

found_behind : (a b : Admin) (more : List Admin) → IsApart a.conn b → find (is_admin_on b.conn) more ≡ Some b
    → find (is_admin_on b.conn) (a ∷ more) ≡ Some b
found_behind a b more apart found =
    ap (λ (c : Bool). cond c (Some a) (find (is_admin_on b.conn) more)) apart ∙ found

all_behind : (a : Admin) (more later : List Admin) → AllByRecursion (IsApart a.conn) later → AllFound more later
    → AllFound (a ∷ more) later
all_behind a more [] apart found = tt
all_behind a more (b ∷ later) apart found =
    (found_behind a b more apart.0 found.0, all_behind a more later apart.1 found.1)

pub all_found : (k : ℕ) (admins : List Admin) → AreRising k (admin_conns admins) → AllFound admins admins
all_found k [] rise = tt
all_found k (a ∷ admins) rise = (
  found_here a admins,
  all_behind a admins admins (above_apart a.conn a.conn admins rise.1 refl) (all_found a.conn admins rise.1),
)

-- ---- where one has left

abbrev left_by : ℕ → List Admin → List Admin
left_by c admins = filter (λ (a : Admin). not (is_admin_on c a)) admins

left_head : (b : Bool) (c d : ℕ) (a : Admin) (few all : List Admin) → (a.conn == c) ≡ b → (c == d) ≡ false
    → find (is_admin_on d) few ≡ find (is_admin_on d) all
    → find (is_admin_on d) (cond (not b) (a ∷ few) few) ≡ cond (a.conn == d) (Some a) (find (is_admin_on d) all)
left_head true c d a few all is apart same =
    let e : (a.conn == d) ≡ false = ap (λ (n : ℕ). n == d) (eqb-true a.conn c is) ∙ apart in
    rw e same
left_head false c d a few all is apart same = ap (λ (r : Option Admin). cond (a.conn == d) (Some a) r) same

found_left : (c d : ℕ) (admins : List Admin) → (c == d) ≡ false → find (is_admin_on d) (left_by c admins) ≡ find (is_admin_on d) admins
found_left c d [] apart = refl
found_left c d (a ∷ admins) apart =
    left_head (a.conn == c) c d a (left_by c admins) admins refl apart (found_left c d admins apart)

all_left : (c : ℕ) (all admins : List Admin) → AllByRecursion (IsApart c) admins → AllFound all admins → AllFound (left_by c all) admins
all_left c all [] apart found = tt
all_left c all (a ∷ admins) apart found =
    (found_left c a.conn all apart.0 ∙ found.0, all_left c all admins apart.1 found.1)

-- ---- who stays

abbrev pub staying : List ℕ → List Admin → List Admin
staying conns admins = filter (λ (a : Admin). not (list_any (λ (c : ℕ). c == a.conn) conns)) admins

all_stay : (admins : List Admin) → staying [] admins ≡ admins
all_stay [] = refl
all_stay (a ∷ admins) = ap (λ (more : List Admin). a ∷ more) (all_stay admins)

turned : (m n : ℕ) → (m == n) ≡ (n == m)
turned m n = by (n == m) refl
  where
    by : (b : Bool) → (n == m) ≡ b → (m == n) ≡ b
    by true is = eq-eqb m n (sym (eqb-true n m is))
    by false is = ne_eqb m n (λ same. let e : (n == m) ≡ true = eq-eqb n m (sym same) in absurd cc)

twice_head : (b d : Bool) (a : Admin) (f : Admin → Bool) (xs ys : List Admin) → f a ≡ d → filter f xs ≡ ys
    → filter f (cond (not b) (a ∷ xs) xs) ≡ cond (not (b || not d)) (a ∷ ys) ys
twice_head true d a f xs ys is same = same
twice_head false true a f xs ys is same = ap₂ (λ (t : Bool) (zs : List Admin). cond t (a ∷ zs) zs) is same
twice_head false false a f xs ys is same = ap₂ (λ (t : Bool) (zs : List Admin). cond t (a ∷ zs) zs) is same

-- one leaves, and then others
staying_more : (c : ℕ) (conns : List ℕ) (admins : List Admin) → staying conns (left_by c admins) ≡ staying (c ∷ conns) admins
staying_more c conns [] = refl
staying_more c conns (a ∷ admins) =
    let any : Bool = list_any (λ (d : ℕ). d == a.conn) conns in
    let ys : List Admin = staying (c ∷ conns) admins in
    twice_head (a.conn == c) (not any) a (λ (b : Admin). not (list_any (λ (d : ℕ). d == b.conn) conns)) (left_by c admins) ys refl
    (staying_more c conns admins)
    ∙ ap₂ (λ (t u : Bool). cond (not (t || u)) (a ∷ ys) ys) (turned a.conn c) (not_not any)
  where
    not_not : (b : Bool) → not (not b) ≡ b
    not_not true = refl
    not_not false = refl

-- ---- the book's rule

abbrev pub told_at : Table → List Step → Deed
told_at t told = record { table = t; told = told }

-- what is left behind the limits, and what they tell, as a plan says it
abbrev pub limited_to : List ℕ → List Admin → Table → Deed
limited_to conns audience t = told_at (record t { admins = staying conns t.admins }) (steps_in audience (limit_steps conns))

limit_head : (b : Bool) (o : Origin) (a : Admin) (more audience : List Admin) (t : Table) → is_slow o t.frame a ≡ b
    → ((u : Table) → u.frame ≡ t.frame → AllFound u.admins more → each_admin_limited o more u
    ≡ limited_to (late_conns o.setup.init t.frame more) audience u)
    → AllByRecursion (IsApart a.conn) more → AllFound t.admins more
    → (where_ b (admin_ends a timeout_computer) t ▹ each_admin_limited o more)
    ≡ limited_to (map (λ (x : Admin). x.conn) (cond b (a ∷ filter (is_late o.setup.init t.frame) more) (filter (is_late o.setup.init
    t.frame) more))) audience t
limit_head true o a more audience t is rest apart found =
    let conns : List ℕ = late_conns o.setup.init t.frame more in
    let u : Table = without_admin a.conn t in
    let ended : each_admin_limited o more u ≡ limited_to conns audience u = rest u refl (all_left a.conn t.admins more apart found) in
    ap (λ (d : Deed). told_at d.table (steps_in audience (limit_steps (a.conn ∷ [])) ++ d.told)) ended
    ∙ ap (λ (xs : List Admin). told_at (record t { admins = xs }) (steps_in audience (limit_steps (a.conn ∷ conns))))
    (staying_more a.conn conns t.admins)
limit_head false o a more audience t is rest apart found = rest t refl found

pub limits_are : (o : Origin) (k : ℕ) (admins audience : List Admin) (t : Table) → AreRising k (admin_conns admins)
    → AllFound t.admins admins
    → each_admin_limited o admins t ≡ limited_to (late_conns o.setup.init t.frame admins) audience t
limits_are o k [] audience t rise found = ap (λ (xs : List Admin). told_at (record t { admins = xs }) []) (sym (all_stay t.admins))
limits_are o k (a ∷ admins) audience t rise found =
    ap (λ (x : Option Admin). where_some x (admin_limited o) t ▹ each_admin_limited o admins) found.0
    ∙ limit_head (is_slow o t.frame a) o a admins audience t refl (λ u same there. limits_are o a.conn admins audience u rise.1 there
    ∙ ap (λ (frame : ℕ). limited_to (late_conns o.setup.init frame admins) audience u) same) (above_apart a.conn a.conn admins rise.1 refl)
    found.1
