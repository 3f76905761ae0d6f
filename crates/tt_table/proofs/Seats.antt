-- The admins behind a change: one that comes in has a seat, and there is at most one more.
use Rattle.std.proofs.Common.{◌≡◌, ◌∙◌, ap, sym, ℕ, ◌+◌, ◌≤◌, Bool, true, false, List, [], ◌∷◌, ◌++◌, Option, Some, None}
use Rattle.std.proofs.Common.{arith, length, refl, subst}
use Rattle.std.specs.Prelude.{cond, filter, find, nat_le, not, ◌==◌, ◌||◌}
use Rattle.std.proofs.lemmas.Bool.{eqb-true, eq-eqb, ne_eqb}
use Rattle.std.specs.List.{list_any}
use Rattle.std.proofs.lemmas.List.{length-append, length-map}
use Rattle.tt_edge.specs.declared.event.Event.{Event}
use Rattle.tt_log.specs.Admin.{Admin, new_admin}
use Rattle.tt_log.specs.Events.{by_event}
use Rattle.tt_log.specs.History.{table_of}
use Rattle.tt_log.specs.Origin.{Origin}
use Rattle.tt_log.specs.Table.{Table, admin_of, is_admin_on}
use Rattle.tt_log.specs.Desk.{admin_arrives}
use Rattle.tt_log.proofs.Strangers.{at-most-sixteen}
use Rattle.tt_admin_desk.specs.declared.heard.Heard.{Heard}
use Rattle.tt_admin_desk.specs.declared.heard.Heard.TheVariants.{Joined, Bits}
use Rattle.tt_admin_desk.specs.Seats.{committed, is_full, opening, seats}
use Rattle.tt_members.specs.Planned.{Planned}
use Rattle.tt_members.specs.Crew.{Crew}
use Rattle.tt_table.specs.declared.change.Change.{Change}
use Rattle.tt_table.specs.declared.change.Seating.{Seating}
use Rattle.tt_table.specs.declared.change.Seating.TheVariants.{Stay, Arrive, Settle, Leave}
use Rattle.tt_table.specs.Change.{committed_by, seated, settled}
use Rattle.tt_table.specs.Does.{IsChange}
use Rattle.tt_table.specs.Putting.{HasSeat, left_by}
use Rattle.tt_table.proofs.Counts.{one-more-member}
use Rattle.tt_table.proofs.Sixteen.{few-behind, fewer}

-- ---- a seat

free : (n : ℕ) → n + 1 ≤ 16 → nat_le 16 n ≡ false
free n less = grind (arith, less)

seat-by : (x : Seating) (t u : Table) → seated x t ≡ u.admins → length u.admins ≤ 16 → HasSeat x t.admins
seat-by Stay t u is few = tt
seat-by Arrive t u is few =
    let new : Admin = new_admin (t.openings + 1) t.frame in
    let more : length (t.admins ++ new ∷ []) ≡ length t.admins + 1 = length-append t.admins (new ∷ []) in
    let same : length (t.admins ++ new ∷ []) ≡ length u.admins = ap (λ (xs : List Admin). length xs) is in
    free (length t.admins) (omega (arith, more, same, few))
seat-by (Settle conn heard) t u is few = tt
seat-by (Leave conns) t u is few = tt

pub has-seat : (o : Origin) (es : List Event) (e : Event) (c : Change) → IsChange o e (table_of o es) c
    → HasSeat c.seating (table_of o es).admins
has-seat o es e c is =
    let t : Table = table_of o es in
    seat-by c.seating t (by_event o e t).table (ap (λ (x : Table). x.admins) is.does.table) (few-behind o e t (at-most-sixteen o es))

-- ---- at most one more

settled-same : (heard : Heard) (a : Admin) (t : Table) → length (committed heard a t).admins ≡ length t.admins
settled-same Joined a t =
    let b : Admin = record a { joined = true } in length-map t.admins (λ (x : Admin). cond (x.conn == b.conn) b x)
settled-same (Bits kind bits) a t = length-map t.admins _
settled-same other a t = refl

settled-by : (x : Option Admin) (heard : Heard) (t : Table) → length (settled heard x t) ≤ length t.admins + 1
settled-by None heard t = omega arith
settled-by (Some a) heard t = let same = settled-same heard a t in omega (arith, same)

pub one-more-admin : (x : Seating) (t : Table) → length (seated x t) ≤ length t.admins + 1
one-more-admin Stay t = omega arith
one-more-admin Arrive t =
    let new : Admin = new_admin (t.openings + 1) t.frame in
    let more : length (t.admins ++ new ∷ []) ≡ length t.admins + 1 = length-append t.admins (new ∷ []) in omega (arith, more)
one-more-admin (Settle conn heard) t = settled-by (admin_of t conn) heard t
one-more-admin (Leave conns) t =
    let less = fewer (λ (a : Admin). not (list_any (λ c. c == a.conn) conns)) t.admins in omega (arith, less)

pub one-more-by : (p : Option Planned) (crew : Crew) → length (committed_by p crew).members ≤ length crew.members + 1
one-more-by None crew = omega arith
one-more-by (Some p) crew = one-more-member p crew.members

-- ---- admins that leave, one after another

same-test : (b : Bool) (x y : ℕ) → (x == y) ≡ b → (y == x) ≡ b
same-test true x y is = eq-eqb y x (sym (eqb-true x y is))
same-test false x y is = ne_eqb y x (λ e. let so : (x == y) ≡ true = eq-eqb x y (sym e) in absurd cc)

left-both : (x y z : Bool) (a : Admin) (conns : List ℕ) (rest left : List Admin) → x ≡ y
    → left_by conns rest ≡ left → left_by conns (a ∷ rest) ≡ cond (not z) (a ∷ left) left
    → cond (not (x || z)) (a ∷ left) left ≡ left_by conns (cond (not y) (a ∷ rest) rest)
left-both true true z a conns rest left same is more = sym is
left-both false false z a conns rest left same is more = sym more
left-both true false z a conns rest left same is more = absurd cc
left-both false true z a conns rest left same is more = absurd cc

pub left-one : (conn : ℕ) (conns : List ℕ) (admins : List Admin)
    → left_by (conn ∷ conns) admins ≡ left_by conns (filter (λ (a : Admin). not (is_admin_on conn a)) admins)
left-one conn conns [] = refl
left-one conn conns (a ∷ admins) =
    let rest : List Admin = filter (λ (b : Admin). not (is_admin_on conn b)) admins in
    let after : left_by (conn ∷ conns) admins ≡ left_by conns rest = left-one conn conns admins in
    ap (λ (xs : List Admin). cond (not ((conn == a.conn) || list_any (λ c. c == a.conn) conns)) (a ∷ xs) xs) after
    ∙ left-both (conn == a.conn) (is_admin_on conn a) (list_any (λ c. c == a.conn) conns) a conns rest (left_by conns rest)
    (same-test (is_admin_on conn a) a.conn conn refl) refl refl

-- ---- what was heard of an admin

pub settled-is : (x : Option Admin) (conn : ℕ) (heard : Heard) (t : Table) (before after : List Admin) → find (is_admin_on conn) before ≡ x
    → ((a : Admin) → find (is_admin_on conn) before ≡ Some a → after ≡ (committed heard a (seats before t)).admins)
    → (find (is_admin_on conn) before ≡ None → after ≡ before)
    → after ≡ settled heard x (seats before t)
settled-is None conn heard t before after is found absent = absent is
settled-is (Some a) conn heard t before after is found absent = found a is

pub left-none : (admins : List Admin) → left_by [] admins ≡ admins
left-none [] = refl
left-none (a ∷ admins) = ap (λ (xs : List Admin). a ∷ xs) (left-none admins)

-- ---- one that comes in

pub arrived : (x : Seating) (opened frame : ℕ) (t : Table) (before after : List Admin) → x ≡ Arrive → HasSeat x before
    → after ≡ (admin_arrives (is_full before) (opening (opened + 1) frame (seats before t))).table.admins
    → after ≡ seated x (seats before (opening opened frame t))
arrived x opened frame t before after is room came =
    let free : is_full before ≡ false = subst (λ (y : Seating). HasSeat y before) is room in
    came ∙ ap (λ (b : Bool). (admin_arrives b (opening (opened + 1) frame (seats before t))).table.admins) free
    ∙ ap (λ (y : Seating). seated y (seats before (opening opened frame t))) (sym is)
