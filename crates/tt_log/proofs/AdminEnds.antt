-- An admin that is refused ends alone.
use Rattle.std.proofs.Common.{◌≡◌, inr, ℕ, ◌+◌, List, [], ◌∷◌, ◌++◌, refl, ap, ap₂, sym, ◌∙◌, subst, true, false, Bool, Option, Some, None}
use Rattle.std.specs.Prelude.{◌==◌, ◌&&◌, ◌||◌, not, nat_le, cond, filter, find, is_some}
use Rattle.std.specs.List.{AllByRecursion}
use Rattle.std.proofs.lemmas.Bool.{eqb-true, eq-eqb}
use Rattle.tt_edge.specs.declared.event.Event.{Event}
use Rattle.tt_edge.specs.declared.event.Event.TheVariants.{Open, Packet, Broken, Shut, Tick, Stop}
use Rattle.tt_edge.specs.Event.{event_cost}
use Rattle.tt_admin.specs.declared.message.AdminMsg.TheVariants as admins
use Rattle.tt_rules.specs.declared.status.Verdict.{Verdict}
use Rattle.tt_log.specs.Origin.{Origin}
use Rattle.tt_log.specs.Member.{Member}
use Rattle.tt_log.specs.Admin.{Admin}
use Rattle.tt_log.specs.Table.{Table, member_of, admin_of, is_live, is_admin_on, without_admin}
use Rattle.tt_log.specs.Deed.{Said, admin, Deed, ◌▹◌, where_}
use Rattle.tt_log.specs.Desk.{read_admin, admin_ends, admin_hears, by_admin_verdict}
use Rattle.tt_log.specs.Doors.{AdminEndsWith, IsShutdown}
use Rattle.tt_log.specs.Events.{read_msg, heard, to_named, by_event, charged, stops, closed, shut_down, taken, takes, deed, stepped}
use Rattle.tt_log.specs.Events.{last_frame}
use Rattle.tt_log.specs.History.{table_of}
use Rattle.tt_log.specs.Tellings.{Filling, filled, filling}
use Rattle.tt_log.specs.Told.{kept_if, told_to, told}
use Rattle.tt_log.proofs.Lists.{NotIn, found-passes}
use Rattle.tt_log.proofs.Crew.{conns, admin_conns}
use Rattle.tt_log.proofs.Clock.{over-is-empty}
use Rattle.tt_log.proofs.Ordered.{Ordered, is-ordered, no-admin}
use Rattle.tt_log.proofs.Hearing.{Says, heard-all}
use Rattle.tt_log.proofs.Malformed.{none-member, closed-silent, closed-gone, closed-not, silent-told, where-taken}
use Rattle.tt_log.proofs.Refusing.{table-snoc}

-- ---- who is an admin is no member

pub no-member : (t : Table) (conn : ℕ) (a : Admin) → Ordered t → admin_of t conn ≡ Some a → member_of t conn ≡ None
no-member t conn a order is = by (member_of t conn) refl
  where
    by : (x : Option Member) → member_of t conn ≡ x → x ≡ None
    by None at = refl
    by (Some m) at = let none : admin_of t conn ≡ None = no-admin t conn m order at in absurd cc

left-by : (b : Bool) (c : ℕ) (x : Admin) (few : List Admin) → (x.conn == c) ≡ b → NotIn c (admin_conns few)
    → NotIn c (admin_conns (cond (not b) (x ∷ few) few))
left-by true c x few is a = a
left-by false c x few is a = (is, a)

-- ---- the event is that of an admin that is refused

at-admin : (o : Origin) (t : Table) (e : Event) (a : Admin) (code : ℕ) → AdminEndsWith o t e a code → admin_of t a.conn ≡ Some a
at-admin o t (Packet conn kind body) a code is = subst (λ k. admin_of t k ≡ Some a) (sym (eqb-true a.conn conn
    (found-passes (is_admin_on conn) a t.admins is.0))) is.0
at-admin o t (Broken conn) a code is = subst (λ k. admin_of t k ≡ Some a) (sym (eqb-true a.conn conn
    (found-passes (is_admin_on conn) a t.admins is.0))) is.0
at-admin o t (Open door peer) a code is = absurd is
at-admin o t (Shut conn) a code is = absurd is
at-admin o t Tick a code is = absurd is
at-admin o t Stop a code is = absurd is

admin-event : (o : Origin) (t : Table) (e : Event) (a : Admin) (code : ℕ) → Ordered t → AdminEndsWith o t e a code → by_event o e t
    ≡ admin_ends a code t
admin-event o t (Packet conn kind body) a code order is =
    ap₂ (λ (x : Option Member) (y : Option Admin). to_named x y (heard o (read_msg kind body)) (admin_hears o (read_admin kind body)) t)
    (no-member t conn a order is.0) is.0
    ∙ ap (λ (v : Verdict). by_admin_verdict v a (read_admin kind body) t) is.1
admin-event o t (Broken conn) a code order is =
    ap₂ (λ (x : Option Member) (y : Option Admin). to_named x y (heard o None) (admin_hears o None) t) (no-member t conn a order is.0) is.0
    ∙ ap (λ (v : Verdict). by_admin_verdict v a None t) is.1
admin-event o t (Open door peer) a code order is = absurd is
admin-event o t (Shut conn) a code order is = absurd is
admin-event o t Tick a code order is = absurd is
admin-event o t Stop a code order is = absurd is

-- it is there, so the game is not over, and the event is taken
there : (t : Table) (conn : ℕ) (a : Admin) → ((t.over ≡ true) → (t.members ≡ []) × (t.admins ≡ []) × (t.queue ≡ []))
    → admin_of t conn ≡ Some a → (not t.over && is_live t conn) ≡ true
there t conn a empty is = by t.over refl
  where
    or-true : (x : Bool) → (x || true) ≡ true
    or-true true = refl
    or-true false = refl

    by : (b : Bool) → t.over ≡ b → (not b && is_live t conn) ≡ true
    by true over = let none : find (is_admin_on conn) t.admins ≡ None = ap (λ (xs : List Admin). find (is_admin_on conn) xs)
        (empty over).1 in
        absurd (cc (none, is))
    by false over = rw is (or-true (is_some (member_of t conn)))

admin-taken : (o : Origin) (t : Table) (e : Event) (a : Admin) (code : ℕ) → AdminEndsWith o t e a code → ((t.over ≡ true)
    → (t.members ≡ []) × (t.admins ≡ []) × (t.queue ≡ [])) → takes t e ≡ true
admin-taken o t (Packet conn kind body) a code is empty = there t conn a empty is.0
admin-taken o t (Broken conn) a code is empty = there t conn a empty is.0
admin-taken o t (Open door peer) a code is empty = absurd is
admin-taken o t (Shut conn) a code is empty = absurd is
admin-taken o t Tick a code is empty = absurd is
admin-taken o t Stop a code is empty = absurd is

-- ---- what it does

-- without it, an admin's connection has none
pub none-aside : (c : ℕ) (xs : List Admin) → NotIn c (admin_conns (filter (λ b. not (is_admin_on c b)) xs))
none-aside c [] = tt
none-aside c (x ∷ xs) = left-by (x.conn == c) c x (filter (λ b. not (is_admin_on c b)) xs) refl (none-aside c xs)

-- the table without it, which the event has cost something
abbrev pub Left : Table → Admin → Event → Table
Left t a e = record (without_admin a.conn t) { cost = t.cost + event_cost e }

abbrev Closes : Origin → Table → Event → Bool → Bool
Closes o v e stopped = stopped || nat_le o.setup.cost v.cost || (v.frame == last_frame)

abbrev Done : Origin → Table → Admin → ℕ → Event → Bool → Deed
Done o t a code e stopped = admin_ends a code t ▹ charged e ▹ closed o stopped

-- where the game is over all others are told so, and nothing else
shut-says : (b : Bool) (c : ℕ) (o : Origin) (f : Filling) (v : Table) (over : Bool) → (b ≡ true → over ≡ true)
    → AllByRecursion (Says (λ s. (over ≡ true) × IsShutdown s) c o f) (where_ b shut_down v).told
shut-says true c o f v over so = (inr ((so refl, tt), tt), (inr ((so refl, tt), tt), (inr tt, tt)))
shut-says false c o f v over so = tt

over-so : (b : Bool) (v : Table) → b ≡ true → (where_ b shut_down v).table.over ≡ true
over-so true v is = refl
over-so false v is = absurd cc

module _ (o : Origin) (es : List Event) (e : Event) (a : Admin) (code : ℕ) (is : AdminEndsWith o (table_of o es) e a code) where
  abbrev At : Table
  At = table_of o es

  abbrev Over : Bool
  Over = Closes o (Left At a e) e (stops o e At)

  deed-is : deed o e At ≡ Done o At a code e (stops o e At)
  deed-is = where-taken (takes At e) (taken o e) At (admin-taken o At e a code is (over-is-empty o es))
      ∙ ap (λ (d : Deed). d ▹ charged e ▹ closed o (stops o e At)) (admin-event o At e a code (is-ordered o es) is)

  no-one : NotIn a.conn (conns At.members)
  no-one = none-member a.conn (member_of At a.conn) At.members refl (no-member At a.conn a (is-ordered o es) (at-admin o At e a code is))

  behind : table_of o (es ++ e ∷ []) ≡ (where_ Over shut_down (Left At a e)).table
  behind = table-snoc o es e ∙ ap (λ (d : Deed). d.table) deed-is

  pub own-told : told o es e a.conn ≡ admin (admins.ServerError code) ∷ []
  own-told =
      let f : Filling = filling o At (stepped o At e) in
      ap (λ (d : Deed). told_to a.conn (filled o f d.told)) deed-is
      ∙ ap (λ (b : Bool). kept_if (b || false) (admin (admins.ServerError code)) (told_to a.conn (filled o f
      (where_ Over shut_down (Left At a e)).told))) (eq-eqb a.conn a.conn refl)
      ∙ ap (λ (said : List Said). admin (admins.ServerError code) ∷ said) (silent-told a.conn o f (where_ Over shut_down (Left At a e)).told
      (closed-silent Over a.conn (Left At a e) no-one (none-aside a.conn At.admins)))

  pub own-ends : is_live (table_of o (es ++ e ∷ [])) a.conn ≡ false
  own-ends = ap (λ (t : Table). is_live t a.conn) behind ∙ closed-gone Over a.conn (Left At a e) no-one (none-aside a.conn At.admins)

  pub others-told : (c : ℕ) → (a.conn == c) ≡ false → AllByRecursion (λ s. ((table_of o (es ++ e ∷ [])).over ≡ true) × IsShutdown s)
      (told o es e c)
  others-told c other =
      let f : Filling = filling o At (stepped o At e) in
      let over : Bool = (table_of o (es ++ e ∷ [])).over in
      let P : Said → Type 0 = λ s. (over ≡ true) × IsShutdown s in
      subst (λ (d : Deed). AllByRecursion P (told_to c (filled o f d.told))) (sym deed-is)
      (subst (λ (b : Bool). AllByRecursion P (kept_if (b || false) (admin (admins.ServerError code)) (told_to c (filled o f
      (where_ Over shut_down (Left At a e)).told)))) (sym other) (heard-all P c o f (where_ Over shut_down (Left At a e)).told
      (shut-says Over c o f (Left At a e) over (λ so. ap (λ (t : Table). t.over) behind ∙ over-so Over (Left At a e) so))))

  pub table-left : (table_of o (es ++ e ∷ [])).over ≡ false → table_of o (es ++ e ∷ []) ≡ Left At a e
  table-left going = behind ∙ closed-not Over (Left At a e) (ap (λ (t : Table). t.over) (sym behind) ∙ going)
