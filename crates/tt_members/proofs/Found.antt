-- Members are found by their connections, which rise.
use Rattle.std.proofs.Common.{◌≡◌, ℕ, ◌<◌, ◌≤◌, List, [], ◌∷◌, ◌++◌, refl, sym, subst, ap, ap₂, ◌∙◌, true, false, not, Bool, Option, Some}
use Rattle.std.proofs.Common.{None, arith}
use Rattle.std.specs.Prelude.{◌==◌, map, filter, find, cond}
use Rattle.tt_log.specs.Member.{Member, is_playing}
use Rattle.tt_log.specs.Table.{Table, is_on, with_member}
use Rattle.tt_log.specs.History.{AreRising}
use Rattle.tt_log.specs.Tick.{drawn}
use Rattle.tt_members.specs.declared.edit.Edit.{Edit}
use Rattle.tt_members.specs.declared.edit.Edit.TheVariants.{Mark, Begin, Draw, Permit, Move, Load, Leave, Unask}
use Rattle.tt_members.specs.declared.edit.Offer.{Offer}
use Rattle.tt_members.specs.Rules.{Rise}
use Rattle.tt_members.specs.Done.{offered, renamed}
use Rattle.tt_members.specs.Edits.{on, marked, loading, moved, loaded, permitted, permitted_by, words_by, members_by, members_after}

abbrev pub conns_of : List Member → List ℕ
conns_of ms = map (λ m. m.conn) ms

-- what is above a number
pub none_below : (n : ℕ) (conn : ℕ) (f : Member → Member) (ms : List Member) → AreRising n (conns_of ms) → conn ≤ n → on conn f ms ≡ ms
none_below n conn f [] rising low = refl
none_below n conn f (m ∷ ms) rising low =
    let other : (m.conn == conn) ≡ false = grind (arith, rising.0) in
    rw other (ap (λ xs. m ∷ xs) (none_below m.conn conn f ms rising.1 (omega (arith, rising.0, low))))

-- the same, where one value stands in for what is found
pub none_put : (n : ℕ) (conn : ℕ) (x : Member) (ms : List Member) → AreRising n (conns_of ms) → conn ≤ n → map (λ k. cond (k.conn == conn)
    x k) ms ≡ ms
none_put n conn x [] rising low = refl
none_put n conn x (m ∷ ms) rising low =
    let other : (m.conn == conn) ≡ false = grind (arith, rising.0) in
    rw other (ap (λ xs. m ∷ xs) (none_put m.conn conn x ms rising.1 (omega (arith, rising.0, low))))

-- ---- the one that is found

on_head : (b : Bool) (conn : ℕ) (k m : Member) (ms : List Member) → (k.conn == conn) ≡ b → cond b (Some k) (find (is_on conn) ms) ≡ Some m
    → (find (is_on conn) ms ≡ Some m → m.conn ≡ conn) → m.conn ≡ conn
on_head true conn k m ms e is later = grind (arith, e, is)
on_head false conn k m ms e is later = later is

pub found_on : (conn : ℕ) (m : Member) (ms : List Member) → find (is_on conn) ms ≡ Some m → m.conn ≡ conn
found_on conn m [] is = grind (arith, is)
found_on conn m (k ∷ ms) is = on_head (k.conn == conn) conn k m ms refl is (found_on conn m ms)

-- its value put in its place is a change of it there
put_head : (b : Bool) (conn : ℕ) (f : Member → Member) (k m : Member) (ms : List Member) → (k.conn == conn) ≡ b → AreRising k.conn
    (conns_of ms)
    → cond b (Some k) (find (is_on conn) ms) ≡ Some m
    → (find (is_on conn) ms ≡ Some m → map (λ x. cond (x.conn == conn) (f m) x) ms ≡ on conn f ms)
    → cond b (f m) k ∷ map (λ x. cond (x.conn == conn) (f m) x) ms ≡ cond b (f k) k ∷ on conn f ms
put_head true conn f k m ms e rising is later =
    let low : conn ≤ k.conn = grind (arith, e) in
    let same : k ≡ m = cc in
    ap₂ (λ x xs. x ∷ xs) (ap f (sym same)) (none_put k.conn conn (f m) ms rising low ∙ sym (none_below k.conn conn f ms rising low))
put_head false conn f k m ms e rising is later = ap (λ xs. k ∷ xs) (later is)

pub put_found : (n conn : ℕ) (f : Member → Member) (m : Member) (ms : List Member) → AreRising n (conns_of ms) → find (is_on conn) ms ≡
    Some m
    → map (λ x. cond (x.conn == conn) (f m) x) ms ≡ on conn f ms
put_found n conn f m [] rising is = refl
put_found n conn f m (k ∷ ms) rising is = put_head (k.conn == conn) conn f k m ms refl rising.1 is (put_found k.conn conn f m ms rising.1)

put_named : (c n conn : ℕ) (f : Member → Member) (m : Member) (ms : List Member) → c ≡ conn → AreRising n (conns_of ms) → find (is_on conn)
    ms ≡ Some m
    → map (λ x. cond (x.conn == c) (f m) x) ms ≡ on conn f ms
put_named c n conn f m ms same rising is = rw same (put_found n conn f m ms rising is)

-- where none is found nothing changes
no_head : (b : Bool) (conn : ℕ) (f : Member → Member) (k : Member) (ms : List Member) → cond b (Some k) (find (is_on conn) ms) ≡ None
    → (find (is_on conn) ms ≡ None → on conn f ms ≡ ms) → cond b (f k) k ∷ on conn f ms ≡ k ∷ ms
no_head true conn f k ms is later = grind (arith, is)
no_head false conn f k ms is later = ap (λ xs. k ∷ xs) (later is)

pub none_found : (conn : ℕ) (f : Member → Member) (ms : List Member) → find (is_on conn) ms ≡ None → on conn f ms ≡ ms
none_found conn f [] is = refl
none_found conn f (k ∷ ms) is = no_head (k.conn == conn) conn f k ms is (none_found conn f ms)

-- a table in which a member is put in the place of the one that was found
pub with_found : (n conn : ℕ) (f : Member → Member) (m : Member) (t : Table) → AreRising n (conns_of t.members) → find (is_on conn)
    t.members ≡ Some m → (f m).conn ≡ conn
    → with_member (f m) t ≡ record t { members = on conn f t.members }
with_found n conn f m t rising is same = ap (λ (ms : List Member). record t { members = ms }) (put_named (f m).conn n conn f m t.members
    same rising is)

-- ---- a change leaves the connections, and leaving leaves their order

pub one_conn : (b : Bool) (f : Member → Member) (m : Member) → ((k : Member) → (f k).conn ≡ k.conn) → (cond b (f m) m).conn ≡ m.conn
one_conn true f m keeps = keeps m
one_conn false f m keeps = refl

pub one_conns : (conn : ℕ) (f : Member → Member) (ms : List Member) → ((m : Member) → (f m).conn ≡ m.conn) → conns_of (on conn f ms) ≡
    conns_of ms
one_conns conn f [] keeps = refl
one_conns conn f (m ∷ ms) keeps = ap₂ (λ x xs. x ∷ xs) (one_conn (is_on conn m) f m keeps) (one_conns conn f ms keeps)

pub rise_lower : (n k : ℕ) (xs : List ℕ) → n ≤ k → AreRising k xs → AreRising n xs
rise_lower n k [] low rising = tt
rise_lower n k (x ∷ xs) low rising = (omega (arith, low, rising.0), rising.1)

rise_kept : (b : Bool) (n : ℕ) (m : Member) (ms : List Member) → n < m.conn → AreRising m.conn (conns_of ms) → AreRising n (conns_of (cond
    b (m ∷ ms) ms))
rise_kept true n m ms above rising = (above, rising)
rise_kept false n m ms above rising = rise_lower n m.conn (conns_of ms) (omega (arith, above)) rising

pub rise_filter : (n : ℕ) (p : Member → Bool) (ms : List Member) → AreRising n (conns_of ms) → AreRising n (conns_of (filter p ms))
rise_filter n p [] rising = tt
rise_filter n p (m ∷ ms) rising = rise_kept (p m) n m (filter p ms) rising.0 (rise_filter m.conn p ms rising.1)

-- a change of each member that leaves its connection
pub all_conns : (f : Member → Member) (ms : List Member) → ((m : Member) → (f m).conn ≡ m.conn) → conns_of (map f ms) ≡ conns_of ms
all_conns f [] keeps = refl
all_conns f (m ∷ ms) keeps = ap₂ (λ x xs. x ∷ xs) (keeps m) (all_conns f ms keeps)

permit_keeps : (b : Bool) (frame top : ℕ) (words : ℕ × ℕ) (m : Member) → (permitted_by b frame top words m).conn ≡ m.conn
permit_keeps true frame top words m = refl
permit_keeps false frame top words m = refl

pub permit_conns : (frame top : ℕ) (words : ℕ × ℕ) (ms : List Member) → conns_of (permitted frame top words ms) ≡ conns_of ms
permit_conns frame top words [] = refl
permit_conns frame top words (m ∷ ms) = ap₂ (λ x xs. x ∷ xs)
    (one_conn (is_playing m) (permitted_by (m.token == 0) frame top words) m (permit_keeps (m.token == 0) frame top words))
    (permit_conns frame top (words_by m words) ms)

-- ---- each change leaves the order

pub rise_by : (e : Edit) (ms : List Member) → Rise ms → Rise (members_by e ms)
rise_by (Mark conn marks) ms rising = subst (AreRising 0) (sym (one_conns conn (marked marks) ms (λ m. refl))) rising
rise_by (Begin conn frame) ms rising = subst (AreRising 0) (sym (one_conns conn (loading frame) ms (λ m. refl))) rising
rise_by Draw ms rising = subst (AreRising 0) (sym (all_conns drawn ms (λ m. refl))) rising
rise_by (Permit frame top words) ms rising = subst (AreRising 0) (sym (permit_conns frame top words ms)) rising
rise_by (Move conn company) ms rising = subst (AreRising 0) (sym (one_conns conn (moved company) ms (λ m. refl))) rising
rise_by (Load conn pieces status) ms rising = subst (AreRising 0) (sym (one_conns conn (loaded pieces status) ms (λ m. refl))) rising
rise_by (Leave conn) ms rising = rise_filter 0 (λ n. not (is_on conn n)) ms rising
rise_by (Unask conn) ms rising = rising

pub rise_after : (es : List Edit) (ms : List Member) → Rise ms → Rise (members_after es ms)
rise_after [] ms rising = rising
rise_after (e ∷ es) ms rising = rise_after es (members_by e ms) (rise_by e ms rising)

pub rise_renamed : (name : Option (ℕ × List ℕ)) (ms : List Member) → Rise ms → Rise (renamed name ms)
rise_renamed None ms rising = rising
rise_renamed (Some n) ms rising = subst (AreRising 0) (sym (one_conns n.0 (λ m. record m { name = n.1 }) ms (λ m. refl))) rising

pub rise_offered : (offer : Option Offer) (ms : List Member) → Rise ms → Rise (offered offer ms)
rise_offered None ms rising = rising
rise_offered (Some w) ms rising =
    subst (AreRising 0) (sym (one_conns w.conn (λ m. record m { waiting = m.waiting ++ (w.company, w.command) ∷ [] }) ms (λ m. refl)))
    rising
