-- A change of one member that was found: by its marks, behind another name or a command that waits, and who is found then.
use Rattle.std.proofs.Common.{◌≡◌, ℕ, List, [], ◌∷◌, ◌++◌, refl, sym, ap, ap₂, ◌∙◌, true, false, Bool, Option, Some, arith}
use Rattle.std.specs.Prelude.{◌==◌, cond, find, option_map}
use Rattle.std.proofs.lemmas.Bool.{eq-eqb}
use Rattle.tt_log.specs.Member.{Member}
use Rattle.tt_log.specs.Table.{Table, is_on, member_of, with_member}
use Rattle.tt_members.specs.declared.marks.Marks.{Marks}
use Rattle.tt_members.specs.declared.edit.Edit.TheVariants.{Mark}
use Rattle.tt_members.specs.declared.edit.Offer.{Offer}
use Rattle.tt_members.specs.Rules.{Rise}
use Rattle.tt_members.specs.Edits.{on, marked, members_by}
use Rattle.tt_members.specs.Done.{renamed, offered}
use Rattle.tt_members.proofs.Behind.{edited}
use Rattle.tt_members.proofs.Found.{with_found, found_on, one_conn}

-- ---- who is found behind a change

changed_head : (p d : Bool) (h k : Member) (g : Member → Member) (more rest : Option Member) → p ≡ d → h ≡ g k → more ≡ option_map g rest
    → cond p (Some h) more ≡ option_map g (cond d (Some k) rest)
changed_head true true h k g more rest e same later = ap (λ m. Some m) same
changed_head true false h k g more rest e same later = grind (arith, e)
changed_head false true h k g more rest e same later = grind (arith, e)
changed_head false false h k g more rest e same later = later

pub find_changed : (x c : ℕ) (f : Member → Member) (ms : List Member) → ((m : Member) → (f m).conn ≡ m.conn)
    → find (is_on x) (on c f ms) ≡ option_map (λ n. cond (is_on c n) (f n) n) (find (is_on x) ms)
find_changed x c f [] keeps = refl
find_changed x c f (k ∷ ms) keeps =
    changed_head (is_on x (cond (is_on c k) (f k) k)) (is_on x k) (cond (is_on c k) (f k) k) k (λ n. cond (is_on c n) (f n) n)
    (find (is_on x) (on c f ms)) (find (is_on x) ms) (ap (λ (n : ℕ). n == x) (one_conn (is_on c k) f k keeps)) refl (find_changed x c f ms
    keeps)

-- the one that is changed
pub found_changed : (conn : ℕ) (f : Member → Member) (m : Member) (ms : List Member) → ((k : Member) → (f k).conn ≡ k.conn)
    → find (is_on conn) ms ≡ Some m → find (is_on conn) (on conn f ms) ≡ Some (f m)
found_changed conn f m ms keeps is =
    let own : is_on conn m ≡ true = eq-eqb m.conn conn (found_on conn m ms is) in
    find_changed conn conn f ms keeps ∙ ap (option_map (λ n. cond (is_on conn n) (f n) n)) is
    ∙ ap (λ (b : Bool). Some (cond b (f m) m)) own

other_head : (b d : Bool) (conn c : ℕ) (f : Member → Member) (k : Member) (few all : Option Member) → (k.conn == conn) ≡ b → (k.conn == c)
    ≡ d
    → (conn == c) ≡ false → (f k).conn ≡ k.conn → few ≡ all → cond (is_on c (cond b (f k) k)) (Some (cond b (f k) k)) few ≡ cond d (Some k)
    all
other_head true true conn c f k few all e g apart keeps same = grind (arith, e, g, apart)
other_head true false conn c f k few all e g apart keeps same =
    let h : ((f k).conn == c) ≡ false = ap (λ (n : ℕ). n == c) keeps ∙ g in
    rw h same
other_head false true conn c f k few all e g apart keeps same = rw g refl
other_head false false conn c f k few all e g apart keeps same = rw g same

-- another one
pub found_other : (conn c : ℕ) (f : Member → Member) (ms : List Member) → ((k : Member) → (f k).conn ≡ k.conn) → (conn == c) ≡ false
    → find (is_on c) (on conn f ms) ≡ find (is_on c) ms
found_other conn c f [] keeps apart = refl
found_other conn c f (k ∷ ms) keeps apart =
    other_head (k.conn == conn) (k.conn == c) conn c f k (find (is_on c) (on conn f ms)) (find (is_on c) ms) refl refl apart (keeps k)
    (found_other conn c f ms keeps apart)

-- ---- one change behind another

twice_head : (b : Bool) (conn : ℕ) (f g : Member → Member) (k : Member) → (k.conn == conn) ≡ b → (g k).conn ≡ k.conn
    → cond (is_on conn (cond b (g k) k)) (f (cond b (g k) k)) (cond b (g k) k) ≡ cond b (f (g k)) k
twice_head true conn f g k e keeps =
    let h : ((g k).conn == conn) ≡ true = ap (λ (n : ℕ). n == conn) keeps ∙ e in
    rw h refl
twice_head false conn f g k e keeps = rw e refl

pub on_twice : (conn : ℕ) (f g : Member → Member) (ms : List Member) → ((k : Member) → (g k).conn ≡ k.conn)
    → on conn f (on conn g ms) ≡ on conn (λ m. f (g m)) ms
on_twice conn f g [] keeps = refl
on_twice conn f g (k ∷ ms) keeps = ap₂ (λ x xs. x ∷ xs) (twice_head (k.conn == conn) conn f g k refl (keeps k)) (on_twice conn f g ms keeps)

-- ---- marks

-- the table in which the one that was found has these marks
pub mark_table : (marks : Marks) (m : Member) (t : Table) → Rise t.members → member_of t m.conn ≡ Some m
    → with_member (marked marks m) t ≡ edited (Mark m.conn marks ∷ []) t
mark_table marks m t rise is = with_found 0 m.conn (marked marks) m t rise is refl

-- the same behind another change of it
pub twice_table : (f g : Member → Member) (m : Member) (t : Table) → Rise t.members → member_of t m.conn ≡ Some m
    → ((k : Member) → (g k).conn ≡ k.conn) → ((k : Member) → (f k).conn ≡ k.conn)
    → with_member (f (g m)) t ≡ record t { members = on m.conn f (on m.conn g t.members) }
twice_table f g m t rise is keeps stays =
    with_found 0 m.conn (λ k. f (g k)) m t rise is (stays (g m) ∙ keeps m)
    ∙ ap (λ (ms : List Member). record t { members = ms }) (sym (on_twice m.conn f g t.members keeps))

-- it has another name and these marks
pub rename_table : (name : List ℕ) (marks : Marks) (m : Member) (t : Table) → Rise t.members → member_of t m.conn ≡ Some m
    → with_member (marked marks (record m { name = name })) t
    ≡ record t { members = members_by (Mark m.conn marks) (renamed (Some (m.conn, name)) t.members) }
rename_table name marks m t rise is = twice_table (marked marks) (λ k. record k { name = name }) m t rise is (λ k. refl) (λ k. refl)

-- it has another name
pub name_table : (name : List ℕ) (m : Member) (t : Table) → Rise t.members → member_of t m.conn ≡ Some m
    → with_member (record m { name = name }) t ≡ record t { members = renamed (Some (m.conn, name)) t.members }
name_table name m t rise is = with_found 0 m.conn (λ k. record k { name = name }) m t rise is refl

-- a command more of it waits
pub offer_table : (w : Offer) (m : Member) (t : Table) → Rise t.members → member_of t m.conn ≡ Some m → w.conn ≡ m.conn
    → with_member (record m { waiting = m.waiting ++ (w.company, w.command) ∷ [] }) t ≡ record t { members = offered (Some w) t.members }
offer_table w m t rise is same =
    with_found 0 m.conn (λ k. record k { waiting = k.waiting ++ (w.company, w.command) ∷ [] }) m t rise is refl
    ∙ ap (λ (c : ℕ). record t { members = on c (λ k. record k { waiting = k.waiting ++ (w.company, w.command) ∷ [] }) t.members }) (sym
    same)

-- who is found by a connection is found by its own
pub own_found : (conn : ℕ) (m : Member) (t : Table) → member_of t conn ≡ Some m → member_of t m.conn ≡ Some m
own_found conn m t is = ap (member_of t) (found_on conn m t.members is) ∙ is
