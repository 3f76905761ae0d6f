-- Members in their list: one is found, put in the place of the one on its connection, or taken out.
use Rattle.std.proofs.Common.{◌≡◌, inl, inr, ℕ, List, [], ◌∷◌, refl, ap, ap₂, sym, ◌∙◌, true, false, Bool, Option, Some}
use Rattle.std.specs.Prelude.{◌==◌, map, find, filter, cond, not, ◌||◌, is_some}
use Rattle.std.specs.List.{AllByRecursion, list_any}
use Rattle.std.proofs.lemmas.Bool.{eqb-true, eq-eqb}
use Rattle.tt_log.specs.Member.{Member, is_playing}
use Rattle.tt_log.specs.Admin.{Admin}
use Rattle.tt_log.specs.Table.{Table, is_on, is_admin_on, member_of, playing, without_member}
use Rattle.tt_log.proofs.Lists.{Among, NotIn, Within, found-among, found-passes}

-- a member of the table
abbrev pub On : Table → Member → Type 0
On t m = Among m t.members

abbrev pub OnAdmin : Table → Admin → Type 0
OnAdmin t a = Among a t.admins

pub on-found : (t : Table) (conn : ℕ) (m : Member) → member_of t conn ≡ Some m → On t m
on-found t conn m is = found-among (is_on conn) m t.members is

pub found-on : (conn : ℕ) (ms : List Member) (m : Member) → find (is_on conn) ms ≡ Some m → m.conn ≡ conn
found-on conn ms m is = eqb-true m.conn conn (found-passes (is_on conn) m ms is)

-- the member stands in the place of the one on its connection
abbrev pub put : Member → List Member → List Member
put m ms = map (λ n. cond (n.conn == m.conn) m n) ms

abbrev pub others : ℕ → List Member → List Member
others conn ms = filter (λ m. not (is_on conn m)) ms

put-among-here : (n m : Member) (ms : List Member) → n.conn ≡ m.conn → Among n (put n (m ∷ ms))
put-among-here n m ms same = inl (rw (eq-eqb m.conn n.conn (sym same)) refl)

pub put-among : (n m : Member) (ms : List Member) → n.conn ≡ m.conn → Among m ms → Among n (put n ms)
put-among n m [] same there = absurd there
put-among n m (x ∷ xs) same (inl here) = put-among-here n x xs (same ∙ ap (λ (y : Member). y.conn) (sym here))
put-among n m (x ∷ xs) same (inr later) = inr (put-among n m xs same later)

-- and the admin in the place of the one on its connection
abbrev pub put_admin : Admin → List Admin → List Admin
put_admin a admins = map (λ b. cond (b.conn == a.conn) a b) admins

put-admin-here : (b a : Admin) (admins : List Admin) → b.conn ≡ a.conn → Among b (put_admin b (a ∷ admins))
put-admin-here b a admins same = inl (rw (eq-eqb a.conn b.conn (sym same)) refl)

pub put-admin-among : (b a : Admin) (admins : List Admin) → b.conn ≡ a.conn → Among a admins → Among b (put_admin b admins)
put-admin-among b a [] same there = absurd there
put-admin-among b a (x ∷ xs) same (inl here) = put-admin-here b x xs (same ∙ ap (λ (y : Admin). y.conn) (sym here))
put-admin-among b a (x ∷ xs) same (inr later) = inr (put-admin-among b a xs same later)

pub put-one : (P : Member → Type 0) (b : Bool) (n x : Member) → P n → P x → P (cond b n x)
put-one P true n x p q = p
put-one P false n x p q = q

pub put-all : (P : Member → Type 0) (n : Member) (ms : List Member) → P n → AllByRecursion P ms → AllByRecursion P (put n ms)
put-all P n [] p a = tt
put-all P n (x ∷ xs) p a = (put-one P (x.conn == n.conn) n x p a.0, put-all P n xs p a.1)

-- ---- their connections

abbrev pub conns : List Member → List ℕ
conns ms = map (λ (m : Member). m.conn) ms

put-conn : (b : Bool) (m n : Member) → (n.conn == m.conn) ≡ b → (cond b m n).conn ≡ n.conn
put-conn true m n is = sym (eqb-true n.conn m.conn is)
put-conn false m n is = refl

pub put-conns : (m : Member) (ms : List Member) → conns (put m ms) ≡ conns ms
put-conns m [] = refl
put-conns m (n ∷ ns) = ap₂ (λ (x : ℕ) (xs : List ℕ). x ∷ xs) (put-conn (n.conn == m.conn) m n refl) (put-conns m ns)

-- of admins too
abbrev pub admin_conns : List Admin → List ℕ
admin_conns admins = map (λ (a : Admin). a.conn) admins

put-admin-conn : (b : Bool) (a x : Admin) → (x.conn == a.conn) ≡ b → (cond b a x).conn ≡ x.conn
put-admin-conn true a x is = sym (eqb-true x.conn a.conn is)
put-admin-conn false a x is = refl

pub put-admin-conns : (a : Admin) (admins : List Admin) → admin_conns (put_admin a admins) ≡ admin_conns admins
put-admin-conns a [] = refl
put-admin-conns a (x ∷ xs) = ap₂ (λ (y : ℕ) (ys : List ℕ). y ∷ ys) (put-admin-conn (x.conn == a.conn) a x refl) (put-admin-conns a xs)

pub live-conns : (c : ℕ) (ms : List Member) → is_some (find (is_on c) ms) ≡ list_any (λ x. x == c) (conns ms)
live-conns c [] = refl
live-conns c (m ∷ ms) = elim (m.conn == c) as (λ b. is_some (cond b (Some m) (find (is_on c) ms))
    ≡ (b || list_any (λ x. x == c) (conns ms))) [ true ↦ refl | false ↦ live-conns c ms ]

pub live-admins : (c : ℕ) (admins : List Admin) → is_some (find (is_admin_on c) admins) ≡ list_any (λ x. x == c) (admin_conns admins)
live-admins c [] = refl
live-admins c (a ∷ rest) = elim (a.conn == c) as (λ b. is_some (cond b (Some a) (find (is_admin_on c) rest))
    ≡ (b || list_any (λ x. x == c) (admin_conns rest))) [ true ↦ refl | false ↦ live-admins c rest ]

-- ---- who is found

find-here-by : (b : Bool) (n x : Member) (rest : Option Member) → (x.conn == n.conn) ≡ b → (b ≡ false → rest ≡ Some n)
    → cond ((cond b n x).conn == n.conn) (Some (cond b n x)) rest ≡ Some n
find-here-by true n x rest is later = rw (eq-eqb n.conn n.conn refl) refl
find-here-by false n x rest is later = rw is (later refl)

found-later : (b : Bool) (x k : Member) (rest : Option Member) → cond b (Some x) rest ≡ Some k → b ≡ false → rest ≡ Some k
found-later true x k rest found is = absurd cc
found-later false x k rest found is = found

-- the member put in its place is found there
pub find-put-here : (n k : Member) (ms : List Member) → find (is_on n.conn) ms ≡ Some k → find (is_on n.conn) (put n ms) ≡ Some n
find-put-here n k [] found = absurd cc
find-put-here n k (x ∷ xs) found = find-here-by (x.conn == n.conn) n x (find (is_on n.conn) (put n xs)) refl
    (λ no. find-put-here n k xs (found-later (x.conn == n.conn) x k (find (is_on n.conn) xs) found no))

find-other-by : (b : Bool) (n x : Member) (c : ℕ) (few all : Option Member) → (x.conn == n.conn) ≡ b → (n.conn == c) ≡ false → few ≡ all
    → cond ((cond b n x).conn == c) (Some (cond b n x)) few ≡ cond (x.conn == c) (Some x) all
find-other-by true n x c few all is apart same = let e : (x.conn == c) ≡ false = ap (λ (y : ℕ). y == c) (eqb-true x.conn n.conn is)
    ∙ apart in rw (apart, e) same
find-other-by false n x c few all is apart same = ap (λ (r : Option Member). cond (x.conn == c) (Some x) r) same

-- another one is found as before
pub find-put-other : (n : Member) (c : ℕ) (ms : List Member) → (n.conn == c) ≡ false → find (is_on c) (put n ms) ≡ find (is_on c) ms
find-put-other n c [] apart = refl
find-put-other n c (x ∷ xs) apart = find-other-by (x.conn == n.conn) n x c (find (is_on c) (put n xs)) (find (is_on c) xs) refl apart
    (find-put-other n c xs apart)

find-left-by : (b : Bool) (d c : ℕ) (x : Member) (rest few : List Member) → (x.conn == d) ≡ b → (d == c) ≡ false → find (is_on c) few
    ≡ find (is_on c) rest → find (is_on c) (cond (not b) (x ∷ few) few) ≡ cond (x.conn == c) (Some x) (find (is_on c) rest)
find-left-by true d c x rest few is apart same = let e : (x.conn == c) ≡ false = ap (λ (y : ℕ). y == c) (eqb-true x.conn d is) ∙ apart in
    rw e same
find-left-by false d c x rest few is apart same = ap (λ (r : Option Member). cond (x.conn == c) (Some x) r) same

-- without a connection's member another one is found as before
pub find-others : (d c : ℕ) (ms : List Member) → (d == c) ≡ false → find (is_on c) (others d ms) ≡ find (is_on c) ms
find-others d c [] apart = refl
find-others d c (x ∷ xs) apart = find-left-by (x.conn == d) d c x xs (others d xs) refl apart (find-others d c xs apart)

none-left-by : (b : Bool) (c : ℕ) (x : Member) (few : List Member) → (x.conn == c) ≡ b → AllByRecursion (λ y. (y == c) ≡ false) (conns few)
    → AllByRecursion (λ y. (y == c) ≡ false) (conns (cond (not b) (x ∷ few) few))
none-left-by true c x few is a = a
none-left-by false c x few is a = (is, a)

-- and its own connection has none
pub none-left : (c : ℕ) (ms : List Member) → AllByRecursion (λ y. (y == c) ≡ false) (conns (others c ms))
none-left c [] = tt
none-left c (x ∷ xs) = none-left-by (x.conn == c) c x (others c xs) refl (none-left c xs)

-- who plays without a member plays with it too
pub still-playing : (conn : ℕ) (t : Table) → Within (playing (without_member conn t)) (playing t)
still-playing conn t c h = by t.members h
  where
    one : (b d : Bool) (m : Member) (few all : List Member) → (NotIn c (conns (filter is_playing all))
        → NotIn c (conns (filter is_playing few))) → is_playing m ≡ d
        → NotIn c (conns (cond d (m ∷ filter is_playing all) (filter is_playing all)))
        → NotIn c (conns (filter is_playing (cond b (m ∷ few) few)))
    one true true m few all next is a = rw is (a.0, next a.1)
    one true false m few all next is a = rw is (next a)
    one false true m few all next is a = next a.1
    one false false m few all next is a = next a

    by : (ms : List Member) → NotIn c (conns (filter is_playing ms)) → NotIn c (conns (filter is_playing (others conn ms)))
    by [] a = tt
    by (m ∷ ms) a = one (not (is_on conn m)) (is_playing m) m (others conn ms) ms (λ b. by ms b) refl a
