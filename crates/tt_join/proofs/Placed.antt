-- A member that is there is put in its own place.
use Rattle.std.proofs.Common.{◌≡◌, inl, inr, ℕ, ◌<◌, ◌≤◌, List, [], ◌∷◌, refl, sym, ap, ap₂, subst, ◌∙◌, true, false, Bool, arith}
use Rattle.std.specs.Prelude.{◌==◌, map, cond}
use Rattle.tt_log.specs.Member.{Member}
use Rattle.tt_log.specs.Table.{is_on}
use Rattle.tt_log.specs.History.{AreRising}
use Rattle.tt_log.proofs.Lists.{Among}
use Rattle.tt_members.specs.Edits.{on}
use Rattle.tt_join.proofs.Like.{Pairs, pairs_so}

abbrev pub conns_of : List Member → List ℕ
conns_of ms = map (λ (m : Member). m.conn) ms

-- what is above a number has no change there
pub none_below : (n conn : ℕ) (f : Member → Member) (ms : List Member) → AreRising n (conns_of ms) → conn ≤ n → on conn f ms ≡ ms
none_below n conn f [] rising low = refl
none_below n conn f (m ∷ ms) rising low =
    let other : (m.conn == conn) ≡ false = grind (arith, rising.0) in
    rw other (ap (λ (xs : List Member). m ∷ xs) (none_below m.conn conn f ms rising.1 (omega (arith, rising.0, low))))

none_put : (n conn : ℕ) (x : Member) (ms : List Member) → AreRising n (conns_of ms) → conn ≤ n
    → map (λ (k : Member). cond (k.conn == conn) x k) ms ≡ ms
none_put n conn x [] rising low = refl
none_put n conn x (m ∷ ms) rising low =
    let other : (m.conn == conn) ≡ false = grind (arith, rising.0) in
    rw other (ap (λ (xs : List Member). m ∷ xs) (none_put m.conn conn x ms rising.1 (omega (arith, rising.0, low))))

among_above : (n : ℕ) (m : Member) (ms : List Member) → AreRising n (conns_of ms) → Among m ms → n < m.conn
among_above n m [] rising there = absurd there
among_above n m (k ∷ ms) rising (inl here) = subst (λ (x : Member). n < x.conn) here rising.0
among_above n m (k ∷ ms) rising (inr later) =
    let above : k.conn < m.conn = among_above k.conn m ms rising.1 later in
    omega (arith, rising.0, above)

-- what is put in the place of a member is a change of it
pub put_among : (n : ℕ) (f : Member → Member) (m : Member) (ms : List Member) → AreRising n (conns_of ms) → Among m ms
    → map (λ (x : Member). cond (x.conn == m.conn) (f m) x) ms ≡ on m.conn f ms
put_among n f m [] rising there = refl
put_among n f m (k ∷ ms) rising (inl here) =
    let at : m.conn ≤ k.conn = omega (arith, ap (λ (x : Member). x.conn) here) in
    ap₂ (λ (x : Member) (xs : List Member). cond (k.conn == m.conn) x k ∷ xs) (ap f (sym here))
    (none_put k.conn m.conn (f m) ms rising.1 at ∙ sym (none_below k.conn m.conn f ms rising.1 at))
put_among n f m (k ∷ ms) rising (inr later) =
    let above : k.conn < m.conn = among_above k.conn m ms rising.1 later in
    let other : (k.conn == m.conn) ≡ false = grind (arith, above) in
    rw other (ap (λ (xs : List Member). k ∷ xs) (put_among k.conn f m ms rising.1 later))

put_one_twice : (b : Bool) (conn : ℕ) (x y k : Member) → (k.conn == conn) ≡ b → y.conn ≡ conn
    → cond ((cond b y k).conn == conn) x (cond b y k) ≡ cond b x k
put_one_twice true conn x y k is own =
    let same : (y.conn == conn) ≡ true = grind (arith, own) in
    ap (λ (b : Bool). cond b x y) same
put_one_twice false conn x y k is own = ap (λ (b : Bool). cond b x k) is

-- the last one that is put in a place stands there
pub put_twice : (conn : ℕ) (x y : Member) (ms : List Member) → y.conn ≡ conn
    → map (λ (k : Member). cond (k.conn == conn) x k) (map (λ (k : Member). cond (k.conn == conn) y k) ms)
    ≡ map (λ (k : Member). cond (k.conn == conn) x k) ms
put_twice conn x y [] own = refl
put_twice conn x y (k ∷ ms) own =
    ap₂ (λ (z : Member) (zs : List Member). z ∷ zs) (put_one_twice (k.conn == conn) conn x y k refl own) (put_twice conn x y ms own)

-- ---- a change of one leaves the order

on_one : (b : Bool) (f : Member → Member) (m : Member) → ((k : Member) → (f k).conn ≡ k.conn) → (cond b (f m) m).conn ≡ m.conn
on_one true f m keeps = keeps m
on_one false f m keeps = refl

pub on_conns : (conn : ℕ) (f : Member → Member) (ms : List Member) → ((m : Member) → (f m).conn ≡ m.conn) → conns_of (on conn f ms) ≡
    conns_of ms
on_conns conn f [] keeps = refl
on_conns conn f (m ∷ ms) keeps = ap₂ (λ (x : ℕ) (xs : List ℕ). x ∷ xs) (on_one (is_on conn m) f m keeps) (on_conns conn f ms keeps)

-- ---- and the others as they were

pairs_on_head : (R Q : Member → Member → Type 0) (b : Bool) (f : Member → Member) (m n : Member) → (b ≡ true → Q m (f n)) → R m n
    → (R m n → Q m n) → Q m (cond b (f n) n)
pairs_on_head R Q true f m n here own so = here refl
pairs_on_head R Q false f m n here own so = so own

-- a change of the one that is there, as it is
pub pairs_on : (R Q : Member → Member → Type 0) (f : Member → Member) (n : ℕ) (x : Member) (ms ns : List Member) → AreRising n (conns_of ns)
    → Among x ns → ((m k : Member) → R m k → Q m k) → ((m : Member) → R m x → Q m (f x)) → Pairs R ms ns → Pairs Q ms (on x.conn f ns)
pairs_on R Q f n x ms [] rising there so here p = absurd there
pairs_on R Q f n x [] (k ∷ ns) rising there so here p = absurd p
pairs_on R Q f n x (m ∷ ms) (k ∷ ns) rising (inl own) so here p =
    let at : x.conn ≤ k.conn = omega (arith, ap (λ (y : Member). y.conn) own) in (
      pairs_on_head R Q (is_on x.conn k) f m k (λ is. subst (λ (y : Member). Q m (f y)) (sym own) (here m (subst (R m) own p.0))) p.0 (so m
          k),
      subst (Pairs Q ms) (sym (none_below k.conn x.conn f ns rising.1 at)) (pairs_so R Q ms ns so p.1),
    )
pairs_on R Q f n x (m ∷ ms) (k ∷ ns) rising (inr later) so here p =
    let above : k.conn < x.conn = among_above k.conn x ns rising.1 later in
    let other : (k.conn == x.conn) ≡ false = grind (arith, above) in (
      pairs_on_head R Q (is_on x.conn k) f m k (λ is. let both : true ≡ false = sym is ∙ other in absurd cc) p.0 (so m k),
      pairs_on R Q f k.conn x ms ns rising.1 later so here p.1,
    )
