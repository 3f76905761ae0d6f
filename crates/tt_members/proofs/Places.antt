-- A change at the place of the one that is found.
use Rattle.std.proofs.Common.{◌≡◌, ℕ, ◌+◌, ◌<◌, ◌≤◌, List, [], ◌∷◌, refl, sym, ap, subst, true, false, not, Bool, Some, None, zero, suc}
use Rattle.std.proofs.Common.{arith, length, take, drop}
use Rattle.std.specs.Prelude.{◌==◌, filter, find, cond, slice_index_or, slice_set}
use Rattle.std.specs.List.{remove, AllByRecursion}
use Rattle.tt_log.specs.Member.{Member}
use Rattle.tt_log.specs.Table.{is_on}
use Rattle.tt_log.specs.History.{AreRising}
use Rattle.tt_members.specs.Edits.{on}
use Rattle.tt_members.proofs.Found.{conns_of, none_below, none_found, found_on}

rise_get : (n at : ℕ) (d : Member) (ms : List Member) → AreRising n (conns_of ms) → at < length ms → n < (slice_index_or ms at d).conn
rise_get n at d [] rising within = grind (arith, within)
rise_get n zero d (m ∷ ms) rising within = rising.0
rise_get n (suc at) d (m ∷ ms) rising within =
    let later = rise_get m.conn at d ms rising.1 (omega (arith, within)) in
    omega (arith, later, rising.0)

set_at : (n conn at : ℕ) (f : Member → Member) (d : Member) (ms : List Member) → AreRising n (conns_of ms) → at < length ms →
    (slice_index_or ms at d).conn ≡ conn
    → slice_set ms at (f (slice_index_or ms at d)) ≡ on conn f ms
set_at n conn at f d [] rising within is = refl
set_at n conn zero f d (m ∷ ms) rising within is =
    let own : (m.conn == conn) ≡ true = grind (arith, is) in
    rw own (ap (λ xs. f m ∷ xs) (sym (none_below m.conn conn f ms rising.1 (omega (arith, is)))))
set_at n conn (suc at) f d (m ∷ ms) rising within is =
    let inside : at < length ms = omega (arith, within) in
    let above : m.conn < (slice_index_or ms at d).conn = rise_get m.conn at d ms rising.1 inside in
    let other : (m.conn == conn) ≡ false = grind (arith, is, above) in
    rw other (ap (λ xs. m ∷ xs) (set_at m.conn conn at f d ms rising.1 inside is))

none_above : (n conn : ℕ) (ms : List Member) → AreRising n (conns_of ms) → conn ≤ n → filter (λ k. not (is_on conn k)) ms ≡ ms
none_above n conn [] rising low = refl
none_above n conn (m ∷ ms) rising low =
    let other : (m.conn == conn) ≡ false = grind (arith, rising.0) in
    rw other (ap (λ xs. m ∷ xs) (none_above m.conn conn ms rising.1 (omega (arith, rising.0, low))))

remove_at : (n conn at : ℕ) (d : Member) (ms : List Member) → AreRising n (conns_of ms) → at < length ms → (slice_index_or ms at d).conn ≡
    conn
    → remove ms at ≡ filter (λ k. not (is_on conn k)) ms
remove_at n conn at d [] rising within is = grind (arith, within)
remove_at n conn zero d (m ∷ ms) rising within is =
    let own : (m.conn == conn) ≡ true = grind (arith, is) in
    rw own (sym (none_above m.conn conn ms rising.1 (omega (arith, is))))
remove_at n conn (suc at) d (m ∷ ms) rising within is =
    let inside : at < length ms = omega (arith, within) in
    let above : m.conn < (slice_index_or ms at d).conn = rise_get m.conn at d ms rising.1 inside in
    let other : (m.conn == conn) ≡ false = grind (arith, is, above) in
    rw other (ap (λ xs. m ∷ xs) (remove_at m.conn conn at d ms rising.1 inside is))

pub set_found : (conn at : ℕ) (f : Member → Member) (d : Member) (ms : List Member) → AreRising 0 (conns_of ms) → at < length ms → find
    (is_on conn) ms ≡ Some (slice_index_or ms at d)
    → slice_set ms at (f (slice_index_or ms at d)) ≡ on conn f ms
set_found conn at f d ms rising within is = set_at 0 conn at f d ms rising within (found_on conn (slice_index_or ms at d) ms is)

pub remove_found : (conn at : ℕ) (d : Member) (ms : List Member) → AreRising 0 (conns_of ms) → at < length ms → find (is_on conn) ms ≡ Some
    (slice_index_or ms at d)
    → remove ms at ≡ filter (λ k. not (is_on conn k)) ms
remove_found conn at d ms rising within is = remove_at 0 conn at d ms rising within (found_on conn (slice_index_or ms at d) ms is)

none_kept : (b : Bool) (conn : ℕ) (k : Member) (ms : List Member) → cond b (Some k) (find (is_on conn) ms) ≡ None
    → (find (is_on conn) ms ≡ None → filter (λ x. not (is_on conn x)) ms ≡ ms)
    → cond (not b) (k ∷ filter (λ x. not (is_on conn x)) ms) (filter (λ x. not (is_on conn x)) ms) ≡ k ∷ ms
none_kept true conn k ms is later = grind (arith, is)
none_kept false conn k ms is later = ap (λ xs. k ∷ xs) (later is)

pub none_removed : (conn : ℕ) (ms : List Member) → find (is_on conn) ms ≡ None → filter (λ k. not (is_on conn k)) ms ≡ ms
none_removed conn [] is = refl
none_removed conn (k ∷ ms) is = none_kept (is_on conn k) conn k ms is (none_removed conn ms)

-- ---- found by halves

pub all_below : (n conn at : ℕ) (d : Member) (ms : List Member) → AreRising n (conns_of ms) → at < length ms → (slice_index_or ms at
    d).conn < conn
    → AllByRecursion (λ m. m.conn < conn) (take (at + 1) ms)
all_below n conn at d [] rising within low = grind (arith, within)
all_below n conn zero d (m ∷ ms) rising within low = (low, tt)
all_below n conn (suc at) d (m ∷ ms) rising within low =
    let inside : at < length ms = omega (arith, within) in
    let next : suc at + 1 ≡ suc (at + 1) = omega arith in
    rw next (omega (arith, rise_get m.conn at d ms rising.1 inside, low), all_below m.conn conn at d ms rising.1 inside low)

rise_above : (n conn : ℕ) (ms : List Member) → AreRising n (conns_of ms) → conn ≤ n → AllByRecursion (λ m. conn < m.conn) ms
rise_above n conn [] rising low = tt
rise_above n conn (m ∷ ms) rising low = (omega (arith, rising.0, low), rise_above m.conn conn ms rising.1 (omega (arith, rising.0, low)))

pub all_above : (n conn at : ℕ) (d : Member) (ms : List Member) → AreRising n (conns_of ms) → at < length ms → conn < (slice_index_or ms at
    d).conn
    → AllByRecursion (λ m. conn < m.conn) (drop at ms)
all_above n conn at d [] rising within high = grind (arith, within)
all_above n conn zero d (m ∷ ms) rising within high = (high, rise_above m.conn conn ms rising.1 (omega (arith, high)))
all_above n conn (suc at) d (m ∷ ms) rising within high = all_above m.conn conn at d ms rising.1 (omega (arith, within)) high

pub found_at : (n conn at : ℕ) (d : Member) (ms : List Member) → AreRising n (conns_of ms) → at < length ms → (slice_index_or ms at d).conn
    ≡ conn
    → find (is_on conn) ms ≡ Some (slice_index_or ms at d)
found_at n conn at d [] rising within is = grind (arith, within)
found_at n conn zero d (m ∷ ms) rising within is =
    let own : (m.conn == conn) ≡ true = grind (arith, is) in
    rw own refl
found_at n conn (suc at) d (m ∷ ms) rising within is =
    let inside : at < length ms = omega (arith, within) in
    let other : (m.conn == conn) ≡ false = grind (arith, is, rise_get m.conn at d ms rising.1 inside) in
    rw other (found_at m.conn conn at d ms rising.1 inside is)

none_high : (conn : ℕ) (ms : List Member) → AllByRecursion (λ m. conn < m.conn) ms → find (is_on conn) ms ≡ None
none_high conn [] high = refl
none_high conn (m ∷ ms) high =
    let other : (m.conn == conn) ≡ false = grind (arith, high.0) in
    rw other (none_high conn ms high.1)

pub none_between : (conn at : ℕ) (ms : List Member) → AllByRecursion (λ m. m.conn < conn) (take at ms) → AllByRecursion (λ m. conn <
    m.conn) (drop at ms) → find (is_on conn) ms ≡ None
none_between conn at [] low high = refl
none_between conn zero (m ∷ ms) low high = none_high conn (m ∷ ms) high
none_between conn (suc at) (m ∷ ms) low high =
    let other : (m.conn == conn) ≡ false = grind (arith, low.0) in
    rw other (none_between conn at ms low.1 high)

-- what stands within is the same whatever stands for what doesn't
pub same_within : (at : ℕ) (d e : Member) (ms : List Member) → at < length ms → slice_index_or ms at d ≡ slice_index_or ms at e
same_within at d e [] within = grind (arith, within)
same_within zero d e (m ∷ ms) within = refl
same_within (suc at) d e (m ∷ ms) within = same_within at d e ms (omega (arith, within))

-- the same, of members that are seen as a slice
pub set_in : (conn at : ℕ) (f : Member → Member) (d : Member) (xs ms : List Member) → xs ≡ ms → AreRising 0 (conns_of ms) → at < length xs
    → find (is_on conn) xs ≡ Some (slice_index_or xs at d) → slice_set ms at (f (slice_index_or ms at d)) ≡ on conn f ms
set_in conn at f d xs ms same rising within is =
    set_found conn at f d ms rising (subst (λ (ys : List Member). at < length ys) same within)
    (subst (λ (ys : List Member). find (is_on conn) ys ≡ Some (slice_index_or ys at d)) same is)

pub remove_in : (conn at : ℕ) (d : Member) (xs ms : List Member) → xs ≡ ms → AreRising 0 (conns_of ms) → at < length xs
    → find (is_on conn) xs ≡ Some (slice_index_or xs at d) → remove ms at ≡ filter (λ k. not (is_on conn k)) ms
remove_in conn at d xs ms same rising within is =
    remove_found conn at d ms rising (subst (λ (ys : List Member). at < length ys) same within)
    (subst (λ (ys : List Member). find (is_on conn) ys ≡ Some (slice_index_or ys at d)) same is)

pub none_in : (conn : ℕ) (f : Member → Member) (xs ms : List Member) → xs ≡ ms → find (is_on conn) xs ≡ None → on conn f ms ≡ ms
none_in conn f xs ms same is = none_found conn f ms (subst (λ (ys : List Member). find (is_on conn) ys ≡ None) same is)

pub none_out : (conn : ℕ) (xs ms : List Member) → xs ≡ ms → find (is_on conn) xs ≡ None → filter (λ k. not (is_on conn k)) ms ≡ ms
none_out conn xs ms same is = none_removed conn ms (subst (λ (ys : List Member). find (is_on conn) ys ≡ None) same is)

-- what holds of each member on a connection holds of the one that is found there
pub holds_found : (conn at : ℕ) (P : Member → Type 0) (d : Member) (ms : List Member) → AllByRecursion (λ m. is_on conn m ≡ true → P m) ms
    → at < length ms → (slice_index_or ms at d).conn ≡ conn → P (slice_index_or ms at d)
holds_found conn at P d [] all within is = absurd (omega (arith, within))
holds_found conn zero P d (m ∷ ms) all within is = all.0 (grind (arith, is))
holds_found conn (suc at) P d (m ∷ ms) all within is = holds_found conn at P d ms all.1 (omega (arith, within)) is
