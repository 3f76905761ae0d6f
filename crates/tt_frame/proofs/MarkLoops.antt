-- Items behind marks, read and written one behind the other in a loop.
use Rattle.std.proofs.Common.{◌≡◌, ℕ, suc, ◌+◌, ◌-◌, ◌<◌, ◌≤◌, Bool, true, false, cond, eqb, List, [], ◌∷◌, ◌++◌, length, get_or, take}
use Rattle.std.proofs.Common.{Option, Some, None, Result, Ok, Err, refl, sym, ap, ◌∙◌, append_assoc, arith}
use Rattle.std.specs.Int.{w8}
use Rattle.std.proofs.lemmas.List.{append-nil, take_more, take_all}
use Rattle.tt_frame.specs.Unread.{Unread}
use Rattle.tt_frame.specs.Reading.{◌>>=◌, within_at, FieldRead}
use Rattle.tt_frame.specs.declared.bad.Bad.{Bad}
use Rattle.tt_frame.specs.declared.bad.Bad.TheVariants.{Memory, Malformed}
use Rattle.tt_frame.specs.FieldForms.{Named}
use Rattle.tt_frame.specs.ItemForms.{Item, item_spelled, item_at, marked_at, marked_spelled, marked_item_at}
use Rattle.tt_frame.proofs.ItemLoops.{with_front, regroup}

-- what stands behind an item, or behind the last mark
abbrev behind : (fs : List Named) → ℕ → Option (Item fs) × Unread → Result (List (Item fs) × Unread) ℕ
behind fs n (None, t) = Ok ([], t)
behind fs n (Some x, t) = marked_at fs n t >>= λ xs. Ok (x ∷ xs.0, xs.1)

abbrev some_item : (fs : List Named) → Result (Item fs × Unread) ℕ → Result (Option (Item fs) × Unread) ℕ
some_item fs r = r >>= λ x. Ok (Some x.0, x.1)

abbrev item_by : (fs : List Named) → Result (ℕ × Unread) ℕ → Result (Option (Item fs) × Unread) ℕ
item_by fs r = r >>= λ m. cond (eqb m.0 0) (Ok (None, m.1)) (some_item fs (item_at fs m.1))

abbrev items_by : (fs : List Named) → ℕ → Result (ℕ × Unread) ℕ → Result (List (Item fs) × Unread) ℕ
items_by fs n r = r >>= λ m. cond (eqb m.0 0) (Ok ([], m.1)) (item_at fs m.1 >>= λ x. marked_at fs n x.1 >>= λ xs. Ok (x.0 ∷ xs.0, xs.1))

by_item : (fs : List Named) (n : ℕ) (r : Result (Item fs × Unread) ℕ) → (r >>= λ x. marked_at fs n x.1 >>= λ xs. Ok (x.0 ∷ xs.0, xs.1)) ≡
    (some_item fs r >>= behind fs n)
by_item fs n (Ok x) = refl
by_item fs n (Err e) = refl

by_test : (fs : List Named) (n : ℕ) (b : Bool) (t : Unread) → cond b (Ok ([], t)) (item_at fs t >>= λ x. marked_at fs n x.1 >>= λ xs. Ok
    (x.0 ∷ xs.0, xs.1)) ≡ (cond b (Ok (None, t)) (some_item fs (item_at fs t)) >>= behind fs n)
by_test fs n true t = refl
by_test fs n false t = by_item fs n (item_at fs t)

by_mark : (fs : List Named) (n : ℕ) (r : Result (ℕ × Unread) ℕ) → items_by fs n r ≡ (item_by fs r >>= behind fs n)
by_mark fs n (Ok m) = by_test fs n (eqb m.0 0) m.1
by_mark fs n (Err e) = refl

-- the items from here on are the one at this mark, and then those behind it
one_by_one : (fs : List Named) (n : ℕ) (s : Unread) → marked_at fs (suc n) s ≡ (marked_item_at fs s >>= behind fs n)
unfolding marked_at
one_by_one fs n s = by_mark fs n (within_at w8 1 s)

pub goes_on : (fs : List Named) (front : List (Item fs)) (n i : ℕ) (s : Unread) (x : Item fs) (t : Unread) (total : Result (List (Item fs)
    × Unread) ℕ) → i < n → marked_item_at fs s ≡ Ok (Some x, t)
    → with_front fs front (marked_at fs (n - i) s) ≡ total → with_front fs (front ++ x ∷ []) (marked_at fs (n - (i + 1)) t) ≡ total
goes_on fs front n i s x t total lt h so_far =
    let k : n - i ≡ suc (n - (i + 1)) = omega arith in
    let one : with_front fs front (marked_at fs (n - i) s) ≡ with_front fs (front ++ x ∷ []) (marked_at fs (n - (i + 1)) t) =
    rw (k, one_by_one fs (n - (i + 1)) s, h) (regroup fs front x (marked_at fs (n - (i + 1)) t)) in
    sym one ∙ so_far

fails : (fs : List Named) (front : List (Item fs)) (n i : ℕ) (s : Unread) (at : ℕ) (total : Result (List (Item fs) × Unread) ℕ) → i < n
    → marked_item_at fs s ≡ Err at
    → with_front fs front (marked_at fs (n - i) s) ≡ total → total ≡ Err at
fails fs front n i s at total lt h so_far =
    let k : n - i ≡ suc (n - (i + 1)) = omega arith in
    let one : with_front fs front (marked_at fs (n - i) s) ≡ Err at = rw (k, one_by_one fs (n - (i + 1)) s, h) refl in
    sym so_far ∙ one

pub fails_as : (X Z : Type 0) (fs : List Named) (view : X → List (Item fs)) (one : Z → Option (Item fs)) (e : Bad) (front : List (Item fs))
    (n i : ℕ) (s t u : Unread) (total : Result (List (Item fs) × Unread) ℕ) → i < n → FieldRead one (Err e) t (marked_item_at fs s)
    → with_front fs front (marked_at fs (n - i) s) ≡ total → FieldRead view (Err e) u total
fails_as X Z fs view one Memory front n i s t u total lt h so_far = h
fails_as X Z fs view one (Malformed at) front n i s t u total lt h so_far = fails fs front n i s at total lt h so_far

-- behind the last mark that may come there is none
pub ends : (fs : List Named) (front : List (Item fs)) (n i : ℕ) (s t : Unread) (total : Result (List (Item fs) × Unread) ℕ) → i < n
    → marked_item_at fs s ≡ Ok (None, t)
    → with_front fs front (marked_at fs (n - i) s) ≡ total → total ≡ Ok (front, t)
ends fs front n i s t total lt h so_far =
    let k : n - i ≡ suc (n - (i + 1)) = omega arith in
    let one : with_front fs front (marked_at fs (n - i) s) ≡ Ok (front, t) =
    rw (k, one_by_one fs (n - (i + 1)) s, h) (ap (λ (xs : List (Item fs)). Ok (xs, t)) (append-nil front)) in
    sym so_far ∙ one

-- behind the greatest number of items a last mark stands
pub is_full : (fs : List Named) (front : List (Item fs)) (n i m : ℕ) (s t : Unread) (total : Result (List (Item fs) × Unread) ℕ) → n ≤ i
    → within_at w8 0 s ≡ Ok (m, t)
    → with_front fs front (marked_at fs (n - i) s) ≡ total → total ≡ Ok (front, t)
unfolding marked_at
is_full fs front n i m s t total le h so_far =
    let k : n - i ≡ 0 = omega arith in
    let one : with_front fs front (marked_at fs (n - i) s) ≡ Ok (front, t) =
    rw (k, h) (ap (λ (xs : List (Item fs)). Ok (xs, t)) (append-nil front)) in
    sym so_far ∙ one

overruns : (fs : List Named) (front : List (Item fs)) (n i : ℕ) (s : Unread) (at : ℕ) (total : Result (List (Item fs) × Unread) ℕ) → n ≤ i
    → within_at w8 0 s ≡ Err at
    → with_front fs front (marked_at fs (n - i) s) ≡ total → total ≡ Err at
unfolding marked_at
overruns fs front n i s at total le h so_far =
    let k : n - i ≡ 0 = omega arith in
    let one : with_front fs front (marked_at fs (n - i) s) ≡ Err at = rw (k, h) refl in
    sym so_far ∙ one

pub overruns_as : (X Z : Type 0) (fs : List Named) (view : X → List (Item fs)) (one : Z → ℕ) (e : Bad) (front : List (Item fs)) (n i : ℕ)
    (s t u : Unread) (total : Result (List (Item fs) × Unread) ℕ) → n ≤ i → FieldRead one (Err e) t (within_at w8 0 s)
    → with_front fs front (marked_at fs (n - i) s) ≡ total → FieldRead view (Err e) u total
overruns_as X Z fs view one Memory front n i s t u total le h so_far = h
overruns_as X Z fs view one (Malformed at) front n i s t u total le h so_far = overruns fs front n i s at total le h so_far
