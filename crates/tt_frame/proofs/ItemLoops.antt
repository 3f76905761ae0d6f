-- Items read and written one behind the other in a loop.
use Rattle.std.proofs.Common.{◌≡◌, ℕ, Bool, true, false, cond, subst, suc, ◌+◌, ◌-◌, ◌<◌, ◌≤◌, List, [], ◌∷◌, ◌++◌, length, get_or, take}
use Rattle.std.proofs.Common.{Result, Ok, Err, refl, sym, ap, ◌∙◌, append_assoc, arith}
use Rattle.std.proofs.lemmas.List.{length-append, append-nil, take_more, take_all}
use Rattle.tt_frame.specs.Unread.{Unread}
use Rattle.tt_frame.specs.Reading.{◌>>=◌, FieldRead, FieldReadOrMemory}
use Rattle.tt_frame.specs.declared.bad.Bad.{Bad}
use Rattle.tt_frame.specs.declared.bad.Bad.TheVariants.{Memory, Malformed}
use Rattle.tt_frame.specs.FieldForms.{Named}
use Rattle.tt_frame.specs.ItemForms.{Item, item_spelled, ItemFits, item_at, items_spelled, ItemsFit, items_at}

-- these items first
abbrev pub with_front : (fs : List Named) → List (Item fs) → Result (List (Item fs) × Unread) ℕ → Result (List (Item fs) × Unread) ℕ
with_front fs front (Ok x) = Ok (front ++ x.0, x.1)
with_front fs front (Err e) = Err e

pub with_none : (fs : List Named) (front : List (Item fs)) (r : Result (List (Item fs) × Unread) ℕ) → front ≡ [] → with_front fs front r ≡ r
with_none fs front (Ok x) is = ap (λ (xs : List (Item fs)). Ok (xs ++ x.0, x.1)) is
with_none fs front (Err e) is = refl

pub regroup : (fs : List Named) (front : List (Item fs)) (x : Item fs) (r : Result (List (Item fs) × Unread) ℕ)
    → with_front fs front (r >>= λ xs. Ok (x ∷ xs.0, xs.1)) ≡ with_front fs (front ++ x ∷ []) r
regroup fs front x (Ok y) = ap (λ (xs : List (Item fs)). Ok (xs, y.1)) (sym (append_assoc front (x ∷ []) y.0))
regroup fs front x (Err e) = refl

pub goes_on : (fs : List Named) (front : List (Item fs)) (n i : ℕ) (s : Unread) (x : Item fs) (t : Unread) (total : Result (List (Item fs)
    × Unread) ℕ) → i < n → item_at fs s ≡ Ok (x, t)
    → with_front fs front (items_at fs (n - i) s) ≡ total → with_front fs (front ++ x ∷ []) (items_at fs (n - (i + 1)) t) ≡ total
unfolding items_at
goes_on fs front n i s x t total lt h so_far =
    let k : n - i ≡ suc (n - (i + 1)) = omega arith in
    let one : with_front fs front (items_at fs (n - i) s) ≡ with_front fs (front ++ x ∷ []) (items_at fs (n - (i + 1)) t) =
    rw (k, h) (regroup fs front x (items_at fs (n - (i + 1)) t)) in
    sym one ∙ so_far

pub fails : (fs : List Named) (front : List (Item fs)) (n i : ℕ) (s : Unread) (at : ℕ) (total : Result (List (Item fs) × Unread) ℕ) → i < n
    → item_at fs s ≡ Err at
    → with_front fs front (items_at fs (n - i) s) ≡ total → total ≡ Err at
unfolding items_at
fails fs front n i s at total lt h so_far =
    let k : n - i ≡ suc (n - (i + 1)) = omega arith in
    let one : with_front fs front (items_at fs (n - i) s) ≡ Err at = rw (k, h) refl in
    sym so_far ∙ one

pub is_done : (fs : List Named) (front : List (Item fs)) (n i : ℕ) (s : Unread) (total : Result (List (Item fs) × Unread) ℕ) → n ≤ i
    → with_front fs front (items_at fs (n - i) s) ≡ total → total ≡ Ok (front, s)
unfolding items_at
is_done fs front n i s total le so_far =
    let k : n - i ≡ 0 = omega arith in
    let one : with_front fs front (items_at fs (n - i) s) ≡ Ok (front, s) =
    rw k (ap (λ (xs : List (Item fs)). Ok (xs, s)) (append-nil front)) in
    sym so_far ∙ one

-- where memory may run out, an error of a call that takes none is right too
pub error_or_memory : (X Y : Type 0) (view : X → Y) (e : Bad) (new : Unread) (reading : Result (Y × Unread) ℕ)
    → FieldRead view (Err e) new reading → FieldReadOrMemory view (Err e) new reading
error_or_memory X Y view Memory new reading read = tt
error_or_memory X Y view (Malformed at) new reading read = read

pub fails_as : (X Z : Type 0) (fs : List Named) (view : X → List (Item fs)) (one : Z → Item fs) (e : Bad) (front : List (Item fs))
    (n i : ℕ) (s t u : Unread) (total : Result (List (Item fs) × Unread) ℕ) → i < n → FieldRead one (Err e) t (item_at fs s)
    → with_front fs front (items_at fs (n - i) s) ≡ total → FieldRead view (Err e) u total
fails_as X Z fs view one Memory front n i s t u total lt h so_far = h
fails_as X Z fs view one (Malformed at) front n i s t u total lt h so_far = fails fs front n i s at total lt h so_far

-- one item more that fits
pub ItemsFit-push : (fs : List Named) (xs : List (Item fs)) (x : Item fs) → ItemsFit fs xs → ItemFits fs x → ItemsFit fs (xs ++ x ∷ [])
ItemsFit-push fs [] x fit one = (one, tt)
ItemsFit-push fs (y ∷ xs) x fit one = (fit.0, ItemsFit-push fs xs x fit.1 one)

-- with one item more, or with none
pub one_more : (X : Type 0) (fs : List Named) (listed : List X → List (Item fs)) (values : X → Item fs) → ((xs : List X) (x : X)
    → listed (xs ++ x ∷ []) ≡ listed xs ++ values x ∷ [])
    → (max : ℕ) (b : Bool) (old new : List X) (x : X) → new ≡ cond b (old ++ x ∷ []) old → length old < max → ItemsFit fs (listed old)
    → ItemFits fs (values x)
    → (length new ≤ max) × ItemsFit fs (listed new)
one_more X fs listed values more max true old new x is few fit one = (
  omega (arith, ap (λ (xs : List X). length xs) is, length-append old (x ∷ [])),
  subst (λ (ys : List (Item fs)). ItemsFit fs ys) (sym (ap listed is ∙ more old x)) (ItemsFit-push fs (listed old) (values x) fit one),
)
one_more X fs listed values more max false old new x is few fit one =
    (omega (arith, ap (λ (xs : List X). length xs) is), subst (λ (ys : List X). ItemsFit fs (listed ys)) (sym is) fit)
