-- The queue: all that stand in it wait for their map or have it, and behind the first one all wait.
use Rattle.std.proofs.Common.{◌≡◌, ◌⊎◌, inl, inr, ℕ, Bool, true, false, cond, List, [], ◌∷◌, ◌++◌, Option}
use Rattle.std.proofs.Common.{Some, None, refl, ap, sym, ◌∙◌, subst}
use Rattle.std.specs.Prelude.{◌==◌, ◌||◌, is_some}
use Rattle.std.specs.List.{AllByRecursion}
use Rattle.std.proofs.lemmas.Bool.{eqb-true, eqb-false, ne_eqb}
use Rattle.tt_log.specs.Member.{Member}
use Rattle.tt_log.proofs.Lists.{NotIn, all-append, all-so}
use Rattle.tt_log.proofs.Crew.{put}
use Rattle.tt_log.proofs.Phases.{removed, none-removed, OnceIn}
use Rattle.tt_in_step.specs.Watched.{Seat, InQueue, Loads, HasMap, seat_of, seat}
use Rattle.tt_in_step.proofs.Seats.{among, put-here, put-other, more-there}

abbrev pub in_line : Option Seat → Bool
in_line (Some InQueue) = true
in_line (Some (Loads s k)) = true
in_line (Some (HasMap s)) = true
in_line other = false

abbrev pub Stands : List Member → ℕ → Type 0
Stands ms d = in_line (seat d ms) ≡ true

abbrev pub Waits : List Member → ℕ → Type 0
Waits ms d = seat d ms ≡ Some InQueue

-- nobody stands there twice
abbrev pub Distinct : List ℕ → Type 0
Distinct [] = Unit
Distinct (x ∷ xs) = NotIn x xs × Distinct xs

abbrev pub Line : List Member → List ℕ → Type 0
Line ms [] = Unit
Line ms (x ∷ xs) = Stands ms x × AllByRecursion (Waits ms) xs × Distinct (x ∷ xs)

-- the same, but of one connection, which leaves
abbrev pub Or : (ℕ → Type 0) → ℕ → ℕ → Type 0
Or P x d = ((x == d) ≡ true) ⊎ P d

abbrev pub LineBut : ℕ → List Member → List ℕ → Type 0
LineBut x ms [] = Unit
LineBut x ms (y ∷ ys) = Or (Stands ms) x y × AllByRecursion (Or (Waits ms) x) ys × Distinct (y ∷ ys)

-- ---- where seats change

-- a change of seats keeps who stands and who waits
pub line-so : (ms ns : List Member) (q : List ℕ) → ((d : ℕ) → Stands ms d → Stands ns d) → ((d : ℕ) → Waits ms d → Waits ns d) → Line ms q
    → Line ns q
line-so ms ns [] f g h = h
line-so ms ns (x ∷ xs) f g h = (f x h.0, all-so (Waits ms) (Waits ns) xs g h.1, h.2)

pub line-same : (ms ns : List Member) (q : List ℕ) → ((d : ℕ) → seat d ns ≡ seat d ms) → Line ms q → Line ns q
line-same ms ns q same h = line-so ms ns q (λ d s. ap in_line (same d) ∙ s) (λ d w. same d ∙ w) h

put-by : (P : Option Seat → Type 0) (b : Bool) (n : Member) (old : Seat) (ms : List Member) (d : ℕ) → (n.conn == d) ≡ b
    → seat n.conn ms ≡ Some old → (P (Some old) → P (Some (seat_of n))) → P (seat d ms) → P (seat d (put n ms))
put-by P true n old ms d is was f p =
    let here : seat d ms ≡ Some old = subst (λ k. seat k ms ≡ Some old) (eqb-true n.conn d is) was in
    subst P (sym (put-here d n ms is (ap (λ (x : Option Seat). is_some x) here))) (f (subst P here p))
put-by P false n old ms d is was f p = subst P (sym (put-other d n ms is)) p

-- a member is changed so that it stands and waits where it did
pub line-put : (n : Member) (old : Seat) (ms : List Member) (q : List ℕ) → seat n.conn ms ≡ Some old
    → (in_line (Some old) ≡ true → in_line (Some (seat_of n)) ≡ true) → (Some old ≡ Some InQueue → Some (seat_of n) ≡ Some InQueue)
    → Line ms q → Line (put n ms) q
line-put n old ms q was f g h =
    line-so ms (put n ms) q (λ d s. put-by (λ x. in_line x ≡ true) (n.conn == d) n old ms d refl was f s)
    (λ d w. put-by (λ x. x ≡ Some InQueue) (n.conn == d) n old ms d refl was g w) h

pub or-by : (P Q : ℕ → Type 0) (b : Bool) (x d : ℕ) → (x == d) ≡ b → (b ≡ false → P d → Q d) → P d → Or Q x d
or-by P Q true x d is f p = inl is
or-by P Q false x d is f p = inr (f refl p)

pub line-but : (x : ℕ) (ms ns : List Member) (q : List ℕ) → ((d : ℕ) → (x == d) ≡ false → seat d ns ≡ seat d ms) → Line ms q
    → LineBut x ns q
line-but x ms ns [] same h = h
line-but x ms ns (y ∷ ys) same h = (
  or-by (Stands ms) (Stands ns) (x == y) x y refl (λ apart s. ap in_line (same y apart) ∙ s) h.0,
  all-so (Waits ms) (Or (Waits ns) x) ys (λ d w. or-by (Waits ms) (Waits ns) (x == d) x d refl (λ apart w. same d apart ∙ w) w) h.1,
  h.2,
)

-- one more is there
pub line-more : (ms : List Member) (n : Member) (q : List ℕ) → Line ms q → Line (ms ++ n ∷ []) q
line-more ms n q h = line-so ms (ms ++ n ∷ []) q (λ d s. by (seat d ms) d refl s) (λ d w. more-there d ms n InQueue w) h
  where
    by : (x : Option Seat) (d : ℕ) → seat d ms ≡ x → in_line x ≡ true → Stands (ms ++ n ∷ []) d
    by None d is s = absurd cc
    by (Some x) d is s = ap in_line (more-there d ms n x is) ∙ s

-- ---- who stands nowhere

pub out-of-line : (x : ℕ) (ms : List Member) (q : List ℕ) → in_line (seat x ms) ≡ false → Line ms q → NotIn x q
out-of-line x ms [] out h = tt
out-of-line x ms (y ∷ ys) out h = (
  apart (λ (s : Option Seat). in_line s) y out h.0,
  all-so (Waits ms) (λ d. (d == x) ≡ false) ys (λ d w. apart (λ (s : Option Seat). in_line s) d out (ap in_line w)) h.1,
)
  where
    apart : (p : Option Seat → Bool) (d : ℕ) → p (seat x ms) ≡ false → p (seat d ms) ≡ true → (d == x) ≡ false
    apart p d out there = ne_eqb d x (λ e. cc (subst (λ k. p (seat k ms) ≡ true) e there, out))

not-both : (x y : ℕ) → (y == x) ≡ false → (x == y) ≡ true → ⊥
not-both x y apart is = eqb-false y x apart (sym (eqb-true x y is))

pub or-other : (P : ℕ → Type 0) (x d : ℕ) → (d == x) ≡ false → Or P x d → P d
or-other P x d apart (inl own) = absurd (not-both x d apart own)
or-other P x d apart (inr p) = p

-- without the one that leaves all the others wait
pub all-others : (P : ℕ → Type 0) (x : ℕ) (xs : List ℕ) → NotIn x xs → AllByRecursion (Or P x) xs → AllByRecursion P xs
all-others P x [] none a = tt
all-others P x (y ∷ ys) none a = (or-other P x y none.0 a.0, all-others P x ys none.1 a.1)

-- ---- without the first one of a connection

pub all-removed : (P : ℕ → Type 0) (x : ℕ) (xs : List ℕ) → AllByRecursion P xs → AllByRecursion P (removed x xs)
all-removed P x [] a = tt
all-removed P x (y ∷ ys) a = elim (y == x) as (λ b. AllByRecursion P (cond b ys (y ∷ removed x ys))) [
  | true ↦ a.1
  | false ↦ (a.0, all-removed P x ys a.1)
]

pub distinct-removed : (x : ℕ) (xs : List ℕ) → Distinct xs → Distinct (removed x xs)
distinct-removed x [] d = tt
distinct-removed x (y ∷ ys) d = elim (y == x) as (λ b. Distinct (cond b ys (y ∷ removed x ys))) [
  | true ↦ d.1
  | false ↦ (none-removed y x ys d.0, distinct-removed x ys d.1)
]

none-by : (b : Bool) (x y : ℕ) (ys : List ℕ) → (y == x) ≡ b → NotIn y ys → OnceIn x ys ⊎ NotIn x ys → OnceIn x (y ∷ ys) ⊎ NotIn x (y ∷ ys)
none-by true x y ys is none rest = inl (inl (is, subst (λ k. NotIn k ys) (eqb-true y x is) none))
none-by false x y ys is none (inl once) = inl (inr (is, once))
none-by false x y ys is none (inr not) = inr (is, not)

pub once-or-not : (x : ℕ) (q : List ℕ) → Distinct q → OnceIn x q ⊎ NotIn x q
once-or-not x [] d = inr tt
once-or-not x (y ∷ ys) d = none-by (y == x) x y ys refl d.0 (once-or-not x ys d.1)

-- ---- one more stands last

swapped : (x y : ℕ) → (y == x) ≡ false → (x == y) ≡ false
swapped x y apart = ne_eqb x y (λ e. eqb-false y x apart (sym e))

pub distinct-last : (x : ℕ) (xs : List ℕ) → NotIn x xs → Distinct xs → Distinct (xs ++ x ∷ [])
distinct-last x [] none d = (tt, tt)
distinct-last x (y ∷ ys) none d = (
  all-append (λ z. (z == y) ≡ false) ys (x ∷ []) d.0 (swapped x y none.0, tt),
  distinct-last x ys none.1 d.1,
)

-- who is among them is one of whom it holds
pub all-at : (P : ℕ → Type 0) (c : ℕ) (xs : List ℕ) → AllByRecursion P xs → among c xs ≡ true → P c
all-at P c [] a is = absurd cc
all-at P c (x ∷ xs) a is = by (x == c) refl is (λ there. all-at P c xs a.1 there)
  where
    by : (b : Bool) → (x == c) ≡ b → (b || among c xs) ≡ true → (among c xs ≡ true → P c) → P c
    by true own there next = subst P (eqb-true x c own) a.0
    by false apart there next = next there
