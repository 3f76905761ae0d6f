-- Lists: what holds of each element, and who is among whom.
use Rattle.std.proofs.Common.{◌≡◌, ◌⊎◌, inl, inr, ℕ, List, [], ◌∷◌, ◌++◌, refl, subst, true, false, Bool, Option, Some, zero, suc}
use Rattle.std.specs.Prelude.{◌==◌, drop, take, map, find, filter, cond, ◌&&◌}
use Rattle.std.specs.List.{AllByRecursion, list_any}

-- ---- what holds of each

pub all-append : {A : Type 0} (P : A → Type 0) (xs ys : List A) → AllByRecursion P xs → AllByRecursion P ys → AllByRecursion P (xs ++ ys)
all-append P [] ys a b = b
all-append P (x ∷ xs) ys a b = (a.0, all-append P xs ys a.1 b)

pub all-take : {A : Type 0} (P : A → Type 0) (n : ℕ) (xs : List A) → AllByRecursion P xs → AllByRecursion P (take n xs)
all-take P zero xs a = tt
all-take P (suc n) [] a = tt
all-take P (suc n) (x ∷ xs) a = (a.0, all-take P n xs a.1)

pub all-drop : {A : Type 0} (P : A → Type 0) (n : ℕ) (xs : List A) → AllByRecursion P xs → AllByRecursion P (drop n xs)
all-drop P zero xs a = a
all-drop P (suc n) [] a = tt
all-drop P (suc n) (x ∷ xs) a = all-drop P n xs a.1

pub all-filter : {A : Type 0} (P : A → Type 0) (p : A → Bool) (xs : List A) → AllByRecursion P xs → AllByRecursion P (filter p xs)
all-filter P p [] a = tt
all-filter P p (x ∷ xs) a = elim (p x) as (λ b. AllByRecursion P (cond b (x ∷ filter p xs) (filter p xs))) [
  | true ↦
      (a.0, all-filter P p xs a.1)
  | false ↦ all-filter P p xs a.1
]

pub all-map : {A B : Type 0} (P : A → Type 0) (Q : B → Type 0) (f : A → B) (xs : List A) → ((x : A) → P x → Q (f x)) → AllByRecursion P xs
    → AllByRecursion Q (map f xs)
all-map P Q f [] g a = tt
all-map P Q f (x ∷ xs) g a = (g x a.0, all-map P Q f xs g a.1)

pub all-so : {A : Type 0} (P Q : A → Type 0) (xs : List A) → ((x : A) → P x → Q x) → AllByRecursion P xs → AllByRecursion Q xs
all-so P Q [] g a = tt
all-so P Q (x ∷ xs) g a = (g x a.0, all-so P Q xs g a.1)

-- ---- who is among whom

abbrev pub Among : {A : Type 0} → A → List A → Type 0
Among x [] = ⊥
Among x (y ∷ ys) = (y ≡ x) ⊎ Among x ys

pub among-all : {A : Type 0} (P : A → Type 0) (x : A) (xs : List A) → Among x xs → AllByRecursion P xs → P x
among-all P x [] there a = absurd there
among-all P x (y ∷ ys) (inl here) a = subst P here a.0
among-all P x (y ∷ ys) (inr later) a = among-all P x ys later a.1

-- each is among all, and each of the last ones is
pub all-among : {A : Type 0} (xs : List A) → AllByRecursion (λ x. Among x xs) xs
all-among [] = tt
all-among (x ∷ xs) = (inl refl, all-so (λ y. Among y xs) (λ y. Among y (x ∷ xs)) xs (λ y there. inr there) (all-among xs))

pub last-among : {A : Type 0} (xs ys : List A) → AllByRecursion (λ y. Among y (xs ++ ys)) ys
last-among [] ys = all-among ys
last-among (x ∷ xs) ys = all-so (λ y. Among y (xs ++ ys)) (λ y. Among y (x ∷ xs ++ ys)) ys (λ y there. inr there) (last-among xs ys)

found-among-by : {A : Type 0} (b : Bool) (x y : A) (ys : List A) (found : Option A) → (found ≡ Some x → Among x ys) → cond b (Some y) found
    ≡ Some x → Among x (y ∷ ys)
found-among-by true x y ys found later is = inl cc
found-among-by false x y ys found later is = inr (later is)

pub found-among : {A : Type 0} (p : A → Bool) (x : A) (xs : List A) → find p xs ≡ Some x → Among x xs
found-among p x [] is = absurd cc
found-among p x (y ∷ ys) is = found-among-by (p y) x y ys (find p ys) (λ later. found-among p x ys later) is

found-passes-by : {A : Type 0} (b : Bool) (p : A → Bool) (x y : A) (found : Option A) → p y ≡ b → (found ≡ Some x → p x ≡ true)
    → cond b (Some y) found ≡ Some x → p x ≡ true
found-passes-by true p x y found test later is = let same : y ≡ x = cc in subst (λ z. p z ≡ true) same test
found-passes-by false p x y found test later is = later is

pub found-passes : {A : Type 0} (p : A → Bool) (x : A) (xs : List A) → find p xs ≡ Some x → p x ≡ true
found-passes p x [] is = absurd cc
found-passes p x (y ∷ ys) is = found-passes-by (p y) p x y (find p ys) refl (λ later. found-passes p x ys later) is

-- ---- connections

abbrev pub IsOther : ℕ → ℕ → Type 0
IsOther c x = (x == c) ≡ false

abbrev pub NotIn : ℕ → List ℕ → Type 0
NotIn c xs = AllByRecursion (IsOther c) xs

-- who is among the first is among the second
abbrev pub Within : List ℕ → List ℕ → Type 0
Within xs ys = (c : ℕ) → NotIn c ys → NotIn c xs

pub any-not : (c : ℕ) (xs : List ℕ) → NotIn c xs → list_any (λ x. x == c) xs ≡ false
any-not c [] a = refl
any-not c (x ∷ xs) a = rw a.0 (any-not c xs a.1)

map-filter-by : {A : Type 0} (f : A → ℕ) (b d : Bool) (c : ℕ) (x : A) (few all : List A) → (NotIn c (map f all) → NotIn c (map f few))
    → NotIn c (map f (cond b (x ∷ all) all)) → NotIn c (map f (cond (b && d) (x ∷ few) few))
map-filter-by f true true c x few all go h = (h.0, go h.1)
map-filter-by f true false c x few all go h = go h.1
map-filter-by f false true c x few all go h = go h
map-filter-by f false false c x few all go h = go h

pub map-filter-not : {A : Type 0} (f : A → ℕ) (p q : A → Bool) (c : ℕ) (xs : List A) → NotIn c (map f (filter p xs))
    → NotIn c (map f (filter (λ x. p x && q x) xs))
map-filter-not f p q c [] a = tt
map-filter-not f p q c (x ∷ xs) a = map-filter-by f (p x) (q x) c x (filter (λ y. p y && q y) xs) (filter p xs)
    (λ h. map-filter-not f p q c xs h) a

pub all-of-filter : {A : Type 0} (f : A → ℕ) (p : A → Bool) (c : ℕ) (xs : List A) → NotIn c (map f xs) → NotIn c (map f (filter p xs))
all-of-filter f p c [] a = tt
all-of-filter f p c (x ∷ xs) a = elim (p x) as (λ b. NotIn c (map f (cond b (x ∷ filter p xs) (filter p xs)))) [
  | true ↦
      (a.0, all-of-filter f p c xs a.1)
  | false ↦ all-of-filter f p c xs a.1
]
