-- Searches through lists that were filtered, changed or made longer.
use Rattle.std.proofs.Common.{◌≡◌, Bool, true, false, not, cond, List, [], ◌∷◌, ◌++◌, map, Option, Some, None, refl, sym, ap, ◌∙◌}
use Rattle.std.specs.Prelude.{filter, find, is_some, option_map}
use Rattle.std.proofs.lemmas.Bool.{true≢false, false≢true}

abbrev pub unwrapped : {A : Type 0} → A → Option A → A
unwrapped d None = d
unwrapped d (Some x) = x

pub found : {A : Type 0} (p : A → Bool) (xs : List A) (x : A) → find p xs ≡ Some x → p x ≡ true
found p [] x is = absurd (false≢true (ap is_some is))
found {A = A} p (y ∷ ys) x is = by (p y) refl is (found p ys x)
  where
    by : (b : Bool) → p y ≡ b → cond b (Some y) (find p ys) ≡ Some x → (find p ys ≡ Some x → p x ≡ true) → p x ≡ true
    by true at same rest = sym (ap p (ap (unwrapped {A = A} y) same)) ∙ at
    by false at same rest = rest same

pub other_front : {A : Type 0} (p : A → Bool) (x : A) (F xs : List A) (a : Bool) → (a ≡ true → p x ≡ false) → find p F ≡ find p xs
    → find p (cond (not a) (x ∷ F) F) ≡ cond (p x) (Some x) (find p xs)
other_front {A = A} p x F xs true other same = same ∙ sym (ap (λ (b : Bool). cond {A = Option A} b (Some x) (find p xs)) (other refl))
other_front {A = A} p x F xs false other same = ap (λ (o : Option A). cond (p x) (Some x) o) same

pub find_filter_other : {A : Type 0} (p q : A → Bool) → ((x : A) → q x ≡ true → p x ≡ false) → (xs : List A)
    → find p (filter (λ (x : A). not (q x)) xs) ≡ find p xs
find_filter_other p q other [] = refl
find_filter_other {A = A} p q other (x ∷ xs) =
    other_front p x (filter (λ (x : A). not (q x)) xs) xs (q x) (other x) (find_filter_other p q other xs)

pub none_front : {A : Type 0} (p : A → Bool) (x : A) (F : List A) (a : Bool) → (p x ≡ true → a ≡ true) → find p F ≡ None
    → find p (cond (not a) (x ∷ F) F) ≡ None
none_front p x F true own none = none
none_front p x F false own none = by (p x) own
  where
    by : (b : Bool) → (b ≡ true → false ≡ true) → cond b (Some x) (find p F) ≡ None
    by true f = absurd (false≢true (f refl))
    by false f = none

pub find_filter_same : {A : Type 0} (p q : A → Bool) → ((x : A) → p x ≡ true → q x ≡ true) → (xs : List A)
    → find p (filter (λ (x : A). not (q x)) xs) ≡ None
find_filter_same p q own [] = refl
find_filter_same {A = A} p q own (x ∷ xs) = none_front p x (filter (λ (x : A). not (q x)) xs) (q x) (own x) (find_filter_same p q own xs)

-- a change that leaves what is looked for, and what is looked at
pub find_map : {A B : Type 0} (p q : A → Bool) (f : A → A) (g : A → B) → ((x : A) → p (f x) ≡ p x) → ((x : A) → q x ≡ true → p x ≡ true
    → g (f x) ≡ g x) → (xs : List A)
    → option_map g (find p (map (λ (x : A). cond (q x) (f x) x) xs)) ≡ option_map g (find p xs)
find_map p q f g same kept [] = refl
find_map {A = A} {B = B} p q f g same kept (x ∷ xs) = by (q x) (p x) refl (kept x) (find_map p q f g same kept xs)
  where
    by : (a b : Bool) → p x ≡ b → (a ≡ true → p x ≡ true → g (f x) ≡ g x) → option_map g (find p (map (λ (x : A). cond (q x) (f x) x) xs))
        ≡ option_map g (find p xs)
        → option_map g (cond (p (cond a (f x) x)) (Some (cond a (f x) x)) (find p (map (λ (x : A). cond (q x) (f x) x) xs))) ≡ option_map g
        (cond (p x) (Some x) (find p xs))
    by true true is k rest = ap (λ (b : Bool). option_map g (cond b (Some (f x)) (find p (map (λ (x : A). cond (q x) (f x) x) xs))))
        (same x ∙ is) ∙ ap (λ (y : B). Some y) (k refl is) ∙ sym (ap (λ (b : Bool). option_map g (cond b (Some x) (find p xs))) is)
    by true false is k rest = ap (λ (b : Bool). option_map g (cond b (Some (f x)) (find p (map (λ (x : A). cond (q x) (f x) x) xs))))
        (same x ∙ is) ∙ rest ∙ sym (ap (λ (b : Bool). option_map g (cond b (Some x) (find p xs))) is)
    by false true is k rest = ap (λ (b : Bool). option_map g (cond b (Some x) (find p (map (λ (x : A). cond (q x) (f x) x) xs)))) is
        ∙ sym (ap (λ (b : Bool). option_map g (cond b (Some x) (find p xs))) is)
    by false false is k rest = ap (λ (b : Bool). option_map g (cond b (Some x) (find p (map (λ (x : A). cond (q x) (f x) x) xs)))) is
        ∙ rest ∙ sym (ap (λ (b : Bool). option_map g (cond b (Some x) (find p xs))) is)

-- a change of all that is looked for
pub find_changed : {A : Type 0} (p q : A → Bool) (f : A → A) → ((x : A) → p (f x) ≡ p x) → ((x : A) → p x ≡ true → q x ≡ true)
    → (xs : List A) (m : A) → find p xs ≡ Some m
    → find p (map (λ (x : A). cond (q x) (f x) x) xs) ≡ Some (f m)
find_changed p q f same own [] m is = absurd (false≢true (ap is_some is))
find_changed {A = A} p q f same own (x ∷ xs) m is = by (q x) (p x) refl (own x) is (find_changed p q f same own xs m)
  where
    by : (a b : Bool) → p x ≡ b → (p x ≡ true → a ≡ true) → cond b (Some x) (find p xs) ≡ Some m
        → (find p xs ≡ Some m → find p (map (λ (x : A). cond (q x) (f x) x) xs) ≡ Some (f m))
        → cond (p (cond a (f x) x)) (Some (cond a (f x) x)) (find p (map (λ (x : A). cond (q x) (f x) x) xs)) ≡ Some (f m)
    by true true at k e rest =
        ap (λ (b : Bool). cond b (Some (f x)) (find p (map (λ (x : A). cond (q x) (f x) x) xs))) (same x ∙ at) ∙ ap (option_map f) e
    by false true at k e rest = absurd (false≢true (k at))
    by true false at k e rest =
        ap (λ (b : Bool). cond b (Some (f x)) (find p (map (λ (x : A). cond (q x) (f x) x) xs))) (same x ∙ at) ∙ rest e
    by false false at k e rest = ap (λ (b : Bool). cond b (Some x) (find p (map (λ (x : A). cond (q x) (f x) x) xs))) at ∙ rest e

pub find_behind : {A : Type 0} (p : A → Bool) (x : A) → p x ≡ false → (xs : List A) → find p (xs ++ x ∷ []) ≡ find p xs
find_behind {A = A} p x at [] = ap (λ (b : Bool). cond {A = Option A} b (Some x) None) at
find_behind {A = A} p x at (y ∷ ys) = ap (λ (o : Option A). cond (p y) (Some y) o) (find_behind p x at ys)

pub find_new : {A : Type 0} (p : A → Bool) (x : A) → p x ≡ true → (xs : List A) → find p xs ≡ None → find p (xs ++ x ∷ []) ≡ Some x
find_new {A = A} p x at [] none = ap (λ (b : Bool). cond {A = Option A} b (Some x) None) at
find_new p x at (y ∷ ys) none = by (p y) none (find_new p x at ys)
  where
    by : (b : Bool) → cond b (Some y) (find p ys) ≡ None → (find p ys ≡ None → find p (ys ++ x ∷ []) ≡ Some x)
        → cond b (Some y) (find p (ys ++ x ∷ [])) ≡ Some x
    by true e rest = absurd (true≢false (ap is_some e))
    by false e rest = rest e
