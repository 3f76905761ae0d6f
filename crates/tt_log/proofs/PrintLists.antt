-- What holds of each item of a list holds of parts of it, and of lists made from it.
use Rattle.std.proofs.Common.{List, [], ◌∷◌, ◌++◌, map, Bool, true, false, cond}
use Rattle.std.specs.Prelude.{filter}
use Rattle.std.specs.List.{AllByRecursion}

pub all_append : {A : Type 0} (P : A → Type 0) (xs ys : List A) → AllByRecursion P xs → AllByRecursion P ys → AllByRecursion P (xs ++ ys)
all_append P [] ys all more = more
all_append P (x ∷ xs) ys all more = (all.0, all_append P xs ys all.1 more)

pub all_map : {A B : Type 0} (f : A → B) (P : B → Type 0) (Q : A → Type 0) → ((x : A) → Q x → P (f x)) → (xs : List A) → AllByRecursion Q xs
    → AllByRecursion P (map f xs)
all_map f P Q each [] all = tt
all_map f P Q each (x ∷ xs) all = (each x all.0, all_map f P Q each xs all.1)

pub filter_by : {A : Type 0} (P : A → Type 0) (x : A) (kept : List A) (t : Bool) → P x → AllByRecursion P kept
    → AllByRecursion P (cond t (x ∷ kept) kept)
filter_by P x kept true one all = (one, all)
filter_by P x kept false one all = all

pub all_filter : {A : Type 0} (P : A → Type 0) (p : A → Bool) (xs : List A) → AllByRecursion P xs → AllByRecursion P (filter p xs)
all_filter P p [] all = tt
all_filter P p (x ∷ xs) all = filter_by P x (filter p xs) (p x) all.0 (all_filter P p xs all.1)

pub all_each : {A : Type 0} (P Q : A → Type 0) → ((x : A) → P x → Q x) → (xs : List A) → AllByRecursion P xs → AllByRecursion Q xs
all_each P Q each [] all = tt
all_each P Q each (x ∷ xs) all = (each x all.0, all_each P Q each xs all.1)
