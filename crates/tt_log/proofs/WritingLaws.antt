-- Loops that write one item behind the other.
use Rattle.std.proofs.Common.{◌≡◌, ℕ, ◌+◌, ◌<◌, List, [], ◌∷◌, ◌++◌, length, get_or, take, sym, ap, ◌∙◌, append_assoc}
use Rattle.std.specs.List.{flat_map}
use Rattle.std.proofs.lemmas.List.{append-nil, take_more}
use Rattle.std.proofs.lemmas.Grind.{flat_map-append}

-- one item more was written
pub one_more : {A : Type 0} (f : A → List ℕ) (old mid new : List ℕ) (xs : List A) (i : ℕ) (x : A) → i < length xs → mid ≡ old
    ++ flat_map f (take i xs) → new ≡ mid ++ f (get_or xs i x)
    → new ≡ old ++ flat_map f (take (i + 1) xs)
one_more f old mid new xs i x lt so_far more =
    let next : flat_map f (take (i + 1) xs) ≡ flat_map f (take i xs) ++ f (get_or xs i x) =
    ap (flat_map f) (take_more xs i x lt) ∙ flat_map-append f (take i xs) (get_or xs i x ∷ []) ∙ ap (λ (t : List ℕ). flat_map f (take i xs)
    ++ t) (append-nil (f (get_or xs i x))) in
    more ∙ ap (λ (t : List ℕ). t ++ f (get_or xs i x)) so_far ∙ append_assoc old (flat_map f (take i xs)) (f (get_or xs i x))
    ∙ ap (λ (t : List ℕ). old ++ t) (sym next)
