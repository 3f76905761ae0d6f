-- One step more.
use Rattle.std.proofs.Common.{◌≡◌, ℕ, List, [], ◌∷◌, ◌++◌, refl, sym, ap, ◌∙◌, subst, append_assoc}
use Rattle.std.proofs.lemmas.List.{append-nil}
use Rattle.tt_rounds.specs.Chain.{Each, joined}

pub each_append : {S X : Type 0} (step : S → X → S → Type 0) (s m t : S) (xs ys : List X) → Each step s xs m → Each step m ys t
    → Each step s (xs ++ ys) t
each_append step s m t [] ys same more = subst (λ v. Each step v ys t) same more
each_append step s m t (x ∷ xs) ys first more = (first.0, first.1, each_append step first.0 m t xs ys first.2 more)

pub each_more : {S X : Type 0} (step : S → X → S → Type 0) (s m t : S) (xs : List X) (x : X) → Each step s xs m → step m x t
    → Each step s (xs ++ x ∷ []) t
each_more step s m t xs x first one = each_append step s m t xs (x ∷ []) first (t, one, refl)

pub joined_append : (xs ys : List (List ℕ)) → joined (xs ++ ys) ≡ joined xs ++ joined ys
joined_append [] ys = refl
joined_append (x ∷ xs) ys = ap (λ (zs : List ℕ). x ++ zs) (joined_append xs ys) ∙ sym (append_assoc x (joined xs) (joined ys))

pub joined_more : (xs : List (List ℕ)) (x : List ℕ) → joined (xs ++ x ∷ []) ≡ joined xs ++ x
joined_more xs x = joined_append xs (x ∷ []) ∙ ap (λ (zs : List ℕ). joined xs ++ zs) (append-nil x)
