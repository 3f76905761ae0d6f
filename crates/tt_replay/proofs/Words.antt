-- Words that ask for what is made from a number ask for nothing else.
use Rattle.std.proofs.Common.{◌≡◌, ◌≢◌, ℕ, ◌<◌, List, [], ◌∷◌, sym, ap, ◌∙◌, arith}
use Rattle.std.specs.Prelude.{◌^◌, codes, slice_index}
use Rattle.std.specs.Fmt.{decimal}
use Rattle.std.proofs.lemmas.Fmt.{decimal_injective}
use Rattle.tt_hour_run.specs.Made.{IsMadeForm}
use Rattle.tt_hour_run.specs.declared.made.Made.{Made}
use Rattle.tt_hour_run.specs.declared.made.Made.TheVariants.{Make, Hour}

first_same : (v w a b : List ℕ) → ◌≡◌ {A = List (List ℕ)} (v ∷ a ∷ []) (w ∷ b ∷ []) → v ≡ w
first_same v w a b e = cc

second_same : (v w a b : List ℕ) → ◌≡◌ {A = List (List ℕ)} (v ∷ a ∷ []) (w ∷ b ∷ []) → a ≡ b
second_same v w a b e = cc

number_same : (verb : List ℕ) (n m : ℕ) → n < 2 ^ 32 → m < 2 ^ 32 → (words : List (List ℕ)) → words ≡ verb ∷ decimal n ∷ []
    → words ≡ verb ∷ decimal m ∷ [] → n ≡ m
number_same verb n m low small words one other =
    decimal_injective n m (omega (arith, low)) (omega (arith, small))
    (second_same verb verb (decimal n) (decimal m) (sym one ∙ other))

two_verbs : (words : List (List ℕ)) (a b : List ℕ) → words ≡ codes "make" ∷ a ∷ [] → words ≡ codes "hour" ∷ b ∷ [] → ⊥
two_verbs words a b one other =
    let verbs : codes "make" ≡ codes "hour" = first_same (codes "make") (codes "hour") a b (sym one ∙ other) in
    let letters : 109 ≡ 104 = ap (λ (w : List ℕ). slice_index w 0) verbs in
    omega (arith, letters)

-- they ask for one thing
pub one_made : (words : List (List ℕ)) (a b : Made) → IsMadeForm words a → IsMadeForm words b → a ≡ b
one_made words (Make n) (Make m) x y = ap Make (number_same (codes "make") n m x.0 y.0 words x.1 y.1)
one_made words (Make n) (Hour m) x y = absurd (two_verbs words (decimal n) (decimal m) x.1 y.1)
one_made words (Hour n) (Make m) x y = absurd (two_verbs words (decimal m) (decimal n) y.1 x.1)
one_made words (Hour n) (Hour m) x y = ap Hour (number_same (codes "hour") n m x.0 y.0 words x.1 y.1)
