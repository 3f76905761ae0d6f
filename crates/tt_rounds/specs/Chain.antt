-- One step behind the other.
use Rattle.std.specs.Prelude.{◌≡◌, ℕ, List, [], ◌∷◌, ◌++◌}

-- each of these steps was done, in order, from the first state to the last
abbrev pub Each : {S X : Type 0} → (S → X → S → Type 0) → S → List X → S → Type 0
Each step s [] last = last ≡ s
Each step s (x ∷ xs) last = (next : _) × step s x next × Each step next xs last

-- pieces, one behind the other
abbrev pub joined : List (List ℕ) → List ℕ
joined [] = []
joined (piece ∷ pieces) = piece ++ joined pieces
