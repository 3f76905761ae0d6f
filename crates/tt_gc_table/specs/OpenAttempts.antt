-- The open attempts, as the code keeps them: by number.
use Rattle.std.specs.Prelude.{◌≡◌, ℕ, ◌<◌, ◌^◌, List, [], ◌∷◌, None, drop, find}
use Rattle.std.specs.List.{AllByRecursion}
use Rattle.std.specs.Map.{values_of}
use Rattle.std.specs.Fmt.{decimal}
use Rattle.tt_attempts.specs.declared.attempt.Stage.{Stage}
use Rattle.tt_gc_table.specs.Table.{Meeting, is_for}

-- in the order of their numbers
abbrev pub meetings_of : List (ℕ × Meeting) → List Meeting
meetings_of es = values_of es

-- behind a token's eight characters stands the attempt's number
pub record IsToken (n : ℕ) (token : List ℕ) : Type 0 where
  pub small : n < 2 ^ 32
  pub digits : drop 8 token ≡ decimal n

abbrev pub IsNumbered : List (ℕ × Meeting) → Type 0
IsNumbered es = AllByRecursion (λ (e : ℕ × Meeting). IsToken e.0 e.1.token) es

-- the attempt is so far
abbrev pub with_stage : Stage → Meeting → Meeting
with_stage stage m = record m { state = record m.state { stage = stage } }

-- no two have one token
abbrev pub Distinct : List Meeting → Type 0
Distinct [] = Unit {0}
Distinct (m ∷ ms) = (find (is_for m.token) ms ≡ None) × Distinct ms
