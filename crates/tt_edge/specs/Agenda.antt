-- What the calls of a link or a listener in memory are to do.
use Rattle.std.specs.Prelude.{ℕ, ◌+◌, ◌-◌, ◌^◌, min, List, Contains}
use Rattle.tt_edge.specs.declared.agenda.Turn.{Turn}
use Rattle.tt_edge.specs.declared.agenda.Turn.TheVariants.{Work, Idle, Fail}

-- the numbers of the calls that are to fail and of those that are to answer Nothing, counted from 0, and how many calls there were
pub record Calls : Type 0 where
  pub failing : List ℕ
  pub idle : List ℕ
  pub made : ℕ

-- the calls of an object that was just made
abbrev pub no_calls : List ℕ → List ℕ → Calls
no_calls failing idle = record { failing = failing; idle = idle; made = 0 }

-- after one call more
abbrev pub one_more : Calls → Calls
one_more calls = record calls { made = min (calls.made + 1) (2 ^ 64 - 1) }

-- the next call is to fail
abbrev pub FailsNext : Calls → Type 0
FailsNext calls = Contains calls.failing calls.made

-- the next call is to answer Nothing: it stands in that list, and not among those that are to fail
abbrev pub IdlesNext : Calls → Type 0
IdlesNext calls = Contains calls.idle calls.made × (FailsNext calls → ⊥)

-- the next call is to do its work
abbrev pub WorksNext : Calls → Type 0
WorksNext calls = (Contains calls.idle calls.made → ⊥) × (FailsNext calls → ⊥)

-- what the next call is to do
abbrev pub IsNext : Calls → Turn → Type 0
IsNext calls Work = WorksNext calls
IsNext calls Idle = IdlesNext calls
IsNext calls Fail = FailsNext calls
