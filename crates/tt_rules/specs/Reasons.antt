-- Refusals in their order: a test and its code, and the first code whose test holds.
use Rattle.std.specs.Prelude.{ℕ, Bool, true, false, Option, Some, None}

-- the code, where the test holds
infix 20 ◌⇒◌
abbrev pub ◌⇒◌ : Bool → ℕ → Option ℕ
true ⇒ code = Some code
false ⇒ code = None

-- the first code, and where there is none the second
infixr 10 ◌or_else◌
abbrev pub ◌or_else◌ : Option ℕ → Option ℕ → Option ℕ
(Some code) or_else later = Some code
None or_else later = later
