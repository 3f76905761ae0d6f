-- Refusals in their order.
use Rattle.std.specs.Prelude.{Bool, true, false, Option, Some, None}
use Rattle.tt_world.specs.declared.effect.Why.{Why}

-- the reason, where the test holds
infix 20 ◌⇒◌
abbrev pub ◌⇒◌ : Bool → Why → Option Why
true ⇒ why = Some why
false ⇒ why = None

-- the first reason, and where there is none the second
infixr 10 ◌or_else◌
abbrev pub ◌or_else◌ : Option Why → Option Why → Option Why
(Some why) or_else later = Some why
None or_else later = later
