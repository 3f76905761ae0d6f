-- The companies that entries found, read from worlds: what `foundings` of Tick says of the live companies alone.
use Rattle.std.specs.Prelude.{ℕ, List, [], ◌∷◌, ◌++◌}
use Rattle.tt_world.specs.declared.command.Code.{Code}
use Rattle.tt_world.specs.declared.command.Code.TheVariants.{NewCompany}
use Rattle.tt_world.specs.declared.command.Entry.{Entry}
use Rattle.tt_world.specs.declared.effect.Effect.{Effect}
use Rattle.tt_world.specs.declared.effect.Effect.TheVariants.{Done}
use Rattle.tt_world.specs.World.{WorldState}
use Rattle.tt_world.specs.Commands.{applied, new_number}

abbrev pub founded_by : Code → Effect → ℕ → ℕ → List (ℕ × ℕ)
founded_by NewCompany Done client company = (client, company) ∷ []
founded_by code effect client company = []

-- the client and the company of each NewCompany that is done, from the world before it
abbrev pub foundings_in : WorldState → List Entry → List (ℕ × ℕ)
foundings_in w [] = []
foundings_in w (e ∷ es) = founded_by e.command.code (applied w e).1 e.command.number (new_number w.companies)
    ++ foundings_in (applied w e).0 es
