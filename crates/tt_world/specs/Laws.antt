-- What the laws speak of.
use Rattle.std.specs.Prelude.{List, [], ◌∷◌, Option, Some, None, ℤ, pos, ◌+ℤ◌}
use Rattle.tt_world.specs.declared.company.Company.{Company}

-- the money of all live companies
abbrev pub total_money : List (Option Company) → ℤ
total_money [] = pos 0
total_money (None ∷ places) = total_money places
total_money (Some c ∷ places) = c.money +ℤ total_money places
