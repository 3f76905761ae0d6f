-- The world: random words, the day, companies and signs.
use Rattle.std.specs.Prelude.{ℕ, Bool, false, List, [], Option, None, replicate, slice_index_or}
use Rattle.tt_world.specs.declared.setup.Setup.{Setup}
use Rattle.tt_world.specs.declared.company.Company.{Company}
use Rattle.tt_world.specs.declared.sign.Sign.{Sign}

-- the random words; the day, and the part of the day, of which a day has 74; whether the world is paused;
-- fifteen places, of which the place n has the company with the number n, where it is live; the signs in rising order
-- of id
pub record WorldState : Type 0 where
  pub words : ℕ × ℕ
  pub day : ℕ
  pub part : ℕ
  pub paused : Bool
  pub companies : List (Option Company)
  pub signs : List Sign

-- the world of these parts
abbrev pub world_of_parts : ℕ × ℕ → ℕ → ℕ → Bool → List (Option Company) → List Sign → WorldState
world_of_parts words day part paused companies signs =
    record { words = words; day = day; part = part; paused = paused; companies = companies; signs = signs }

-- the world that a game starts with: both words are the seed, it is the first part of the first day, and nobody is there
abbrev pub start : Setup → WorldState
start setup = record { words = (setup.seed, setup.seed); day = 0; part = 0; paused = false; companies = replicate 15 None; signs = [] }

-- the company at a place, where there is one
abbrev pub company_at : List (Option Company) → ℕ → Option Company
company_at companies n = slice_index_or companies n None

-- the company with a number, where it is live
abbrev pub company_of : WorldState → ℕ → Option Company
company_of w n = company_at w.companies n
