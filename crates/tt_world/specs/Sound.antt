-- What is true of every world.
use Rattle.std.specs.Prelude.{◌≡◌, ℕ, ◌+◌, ◌*◌, ◌%◌, ◌^◌, ◌<◌, ◌≤◌, List, [], ◌∷◌, length, Option, Some, IsSome, pos, neg_ℤ, ◌≤ℤ◌, All}
use Rattle.tt_frame.specs.Text.{IsName}
use Rattle.tt_world.specs.declared.company.Company.{Company}
use Rattle.tt_world.specs.declared.sign.Sign.{Sign}
use Rattle.tt_world.specs.World.{WorldState, company_at}

-- money stays within plus and minus this
abbrev pub most_money : ℕ
most_money = 9 * 10 ^ 15

-- what is true of each live company
pub record IsCompany (c : Company) : Type 0 where
  pub least_money : neg_ℤ (pos most_money) ≤ℤ c.money
  pub most_money : c.money ≤ℤ pos most_money
  pub loan : c.loan ≤ c.most
  pub steps : c.loan % 10000 ≡ 0
  pub most : c.most ≤ 1000000
  pub most_steps : c.most % 10000 ≡ 0
  pub name : IsName c.name
  pub president : IsName c.president

-- a sign among companies: its owner is live
pub record IsSign (companies : List (Option Company)) (g : Sign) : Type 0 where
  pub id : g.id < 1000
  pub owner : IsSome (company_at companies g.owner)
  pub tile : g.tile < 1048576
  pub text : IsName g.text

-- the ids rise, from an id on
abbrev pub RiseFrom : ℕ → List Sign → Type 0
RiseFrom id [] = Unit {0}
RiseFrom id (g ∷ gs) = (id ≤ g.id) × RiseFrom (g.id + 1) gs

-- no two companies have one name
abbrev pub HasDistinctNames : List (Option Company) → Type 0
HasDistinctNames companies =
    (m n : ℕ) (c d : Company) → company_at companies m ≡ Some c → company_at companies n ≡ Some d → c.name ≡ d.name → m ≡ n

-- what is true of every world: its part is one of a day, and its companies and signs are right
pub record IsSound (w : WorldState) : Type 0 where
  pub part : w.part < 74
  pub places : length w.companies ≡ 15
  pub companies : (n : ℕ) (c : Company) → company_at w.companies n ≡ Some c → IsCompany c
  pub names : HasDistinctNames w.companies
  pub few : length w.signs ≤ 1000
  pub rising : RiseFrom 0 w.signs
  pub signs : All (IsSign w.companies) w.signs
