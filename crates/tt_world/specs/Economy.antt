-- What a frame makes of the world.
use Rattle.std.specs.Prelude.{
  ℕ,
  ◌+◌,
  ◌-◌,
  ◌/◌,
  ◌%◌,
  ◌^◌,
  min,
  Bool,
  true,
  false,
  ◌==◌,
  List,
  [],
  ◌∷◌,
  map,
  Option,
  Some,
  None,
  option_map,
  ℤ,
  pos,
  neg_ℤ,
  ◌+ℤ◌,
  ◌-ℤ◌,
}
use Rattle.std.specs.Int.{int_max, int_min}
use Rattle.tt_world.specs.Random.{next_random, below}
use Rattle.tt_world.specs.World.{WorldState}
use Rattle.tt_world.specs.Sound.{most_money}
use Rattle.tt_world.specs.declared.company.Company.{Company}

-- money within its bounds: what is beyond them is lost
abbrev pub clamped : ℤ → ℤ
clamped money = int_max (neg_ℤ (pos most_money)) (int_min money (pos most_money))

-- a company that earns
abbrev pub earning : ℕ → Company → Company
earning sum c = record c { money = clamped (c.money +ℤ pos sum) }

-- each company in rising order earns a sum drawn below 1,001: the words behind these draws, and the companies
abbrev pub earned : ℕ × ℕ → List (Option Company) → (ℕ × ℕ) × List (Option Company)
earned words [] = (words, [])
earned words (None ∷ places) = let rest = earned words places in (rest.0, None ∷ rest.1)
earned words (Some c ∷ places) = let drawn = next_random words in let rest =
    earned drawn places in (rest.0, Some (earning (below drawn 1001) c) ∷ rest.1)

-- a company that pays the interest of a month
abbrev pub paying : Company → Company
paying c = record c { money = clamped (c.money -ℤ pos (c.loan / 600)) }

-- each company pays
abbrev pub paid : List (Option Company) → List (Option Company)
paid places = map (option_map paying) places

-- companies pay on the last day of a month
abbrev pub paid_monthly : Bool → List (Option Company) → List (Option Company)
paid_monthly true places = paid places
paid_monthly false places = places

-- the last day that can be told stays
abbrev pub next_day : ℕ → ℕ
next_day day = min (day + 1) (2 ^ 32 - 1)

-- a new day: companies earn, and where 30 divides the day they pay
abbrev pub new_day : WorldState → WorldState
new_day w = let earning = earned w.words w.companies in
    record w { words = earning.0; day = next_day w.day; part = 0; companies = paid_monthly (next_day w.day % 30 == 0) earning.1 }

-- the part of the day goes on; behind the last part a new day begins
abbrev pub went_on : Bool → WorldState → WorldState
went_on true w = new_day w
went_on false w = record w { part = w.part + 1 }

-- a word is drawn, and the part of the day goes on, where the world is not paused
abbrev pub framed_by : Bool → WorldState → WorldState
framed_by true w = w
framed_by false w = went_on (w.part + 1 == 74) (record w { words = next_random w.words })

-- one frame
abbrev pub framed : WorldState → WorldState
framed w = framed_by w.paused w
