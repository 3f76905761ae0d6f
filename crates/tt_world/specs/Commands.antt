-- The nine commands: of each, when it is refused and what it does. Refusals are looked at in the order in which they
-- stand; a command is refused for the first that holds.
use Rattle.std.specs.Prelude.{
  ℕ,
  zero,
  suc,
  ◌+◌,
  ◌-◌,
  ◌%◌,
  Bool,
  true,
  false,
  not,
  ◌&&◌,
  ◌||◌,
  ◌==◌,
  nat_lt,
  nat_le,
  cond,
  List,
  [],
  ◌∷◌,
  ◌++◌,
  map,
  filter,
  take,
  drop,
  length,
  slice_set,
  Option,
  Some,
  None,
  is_none,
  option_map,
  ℤ,
  pos,
  ◌+ℤ◌,
  ◌-ℤ◌,
  int_lt,
  codes,
  decimal,
  bytes_eq,
}
use Rattle.std.specs.List.{list_any, position_or_len}
use Rattle.tt_world.specs.Reasons.{◌⇒◌, ◌or_else◌}
use Rattle.tt_world.specs.World.{WorldState, company_of}
use Rattle.tt_world.specs.Sound.{most_money}
use Rattle.tt_world.specs.declared.company.Company.{Company}
use Rattle.tt_world.specs.declared.sign.Sign.{Sign}
use Rattle.tt_world.specs.declared.command.Code.{Code}
use Rattle.tt_world.specs.declared.command.Code.TheVariants.{
  IncreaseLoan,
  DecreaseLoan,
  Give,
  PlaceSign,
  RenameSign,
  RenameCompany,
  RenamePresident,
  Pause,
  NewCompany,
}
use Rattle.tt_world.specs.declared.command.Entry.{Entry}
use Rattle.tt_world.specs.declared.effect.Why.{Why}
use Rattle.tt_world.specs.declared.effect.Why.TheVariants.{Amount, Loan, Money, NoCompany, Tile, Text, NoSign, Full, Same}
use Rattle.tt_world.specs.declared.effect.Effect.{Effect}
use Rattle.tt_world.specs.declared.effect.Effect.TheVariants.{Done, Refused}

-- ---- words

-- the companies with one of them changed, where it is live
abbrev pub changed : ℕ → (Company → Company) → WorldState → WorldState
changed n change w = record w { companies = slice_set w.companies n (option_map change (company_of w n)) }

-- a sum of loan: a positive multiple of 10,000
abbrev pub is_loan_sum : ℕ → Bool
is_loan_sum n = not (n == 0) && (n % 10000 == 0)

-- whether money is less than a sum
abbrev pub is_below : ℤ → ℕ → Bool
is_below money n = int_lt money (pos n)

-- whether money would be too much with a sum more
abbrev pub would_pass : ℤ → ℕ → Bool
would_pass money n = int_lt (pos most_money) (money +ℤ pos n)

-- ---- 0, IncreaseLoan

abbrev pub increase_refusal : ℕ → Company → Option Why
increase_refusal n c = not (is_loan_sum n) ⇒ Amount or_else nat_lt c.most (c.loan + n) ⇒ Loan or_else would_pass c.money n ⇒ Money

abbrev pub increased : ℕ → Company → Company
increased n c = record c { money = c.money +ℤ pos n; loan = c.loan + n }

-- ---- 1, DecreaseLoan

abbrev pub decrease_refusal : ℕ → Company → Option Why
decrease_refusal n c = not (is_loan_sum n) ⇒ Amount or_else nat_lt c.loan n ⇒ Loan or_else is_below c.money n ⇒ Money

abbrev pub decreased : ℕ → Company → Company
decreased n c = record c { money = c.money -ℤ pos n; loan = c.loan - n }

-- ---- 2, Give

-- whether a receiver, where there is one, would have too much
abbrev pub receiver_would_pass : Option Company → ℕ → Bool
receiver_would_pass None n = false
receiver_would_pass (Some receiver) n = would_pass receiver.money n

abbrev pub gift_refusal : ℕ → ℕ → ℕ → Option Company → Company → Option Why
gift_refusal from to n receiver giver = (n == 0) || nat_lt 20000000 n ⇒ Amount or_else is_none receiver || (to == from) ⇒ NoCompany
    or_else is_below (giver.money -ℤ pos giver.loan) n ⇒ Money or_else receiver_would_pass receiver n ⇒ Money

abbrev pub richer : ℕ → Company → Company
richer n c = record c { money = c.money +ℤ pos n }

abbrev pub poorer : ℕ → Company → Company
poorer n c = record c { money = c.money -ℤ pos n }

abbrev pub given : ℕ → ℕ → ℕ → WorldState → WorldState
given from to n w = changed to (richer n) (changed from (poorer n) w)

-- ---- 3, PlaceSign

abbrev pub place_refusal : ℕ → List ℕ → List Sign → Option Why
place_refusal tile text signs = nat_le 1048576 tile ⇒ Tile or_else (length text == 0) ⇒ Text or_else nat_le 1000 (length signs) ⇒ Full

-- the least number from i on that is not among the numbers, of n that are tried
abbrev pub least_unused : List ℕ → ℕ → ℕ → ℕ
least_unused used i zero = i
least_unused used i (suc n) = elim (list_any (λ k. k == i) used) [ true ↦ least_unused used (i + 1) n | false ↦ i ]

-- the id of a new sign: the least that no sign has
unfoldable pub new_id : List Sign → ℕ
new_id signs = least_unused (map (λ g. g.id) signs) 0 1000

-- a sign stands behind those with lower ids
abbrev pub with_sign : Sign → List Sign → List Sign
with_sign sign [] = sign ∷ []
with_sign sign (g ∷ gs) = elim (nat_lt sign.id g.id) [ true ↦ sign ∷ g ∷ gs | false ↦ g ∷ with_sign sign gs ]

abbrev pub placed : ℕ → ℕ → List ℕ → List Sign → List Sign
placed owner tile text signs = with_sign (record { id = new_id signs; owner = owner; tile = tile; text = text }) signs

-- ---- 4, RenameSign

-- whether a sign has this id and this owner
abbrev pub is_sign_of : ℕ → ℕ → Sign → Bool
is_sign_of id owner g = (g.id == id) && (g.owner == owner)

abbrev pub rename_sign_refusal : ℕ → ℕ → List Sign → Option Why
rename_sign_refusal id owner signs = not (list_any (is_sign_of id owner) signs) ⇒ NoSign

-- the signs without this one
abbrev pub without_sign : ℕ → ℕ → List Sign → List Sign
without_sign id owner signs = filter (λ g. not (is_sign_of id owner g)) signs

-- the signs, of which this one says the text
abbrev pub with_text : ℕ → ℕ → List ℕ → List Sign → List Sign
with_text id owner text signs = map (λ g. cond (is_sign_of id owner g) (record g { text = text }) g) signs

-- the sign is taken away where the text is empty
abbrev pub sign_renamed : ℕ → ℕ → List ℕ → List Sign → List Sign
sign_renamed id owner [] signs = without_sign id owner signs
sign_renamed id owner (b ∷ bs) signs = with_text id owner (b ∷ bs) signs

-- ---- 5, RenameCompany

-- whether there is a company at a place, with this name
abbrev pub has_name : List ℕ → Option Company → Bool
has_name name None = false
has_name name (Some c) = bytes_eq c.name name

-- whether a company in front of a place or behind it has the name
abbrev pub is_name_of_another : ℕ → List ℕ → List (Option Company) → Bool
is_name_of_another n name companies = list_any (has_name name) (take n companies) || list_any (has_name name) (drop (n + 1) companies)

abbrev pub rename_refusal : ℕ → List ℕ → List (Option Company) → Option Why
rename_refusal n name companies = (length name == 0) || is_name_of_another n name companies ⇒ Text

abbrev pub renamed : List ℕ → Company → Company
renamed name c = record c { name = name }

-- ---- 6, RenamePresident

abbrev pub president_refusal : List ℕ → Option Why
president_refusal name = (length name == 0) ⇒ Text

abbrev pub president_renamed : List ℕ → Company → Company
president_renamed name c = record c { president = name }

-- ---- 7, Pause

-- whether a world is already as the number says
abbrev pub is_already : ℕ → Bool → Bool
is_already n true = n == 1
is_already n false = n == 0

abbrev pub pause_refusal : ℕ → Bool → Option Why
pause_refusal n paused = nat_lt 1 n ⇒ Amount or_else is_already n paused ⇒ Same

-- ---- 8, NewCompany

abbrev pub found_refusal : List (Option Company) → Option Why
found_refusal companies = not (list_any is_none companies) ⇒ Full

-- the number of a new company: the least that is not live
abbrev pub new_number : List (Option Company) → ℕ
new_number companies = position_or_len is_none companies

abbrev pub numbered_name : ℕ → List ℕ
numbered_name m = codes "Company " ++ decimal m

-- `Company m` with the least m from i on that no company has, of n more that are tried
abbrev pub least_name : List (Option Company) → ℕ → ℕ → List ℕ
least_name companies i zero = numbered_name i
least_name companies i (suc n) =
    elim (list_any (has_name (numbered_name i)) companies) [ true ↦ least_name companies (i + 1) n | false ↦ numbered_name i ]

-- the name of a new company: of fourteen companies at most, one of the first fifteen such names is not taken
unfoldable pub new_name : List (Option Company) → List ℕ
new_name companies = least_name companies 1 14

abbrev pub new_company : List (Option Company) → Company
new_company companies =
    record { money = pos 100000; loan = 100000; most = 300000; name = new_name companies; president = codes "President" }

abbrev pub founded : WorldState → WorldState
founded w = record w { companies = slice_set w.companies (new_number w.companies) (Some (new_company w.companies)) }

-- ---- all nine

-- codes 0 to 6 of a company that is not live are refused with NoCompany first
abbrev pub of_live : Option Company → (Company → Option Why) → Option Why
of_live None refusal = Some NoCompany
of_live (Some c) refusal = refusal c

-- the reason for which a command of a company is refused, if there is one
abbrev pub refusal_by : Code → ℕ → ℕ → ℕ → List ℕ → WorldState → Option Why
refusal_by IncreaseLoan company n to text w = of_live (company_of w company) (increase_refusal n)
refusal_by DecreaseLoan company n to text w = of_live (company_of w company) (decrease_refusal n)
refusal_by Give company n to text w = of_live (company_of w company) (gift_refusal company to n (company_of w to))
refusal_by PlaceSign company n to text w = of_live (company_of w company) (λ _. place_refusal n text w.signs)
refusal_by RenameSign company n to text w = of_live (company_of w company) (λ _. rename_sign_refusal n company w.signs)
refusal_by RenameCompany company n to text w = of_live (company_of w company) (λ _. rename_refusal company text w.companies)
refusal_by RenamePresident company n to text w = of_live (company_of w company) (λ _. president_refusal text)
refusal_by Pause company n to text w = pause_refusal n w.paused
refusal_by NewCompany company n to text w = found_refusal w.companies

-- the world behind a command that is not refused
abbrev pub done_by : Code → ℕ → ℕ → ℕ → List ℕ → WorldState → WorldState
done_by IncreaseLoan company n to text w = changed company (increased n) w
done_by DecreaseLoan company n to text w = changed company (decreased n) w
done_by Give company n to text w = given company to n w
done_by PlaceSign company n to text w = record w { signs = placed company n text w.signs }
done_by RenameSign company n to text w = record w { signs = sign_renamed n company text w.signs }
done_by RenameCompany company n to text w = changed company (renamed text) w
done_by RenamePresident company n to text w = changed company (president_renamed text) w
done_by Pause company n to text w = record w { paused = n == 1 }
done_by NewCompany company n to text w = founded w

abbrev pub refusal : WorldState → Entry → Option Why
refusal w e = refusal_by e.command.code e.company e.command.number e.command.to e.command.text w

abbrev pub done : WorldState → Entry → WorldState
done w e = done_by e.command.code e.company e.command.number e.command.to e.command.text w

-- the new world and that it is done, or the old world and why not
abbrev pub answered : Option Why → WorldState → WorldState → WorldState × Effect
answered None old new = (new, Done)
answered (Some why) old new = (old, Refused why)

-- the world behind an entry, and what became of it
abbrev pub applied : WorldState → Entry → WorldState × Effect
applied w e = answered (refusal w e) w (done w e)
