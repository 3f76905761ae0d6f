-- Commands as a whole: what each leaves sound, live and as it was.
use Rattle.std.proofs.Common.{
  ◌≡◌,
  ℕ,
  zero,
  suc,
  ◌<◌,
  ◌≤◌,
  ◌≢◌,
  false,
  List,
  [],
  ◌∷◌,
  length,
  refl,
  sym,
  subst,
  arith,
  pos,
  ◌+ℤ◌,
  ◌-ℤ◌,
  ◌≤ℤ◌,
  set,
}
use Rattle.std.specs.Prelude.{Option, Some, None, IsSome, IfSome, is_none, option_map, not, ◌||◌, ◌==◌, nat_le}
use Rattle.std.specs.List.{list_any}
use Rattle.std.proofs.lemmas.Int.{ints}
use Rattle.std.proofs.lemmas.Bool.{or_parts}
use Rattle.std.proofs.lemmas.Bool.Decides.{nat_tests}
use Rattle.tt_world.specs.declared.company.Company.{Company}
use Rattle.tt_world.specs.declared.effect.Why.{Why}
use Rattle.tt_world.specs.declared.effect.Why.TheVariants.{Tile, Text, Full}
use Rattle.tt_world.specs.declared.effect.Effect.TheVariants.{Done}
use Rattle.tt_world.specs.declared.command.Code.{Code}
use Rattle.tt_world.specs.declared.command.Code.TheVariants.{
  IncreaseLoan,
  DecreaseLoan,
  Give,
  PlaceSign,
  RenameSign,
  RenameCompany,
  RenamePresident,
  Pause,
  NewCompany,
}
use Rattle.tt_world.specs.declared.command.Entry.{Entry}
use Rattle.tt_world.specs.Reasons.{◌⇒◌, ◌or_else◌}
use Rattle.tt_world.specs.World.{WorldState, company_at, company_of}
use Rattle.tt_frame.specs.Text.{IsName, IsShort}
use Rattle.tt_world.specs.Sound.{IsSound, most_money}
use Rattle.tt_world.specs.Laws.{total_money}
use Rattle.tt_world.specs.Commands.{
  refusal_by,
  refusal,
  done_by,
  done,
  answered,
  applied,
  of_live,
  changed,
  richer,
  poorer,
  given,
  gift_refusal,
  rename_refusal,
  place_refusal,
  president_refusal,
  is_name_of_another,
}
use Rattle.tt_world.proofs.CommandLaws.{
  passes,
  passes_last,
  live,
  not_false,
  gift_allowed,
  other_place,
  still_live,
  IsSound-increased,
  IsSound-decreased,
  IsSound-president,
  IsSound-paused,
  IsSound-poorer,
  IsSound-richer,
  IsSound-renamed,
}
use Rattle.tt_world.proofs.SignLaws.{IsSound-placed, IsSound-without, IsSound-text}
use Rattle.tt_world.proofs.FoundLaws.{IsSound-founded, founded_live}

pub refusal_to_rename : (w : WorldState) (code : Code) (company n to : ℕ) (text : List ℕ) (c : Company) → code ≡ RenameCompany
    → company_of w company ≡ Some c
    → rename_refusal company text w.companies ≡ refusal_by code company n to text w
refusal_to_rename w code company n to text c is live =
    subst (λ k. rename_refusal company text w.companies ≡ refusal_by k company n to text w) (sym is)
    (subst (λ o. rename_refusal company text w.companies ≡ of_live o (λ _. rename_refusal company text w.companies)) (sym live) refl)

-- ---- soundness

test_above : (a b : ℕ) → nat_le a b ≡ false → b < a
test_above a b e = grind (arith, nat_tests)

not_empty : (text : List ℕ) → (length text == 0) ≡ false → 1 ≤ length text
not_empty text e = grind (arith, nat_tests)

named : (text : List ℕ) → IsShort text → (length text == 0) ≡ false → IsName text
named text short e = record { text = short.text; some = not_empty text e; fits = short.fits }

-- what does not hang on the company
live_then : (o : Option Company) (r : Option Why) → of_live o (λ _. r) ≡ None → r ≡ None
live_then None r e = absurd cc
live_then (Some c) r e = e

IsSound-given : (w : WorldState) (from to n : ℕ) → of_live (company_of w from) (gift_refusal from to n (company_of w to)) ≡ None
    → IsSound w → IsSound (given from to n w)
IsSound-given w from to n e s =
    let gift = gift_allowed from to n (company_of w to) (company_of w from) e in
    IsSound-richer (changed from (poorer n) w) to n
    (subst (λ o. IfSome o (λ c. (c.money +ℤ pos n) ≤ℤ pos most_money)) (sym (other_place w from to (poorer n) gift.apart)) gift.room)
    (IsSound-poorer w from n gift.own s)

done_sound : (code : Code) (company n to : ℕ) (text : List ℕ) (w : WorldState) → IsShort text → refusal_by code company n to text w ≡ None
    → IsSound w → IsSound (done_by code company n to text w)
done_sound IncreaseLoan company n to text w short e s = IsSound-increased w company n e s
done_sound DecreaseLoan company n to text w short e s = IsSound-decreased w company n e s
done_sound Give company n to text w short e s = IsSound-given w company to n e s
done_sound PlaceSign company n to text w short e s =
    let p = passes (nat_le 1048576 n) Tile ((length text == 0) ⇒ Text or_else nat_le 1000 (length w.signs) ⇒ Full)
    (live_then (company_of w company) (place_refusal n text w.signs) e) in
    let q = passes (length text == 0) Text (nat_le 1000 (length w.signs) ⇒ Full) p.then in
    IsSound-placed w company n text (live (company_of w company) (λ _. place_refusal n text w.signs) e) (test_above 1048576 n p.not_so)
    (named text short q.not_so)
    (test_above 1000 (length w.signs) (passes_last (nat_le 1000 (length w.signs)) Full q.then)) s
done_sound RenameSign company n to [] w short e s = IsSound-without w n company s
done_sound RenameSign company n to (b ∷ bs) w short e s =
    IsSound-text w n company (b ∷ bs) (record { text = short.text; some = omega arith; fits = short.fits }) s
done_sound RenameCompany company n to text w short e s =
    let free = passes_last ((length text == 0) || is_name_of_another company text w.companies) Text (live_then (company_of w company)
    (rename_refusal company text w.companies) e) in
    let parts = or_parts (length text == 0) (is_name_of_another company text w.companies) free in
    IsSound-renamed w company text (named text short parts.0) parts.1 s
done_sound RenamePresident company n to text w short e s =
    let some = passes_last (length text == 0) Text (live_then (company_of w company) (president_refusal text) e) in
    IsSound-president w company text (named text short some) s
done_sound Pause company n to text w short e s = IsSound-paused w (n == 1) s
done_sound NewCompany company n to text w short e s =
    IsSound-founded w (not_false (list_any is_none w.companies) (passes_last (not (list_any is_none w.companies)) Full e)) s

answered_sound : (r : Option Why) (old new : WorldState) → IsSound old → (r ≡ None → IsSound new) → IsSound (answered r old new).0
answered_sound None old new s h = h refl
answered_sound (Some why) old new s h = s

pub IsSound-applied : (w : WorldState) (e : Entry) → IsShort e.command.text → IsSound w → IsSound (applied w e).0
IsSound-applied w e short s =
    answered_sound (refusal w e) w (done w e) s (λ r. done_sound e.command.code e.company e.command.number e.command.to e.command.text w
    short r s)

-- ---- laws

pub refused_stays : (r : Option Why) (old new : WorldState) → ((answered r old new).1 ≢ Done) → (answered r old new).0 ≡ old
refused_stays None old new h = absurd (h refl)
refused_stays (Some why) old new h = refl

done_live : (code : Code) (company n to : ℕ) (text : List ℕ) (w : WorldState) → refusal_by code company n to text w ≡ None → (k : ℕ)
    → IsSome (company_of w k) → IsSome (company_of (done_by code company n to text w) k)
done_live IncreaseLoan company n to text w e k some = still_live w.companies company _ k some
done_live DecreaseLoan company n to text w e k some = still_live w.companies company _ k some
done_live Give company n to text w e k some =
    still_live (changed company (poorer n) w).companies to (richer n) k (still_live w.companies company (poorer n) k some)
done_live PlaceSign company n to text w e k some = some
done_live RenameSign company n to text w e k some = some
done_live RenameCompany company n to text w e k some = still_live w.companies company _ k some
done_live RenamePresident company n to text w e k some = still_live w.companies company _ k some
done_live Pause company n to text w e k some = some
done_live NewCompany company n to text w e k some =
    founded_live w (not_false (list_any is_none w.companies) (passes_last (not (list_any is_none w.companies)) Full e)) k some

answered_live : (r : Option Why) (old new : WorldState) (k : ℕ) → IsSome (company_of old k) → (r ≡ None → IsSome (company_of new k))
    → IsSome (company_of (answered r old new).0 k)
answered_live None old new k some h = h refl
answered_live (Some why) old new k some h = some

pub applied_live : (w : WorldState) (e : Entry) (k : ℕ) → IsSome (company_of w k) → IsSome (company_of (applied w e).0 k)
applied_live w e k some =
    answered_live (refusal w e) w (done w e) k some (λ r. done_live e.command.code e.company e.command.number e.command.to e.command.text w
    r k some)

-- a place whose company's money changes by a sum
total_more : (places : List (Option Company)) (n sum : ℕ) → IsSome (company_at places n)
    → total_money (set places n (option_map (richer sum) (company_at places n))) ≡ total_money places +ℤ pos sum
total_more [] n sum e = absurd cc
total_more (None ∷ places) zero sum e = absurd cc
total_more (Some c ∷ places) zero sum e = omega (arith, ints)
total_more (None ∷ places) (suc n) sum e = total_more places n sum e
total_more (Some c ∷ places) (suc n) sum e = let h = total_more places n sum e in omega (arith, ints)

total_less : (places : List (Option Company)) (n sum : ℕ) → IsSome (company_at places n)
    → total_money (set places n (option_map (poorer sum) (company_at places n))) ≡ total_money places -ℤ pos sum
total_less [] n sum e = absurd cc
total_less (None ∷ places) zero sum e = absurd cc
total_less (Some c ∷ places) zero sum e = omega (arith, ints)
total_less (None ∷ places) (suc n) sum e = total_less places n sum e
total_less (Some c ∷ places) (suc n) sum e = let h = total_less places n sum e in omega (arith, ints)

given_total : (w : WorldState) (from to n : ℕ) → of_live (company_of w from) (gift_refusal from to n (company_of w to)) ≡ None
    → total_money (given from to n w).companies ≡ total_money w.companies
given_total w from to n e =
    let gift = gift_allowed from to n (company_of w to) (company_of w from) e in
    let mid = changed from (poorer n) w in
    let less : total_money mid.companies ≡ total_money w.companies -ℤ pos n = total_less w.companies from n gift.giver_live in
    let more : total_money (given from to n w).companies ≡ total_money mid.companies +ℤ pos n
    = total_more mid.companies to n (subst (λ o. IsSome o) (sym (other_place w from to (poorer n) gift.apart)) gift.receiver_live) in
    omega (arith, ints)

answered_total : (r : Option Why) (old new : WorldState) → (r ≡ None → total_money new.companies ≡ total_money old.companies)
    → total_money (answered r old new).0.companies ≡ total_money old.companies
answered_total None old new h = h refl
answered_total (Some why) old new h = refl

by_code_total : (code : Code) (company n to : ℕ) (text : List ℕ) (w : WorldState) → code ≡ Give
    → refusal_by code company n to text w ≡ None → total_money (done_by code company n to text w).companies ≡ total_money w.companies
by_code_total code company n to text w is e =
    subst (λ k. total_money (done_by k company n to text w).companies ≡ total_money w.companies) (sym is)
    (given_total w company to n (subst (λ k. refusal_by k company n to text w ≡ None) is e))

pub gift_total : (w : WorldState) (e : Entry) → e.command.code ≡ Give → total_money (applied w e).0.companies ≡ total_money w.companies
gift_total w e is =
    answered_total (refusal w e) w (done w e) (λ r. by_code_total e.command.code e.company e.command.number e.command.to e.command.text w
    is r)

-- no command takes time
done_time : (code : Code) (company n to : ℕ) (text : List ℕ) (w : WorldState) → ((done_by code company n to text w).words ≡ w.words)
    × ((done_by code company n to text w).day ≡ w.day) × ((done_by code company n to text w).part ≡ w.part)
done_time IncreaseLoan company n to text w = (refl, refl, refl)
done_time DecreaseLoan company n to text w = (refl, refl, refl)
done_time Give company n to text w = (refl, refl, refl)
done_time PlaceSign company n to text w = (refl, refl, refl)
done_time RenameSign company n to text w = (refl, refl, refl)
done_time RenameCompany company n to text w = (refl, refl, refl)
done_time RenamePresident company n to text w = (refl, refl, refl)
done_time Pause company n to text w = (refl, refl, refl)
done_time NewCompany company n to text w = (refl, refl, refl)

answered_time : (r : Option Why) (old new : WorldState) → (new.words ≡ old.words) × (new.day ≡ old.day) × (new.part ≡ old.part)
    → ((answered r old new).0.words ≡ old.words) × ((answered r old new).0.day ≡ old.day) × ((answered r old new).0.part ≡ old.part)
answered_time None old new h = h
answered_time (Some why) old new h = (refl, refl, refl)

pub applied_time : (w : WorldState) (e : Entry) → ((applied w e).0.words ≡ w.words) × ((applied w e).0.day ≡ w.day)
    × ((applied w e).0.part ≡ w.part)
applied_time w e =
    answered_time (refusal w e) w (done w e) (done_time e.command.code e.company e.command.number e.command.to e.command.text w)
