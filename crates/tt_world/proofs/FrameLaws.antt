-- A frame keeps every world sound.
use Rattle.std.proofs.Common.{
  ◌≡◌,
  ℕ,
  zero,
  suc,
  ◌+◌,
  ◌%◌,
  ◌<◌,
  Bool,
  true,
  false,
  List,
  [],
  ◌∷◌,
  length,
  refl,
  sym,
  ◌∙◌,
  ap,
  subst,
  arith,
  lit<,
  ℤ,
  pos,
  neg_ℤ,
  ◌+ℤ◌,
  ◌-ℤ◌,
  ◌≤ℤ◌,
  ◌/◌,
  inl,
  inr,
}
use Rattle.std.specs.Prelude.{Option, Some, None, IsSome, option_map, ◌==◌}
use Rattle.std.proofs.lemmas.Int.{ints, clamps}
use Rattle.std.proofs.lemmas.Bool.Decides.{eqb_tells}
use Rattle.tt_world.specs.declared.company.Company.{Company}
use Rattle.tt_world.specs.Random.{next_random, below}
use Rattle.tt_world.specs.World.{WorldState, company_at}
use Rattle.tt_world.specs.Sound.{IsCompany, IsSound, most_money}
use Rattle.tt_world.specs.Economy.{clamped, earned, paying, paid, paid_monthly, next_day, new_day, went_on, framed_by, framed}
use Rattle.tt_world.proofs.SoundLaws.{Follows, FollowsEach, IsSound-follows, live_behind}

pub clamped_low : (m : ℤ) → neg_ℤ (pos most_money) ≤ℤ clamped m
clamped_low m = omega (arith, ints, clamps)

pub clamped_high : (m : ℤ) → clamped m ≤ℤ pos most_money
clamped_high m = omega (arith, ints, clamps)

with_money : (m : ℤ) (c : Company) → IsCompany c → IsCompany (record c { money = clamped m })
with_money m c h = record {
  least_money = clamped_low m;
  most_money = clamped_high m;
  loan = h.loan;
  steps = h.steps;
  most = h.most;
  most_steps = h.most_steps;
  name = h.name;
  president = h.president;
}

pub earned_follows : (places : List (Option Company)) (words : ℕ × ℕ) → FollowsEach places (earned words places).1
earned_follows [] words n = tt
earned_follows (None ∷ places) words zero = tt
earned_follows (None ∷ places) words (suc n) = earned_follows places words n
earned_follows (Some c ∷ places) words zero = (refl, λ h. with_money (c.money +ℤ pos (below (next_random words) 1001)) c h)
earned_follows (Some c ∷ places) words (suc n) = earned_follows places (next_random words) n

pub length-earned : (places : List (Option Company)) (words : ℕ × ℕ) → length (earned words places).1 ≡ length places
length-earned [] words = refl
length-earned (None ∷ places) words = ap suc (length-earned places words)
length-earned (Some c ∷ places) words = ap suc (length-earned places (next_random words))

paid_one : (o : Option Company) → Follows o (option_map paying o)
paid_one None = tt
paid_one (Some c) = (refl, λ h. with_money (c.money -ℤ pos (c.loan / 600)) c h)

pub paid_follows : (places : List (Option Company)) → FollowsEach places (paid places)
paid_follows [] n = tt
paid_follows (o ∷ places) zero = paid_one o
paid_follows (o ∷ places) (suc n) = paid_follows places n

length-paid : (places : List (Option Company)) → length (paid places) ≡ length places
length-paid [] = refl
length-paid (o ∷ places) = ap suc (length-paid places)

same_follows : (o : Option Company) → Follows o o
same_follows None = tt
same_follows (Some c) = (refl, λ h. h)

pub monthly_follows : (b : Bool) (places : List (Option Company)) → FollowsEach places (paid_monthly b places)
monthly_follows true places n = paid_follows places n
monthly_follows false places n = same_follows (company_at places n)

pub length-monthly : (b : Bool) (places : List (Option Company)) → length (paid_monthly b places) ≡ length places
length-monthly true places = length-paid places
length-monthly false places = refl

follows_on : (o p q : Option Company) → Follows o p → Follows p q → Follows o q
follows_on None None None h k = tt
follows_on None None (Some q) h k = absurd k
follows_on None (Some p) q h k = absurd h
follows_on (Some o) None q h k = absurd h
follows_on (Some o) (Some p) None h k = absurd k
follows_on (Some o) (Some p) (Some q) h k = (h.0 ∙ k.0, λ s. k.1 (h.1 s))

pub day_follows : (b : Bool) (words : ℕ × ℕ) (places : List (Option Company)) → FollowsEach places (paid_monthly b (earned words places).1)
day_follows b words places n =
    let after = (earned words places).1 in
    follows_on (company_at places n) (company_at after n) (company_at (paid_monthly b after) n) (earned_follows places words n)
    (monthly_follows b after n)

-- a world in which a day has begun
pub IsSound-day : (w v : WorldState) (b : Bool) (words : ℕ × ℕ) → IsSound w → v.part < 74
    → v.companies ≡ paid_monthly b (earned words w.companies).1 → v.signs ≡ w.signs → IsSound v
IsSound-day w v b words s part e signs =
    IsSound-follows w v s part (ap length e ∙ length-monthly b (earned words w.companies).1 ∙ length-earned w.companies words ∙ s.places)
    (λ n. subst (λ places. Follows (company_at w.companies n) (company_at places n)) (sym e) (day_follows b words w.companies n)) signs

pub IsSound-new_day : (w : WorldState) → IsSound w → IsSound (new_day w)
IsSound-new_day w s = IsSound-day w (new_day w) (next_day w.day % 30 == 0) w.words s (lit< tt) refl refl

went_sound : (b : Bool) (w : WorldState) → (b ≡ false → w.part + 1 < 74) → IsSound w → IsSound (went_on b w)
went_sound true w h s = IsSound-new_day w s
went_sound false w h s =
    record { part = h refl; places = s.places; companies = s.companies; names = s.names; few = s.few; rising = s.rising; signs = s.signs }

pub IsSound-drawn : (w : WorldState) (words : ℕ × ℕ) → IsSound w → IsSound (record w { words = words })
IsSound-drawn w words s =
    record { part = s.part; places = s.places; companies = s.companies; names = s.names; few = s.few; rising = s.rising; signs = s.signs }

part_goes_on : (part : ℕ) → part < 74 → (part + 1 == 74) ≡ false → part + 1 < 74
part_goes_on part lt e =
    elim (eqb_tells (part + 1) 74) [ inl p ↦ absurd (let f = e in let g = p.0 in cc) | inr p ↦ let ne = p.1 in omega arith ]

framed_sound : (b : Bool) (w : WorldState) → IsSound w → IsSound (framed_by b w)
framed_sound true w s = s
framed_sound false w s = went_sound (w.part + 1 == 74) (record w { words = next_random w.words }) (part_goes_on w.part s.part)
    (IsSound-drawn w (next_random w.words) s)

pub IsSound-framed : (w : WorldState) → IsSound w → IsSound (framed w)
IsSound-framed w s = framed_sound w.paused w s

-- ---- laws

pub framed_paused : (w : WorldState) → w.paused ≡ true → framed w ≡ w
framed_paused w e = ap (λ b. framed_by b w) e

went_signs : (b : Bool) (w : WorldState) → ((went_on b w).signs ≡ w.signs) × ((went_on b w).paused ≡ w.paused)
went_signs true w = (refl, refl)
went_signs false w = (refl, refl)

by_signs : (b : Bool) (w : WorldState) → ((framed_by b w).signs ≡ w.signs) × ((framed_by b w).paused ≡ w.paused)
by_signs true w = (refl, refl)
by_signs false w = went_signs (w.part + 1 == 74) (record w { words = next_random w.words })

pub framed_signs : (w : WorldState) → ((framed w).signs ≡ w.signs) × ((framed w).paused ≡ w.paused)
framed_signs w = by_signs w.paused w

not_last : (part : ℕ) → part + 1 < 74 → (part + 1 == 74) ≡ false
not_last part lt = elim (eqb_tells (part + 1) 74) [ inl p ↦ absurd (let e = p.1 in omega arith) | inr p ↦ p.0 ]

by_rests : (b : Bool) (w : WorldState) → (w.part + 1 == 74) ≡ false → (framed_by b w).companies ≡ w.companies
by_rests true w e = refl
by_rests false w e = ap (λ t. (went_on t (record w { words = next_random w.words })).companies) e

pub framed_rests : (w : WorldState) → w.part + 1 < 74 → (framed w).companies ≡ w.companies
framed_rests w lt = by_rests w.paused w (not_last w.part lt)

went_live : (b : Bool) (w : WorldState) (n : ℕ) → IsSome (company_at w.companies n) → IsSome (company_at (went_on b w).companies n)
went_live true w n some = live_behind (company_at w.companies n) (company_at (new_day w).companies n)
    (day_follows (next_day w.day % 30 == 0) w.words w.companies n) some
went_live false w n some = some

by_live : (b : Bool) (w : WorldState) (n : ℕ) → IsSome (company_at w.companies n) → IsSome (company_at (framed_by b w).companies n)
by_live true w n some = some
by_live false w n some = went_live (w.part + 1 == 74) (record w { words = next_random w.words }) n some

pub framed_live : (w : WorldState) (n : ℕ) → IsSome (company_at w.companies n) → IsSome (company_at (framed w).companies n)
framed_live w n some = by_live w.paused w n some
