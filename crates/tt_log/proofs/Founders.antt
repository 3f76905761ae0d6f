-- Which companies entries found follows from the live companies alone.
use Rattle.std.proofs.Common.{◌≡◌, ℕ, ◌+◌, ◌≤◌, ◌<◌, List, [], ◌∷◌, ◌++◌, refl, ap, ap₂, sym, ◌∙◌, true, false, Bool, Option, Some, None}
use Rattle.std.proofs.Common.{arith, suc}
use Rattle.std.specs.Prelude.{cond, not, map, length, nat_lt, is_some, is_none, option_map, slice_set}
use Rattle.std.specs.List.{list_any, position_or_len}
use Rattle.std.proofs.lemmas.Bool.{lt-ltb, le-ltb, ltb-true, ltb-false}
use Rattle.std.proofs.lemmas.List.{map-set}
use Rattle.std.proofs.Math.Seq.{map-set_same}
use Rattle.tt_world.specs.declared.command.Code.{Code}
use Rattle.tt_world.specs.declared.command.Code.TheVariants.{IncreaseLoan, DecreaseLoan, Give, PlaceSign, RenameSign, RenameCompany}
use Rattle.tt_world.specs.declared.command.Code.TheVariants.{RenamePresident, Pause, NewCompany}
use Rattle.tt_world.specs.declared.command.Entry.{Entry}
use Rattle.tt_world.specs.declared.company.Company.{Company}
use Rattle.tt_world.specs.declared.effect.Why.{Why}
use Rattle.tt_world.specs.World.{WorldState, company_of}
use Rattle.tt_world.specs.Commands.{applied, answered, refusal_by, done_by, changed, richer, poorer, new_number, new_company, founded}
use Rattle.tt_rules.specs.Companies.{living, least_free}
use Rattle.tt_log.specs.Tick.{founding, founder_of, living_with, foundings}
use Rattle.tt_log.specs.Foundings.{founded_by, foundings_in}

-- ---- the least number that is free

place-same : (cs : List (Option Company)) → position_or_len not (map is_some cs) ≡ position_or_len is_none cs
place-same [] = refl
place-same (None ∷ cs) = refl
place-same (Some c ∷ cs) = ap (λ (k : ℕ). 1 + k) (place-same cs)

lives-length : (cs : List (Option Company)) → length (map is_some cs) ≡ length cs
lives-length [] = refl
lives-length (c ∷ cs) = ap (λ (k : ℕ). suc k) (lives-length cs)

lt-suc : (b : Bool) (k n : ℕ) → nat_lt k n ≡ b → nat_lt (1 + k) (suc n) ≡ b
lt-suc true k n is = let l : k < n = ltb-true k n is in lt-ltb (1 + k) (suc n) (omega (arith, l))
lt-suc false k n is = let l : n ≤ k = ltb-false k n is in le-ltb (1 + k) (suc n) (omega (arith, l))

any-free : (cs : List (Option Company)) → nat_lt (position_or_len is_none cs) (length cs) ≡ list_any is_none cs
any-free [] = refl
any-free (None ∷ cs) = lt-ltb 0 (suc (length cs)) (omega arith)
any-free (Some c ∷ cs) = lt-suc (list_any is_none cs) (position_or_len is_none cs) (length cs) (any-free cs)

free-is : (cs : List (Option Company)) → least_free (map is_some cs) ≡ cond (list_any is_none cs) (Some (new_number cs)) None
free-is cs =
    ap₂ (λ (k n : ℕ). cond (nat_lt k n) (Some k) None) (place-same cs) (lives-length cs)
    ∙ ap (λ (b : Bool). cond b (Some (new_number cs)) None) (any-free cs)

-- ---- what commands leave of the live companies

map-some : (f : Company → Company) (x : Option Company) → is_some (option_map f x) ≡ is_some x
map-some f None = refl
map-some f (Some c) = refl

changed-lives : (n : ℕ) (f : Company → Company) (w : WorldState) → living (changed n f w) ≡ living w
changed-lives n f w = map-set_same is_some w.companies n (option_map f (company_of w n)) None (map-some f (company_of w n))

founded-lives : (w : WorldState) → living (founded w) ≡ slice_set (living w) (new_number w.companies) true
founded-lives w = map-set is_some w.companies (new_number w.companies) (Some (new_company w.companies))

answered-lives : (why : Option Why) (old new : WorldState) → living new ≡ living old → living (answered why old new).0 ≡ living old
answered-lives None old new same = same
answered-lives (Some why) old new same = refl

-- ---- an entry

record Agree (code : Code) (number company to : ℕ) (text : List ℕ) (w : WorldState) : Type 0 where
  founders : founder_of (founding code (living w)) number ≡ founded_by code (answered (refusal_by code company number to text w) w
      (done_by code company number to text w)).1 number (new_number w.companies)
  lives : living (answered (refusal_by code company number to text w) w (done_by code company number to text w)).0
      ≡ living_with (founding code (living w)) (living w)

founds-by : (b : Bool) (number company to : ℕ) (text : List ℕ) (w : WorldState) → list_any is_none w.companies ≡ b → least_free (living w)
    ≡ cond b (Some (new_number w.companies)) None → Agree NewCompany number company to text w
founds-by true number company to text w any free = record {
  founders = rw (any, free) refl;
  lives = rw (any, free) (founded-lives w);
}
founds-by false number company to text w any free = record {
  founders = rw (any, free) refl;
  lives = rw (any, free) refl;
}

agree : (code : Code) (number company to : ℕ) (text : List ℕ) (w : WorldState) → Agree code number company to text w
agree IncreaseLoan n company to text w = record {
  founders = refl;
  lives = answered-lives (refusal_by IncreaseLoan company n to text w) w _
      (changed-lives company _ w);
}
agree DecreaseLoan n company to text w = record {
  founders = refl;
  lives = answered-lives (refusal_by DecreaseLoan company n to text w) w _
      (changed-lives company _ w);
}
agree Give n company to text w = record {
  founders = refl;
  lives = answered-lives (refusal_by Give company n to text w) w _
      (changed-lives to (richer n) (changed company (poorer n) w) ∙ changed-lives company (poorer n) w);
}
agree PlaceSign n company to text w = record { founders = refl; lives = answered-lives (refusal_by PlaceSign company n to text w) w _ refl }
agree RenameSign n company to text w = record {
  founders = refl;
  lives = answered-lives (refusal_by RenameSign company n to text w) w _
      refl;
}
agree RenameCompany n company to text w = record {
  founders = refl;
  lives = answered-lives (refusal_by RenameCompany company n to text w) w
      _ (changed-lives company _ w);
}
agree RenamePresident n company to text w =
    record { founders = refl; lives = answered-lives (refusal_by RenamePresident company n to text w) w _ (changed-lives company _ w) }
agree Pause n company to text w = record { founders = refl; lives = answered-lives (refusal_by Pause company n to text w) w _ refl }
agree NewCompany n company to text w = founds-by (list_any is_none w.companies) n company to text w refl (free-is w.companies)

pub applied-lives : (w : WorldState) (e : Entry) → living (applied w e).0 ≡ living_with (founding e.command.code (living w)) (living w)
applied-lives w e = (agree e.command.code e.command.number e.company e.command.to e.command.text w).lives

pub foundings-are : (w : WorldState) (es : List Entry) → foundings (living w) es ≡ foundings_in w es
foundings-are w [] = refl
foundings-are w (e ∷ es) =
    let a : Agree e.command.code e.command.number e.company e.command.to e.command.text w =
    agree e.command.code e.command.number e.company e.command.to e.command.text w in
    ap₂ (λ (xs : List (ℕ × ℕ)) (live : List Bool). xs ++ foundings live es) a.founders (sym a.lives)
    ∙ ap (λ (ys : List (ℕ × ℕ)). founded_by e.command.code (applied w e).1 e.command.number (new_number w.companies) ++ ys)
    (foundings-are (applied w e).0 es)
