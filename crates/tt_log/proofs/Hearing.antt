-- What a connection hears of steps: only what is for it, and of that what each step says.
use Rattle.std.proofs.Common.{◌⊎◌, inl, inr, ℕ, List, [], ◌∷◌, ◌++◌, true, false, Bool, sym, subst}
use Rattle.std.specs.Prelude.{◌==◌, map}
use Rattle.std.specs.List.{AllByRecursion, list_any}
use Rattle.tt_log.specs.declared.deed.Step.{Step}
use Rattle.tt_log.specs.Origin.{Origin}
use Rattle.tt_log.specs.Deed.{Said}
use Rattle.tt_log.specs.Tellings.{Filling, Telling, telling, filled, said_by}
use Rattle.tt_log.specs.Told.{kept_if, told_to}
use Rattle.tt_log.proofs.Lists.{NotIn, any-not}
use Rattle.tt_log.proofs.Apart.{missed-one}

kept-all : (P : Said → Type 0) (b : Bool) (s : Said) (rest : List Said) → P s → AllByRecursion P rest → AllByRecursion P (kept_if b s rest)
kept-all P true s rest p a = (p, a)
kept-all P false s rest p a = a

told-all : (P : Said → Type 0) (c : ℕ) (to : List ℕ) (said : List Said) (more : List Telling) → AllByRecursion P said
    → AllByRecursion P (told_to c more) → AllByRecursion P (told_to c (map (telling to) said ++ more))
told-all P c to [] more said a = a
told-all P c to (s ∷ rest) more said a = kept-all P (list_any (λ x. x == c) to) s (told_to c (map (telling to) rest ++ more)) said.0
    (told-all P c to rest more said.1 a)

-- a step is for others, or says only what is so
abbrev pub Says : (Said → Type 0) → ℕ → Origin → Filling → Step → Type 0
Says P c o f s = NotIn c s.to ⊎ AllByRecursion P (said_by o f s.what)

step-all : (P : Said → Type 0) (c : ℕ) (o : Origin) (f : Filling) (s : Step) (more : List Telling) → Says P c o f s
    → AllByRecursion P (told_to c more) → AllByRecursion P (told_to c (map (telling s.to) (said_by o f s.what) ++ more))
step-all P c o f s more (inl others) a = subst (λ (said : List Said). AllByRecursion P said) (sym (missed-one c s.to (said_by o f s.what)
    more (any-not c s.to others))) a
step-all P c o f s more (inr said) a = told-all P c s.to (said_by o f s.what) more said a

pub heard-all : (P : Said → Type 0) (c : ℕ) (o : Origin) (f : Filling) (steps : List Step) → AllByRecursion (Says P c o f) steps
    → AllByRecursion P (told_to c (filled o f steps))
heard-all P c o f [] a = tt
heard-all P c o f (s ∷ steps) a = step-all P c o f s (filled o f steps) a.0 (heard-all P c o f steps a.1)
