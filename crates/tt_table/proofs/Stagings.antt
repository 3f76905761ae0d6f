-- The packets of steps that stand behind one another.
use Rattle.std.proofs.Common.{◌≡◌, ◌∙◌, ap, sym, List, [], ◌∷◌, ◌++◌, append_assoc}
use Rattle.std.specs.List.{AllByRecursion}
use Rattle.std.proofs.lemmas.Grind.{flat_map-append}
use Rattle.std.proofs.lemmas.List.{map-append}
use Rattle.tt_log.specs.declared.deed.Step as book
use Rattle.tt_log.specs.Admin.{Admin}
use Rattle.tt_log.specs.Filling.{Filling}
use Rattle.tt_log.specs.Origin.{Origin}
use Rattle.tt_log.specs.Tellings.{Telling, filled}
use Rattle.tt_members.specs.declared.step.Step.{Step}
use Rattle.tt_members.specs.Steps.{step_in, steps_in}
use Rattle.tt_outgoing.specs.declared.sources.Sources.{Sources}
use Rattle.tt_outgoing.specs.Sources.{AreAtHand}
use Rattle.tt_outgoing.specs.Staging.{Packet, packets_of}

front : {A : Type 0} (P : A → Type 0) (xs ys : List A) → AllByRecursion P (xs ++ ys) → AllByRecursion P xs
front P [] ys all = tt
front P (x ∷ xs) ys all = (all.0, front P xs ys all.1)

rest : {A : Type 0} (P : A → Type 0) (xs ys : List A) → AllByRecursion P (xs ++ ys) → AllByRecursion P ys
rest P [] ys all = all
rest P (x ∷ xs) ys all = rest P xs ys all.1

packets-both : (o : Origin) (f : Filling) (admins : List Admin) (xs ys : List Step)
    → packets_of (filled o f (steps_in admins (xs ++ ys)))
    ≡ packets_of (filled o f (steps_in admins xs)) ++ packets_of (filled o f (steps_in admins ys))
packets-both o f admins xs ys =
    ap (λ (ss : List book.Step). packets_of (filled o f ss)) (map-append (step_in admins) xs ys)
    ∙ ap (λ (ts : List Telling). packets_of ts) (flat_map-append _ (steps_in admins xs) (steps_in admins ys))
    ∙ flat_map-append _ (filled o f (steps_in admins xs)) (filled o f (steps_in admins ys))

module _ (o : Origin) (f : Filling) (s : Sources) (admins : List Admin) where
  -- packets became those behind which the steps' stand, where what they need is at hand
  abbrev pub Adds : List Step → List Packet → List Packet → Type 0
  Adds steps before after = AreAtHand o f s steps → after ≡ before ++ packets_of (filled o f (steps_in admins steps))

  pub adds-both : (xs ys : List Step) (p q r : List Packet) → Adds xs p q → Adds ys q r → Adds (xs ++ ys) p r
  adds-both xs ys p q r a b at =
      b (rest _ xs ys at) ∙ ap (λ (ps : List Packet). ps ++ packets_of (filled o f (steps_in admins ys))) (a (front _ xs ys at))
      ∙ append_assoc p (packets_of (filled o f (steps_in admins xs))) (packets_of (filled o f (steps_in admins ys)))
      ∙ ap (λ (ps : List Packet). p ++ ps) (sym (packets-both o f admins xs ys))
