-- A world keeps its fifteen places, whatever is done in it; so what is founded has one of their numbers.
use Rattle.std.proofs.Common.{◌≡◌, ℕ, zero, suc, ◌+◌, ◌<◌, Bool, true, false, List, [], ◌∷◌, length, Option, Some, None, refl, ◌∙◌, arith}
use Rattle.std.specs.Prelude.{not, is_some}
use Rattle.std.specs.List.{AllByRecursion}
use Rattle.std.proofs.lemmas.List.{length-set, length-map}
use Rattle.std.proofs.lemmas.List.Quantifiers.{position-Some}
use Rattle.tt_lockstep.specs.Journal.{of_frame, applied_all}
use Rattle.tt_world.specs.declared.command.Code.{Code}
use Rattle.tt_world.specs.declared.command.Code.TheVariants.{IncreaseLoan, DecreaseLoan, Give, PlaceSign, RenameSign, RenameCompany}
use Rattle.tt_world.specs.declared.command.Code.TheVariants.{RenamePresident, Pause, NewCompany}
use Rattle.tt_world.specs.declared.command.Entry.{Entry}
use Rattle.tt_world.specs.declared.effect.Why.{Why}
use Rattle.tt_world.specs.World.{WorldState}
use Rattle.tt_world.specs.Commands.{answered, applied, changed, done, done_by, refusal, poorer}
use Rattle.tt_world.specs.Economy.{earned, framed_by, went_on}
use Rattle.tt_world.specs.Random.{next_random}
use Rattle.tt_world.proofs.FrameLaws.{length-earned, length-monthly}
use Rattle.tt_rules.specs.Companies.{living}
use Rattle.tt_log.specs.Origin.{Origin, game_of, world_at}
use Rattle.tt_log.specs.Tick.{founder_of, founding, foundings, living_with}
use Rattle.tt_log.proofs.Lists.{all-append}

-- ---- worlds

done-places : (code : Code) (company n to : ℕ) (text : List ℕ) (w : WorldState)
    → length (done_by code company n to text w).companies ≡ length w.companies
done-places IncreaseLoan company n to text w = length-set w.companies company _
done-places DecreaseLoan company n to text w = length-set w.companies company _
done-places Give company n to text w = length-set (changed company (poorer n) w).companies to _ ∙ length-set w.companies company _
done-places PlaceSign company n to text w = refl
done-places RenameSign company n to text w = refl
done-places RenameCompany company n to text w = length-set w.companies company _
done-places RenamePresident company n to text w = length-set w.companies company _
done-places Pause company n to text w = refl
done-places NewCompany company n to text w = length-set w.companies _ _

answered-places : (r : Option Why) (old new : WorldState) → length new.companies ≡ length old.companies
    → length (answered r old new).0.companies ≡ length old.companies
answered-places None old new same = same
answered-places (Some why) old new same = refl

applied-places : (w : WorldState) (e : Entry) → length (applied w e).0.companies ≡ length w.companies
applied-places w e = answered-places (refusal w e) w (done w e) (done-places e.command.code e.company e.command.number e.command.to
    e.command.text w)

went-places : (b : Bool) (w : WorldState) → length (went_on b w).companies ≡ length w.companies
went-places true w = length-monthly _ (earned w.words w.companies).1 ∙ length-earned w.companies w.words
went-places false w = refl

framed-places : (b : Bool) (w : WorldState) → length (framed_by b w).companies ≡ length w.companies
framed-places true w = refl
framed-places false w = went-places _ (record w { words = next_random w.words })

entries-places : (o : Origin) (w : WorldState) (es : List Entry) → length (applied_all (game_of o) w es).companies ≡ length w.companies
entries-places o w [] = refl
entries-places o w (e ∷ es) = entries-places o (applied w e).0 es ∙ applied-places w e

pub world-places : (o : Origin) (journal : List Entry) (f : ℕ) → length (world_at o journal f).companies ≡ length o.start.companies
world-places o journal zero = refl
world-places o journal (suc f) =
    let w : WorldState = world_at o journal f in
    let v : WorldState = applied_all (game_of o) w (of_frame (game_of o) (0 + suc f) journal) in
    framed-places v.paused v ∙ entries-places o w (of_frame (game_of o) (0 + suc f) journal) ∙ world-places o journal f

pub living-places : (o : Origin) (journal : List Entry) (f : ℕ) → length (living (world_at o journal f)) ≡ length o.start.companies
living-places o journal f = length-map (world_at o journal f).companies is_some ∙ world-places o journal f

-- ---- foundings

founder-low : (n : ℕ) (x : Option ℕ) (client : ℕ) (live : List Bool) → ((k : ℕ) → x ≡ Some k → k < n)
    → AllByRecursion (λ (f : ℕ × ℕ). f.1 < n) (founder_of x client)
founder-low n None client live low = tt
founder-low n (Some k) client live low = (low k refl, tt)

pub founding-low : (code : Code) (n : ℕ) (live : List Bool) → length live ≡ n → (k : ℕ) → founding code live ≡ Some k → k < n
founding-low NewCompany n live same k is = let found = position-Some not live k false is in omega (arith, found.0, same)
founding-low IncreaseLoan n live same k is = absurd cc
founding-low DecreaseLoan n live same k is = absurd cc
founding-low Give n live same k is = absurd cc
founding-low PlaceSign n live same k is = absurd cc
founding-low RenameSign n live same k is = absurd cc
founding-low RenameCompany n live same k is = absurd cc
founding-low RenamePresident n live same k is = absurd cc
founding-low Pause n live same k is = absurd cc

with-places : (x : Option ℕ) (live : List Bool) → length (living_with x live) ≡ length live
with-places None live = refl
with-places (Some k) live = length-set live k true

pub foundings-low : (n : ℕ) (live : List Bool) (es : List Entry) → length live ≡ n
    → AllByRecursion (λ (f : ℕ × ℕ). f.1 < n) (foundings live es)
foundings-low n live [] same = tt
foundings-low n live (e ∷ es) same =
    let new : Option ℕ = founding e.command.code live in
    all-append (λ (f : ℕ × ℕ). f.1 < n) (founder_of new e.command.number) (foundings (living_with new live) es)
    (founder-low n new e.command.number live (founding-low e.command.code n live same))
    (foundings-low n (living_with new live) es (with-places new live ∙ same))
