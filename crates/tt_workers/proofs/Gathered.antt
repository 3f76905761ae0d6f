-- The parts of all workers together.
use Rattle.std.proofs.Common.{◌≡◌, ℕ, ◌+◌, List, [], ◌∷◌, ◌++◌, length, refl, sym, ap, ◌∙◌, subst, arith}
use Rattle.std.specs.Prelude.{map, All, slice_index_or}
use mathlib.Core.List.{IsPrefix}
use Rattle.std.proofs.lemmas.List.{get_or-map}
use Rattle.tt_edge.specs.declared.event.Event.{Event}
use Rattle.tt_room.specs.declared.pass.Pass.{Pass}
use Rattle.tt_room.specs.declared.pass.Room.{Room}
use Rattle.tt_room.specs.History.{Stands, times, total}
use Rattle.tt_room.specs.Passes.{seen, mine}
use Rattle.tt_workers.specs.Working.{CoreView, DoorView, TickView, Gathers}
use Rattle.tt_workers.specs.Gathered.{Gathering}
use Rattle.tt_workers.specs.declared.working.Worker.{Worker}

pub total_map : {A B : Type 0} (f : B → ℕ) (g : A → B) (xs : List A) → total f (map g xs) ≡ total (λ x. f (g x)) xs
total_map f g [] = refl
total_map f g (x ∷ xs) = ap (λ n. f (g x) + n) (total_map f g xs)

length_map : {A B : Type 0} (g : A → B) (xs : List A) → length (map g xs) ≡ length xs
length_map g [] = refl
length_map g (x ∷ xs) = omega (arith, length_map g xs)

-- what holds of each element's image holds of each element
at_each : {A B : Type 0} (P : B → Type 0) (g : A → B) (xs : List A) → All P (map g xs) → All (λ x. P (g x)) xs
at_each P g xs all i d less = subst P (get_or-map g xs i d (g d) less) (all i (g d) (omega (arith, less, length_map g xs)))

pub gathered : {C M L K A B T : Type 0} (made : C → M) (events : C → List Event) (taken : C → ℕ → ℕ) (room : Room C M) (k : CoreView)
    (game : DoorView L K) (admin : DoorView A B) (ticker : TickView T) → Gathering made events taken room k game admin ticker
gathered {C} {M} {L} {K} {A} {B} {T} made events taken room k game admin ticker core before after same fresh ran closed = record {
  parts = λ i d less.
      let w = slice_index_or before i d in
      let w' = slice_index_or after i d in
      let work = ran i d less in
      let none : mine w.pass ≡ [] = fresh i d less in
      let own : mine w'.pass ≡ work.part = work.own_events ∙ ap (λ (m : List (ℕ × Event)). m ++ work.part) none in
      let begins : IsPrefix (seen w'.pass) (events core) = at_each (λ (p : Pass C). IsPrefix (seen p) (events core))
      (λ (x : Worker C L A T). x.pass) after closed.all_seen i d (omega (arith, less, same)) in
      subst (λ (part : List (ℕ × Event)). Gathers k game admin ticker (events core) w.role w'.role part w'.end) (sym own)
      (work.gathers (events core) begins);
  there = at_each (λ (p : Pass C). Stands (events core) (mine p)) (λ (x : Worker C L A T). x.pass) after closed.all_mine;
  once = λ place. sym (total_map (λ (p : Pass C). times place (mine p)) (λ (x : Worker C L A T). x.pass) after) ∙ closed.once place;
}
