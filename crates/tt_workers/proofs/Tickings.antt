-- Ticks, one after another.
use Rattle.std.proofs.Common.{◌≡◌, ℕ, zero, suc, ◌⊎◌, inl, inr, List, [], ◌∷◌, ◌++◌, Option, Some, None, refl, sym, ap, ◌∙◌, subst}
use Rattle.std.proofs.Common.{append_assoc}
use Rattle.std.specs.Prelude.{Bool, true, replicate}
use Rattle.std.proofs.lemmas.List.{append-nil}
use Rattle.tt_edge.specs.declared.event.Event.{Event}
use Rattle.tt_edge.specs.declared.event.Event.TheVariants as event
use Rattle.tt_edge.specs.declared.ticker.Beat.{Beat}
use Rattle.tt_edge.specs.declared.ticker.Beat.TheVariants as beat
use Rattle.tt_edge.specs.Told.{Adds}
use Rattle.tt_edge.specs.Listener.{TickCounts, told_by}
use Rattle.tt_room.specs.declared.pass.Pass.{Pass}
use Rattle.tt_room.specs.Passes.{mine}
use Rattle.tt_workers.specs.Hearing.{events_of}
use Rattle.tt_workers.specs.Ticking.{Stops, TicksEndSo, Ticks}
use Rattle.tt_workers.specs.declared.ticks.TickEnd.{TickEnd}
use Rattle.tt_workers.specs.declared.ticks.TickEnd.TheVariants as end
use Rattle.tt_workers.proofs.Streams.{events_push}

pub adds_none : {A : Type 0} (a : Option (List A)) → Adds a a []
adds_none None = tt
adds_none (Some xs) = sym (append-nil xs)

pub adds_then : {A : Type 0} (a b c : Option (List A)) (xs ys : List A) → Adds a b xs → Adds b c ys → Adds a c (xs ++ ys)
adds_then None b c xs ys first second = tt
adds_then (Some as') None c xs ys first second = absurd first
adds_then (Some as') (Some bs) None xs ys first second = absurd second
adds_then (Some as') (Some bs) (Some cs) xs ys first second = second ∙ ap (λ zs. zs ++ ys) first ∙ append_assoc as' xs ys

pub one_more : {A : Type 0} (n : ℕ) (x : A) → replicate n x ++ x ∷ [] ≡ replicate (suc n) x
one_more zero x = refl
one_more (suc n) x = ap (λ xs. x ∷ xs) (one_more n x)

-- the loop ends with a Stop, or tries to
pub ticks_stopped : {C : Type 0} (over : Bool) (p0 p p' : Pass C) (c c' : TickCounts) (b b1 b' : Option (List Beat)) (n : ℕ)
    (put : List (ℕ × Event)) (last : Beat) (e r : TickEnd)
    → Adds b b1 (replicate n beat.Tick) → Adds b1 b' (told_by last) → mine p ≡ mine p0 ++ put → events_of put ≡ replicate n event.Tick
    → Stops over p p' e r
    → ((stop : List Event) → (stop ≡ event.Stop ∷ []) ⊎ ((stop ≡ []) × (over ≡ true)) → TicksEndSo over c c' last stop e)
    → Ticks over p0 p' c c' b b' r
ticks_stopped over p0 p p' c c' b b1 b' n put last e r beats more own same (inl stop) ends = record {
  count = n;
  last = last;
  beats = adds_then b b1 b' (replicate n beat.Tick) (told_by last) beats more;
  put = put ++ (stop.0, event.Stop) ∷ [];
  own_events = stop.1 ∙ ap (λ (m : List (ℕ × Event)). m ++ (stop.0, event.Stop) ∷ []) own ∙ append_assoc (mine p0) put
      ((stop.0, event.Stop) ∷ []);
  stop = event.Stop ∷ [];
  events = events_push put stop.0 event.Stop ∙ ap (λ (es : List Event). es ++ event.Stop ∷ []) same;
  ended = subst (TicksEndSo over c c' last (event.Stop ∷ [])) (sym stop.2) (ends (event.Stop ∷ []) (inl refl));
}
ticks_stopped over p0 p p' c c' b b1 b' n put last e r beats more own same (inr (inl none)) ends = record {
  count = n;
  last = last;
  beats = adds_then b b1 b' (replicate n beat.Tick) (told_by last) beats more;
  put = put;
  own_events = none.0 ∙ own;
  stop = [];
  events = same ∙ sym (append-nil (replicate n event.Tick));
  ended = subst (TicksEndSo over c c' last []) (sym none.2) (ends [] (inr (refl, none.1)));
}
ticks_stopped over p0 p p' c c' b b1 b' n put last e r beats more own same (inr (inr none)) ends = record {
  count = n;
  last = last;
  beats = adds_then b b1 b' (replicate n beat.Tick) (told_by last) beats more;
  put = put;
  own_events = none.0 ∙ own;
  stop = [];
  events = same ∙ sym (append-nil (replicate n event.Tick));
  ended = subst (TicksEndSo over c c' last []) (sym none.1) (inl refl);
}

-- the last Tick was refused, since all is over
pub ticks_over : {C : Type 0} (over : Bool) (p0 p p' : Pass C) (c c' : TickCounts) (b b1 b' : Option (List Beat)) (n : ℕ)
    (put : List (ℕ × Event))
    → Adds b b1 (replicate n beat.Tick) → Adds b1 b' (beat.Tick ∷ []) → mine p ≡ mine p0 ++ put → events_of put ≡ replicate n event.Tick
    → mine p' ≡ mine p → over ≡ true → c'.faults ≡ c.faults → Ticks over p0 p' c c' b b' end.Over
ticks_over over p0 p p' c c' b b1 b' n put beats more own same kept is faults = record {
  count = n;
  last = beat.Tick;
  beats = adds_then b b1 b' (replicate n beat.Tick) (beat.Tick ∷ []) beats more;
  put = put;
  own_events = kept ∙ own;
  stop = [];
  events = same ∙ sym (append-nil (replicate n event.Tick));
  ended = (refl, refl, is, faults);
}
