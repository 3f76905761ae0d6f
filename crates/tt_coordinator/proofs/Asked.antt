-- A coordinator that was served over a setup that is the words' own.
use Rattle.std.proofs.Common.{◌≡◌, ℕ, ◌⊎◌, List, subst, inl, inr}
use Rattle.tt_gc.specs.Running.{CoordinatorState}
use Rattle.tt_gc_table.specs.declared.setup.GcSetup.{GcSetup}
use Rattle.tt_gc_table.specs.Told.{sent, is_live, is_over}
use Rattle.tt_words.specs.declared.coordinator.CoordinatorWords.{CoordinatorWords}
use Rattle.tt_words.specs.Forms.{IsCoordinatorForm}
use Rattle.tt_workers.specs.Working.{DoorView, TickView, core_view}
use Rattle.tt_workers.specs.declared.working.Doors.{Doors}
use Rattle.tt_serving.specs.Told.{SinkNow, Serves}
use Rattle.tt_coordinator.specs.Setup.{setup_of}
use Rattle.tt_coordinator.specs.Summary.{gc_summary}
use Rattle.tt_coordinator.specs.Serving.{HasServed, HasRefused}

pub as-asked : {L K A B T S : Type 0} (args : List (List ℕ)) (game : DoorView L K) (admin : DoorView A B) (ticker : TickView T)
    (before after : Doors L A T) (held : S → SinkNow) (sink sink' : S) (status : ℕ) (words : CoordinatorWords) (m : GcSetup)
    → IsCoordinatorForm args words → m ≡ setup_of words
    → Serves (λ (gc : CoordinatorState). gc.setup) (λ (gc : CoordinatorState). gc.events) gc_summary
    (core_view (sent m) (is_live m) (is_over m)) game admin ticker m before after (held sink) (held sink') status
    ⊎ ((status ≡ 6) × (after ≡ before) × (sink' ≡ sink))
    → HasServed args game admin ticker before after (held sink) (held sink') status ⊎ HasRefused args before after sink sink' status
as-asked args game admin ticker before after held sink sink' status words m form same (inl s) = inl (record {
  words = words;
  form = form;
  serves = subst (λ (x : GcSetup). Serves (λ (gc : CoordinatorState). gc.setup) (λ (gc : CoordinatorState). gc.events) gc_summary
      (core_view (sent x) (is_live x) (is_over x)) game admin ticker x before after (held sink) (held sink') status) same s;
})
as-asked args game admin ticker before after held sink sink' status words m form same (inr r) = inr (record {
  why = inr r.0;
  kept_doors = r.1;
  kept_sink = r.2;
})
