-- What the coordinator program has done at its end.
use Rattle.std.specs.Prelude.{◌≡◌, ℕ, ◌⊎◌, List}
use Rattle.tt_gc.specs.Running.{CoordinatorState}
use Rattle.tt_gc_table.specs.Told.{sent, is_live, is_over}
use Rattle.tt_words.specs.declared.coordinator.CoordinatorWords.{CoordinatorWords}
use Rattle.tt_words.specs.Forms.{IsCoordinatorForm}
use Rattle.tt_workers.specs.Working.{DoorView, TickView, core_view}
use Rattle.tt_workers.specs.declared.working.Doors.{Doors}
use Rattle.tt_serving.specs.Told.{SinkNow, Serves}
use Rattle.tt_coordinator.specs.Setup.{setup_of}
use Rattle.tt_coordinator.specs.Summary.{gc_summary}

-- The words are in the form, and a coordinator was served over their setup. There is one list of events of it; each worker's part of them
-- is what its listener served or the ticker told; each link was written what its connection is told by them; and the summary is that
-- of just these events.
pub record HasServed {L K A B T : Type 0} (args : List (List ℕ)) (game : DoorView L K) (admin : DoorView A B) (ticker : TickView T)
    (before after : Doors L A T) (sink sink' : SinkNow) (status : ℕ) : Type 0 where
  pub words : CoordinatorWords
  pub form : IsCoordinatorForm args words
  pub serves : Serves (λ (gc : CoordinatorState). gc.setup) (λ (gc : CoordinatorState). gc.events) gc_summary
      (core_view (sent (setup_of words)) (is_live (setup_of words)) (is_over (setup_of words))) game admin ticker (setup_of words)
      before after sink sink' status

-- the words are in the coordinator's form
abbrev pub AreInForm : List (List ℕ) → Type 0
AreInForm args = (words : CoordinatorWords) × IsCoordinatorForm args words

-- Why nothing was served: the words are in no form, or memory ran out.
abbrev pub Refuses : List (List ℕ) → ℕ → Type 0
Refuses args status = ((status ≡ 2) × (AreInForm args → ⊥)) ⊎ (status ≡ 6)

-- Nothing was served and nothing was written: the doors and the sink stand as before.
pub record HasRefused {D K : Type 0} (args : List (List ℕ)) (before after : D) (sink sink' : K) (status : ℕ) : Type 0 where
  pub why : Refuses args status
  pub kept_doors : after ≡ before
  pub kept_sink : sink' ≡ sink

-- all was done, or memory ran out
abbrev pub IsDoneOrShort : ℕ → Type 0
IsDoneOrShort status = (status ≡ 0) ⊎ (status ≡ 6)
