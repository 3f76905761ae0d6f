-- What a program that serves has done at its end: its core was served over the doors, and its summary was told.
use Rattle.std.specs.Prelude.{◌≡◌, ℕ, ◌⊎◌, Bool, true, false, List, Option}
use Rattle.std.specs.Io.KnownBytes.{Appends}
use Rattle.tt_edge.specs.Count.{Rose}
use Rattle.tt_edge.specs.Sink.{AppendsPart}
use Rattle.tt_edge.specs.declared.event.Event.{Event}
use Rattle.tt_edge.specs.Link.{Rises}
use Rattle.tt_workers.specs.Working.{CoreView, DoorView, TickView}
use Rattle.tt_workers.specs.Running.{Runs, OneFailed, NoneFailed, OfBoth}
use Rattle.tt_workers.specs.declared.working.Doors.{Doors}
use Rattle.tt_workers.specs.declared.ends.Ends.{Ends}
use Rattle.tt_serving.specs.Statuses.{status_of}

-- what is known of a sink: the bytes that it holds, where they are told, and how often it failed
pub record SinkNow : Type 0 where
  pub held : Option (List ℕ)
  pub faults : ℕ

abbrev pub sink_now : {K : Type 0} → (K → Option (List ℕ)) → (K → ℕ) → K → SinkNow
sink_now held faults sink = record { held = held sink; faults = faults sink }

-- a text was written: whole, or a front of it and not the rest, where the sink failed
abbrev pub IsTold : Bool → List ℕ → SinkNow → SinkNow → Type 0
IsTold true text before after = Appends before.held after.held text × (after.faults ≡ before.faults)
IsTold false text before after = AppendsPart before.held after.held text × Rose before.faults after.faults

module _ {C M L K A B T : Type 0} (made : C → M) (events : C → List Event) (summary : C → List ℕ) where
  -- The core was served, from what it was made from (`start`). What it came to is gathered from all workers, its summary was told,
  -- and the status is that of both.
  pub record Serves (k : CoreView) (game : DoorView L K) (admin : DoorView A B) (ticker : TickView T) (start : M)
      (before after : Doors L A T) (sink sink' : SinkNow) (status : ℕ) : Type 0 where
    -- the core as it came back, with its history
    pub core : C
    pub from : made core ≡ start
    pub ends : Ends
    pub runs : Runs k game admin ticker (events core) before after ends
    -- whether all of the summary was written
    pub whole : Bool
    pub told : IsTold whole (summary core) sink sink'
    pub answered : status ≡ status_of ends.memory ends.listen_fault ends.tick_fault whole

-- one of the listeners failed
abbrev pub AListenerFailed : {L K A B T : Type 0} → DoorView L K → DoorView A B → Doors L A T → Doors L A T → Type 0
AListenerFailed game admin before after = OneFailed game before.game.items after.game.items
    ⊎ OneFailed admin before.admin.items after.admin.items

-- the ticker failed
abbrev pub TickerFailed : {L A T : Type 0} → TickView T → Doors L A T → Doors L A T → Type 0
TickerFailed ticker before after = OfBoth before.ticker after.ticker (λ t t'. Rises (ticker.counts t).faults (ticker.counts t').faults)

-- nothing failed: no count of faults is another than before
pub record NothingFailed {L K A B T : Type 0} (game : DoorView L K) (admin : DoorView A B) (ticker : TickView T)
    (before after : Doors L A T) (sink sink' : SinkNow) : Type 0 where
  pub game_doors : NoneFailed game before.game.items after.game.items
  pub admin_doors : NoneFailed admin before.admin.items after.admin.items
  pub clock : OfBoth before.ticker after.ticker (λ t t'. (ticker.counts t').faults ≡ (ticker.counts t).faults)
  pub writes : sink'.faults ≡ sink.faults
