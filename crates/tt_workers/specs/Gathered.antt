-- One history, gathered from all workers.
use Rattle.std.specs.Prelude.{◌≡◌, ℕ, ◌<◌, List, [], length, map, All, slice_index_or}
use Rattle.tt_edge.specs.declared.event.Event.{Event}
use Rattle.tt_room.specs.declared.pass.Room.{Room}
use Rattle.tt_room.specs.History.{Stands, below, times, total}
use Rattle.tt_room.specs.Passes.{mine}
use Rattle.tt_room.specs.Closing.{Closes}
use Rattle.tt_workers.specs.Working.{CoreView, DoorView, TickView, Gathers, Works}
use Rattle.tt_workers.specs.declared.working.Worker.{Worker}

-- The history is split among the workers, and each worker's part is what its listener, or its ticker, has to show. The first
-- list has the workers before they ran, the second as they ended.
pub record IsGathered {C L K A B T : Type 0} (k : CoreView) (game : DoorView L K) (admin : DoorView A B) (ticker : TickView T)
    (history : List Event) (before after : List (Worker C L A T)) : Type 0 where
  -- each worker's own events are its part
  pub parts : (i : ℕ) (d : Worker C L A T) → i < length before
      → Gathers k game admin ticker history (slice_index_or before i d).role (slice_index_or after i d).role
      (mine (slice_index_or after i d).pass) (slice_index_or after i d).end
  -- they stand in the history at their places
  pub there : All (λ (w : Worker C L A T). Stands history (mine w.pass)) after
  -- each place of the history is in exactly one part, once
  pub once : (place : ℕ) → total (λ (w : Worker C L A T). times place (mine w.pass)) after ≡ below place (length history)

-- Where workers have run whose passes had put nothing before, and their passes close the room, the history of the core that
-- comes out is gathered.
abbrev pub Gathering : {C M L K A B T : Type 0} → (C → M) → (C → List Event) → (C → ℕ → ℕ) → Room C M → CoreView → DoorView L K
    → DoorView A B → TickView T → Type 0
Gathering {C} {M} {L} {K} {A} {B} {T} made events taken room k game admin ticker =
    (core : C) (before after : List (Worker C L A T)) → length after ≡ length before → All (λ (w : Worker C L A T). mine w.pass ≡ []) before
    → ((i : ℕ) (d : Worker C L A T) → i < length before → Works room k game admin ticker (slice_index_or before i d)
    (slice_index_or after i d))
    → Closes made events taken room (map (λ (w : Worker C L A T). w.pass) after) core → IsGathered k game admin ticker (events core)
    before after
