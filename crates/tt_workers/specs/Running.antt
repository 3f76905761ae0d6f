-- What a server's run comes to: which part of the history each worker has, what each link was written, and how the workers ended.
use Rattle.std.specs.Prelude.{◌≡◌, ℕ, ◌⊎◌, Bool, true, false, Some, None, List, [], ◌∷◌, ◌++◌, length, map, Option, slice_get}
use Rattle.std.specs.Io.KnownBytes.{Appends}
use Rattle.std.specs.List.{AllZip, AllByRecursion, list_any}
use mathlib.Core.List.{IsPrefix}
use Rattle.tt_edge.specs.declared.event.Event.{Event}
use Rattle.tt_edge.specs.declared.event.Event.TheVariants as event
use Rattle.tt_edge.specs.declared.event.Door.TheVariants.{Main, Side}
use Rattle.tt_edge.specs.declared.listener.LinkEnd.TheVariants as link
use Rattle.tt_edge.specs.Told.{Adds}
use Rattle.tt_edge.specs.Link.{Rises}
use Rattle.tt_room.specs.History.{Stands, below, times, total}
use Rattle.tt_workers.specs.Telling.{LinkNow}
use Rattle.tt_workers.specs.Attending.{Row, IsFreshLink}
use Rattle.tt_workers.specs.Gathering.{GathersLinks, GathersTicks}
use Rattle.tt_workers.specs.Working.{CoreView, DoorView, TickView, tick_end}
use Rattle.tt_workers.specs.declared.ticks.TickEnd.{TickEnd}
use Rattle.tt_workers.specs.declared.ticks.TickEnd.TheVariants as tick
use Rattle.tt_workers.specs.declared.attending.WorkerEnd.{WorkerEnd}
use Rattle.tt_workers.specs.declared.attending.WorkerEnd.TheVariants as worker
use Rattle.tt_workers.specs.declared.working.Doors.{Doors}
use Rattle.tt_workers.specs.declared.ends.Ends.{Ends}

-- What one worker did: the handle, or the ticker, that it was given and gave back, the events that it put, each with its place in
-- the history, and its end.
pub record Task (D : Type 0) : Type 0 where
  pub came : D
  pub back : D
  pub part : List (ℕ × Event)
  pub end : WorkerEnd

-- the handles of a door went out to these workers and came back from them, in their order
pub record AreBack {D : Type 0} (before after : List D) (tasks : List (Task D)) : Type 0 where
  pub came : map (λ (t : Task D). t.came) tasks ≡ before
  pub back : map (λ (t : Task D). t.back) tasks ≡ after

abbrev pub parts_of : {D : Type 0} → List (Task D) → List (List (ℕ × Event))
parts_of {D} tasks = map (λ (t : Task D). t.part) tasks

abbrev pub ends_of : {D : Type 0} → List (Task D) → List WorkerEnd
ends_of {D} tasks = map (λ (t : Task D). t.end) tasks

-- what stands in two options that are both there
abbrev pub OfBoth : {T : Type 0} → Option T → Option T → (T → T → Type 0) → Type 0
OfBoth None after P = ⊥
OfBoth (Some before) None P = ⊥
OfBoth (Some before) (Some after) P = P before after

-- whether a worker came to such an end
abbrev pub is_short : WorkerEnd → Bool
is_short worker.Memory = true
is_short _ = false

abbrev pub is_deaf : WorkerEnd → Bool
is_deaf worker.ListenFault = true
is_deaf _ = false

abbrev pub is_untimed : WorkerEnd → Bool
is_untimed worker.TickFault = true
is_untimed _ = false

-- what a server answers for, of all ends
abbrev pub summed : List WorkerEnd → Ends
summed ends = record { memory = list_any is_short ends; listen_fault = list_any is_deaf ends; tick_fault = list_any is_untimed ends }

-- memory did not run out, and nothing failed
abbrev pub all_well : Ends
all_well = record { memory = false; listen_fault = false; tick_fault = false }

-- Every handle had one worker, and so had the ticker. The history is split among them, and each worker's part is what its
-- listener served, or what its ticker told.
pub record IsShared {L K A B T : Type 0} (k : CoreView) (game : DoorView L K) (admin : DoorView A B) (ticker : TickView T)
    (history : List Event) (before after : Doors L A T) (ends : Ends) : Type 0 where
  pub mains : List (Task L)
  pub sides : List (Task A)
  pub clock : Task T
  -- all handles stand in the doors again, in their order, and the ticker
  pub game_back : AreBack before.game.items after.game.items mains
  pub admin_back : AreBack before.admin.items after.admin.items sides
  pub ticker_back : (before.ticker ≡ Some clock.came) × (after.ticker ≡ Some clock.back)
  pub ended : ends ≡ summed (ends_of mains ++ (ends_of sides ++ clock.end ∷ []))
  -- each worker's part stands in the history at its places, and each place of the history is in exactly one part, once
  pub there : AllByRecursion (Stands history) (parts_of mains ++ (parts_of sides ++ clock.part ∷ []))
  pub once : (place : ℕ) → total (times place) (parts_of mains ++ (parts_of sides ++ clock.part ∷ [])) ≡ below place (length history)
  -- the part of a handle is what its listener has to show: the links that it gave in this run, and that came back to it
  pub by_game : AllByRecursion (λ (t : Task L). GathersLinks game.now k.told k.live k.over history Main (game.counts t.came)
      (game.counts t.back) (game.served t.came) (game.served t.back) (game.peers t.came) (game.peers t.back) t.part t.end) mains
  pub by_admin : AllByRecursion (λ (t : Task A). GathersLinks admin.now k.told k.live k.over history Side (admin.counts t.came)
      (admin.counts t.back) (admin.served t.came) (admin.served t.back) (admin.peers t.came) (admin.peers t.back) t.part t.end) sides
  -- and the part of the ticker what it told
  pub by_ticker : (r : TickEnd) × GathersTicks (k.over history) (ticker.counts clock.came) (ticker.counts clock.back)
      (ticker.beats clock.came) (ticker.beats clock.back) clock.part r × (clock.end ≡ tick_end r)

-- What a link was written that came back: the first bytes of what its connection is told over the history, and all of them where
-- its end is Done. (What each other end says of them stands in Gathering.EndsIn.)
pub record IsDelivered {K : Type 0} (now : K → LinkNow) (told : List Event → ℕ → List ℕ) (history : List Event) (row : Row K) : Type
    0 where
  pub out : List ℕ
  pub written : Appends (now row.came).held (now row.gone).held out
  pub first : IsPrefix out (told history row.served.conn)
  pub whole : row.served.end ≡ link.Done → out ≡ told history row.served.conn

-- What became of the links of one handle: each that its listener gave was served, and came back to it with its end.
pub record AreServed {D K : Type 0} (d : DoorView D K) (told : List Event → ℕ → List ℕ) (history : List Event) (short : Bool)
    (before after : D) : Type 0 where
  pub rows : List (Row K)
  pub given : Adds (d.peers before) (d.peers after) (map (λ (row : Row K). row.peer) rows)
  pub given_back : Adds (d.served before) (d.served after) (map (λ (row : Row K). (row.served, row.gone)) rows)
  pub fresh : AllByRecursion (λ (row : Row K). IsFreshLink (d.now row.came)) rows
  pub delivered : AllByRecursion (IsDelivered d.now told history) rows
  -- no link's end is Memory, unless the run was short of memory
  pub no_memory : short ≡ false → AllByRecursion (λ (row : Row K). row.served.end ≡ link.Memory → ⊥) rows

-- one of a door's handles failed: its count of faults rose
abbrev pub OneFailed : {D K : Type 0} → DoorView D K → List D → List D → Type 0
OneFailed d [] after = ⊥
OneFailed d (x ∷ before) [] = ⊥
OneFailed d (x ∷ before) (y ∷ after) = Rises (d.counts x).faults (d.counts y).faults ⊎ OneFailed d before after

-- none of them failed
abbrev pub NoneFailed : {D K : Type 0} → DoorView D K → List D → List D → Type 0
NoneFailed d before after = AllZip (λ x y. (d.counts y).faults ≡ (d.counts x).faults) before after

-- The causes of what a server answers.
pub record HaveCauses {L K A B T : Type 0} (k : CoreView) (game : DoorView L K) (admin : DoorView A B) (ticker : TickView T)
    (history : List Event) (before after : Doors L A T) (ends : Ends) : Type 0 where
  -- a worker's listener failed: the count of a listener rose
  pub listen_fault : ends.listen_fault ≡ true
      → OneFailed game before.game.items after.game.items ⊎ OneFailed admin before.admin.items after.admin.items
  -- the ticker failed: its count rose
  pub tick_fault : ends.tick_fault ≡ true
      → OfBoth before.ticker after.ticker (λ t t'. Rises (ticker.counts t).faults (ticker.counts t').faults)
  -- nothing failed, and memory did not run out: all is over, and no count of faults rose
  pub over : ends ≡ all_well → k.over history ≡ true
  pub no_game_fault : ends ≡ all_well → NoneFailed game before.game.items after.game.items
  pub no_admin_fault : ends ≡ all_well → NoneFailed admin before.admin.items after.admin.items
  pub no_tick_fault : ends ≡ all_well
      → OfBoth before.ticker after.ticker (λ t t'. (ticker.counts t').faults ≡ (ticker.counts t).faults)
  -- memory did not run out: no tick was refused for it, so each that the ticker told is in the history, but for one that was
  -- refused since all was over
  pub ticks : ends.memory ≡ false → OfBoth before.ticker after.ticker (λ t t'. (part : List (ℕ × Event)) × (r : TickEnd)
      × Stands history part × GathersTicks (k.over history) (ticker.counts t) (ticker.counts t') (ticker.beats t) (ticker.beats t') part r
      × (r ≡ tick.Memory → ⊥))
  -- and a Stop stands in the history only where the ticker told Stop or failed
  pub stop : ends.memory ≡ false → (place : ℕ) → slice_get history place ≡ Some event.Stop
      → OfBoth before.ticker after.ticker (λ t t'. Rises (ticker.counts t).stops (ticker.counts t').stops
      ⊎ Rises (ticker.counts t).faults (ticker.counts t').faults)

-- A served core came back with this history. The doors stand as before the run and after it.
pub record Runs {L K A B T : Type 0} (k : CoreView) (game : DoorView L K) (admin : DoorView A B) (ticker : TickView T)
    (history : List Event) (before after : Doors L A T) (ends : Ends) : Type 0 where
  -- the one history is gathered from all workers
  pub gathered : IsShared k game admin ticker history before after ends
  -- each listener got back as many links as it gave, and what a link was written is what its connection is told
  pub game_links : AllZip (AreServed game k.told history ends.memory) before.game.items after.game.items
  pub admin_links : AllZip (AreServed admin k.told history ends.memory) before.admin.items after.admin.items
  -- each fault, and the end of all, has its cause
  pub causes : HaveCauses k game admin ticker history before after ends
