-- What a tick loop does.
use Rattle.std.specs.Prelude.{◌≡◌, ℕ, ◌⊎◌, Bool, true, List, [], ◌∷◌, ◌++◌, replicate, Option}
use Rattle.tt_edge.specs.declared.event.Event.{Event}
use Rattle.tt_edge.specs.declared.event.Event.TheVariants as event
use Rattle.tt_edge.specs.declared.ticker.Beat.{Beat}
use Rattle.tt_edge.specs.declared.ticker.Beat.TheVariants as beat
use Rattle.tt_edge.specs.Told.{Adds}
use Rattle.tt_edge.specs.Link.{Rises}
use Rattle.tt_edge.specs.Listener.{TickCounts, told_by}
use Rattle.tt_room.specs.declared.pass.Pass.{Pass}
use Rattle.tt_room.specs.Passes.{mine}
use Rattle.tt_workers.specs.Hearing.{events_of}
use Rattle.tt_workers.specs.declared.ticks.TickEnd.{TickEnd}
use Rattle.tt_workers.specs.declared.ticks.TickEnd.TheVariants as end

-- a Stop was handed over, or all is over, or memory ran out
abbrev pub Stops : {C : Type 0} → Bool → Pass C → Pass C → TickEnd → TickEnd → Type 0
Stops over before after e result =
    ((at : ℕ) × (mine after ≡ mine before ++ (at, event.Stop) ∷ []) × (result ≡ e))
    ⊎ (((mine after ≡ mine before) × (over ≡ true) × (result ≡ e))
    ⊎ ((mine after ≡ mine before) × (result ≡ end.Memory)))

-- each end has its cause: the last beat, and whether a Stop was handed over
abbrev pub TicksEndSo : Bool → TickCounts → TickCounts → Beat → List Event → TickEnd → Type 0
TicksEndSo over c c' last stop end.Over = (last ≡ beat.Tick) × (stop ≡ []) × (over ≡ true) × (c'.faults ≡ c.faults)
TicksEndSo over c c' last stop end.Stopped = (last ≡ beat.Stop) × ((stop ≡ event.Stop ∷ []) ⊎ ((stop ≡ []) × (over ≡ true)))
    × Rises c.stops c'.stops × (c'.faults ≡ c.faults)
TicksEndSo over c c' last stop end.Fault = (last ≡ beat.Failed) × ((stop ≡ event.Stop ∷ []) ⊎ ((stop ≡ []) × (over ≡ true)))
    × Rises c.faults c'.faults
TicksEndSo over c c' last stop end.Memory = (stop ≡ []) ⊎ (stop ≡ event.Stop ∷ [])

-- Each Tick that the ticker told was handed over, but for the last beat, with which it ended; then a Stop perhaps.
pub record Ticks {C : Type 0} (over : Bool) (before after : Pass C) (c c' : TickCounts) (b b' : Option (List Beat)) (r : TickEnd) : Type
    0 where
  pub count : ℕ
  pub last : Beat
  pub beats : Adds b b' (replicate count beat.Tick ++ told_by last)
  pub put : List (ℕ × Event)
  pub own_events : mine after ≡ mine before ++ put
  pub stop : List Event
  pub events : events_of put ≡ replicate count event.Tick ++ stop
  pub ended : TicksEndSo over c c' last stop r
