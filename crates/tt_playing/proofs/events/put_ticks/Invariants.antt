use Rattle.std.proofs.Common.{◌≡◌, ℕ}
use Rattle.std.specs.Prelude.{replicate}
use Rattle.tt_edge.specs.declared.event.Event.TheVariants.{Tick}
use Rattle.tt_hub.specs.Hub.{origin, taken}
use Rattle.tt_playing.specs.Played.{until_over}
use Rattle.tt_playing.proofs.events.put_ticks.Given as goal

-- what is still to do comes to what all of it does
abbrev pub invariant-ticks : goal.invariant-ticks
invariant-ticks l = record {
  events : until_over (origin l.fn.hub) l.hub.events (replicate l.left Tick) ≡ until_over (origin l.fn.hub) l.fn.hub.events
      (replicate l.fn.n Tick);
  origin : origin l.hub ≡ origin l.fn.hub;
  taken : (conn : ℕ) → taken l.hub conn ≡ taken l.fn.hub conn;
}

abbrev pub decreases-ticks : goal.decreases-ticks
decreases-ticks l = l.left
