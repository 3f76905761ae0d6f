use Rattle.std.proofs.Common.{◌≡◌, ◌≢◌, ◌-◌, ◌≤◌, ℕ, length}
use Rattle.tt_hub.specs.Hub.{origin, taken}
use Rattle.tt_log.specs.Told.{sent}
use Rattle.tt_playing.proofs.Pieces.{IsTaken}
use Rattle.tt_playing.proofs.bringing.take_sent.Given as goal

-- what was taken so far
abbrev pub invariant-pieces : goal.invariant-pieces
invariant-pieces l = record {
  bytes : IsTaken (sent (origin l.fn.hub) l.fn.hub.events l.conn) l.bytes.items (taken l.fn.hub l.conn) (taken l.hub l.conn);
  within : length l.bytes.items ≤ l.n;
  others : (other : ℕ) → other ≢ l.conn → taken l.hub other ≡ taken l.fn.hub other;
  origin : origin l.hub ≡ origin l.fn.hub;
  events : l.hub.events ≡ l.fn.hub.events;
}

abbrev pub decreases-pieces : goal.decreases-pieces
decreases-pieces l = l.n - length l.bytes.items
