use Rattle.std.proofs.Common.{◌≡◌, ◌-◌, ◌≤◌, length}
use Rattle.tt_client.specs.Calls.{Take}
use Rattle.tt_client.specs.Held.{with_call}
use Rattle.tt_client.specs.Saying.{bytes_of}
use Rattle.tt_playing.proofs.Pieces.{IsTaken}
use Rattle.tt_playing.proofs.bringing.take_words.Given as goal

-- what was taken so far
abbrev pub invariant-pieces : goal.invariant-pieces
invariant-pieces l = record {
  bytes : IsTaken (bytes_of l.fn.client.player.saying) l.bytes.items 0 (length l.bytes.items);
  within : length l.bytes.items ≤ l.n;
  client : l.client ≡ with_call l.fn.client (Take (length l.bytes.items));
}

abbrev pub decreases-pieces : goal.decreases-pieces
decreases-pieces l = l.n - length l.bytes.items
