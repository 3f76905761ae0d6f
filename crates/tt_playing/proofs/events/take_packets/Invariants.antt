use Rattle.std.proofs.Common.{◌≡◌, ◌≤◌, ◌-◌, ℕ, length, drop}
use Rattle.tt_frame.specs.StreamReading.{reading}
use Rattle.tt_hub.specs.Hub.{origin, taken}
use Rattle.tt_playing.specs.Played.{reader_limit, stream_events, until_ended}
use Rattle.tt_playing.proofs.events.take_packets.Given as goal

-- what is still to do comes to what all of it does
abbrev pub invariant-packets : goal.invariant-packets
invariant-packets l = record {
  within : l.end ≤ length l.bytes;
  events : until_ended (origin l.fn.hub) l.conn l.hub.events (stream_events l.conn (drop l.end l.bytes))
      ≡ until_ended (origin l.fn.hub) l.conn l.fn.hub.events (stream_events l.conn l.bytes);
  rest : (reading reader_limit (drop l.end l.bytes)).1 ≡ (reading reader_limit l.bytes).1;
  origin : origin l.hub ≡ origin l.fn.hub;
  taken : (conn : ℕ) → taken l.hub conn ≡ taken l.fn.hub conn;
}

abbrev pub decreases-packets : goal.decreases-packets
decreases-packets l = length l.bytes - l.end
