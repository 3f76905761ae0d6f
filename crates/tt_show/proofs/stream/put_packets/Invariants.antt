use Rattle.std.proofs.Common.{◌≡◌, ◌≤◌, ◌-◌, ◌++◌, length, drop}
use Rattle.tt_show.specs.Streams.{bytes_shown}
use Rattle.tt_show.proofs.StreamTexts.{shown_at}
use Rattle.tt_show.proofs.stream.put_packets.Given as goal

-- what is left comes behind what was appended
abbrev pub invariant-packets : goal.invariant-packets
invariant-packets l = record {
  within : l.place ≤ length l.bytes;
  text : l.text.items ++ shown_at l.family l.place (drop l.place l.bytes) ≡ l.fn.text.items ++ bytes_shown l.family l.bytes;
}

abbrev pub decreases-packets : goal.decreases-packets
decreases-packets l = length l.bytes - l.place
