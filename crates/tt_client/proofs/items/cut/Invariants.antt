use Rattle.std.proofs.Common.{◌≡◌, ◌≤◌, ◌<◌, ◌-◌, length, drop}
use Rattle.tt_client.specs.Cutting.{cut_at, with_items}
use Rattle.tt_client.proofs.items.cut.Given as goal

-- what is left comes behind what was cut
abbrev pub invariant-packets : goal.invariant-packets
invariant-packets l = record {
  within : l.end ≤ length l.bytes;
  place : l.place < 18446744073709551616;
  cut : with_items l.items.items (cut_at l.place (drop l.end l.bytes)) ≡ cut_at l.at l.bytes;
}

abbrev pub decreases-packets : goal.decreases-packets
decreases-packets l = length l.bytes - l.end
