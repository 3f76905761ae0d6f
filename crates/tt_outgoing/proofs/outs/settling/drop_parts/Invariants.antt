use Rattle.std.proofs.Common.{◌≡◌, ◌≤◌, ℕ, List, length}
use Rattle.tt_outgoing.specs.declared.outs.seat.Seat.{Seat}
use Rattle.tt_outgoing.specs.Outgoing.{plain, waits_in, IsSound, IsHeld, spare_bytes, spare_parts}
use Rattle.tt_outgoing.proofs.outs.settling.drop_parts.Given as goal

abbrev pub invariant-loop-log : goal.invariant-loop-log
invariant-loop-log l = record {
  sound : IsSound (plain l.log);
  held : (seats : List Seat) → IsHeld (plain l.initial.log) seats → IsHeld (plain l.log) seats;
  waits : (c : ℕ) → 1 ≤ c → waits_in (plain l.log) c ≡ waits_in (plain l.initial.log) c;
  bytes : spare_bytes l.log ≡ spare_bytes l.initial.log;
  parts : spare_parts l.initial.log ≤ spare_parts l.log;
}

abbrev pub decreases-loop-log : goal.decreases-loop-log
decreases-loop-log l = length l.log.parts.items
