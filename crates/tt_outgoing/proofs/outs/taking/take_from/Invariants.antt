use Rattle.std.proofs.Common.{◌≡◌, ◌≤◌, ◌+◌, ◌-◌, ◌++◌, [], length, take, drop}
use Rattle.std.specs.VecDeque.{deque_capacity}
use Rattle.tt_outgoing.specs.Outgoing.{plain, waits_in, waits_before, waits_from, Keeps}
use Rattle.tt_outgoing.proofs.outs.taking.take_from.Given as goal

abbrev pub invariant-loop-filled : goal.invariant-loop-filled
invariant-loop-filled l = record {
  keeps : Keeps l.conn (plain l.initial.log) (plain l.log);
  vector : l.log.tail ≡ l.initial.log.tail;
  room : deque_capacity l.log.parts ≡ deque_capacity l.initial.log.parts;
  few : l.i ≤ length l.log.parts.items;
  passed : waits_before (plain l.log) l.conn l.i ≡ [];
  rest : waits_from (plain l.log) l.conn l.i ≡ drop l.filled (waits_in (plain l.initial.log) l.conn);
  fits : l.filled ≤ length l.initial.out;
  size : length l.out ≡ length l.initial.out;
  bytes : l.out ≡ take l.filled (waits_in (plain l.initial.log) l.conn) ++ drop l.filled l.initial.out;
}

abbrev pub decreases-loop-filled : goal.decreases-loop-filled
decreases-loop-filled l = (length l.out - l.filled) + (length l.log.parts.items - l.i)
