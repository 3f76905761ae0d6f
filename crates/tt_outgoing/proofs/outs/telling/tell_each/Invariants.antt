use Rattle.std.proofs.Common.{◌≡◌, ◌≢◌, ◌≤◌, ◌<◌, ◌+◌, ◌-◌, ◌++◌, ℕ, length, take, drop}
use Rattle.std.specs.Prelude.{slice_index_or}
use Rattle.tt_outgoing.specs.Waiting.{told}
use Rattle.tt_outgoing.specs.Outgoing.{plain, waits_in, BeginBy, IsHeld, seat_of, spare_parts}
use Rattle.tt_outgoing.proofs.outs.telling.tell_each.Given as goal

abbrev pub invariant-loop-conn : goal.invariant-loop-conn
invariant-loop-conn l = record {
  held : IsHeld (plain l.log) l.seats.items;
  told : (c : ℕ) → 1 ≤ c → waits_in (plain l.log) c
      ≡ waits_in (plain l.initial.log) c ++ told (take l.conn-index l.conns) c
      (drop (l.start - l.initial.log.base) l.initial.log.tail.items);
  before : BeginBy l.start l.log.parts.items;
  vector : l.log.tail ≡ l.initial.log.tail;
  base : l.log.base ≡ l.initial.log.base;
  parts : spare_parts l.initial.log ≤ spare_parts l.log + l.conn-index;
  size : length l.seats.items ≡ length l.initial.seats.items;
  fits : (c : ℕ) → 1 ≤ c → c ≤ length l.initial.seats.items → ((k : ℕ) → k < l.conn-index → slice_index_or l.conns k 0 ≢ c)
      → (seat_of l.seats.items c).left ≤ l.start;
}
