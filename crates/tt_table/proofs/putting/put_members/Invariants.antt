use Rattle.std.proofs.Common.{◌≡◌, ◌++◌, ◌≤◌, length}
use Rattle.std.specs.Prelude.{◌-◌, drop, map, vec_capacity, vec_len}
use Rattle.tt_log.specs.Member.{Member}
use Rattle.tt_table.proofs.putting.put_members.Given as goal

abbrev pub invariant-loop-member : goal.invariant-loop-member
invariant-loop-member l = record {
  all : l.conns.items ++ map (λ (m : Member). m.conn) (drop l.member-index l.members)
      ≡ l.initial.conns.items ++ map (λ (m : Member). m.conn) l.members;
  room : length (drop l.member-index l.members) ≤ vec_capacity l.conns - vec_len l.conns;
}
