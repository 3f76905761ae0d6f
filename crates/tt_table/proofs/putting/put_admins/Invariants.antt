use Rattle.std.proofs.Common.{◌≡◌, ◌++◌, ◌≤◌, length}
use Rattle.std.specs.Prelude.{◌-◌, drop, map, vec_capacity, vec_len}
use Rattle.tt_log.specs.Admin.{Admin}
use Rattle.tt_table.proofs.putting.put_admins.Given as goal

abbrev pub invariant-loop-admin : goal.invariant-loop-admin
invariant-loop-admin l = record {
  all : l.conns.items ++ map (λ (a : Admin). a.conn) (drop l.admin-index l.admins) ≡ l.initial.conns.items ++ map (λ (a : Admin). a.conn)
      l.admins;
  room : length (drop l.admin-index l.admins) ≤ vec_capacity l.conns - vec_len l.conns;
}
