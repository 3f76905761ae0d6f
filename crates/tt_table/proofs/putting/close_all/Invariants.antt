use Rattle.std.proofs.Common.{◌≡◌}
use Rattle.std.specs.Prelude.{drop}
use Rattle.tt_table.specs.Putting.{left_by}
use Rattle.tt_table.proofs.putting.close_all.Given as goal

abbrev pub invariant-loop-conn : goal.invariant-loop-conn
invariant-loop-conn l = left_by (drop l.conn-index l.conns) l.desk ≡ left_by l.conns l.initial.desk
