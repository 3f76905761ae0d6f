use Rattle.std.proofs.Common.{◌≡◌, ◌++◌}
use Rattle.std.specs.Prelude.{drop}
use Rattle.tt_table.specs.Ticking.{late_conns}
use Rattle.tt_table.proofs.ticking.late.Given as goal

abbrev pub invariant-loop-admin : goal.invariant-loop-admin
invariant-loop-admin l = l.conns.items ++ late_conns l.most l.frame (drop l.admin-index l.admins) ≡ late_conns l.most l.frame l.admins
