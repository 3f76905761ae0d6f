use Rattle.std.proofs.Common.{◌≡◌, ◌++◌}
use Rattle.std.specs.Prelude.{drop}
use Rattle.tt_table.specs.Ticking.{limit_steps}
use Rattle.tt_table.proofs.ticking.tell_late.Given as goal

abbrev pub invariant-loop-conn : goal.invariant-loop-conn
invariant-loop-conn l = l.last ++ limit_steps (drop l.conn-index l.conns) ≡ l.initial.last ++ limit_steps l.conns
