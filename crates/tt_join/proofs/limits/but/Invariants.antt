use Rattle.std.proofs.Common.{◌≡◌, ◌++◌}
use Rattle.std.specs.Prelude.{drop}
use Rattle.tt_members.specs.Leaving.{but}
use Rattle.tt_join.proofs.limits.but.Given as goal

abbrev pub invariant-loop-one : goal.invariant-loop-one
invariant-loop-one l = l.others.items ++ but l.conn (drop l.one-index l.conns) ≡ but l.conn l.conns
