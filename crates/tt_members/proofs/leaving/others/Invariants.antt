use Rattle.std.proofs.Common.{◌≡◌, ◌++◌}
use Rattle.std.specs.Prelude.{drop}
use Rattle.tt_members.specs.Leaving.{others}
use Rattle.tt_members.proofs.leaving.others.Given as goal

abbrev pub invariant-loop-m : goal.invariant-loop-m
invariant-loop-m l = l.conns.items ++ others l.conn (drop l.m-index l.members) ≡ others l.conn l.members
