use Rattle.std.proofs.Common.{◌≡◌}
use Rattle.std.specs.Prelude.{drop}
use Rattle.tt_join.specs.Ticking.{member_by}
use Rattle.tt_join.proofs.founding.member_by.Given as goal

abbrev pub invariant-loop-m : goal.invariant-loop-m
invariant-loop-m l = member_by l.client (drop l.m-index l.members) ≡ member_by l.client l.members
