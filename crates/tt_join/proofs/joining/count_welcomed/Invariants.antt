use Rattle.std.proofs.Common.{◌≡◌, ◌+◌, ◌≤◌, length}
use Rattle.std.specs.Prelude.{drop, filter}
use Rattle.tt_log.specs.Member.{is_welcomed}
use Rattle.tt_join.proofs.joining.count_welcomed.Given as goal

-- those counted so far, and those that are left
abbrev pub invariant-loop-m : goal.invariant-loop-m
invariant-loop-m l = record {
  most : l.count ≤ l.m-index;
  counted : l.count + length (filter is_welcomed (drop l.m-index l.members)) ≡ length (filter is_welcomed l.members);
}
