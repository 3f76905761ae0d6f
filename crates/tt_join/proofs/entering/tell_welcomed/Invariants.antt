use Rattle.std.proofs.Common.{◌≡◌, ◌++◌}
use Rattle.std.specs.Prelude.{drop}
use Rattle.tt_members.specs.Planned.{IsPlain}
use Rattle.tt_join.specs.Entering.{infos}
use Rattle.tt_join.proofs.entering.tell_welcomed.Given as goal

abbrev pub invariant-loop-m : goal.invariant-loop-m
invariant-loop-m l = record {
  told : l.plan.steps ++ infos l.conn (drop l.m-index l.members) ≡ l.initial.plan.steps ++ infos l.conn l.members;
  plain : IsPlain l.initial.plan l.plan;
  edits : l.plan.edits ≡ l.initial.plan.edits;
}
