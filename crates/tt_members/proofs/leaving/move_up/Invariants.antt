use Rattle.std.proofs.Common.{◌≡◌, ◌+◌, ◌++◌}
use Rattle.std.specs.Prelude.{drop}
use Rattle.tt_members.specs.Planned.{IsPlain}
use Rattle.tt_members.specs.Queues.{moving}
use Rattle.tt_members.proofs.leaving.move_up.Given as goal

-- what is told so far, and what is left to tell
abbrev pub invariant-loop-conn : goal.invariant-loop-conn
invariant-loop-conn l = record {
  at : l.before ≡ l.place + l.conn-index;
  told : l.plan.steps ++ moving l.before (drop l.conn-index l.behind) ≡ l.initial.plan.steps ++ moving l.place l.behind;
  plain : IsPlain l.initial.plan l.plan;
  edits : l.plan.edits ≡ l.initial.plan.edits;
}
