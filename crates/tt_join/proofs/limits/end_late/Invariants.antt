use Rattle.std.proofs.Common.{◌≡◌}
use Rattle.std.specs.Prelude.{drop}
use Rattle.tt_members.specs.Planned.{IsPlain}
use Rattle.tt_join.specs.Ticking.{limiting, limiting_at}
use Rattle.tt_join.proofs.limits.end_late.Given as goal

-- what the members that are left make of what has become so far is what all make of the start
abbrev pub invariant-loop-m : goal.invariant-loop-m
invariant-loop-m l = record {
  plain : IsPlain l.initial.plan l.plan;
  going : limiting l.setup l.frame (drop l.m-index l.members) (limiting_at l.plan.edits l.plan.steps l.plays.items l.waits.conns)
      ≡ limiting l.setup l.frame l.members
      (limiting_at l.initial.plan.edits l.initial.plan.steps l.initial.plays.items l.initial.waits.conns);
}
