use Rattle.std.proofs.Common.{◌≡◌, ◌++◌}
use Rattle.std.specs.Prelude.{map, drop}
use Rattle.tt_log.specs.Tick.{own_entry}
use Rattle.tt_members.specs.Leaving.{playing_in}
use Rattle.tt_members.specs.Planned.{IsPlain}
use Rattle.tt_join.specs.Ticking.{stamping}
use Rattle.tt_join.proofs.stamping.stamp_own.Given as goal

-- what is told so far, and what is left to tell
abbrev pub invariant-loop-command : goal.invariant-loop-command
invariant-loop-command l = record {
  told : l.plan.steps ++ stamping (playing_in l.members) (map (own_entry l.frame) (drop l.command-index l.own))
      ≡ l.initial.plan.steps ++ stamping (playing_in l.members) (map (own_entry l.frame) l.own);
  plain : IsPlain l.initial.plan l.plan;
  edits : l.plan.edits ≡ l.initial.plan.edits;
}
