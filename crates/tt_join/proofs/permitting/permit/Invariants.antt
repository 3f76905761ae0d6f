use Rattle.std.proofs.Common.{◌≡◌, ◌++◌}
use Rattle.std.specs.Prelude.{drop}
use Rattle.tt_members.specs.Edits.{words_after}
use Rattle.tt_members.specs.Planned.{IsPlain}
use Rattle.tt_join.specs.Ticking.{permitting}
use Rattle.tt_join.proofs.permitting.permit.Given as goal

-- what is told so far, and what is left to tell
abbrev pub invariant-loop-m : goal.invariant-loop-m
invariant-loop-m l = record {
  told : l.plan.steps ++ permitting l.frame l.top l.words (drop l.m-index l.members)
      ≡ l.initial.plan.steps ++ permitting l.frame l.top l.initial.words l.members;
  words : words_after (drop l.m-index l.members) l.words ≡ words_after l.members l.initial.words;
  plain : IsPlain l.initial.plan l.plan;
  edits : l.plan.edits ≡ l.initial.plan.edits;
}
