use Rattle.std.proofs.Common.{◌≡◌, ◌++◌}
use Rattle.std.specs.Prelude.{drop}
use Rattle.tt_members.specs.Leaving.{playing_in}
use Rattle.tt_members.specs.Planned.{IsPlain}
use Rattle.tt_join.specs.Ticking.{assigned, founding_steps, founding_edits}
use Rattle.tt_join.proofs.founding.found.Given as goal

-- what is told and changed so far, and what is left
abbrev pub invariant-loop-client : goal.invariant-loop-client
invariant-loop-client l = record {
  told : l.plan.steps ++ founding_steps (playing_in l.members) l.members (assigned l.live (drop l.client-index l.clients))
      ≡ l.initial.plan.steps ++ founding_steps (playing_in l.members) l.members (assigned l.initial.live l.clients);
  changed : l.plan.edits ++ founding_edits l.members (assigned l.live (drop l.client-index l.clients))
      ≡ l.initial.plan.edits ++ founding_edits l.members (assigned l.initial.live l.clients);
  plain : IsPlain l.initial.plan l.plan;
}
