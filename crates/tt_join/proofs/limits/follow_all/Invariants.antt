use Rattle.std.proofs.Common.{◌≡◌}
use Rattle.std.specs.Prelude.{drop}
use Rattle.tt_members.specs.Edits.{queue_after}
use Rattle.tt_join.specs.Ticking.{plays_after}
use Rattle.tt_join.proofs.limits.follow_all.Given as goal

abbrev pub invariant-loop-edit : goal.invariant-loop-edit
invariant-loop-edit l = record {
  plays : plays_after (drop l.edit-index l.edits) l.plays.items ≡ plays_after l.edits l.initial.plays.items;
  waits : queue_after (drop l.edit-index l.edits) l.waits.conns ≡ queue_after l.edits l.initial.waits.conns;
}
