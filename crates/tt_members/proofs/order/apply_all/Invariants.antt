use Rattle.std.proofs.Common.{◌≡◌}
use Rattle.std.specs.Prelude.{drop, ◌-◌, ◌≤◌, vec_len, vec_capacity}
use Rattle.tt_members.specs.Rules.{Rise}
use Rattle.tt_members.specs.Edits.{members_after, queue_after}
use Rattle.tt_members.proofs.order.apply_all.Given as goal

abbrev pub invariant-loop-edit : goal.invariant-loop-edit
invariant-loop-edit l = record {
  rise : Rise l.members.items;
  members : members_after (drop l.edit-index l.edits) l.members.items ≡ members_after l.edits l.initial.members.items;
  room : vec_capacity l.initial.members - vec_len l.initial.members ≤ vec_capacity l.members - vec_len l.members;
  queue_room : l.initial.queue.room ≤ l.queue.room;
  queue : queue_after (drop l.edit-index l.edits) l.queue.conns ≡ queue_after l.edits l.initial.queue.conns;
}
