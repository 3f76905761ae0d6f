use Rattle.std.proofs.Common.{◌≡◌, ◌-◌, ◌≤◌, length}
use Rattle.tt_frame.specs.ItemForms.{marked_at}
use Rattle.tt_frame.proofs.ItemLoops.{with_front}
use Rattle.tt_frame.proofs.items.marked.Given as goal

abbrev pub invariant-loop : goal.invariant-loop
invariant-loop g l = record {
  few : length l.list ≤ l.counter;
  same : with_front g.T.ListItem.fields (g.T.ListItem.listed l.list) (marked_at g.T.ListItem.fields (g.row.MAX - l.counter) l.f) ≡
      marked_at g.T.ListItem.fields g.row.MAX l.fn.f;
}
