use Rattle.std.proofs.Common.{◌≡◌, ◌-◌, ◌≤◌, length}
use Rattle.tt_frame.specs.ItemForms.{items_at}
use Rattle.tt_frame.proofs.ItemLoops.{with_front}
use Rattle.tt_frame.proofs.items.counted.Given as goal

abbrev pub invariant-loop : goal.invariant-loop
invariant-loop g l = record {
  few : length l.list ≤ l.counter;
  same : with_front g.T.ListItem.fields (g.T.ListItem.listed l.list) (items_at g.T.ListItem.fields (l.count - l.counter) l.f) ≡ items_at
      g.T.ListItem.fields l.count l.fn.f;
}
