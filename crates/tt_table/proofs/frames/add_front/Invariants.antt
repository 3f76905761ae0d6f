use Rattle.std.proofs.Common.{◌≡◌, ◌++◌}
use Rattle.std.specs.Prelude.{drop}
use Rattle.tt_table.specs.Frames.{for_frame, front}
use Rattle.tt_table.proofs.frames.add_front.Given as goal

abbrev pub invariant-loop-entry : goal.invariant-loop-entry
invariant-loop-entry l = l.due.items ++ for_frame l.frame (front l.frame (drop l.entry-index l.entries))
    ≡ l.initial.due.items ++ for_frame l.frame (front l.frame l.entries)
