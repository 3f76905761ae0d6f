use Rattle.std.proofs.Common.{◌≡◌}
use Rattle.std.specs.Prelude.{drop}
use Rattle.tt_join.specs.Ticking.{began}
use Rattle.tt_join.proofs.limits.began.Given as goal

abbrev pub invariant-loop-edit : goal.invariant-loop-edit
invariant-loop-edit l = began l.conn (drop l.edit-index l.edits) ≡ began l.conn l.edits
