use Rattle.std.proofs.Common.{◌≡◌, ℕ, length}
use Rattle.tt_lockstep.specs.Runner.{syncs_above}
use Rattle.tt_client.specs.Notes.{AreNoted, Notes}
use Rattle.tt_client.proofs.noted.drop_run.Given as goal

abbrev pub invariant-words : goal.invariant-words
invariant-words l = record {
  above : syncs_above l.frame l.syncs.items ≡ syncs_above l.frame l.initial.syncs.items;
  noted : (start : ℕ) (noted : Notes) → AreNoted start noted l.initial.syncs.items → AreNoted start noted l.syncs.items;
}

abbrev pub decreases-words : goal.decreases-words
decreases-words l = length l.syncs.items
