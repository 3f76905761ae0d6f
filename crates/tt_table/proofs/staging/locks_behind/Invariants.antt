use Rattle.std.proofs.Common.{◌≡◌, ◌<◌, ℕ, length, get_or}
use Rattle.std.specs.Prelude.{false}
use Rattle.tt_table.specs.Telling.{is_locked_by}
use Rattle.tt_table.proofs.staging.locks_behind.Given as goal

abbrev pub invariant-loop-company : goal.invariant-loop-company
invariant-loop-company l = record {
  size : length l.locked ≡ 15;
  each : (k : ℕ) → k < l.company → get_or l.locked k false ≡ is_locked_by l.plan l.members.crew.digests k;
}
