-- The statuses of a run that no fault explains.
use Rattle.std.proofs.Common.{◌≡◌, ℕ, ◌⊎◌, inl, inr}
use Rattle.tt_serving.specs.Statuses.{IsRunStatus}
use Rattle.tt_coordinator.specs.Serving.{IsDoneOrShort}

pub no-fault : {P Q R : Type 0} (status : ℕ) → IsRunStatus status → (status ≡ 8 → P) → (status ≡ 9 → Q) → (status ≡ 5 → R)
    → (P → ⊥) → (Q → ⊥) → (R → ⊥) → IsDoneOrShort status
no-fault status (inl done) listener ticker sink no-listener no-ticker no-sink = inl done
no-fault status (inr (inl e)) listener ticker sink no-listener no-ticker no-sink = absurd (no-sink (sink e))
no-fault status (inr (inr (inl short))) listener ticker sink no-listener no-ticker no-sink = inr short
no-fault status (inr (inr (inr (inl e)))) listener ticker sink no-listener no-ticker no-sink = absurd (no-listener (listener e))
no-fault status (inr (inr (inr (inr e)))) listener ticker sink no-listener no-ticker no-sink = absurd (no-ticker (ticker e))
