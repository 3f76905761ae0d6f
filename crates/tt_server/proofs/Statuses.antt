-- The statuses of a call that no fault explains.
use Rattle.std.proofs.Common.{◌≡◌, ℕ, ◌<◌, ◌≤◌, ◌+◌, List, length, Option, None, Some, IfSome, refl, subst, inl, inr, arith}
use Rattle.tt_edge.specs.Count.{Rose}
use Rattle.tt_edge.specs.Source.{ConsumesCount}
use Rattle.tt_log.specs.Saved.{most_saved}
use Rattle.tt_workers.specs.Running.{OfBoth}
use Rattle.tt_serving.specs.Statuses.{IsRunStatus}
use Rattle.tt_server.specs.declared.game.NoGame.{NoGame}
use Rattle.tt_server.specs.declared.game.NoGame.TheVariants.{BadMap, Fault, TooLong, Memory}
use Rattle.tt_server.specs.Saved.{OfSaved, IsNoSaved}
use Rattle.tt_server.specs.Serving.{MayStart, IsDoneOrShort}

-- after a run
pub no-fault : {P Q R : Type 0} (status : ℕ) → IsRunStatus status → (status ≡ 8 → P) → (status ≡ 9 → Q) → (status ≡ 5 → R)
    → (P → ⊥) → (Q → ⊥) → (R → ⊥) → IsDoneOrShort status
no-fault status (inl done) listener ticker sink no-listener no-ticker no-sink = inl done
no-fault status (inr (inl e)) listener ticker sink no-listener no-ticker no-sink = absurd (no-sink (sink e))
no-fault status (inr (inr (inl short))) listener ticker sink no-listener no-ticker no-sink = inr short
no-fault status (inr (inr (inr (inl e)))) listener ticker sink no-listener no-ticker no-sink = absurd (no-listener (listener e))
no-fault status (inr (inr (inr (inr e)))) listener ticker sink no-listener no-ticker no-sink = absurd (no-ticker (ticker e))

-- bytes that are a map from which a game may start are not found to be none
no-bad-map : {S : Type 0} (left : S → Option (List ℕ)) (saved : Option S) → MayStart left saved
    → OfSaved saved (λ (source : S). IfSome (left source) IsNoSaved) → ⊥
no-bad-map left None starts bad = bad
no-bad-map left (Some source) starts bad =
    let none : IsNoSaved starts.0 = subst (λ (told : Option (List ℕ)). IfSome told IsNoSaved) starts.1 bad in none.none starts.2

-- nor to be too many
not-long : {S : Type 0} (left : S → Option (List ℕ)) (saved saved' : Option S) → MayStart left saved
    → OfBoth saved saved' (λ (source source' : S). ConsumesCount (most_saved + 1) (left source) (left source')
    × IfSome (left source) (λ (bytes : List ℕ). most_saved < length bytes)) → ⊥
not-long left None saved' starts long = long
not-long left (Some source) None starts long = long
not-long left (Some source) (Some source') starts long =
    let more : most_saved < length starts.0 =
    subst (λ (told : Option (List ℕ)). IfSome told (λ (bytes : List ℕ). most_saved < length bytes)) starts.1 long.1 in
    let few : length starts.0 ≤ most_saved = starts.2.few in absurd (omega (arith, more, few))

-- where no game was made
pub no-game : {S : Type 0} (left : S → Option (List ℕ)) (faults : S → ℕ) (saved saved' : Option S) (why : NoGame) (status : ℕ)
    → (why ≡ Memory → status ≡ 6)
    → (why ≡ BadMap → OfSaved saved (λ (source : S). IfSome (left source) IsNoSaved))
    → (why ≡ Fault → OfBoth saved saved' (λ (source source' : S). Rose (faults source) (faults source')))
    → (why ≡ TooLong → OfBoth saved saved' (λ (source source' : S). ConsumesCount (most_saved + 1) (left source) (left source')
    × IfSome (left source) (λ (bytes : List ℕ). most_saved < length bytes)))
    → MayStart left saved → (OfBoth saved saved' (λ (source source' : S). Rose (faults source) (faults source')) → ⊥)
    → IsDoneOrShort status
no-game left faults saved saved' BadMap status short bad fault long starts read = absurd (no-bad-map left saved starts (bad refl))
no-game left faults saved saved' Fault status short bad fault long starts read = absurd (read (fault refl))
no-game left faults saved saved' TooLong status short bad fault long starts read =
    absurd (not-long left saved saved' starts (long refl))
no-game left faults saved saved' Memory status short bad fault long starts read = inr (short refl)
