-- What an attempt tells at its end, and behind it.
use Rattle.std.proofs.Common.{◌≡◌, List, [], ◌∷◌, ◌++◌, length, refl, ap, subst, ◌∙◌}
use Rattle.std.specs.Prelude.{replicate}
use Rattle.tt_attempts.specs.declared.attempt.Ways.{Ways}
use Rattle.tt_attempts.specs.declared.attempt.Stage.{Stage}
use Rattle.tt_attempts.specs.declared.attempt.Stage.TheVariants.{Fresh, TryingDirect, AwaitingStun, TryingStun, TryingTurn, Over}
use Rattle.tt_attempts.specs.declared.attempt.Heard.{Heard}
use Rattle.tt_attempts.specs.declared.attempt.Heard.TheVariants.{Failed, StunResult, Connected, ServerGone}
use Rattle.tt_attempts.specs.declared.attempt.Told.{Told}
use Rattle.tt_attempts.specs.declared.attempt.Told.TheVariants.{Nothing, AllFailed}
use Rattle.tt_attempts.specs.Runs.{answers, told_in, last_word}
use Rattle.tt_attempts.proofs.RunLaws.{stage_in, told_append, Agrees, word_agrees}

over_silent : (ways : Ways) (ks : List Heard) → answers ways Over ks ≡ replicate (length ks) Nothing
over_silent ways [] = refl
over_silent ways (Failed n ∷ ks) = ap (λ (ts : List Told). Nothing ∷ ts) (over_silent ways ks)
over_silent ways (StunResult side ok ∷ ks) = ap (λ (ts : List Told). Nothing ∷ ts) (over_silent ways ks)
over_silent ways (Connected ∷ ks) = ap (λ (ts : List Told). Nothing ∷ ts) (over_silent ways ks)
over_silent ways (ServerGone ∷ ks) = ap (λ (ts : List Told). Nothing ∷ ts) (over_silent ways ks)

pub connected_silent : (ways : Ways) (before after : List Heard) → told_in ways (before ++ Connected ∷ after) ≡ told_in ways before
    ++ Nothing ∷ replicate (length after) Nothing
connected_silent ways before after =
    told_append ways before (Connected ∷ after) ∙ ap (λ (ts : List Told). told_in ways before ++ Nothing ∷ ts) (over_silent ways after)

ended : (stage : Stage) → Agrees stage AllFailed → stage ≡ Over
ended Fresh is = absurd is
ended TryingDirect is = absurd cc
ended (AwaitingStun server client) is = absurd cc
ended TryingStun is = absurd cc
ended TryingTurn is = absurd cc
ended Over is = refl

pub failed_silent : (ways : Ways) (before after : List Heard) → last_word ways before ≡ AllFailed → told_in ways (before
    ++ after) ≡ told_in ways before ++ replicate (length after) Nothing
failed_silent ways before after word =
    let over : stage_in ways before ≡ Over =
    ended (stage_in ways before) (subst (λ (w : Told). Agrees (stage_in ways before) w) word (word_agrees ways before)) in
    told_append ways before after ∙ ap (λ (s : Stage). told_in ways before ++ answers ways s after) over
    ∙ ap (λ (ts : List Told). told_in ways before ++ ts) (over_silent ways after)
