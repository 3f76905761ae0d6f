-- Runs of an attempt: how far it is after some events, and what its last word says of that.
use Rattle.std.proofs.Common.{◌≡◌, ℕ, Bool, true, false, cond, eqb, ltb, List, [], ◌∷◌, ◌++◌, refl, sym, ap, subst}
use Rattle.tt_attempts.specs.declared.attempt.Ways.{Ways}
use Rattle.tt_attempts.specs.declared.attempt.Stage.{Stage}
use Rattle.tt_attempts.specs.declared.attempt.Stage.TheVariants.{Fresh, TryingDirect, AwaitingStun, TryingStun, TryingTurn, Over}
use Rattle.tt_attempts.specs.declared.attempt.Heard.{Heard}
use Rattle.tt_attempts.specs.declared.attempt.Heard.TheVariants.{Failed, StunResult, Connected, ServerGone}
use Rattle.tt_attempts.specs.declared.attempt.Told.{Told}
use Rattle.tt_attempts.specs.declared.attempt.Told.TheVariants.{Nothing, Direct, AskStun, Stun, Turn, AllFailed}
use Rattle.tt_attempts.specs.Attempts.{Step, tells, stays, from_turn, from_stun, from_direct, agreed, stepped}
use Rattle.tt_attempts.specs.Runs.{answers, told_in, word_after, last_word}

-- how far it is after these events
abbrev pub stage_after : Ways → Stage → List Heard → Stage
stage_after ways stage [] = stage
stage_after ways stage (h ∷ hs) = stage_after ways (stepped ways stage h).stage hs

-- how far it is after its first word and these events
abbrev pub stage_in : Ways → List Heard → Stage
stage_in ways heard = stage_after ways (from_direct ways).stage heard

answers_append : (ways : Ways) (stage : Stage) (hs ks : List Heard) → answers ways stage (hs ++ ks) ≡ answers ways stage hs
    ++ answers ways (stage_after ways stage hs) ks
answers_append ways stage [] ks = refl
answers_append ways stage (h ∷ hs) ks =
    ap (λ (ts : List Told). (stepped ways stage h).told ∷ ts) (answers_append ways (stepped ways stage h).stage hs ks)

pub told_append : (ways : Ways) (hs ks : List Heard) → told_in ways (hs ++ ks) ≡ told_in ways hs ++ answers ways (stage_in ways hs) ks
told_append ways hs ks = ap (λ (ts : List Told). (from_direct ways).told ∷ ts) (answers_append ways (from_direct ways).stage hs ks)

pub stage_append : (ways : Ways) (stage : Stage) (hs ks : List Heard) → stage_after ways stage (hs ++ ks) ≡ stage_after ways
    (stage_after ways stage hs) ks
stage_append ways stage [] ks = refl
stage_append ways stage (h ∷ hs) ks = stage_append ways (stepped ways stage h).stage hs ks

-- what the last word says of how far it is
abbrev pub Agrees : Stage → Told → Type 0
Agrees Fresh w = ⊥
Agrees TryingDirect w = w ≡ Direct
Agrees (AwaitingStun server client) w = w ≡ AskStun
Agrees TryingStun w = w ≡ Stun
Agrees TryingTurn w = w ≡ Turn
Agrees Over w = Unit {0}

-- the last word behind a step
abbrev word_of : Told → Step → Told
word_of w r = word_after w (r.told ∷ [])

abbrev StepAgrees : Told → Step → Type 0
StepAgrees w r = Agrees r.stage (word_of w r)

turn_agrees : (w : Told) (b : Bool) → StepAgrees w (cond b (tells Turn TryingTurn) (tells AllFailed Over))
turn_agrees w true = refl
turn_agrees w false = tt

stun_agrees : (w : Told) (b t : Bool) → StepAgrees w (cond b (tells AskStun (AwaitingStun false false)) (cond t (tells Turn TryingTurn)
    (tells AllFailed Over)))
stun_agrees w true t = refl
stun_agrees w false t = turn_agrees w t

direct_agrees : (w : Told) (d b t : Bool)
    → StepAgrees w (cond d (tells Direct TryingDirect) (cond b (tells AskStun (AwaitingStun false false)) (cond t (tells Turn TryingTurn)
    (tells AllFailed Over))))
direct_agrees w true b t = refl
direct_agrees w false b t = stun_agrees w b t

-- a step that is taken, or none
either : (w : Told) (b : Bool) (one other : Step) → StepAgrees w one → StepAgrees w other → StepAgrees w (cond b one other)
either w true one other y n = y
either w false one other y n = n

agreed_agrees : (w : Told) (server client : Bool) → w ≡ AskStun → StepAgrees w (agreed server client)
agreed_agrees w true true is = refl
agreed_agrees w true false is = is
agreed_agrees w false client is = is

answer_agrees : (w : Told) (ways : Ways) (server client : Bool) (side : ℕ) (ok : Bool) → w ≡ AskStun
    → StepAgrees w (stepped ways (AwaitingStun server client) (StunResult side ok))
answer_agrees w ways server client side true is =
    either w (eqb side 0) (agreed true client) (cond (eqb side 1) (agreed server true) (stays (AwaitingStun server client)))
    (agreed_agrees w true client is) (either w (eqb side 1) (agreed server true) (stays (AwaitingStun server client))
    (agreed_agrees w server true is) is)
answer_agrees w ways server client side false is =
    either w (ltb side 2) (from_turn ways) (stays (AwaitingStun server client)) (turn_agrees w ways.turn) is

step_agrees : (w : Told) (ways : Ways) (stage : Stage) (h : Heard) → Agrees stage w → StepAgrees w (stepped ways stage h)
step_agrees w ways Fresh h is = absurd is
step_agrees w ways TryingDirect (Failed n) is =
    either w (eqb n 1) (from_stun ways) (stays TryingDirect) (stun_agrees w ways.stun ways.turn) is
step_agrees w ways TryingStun (Failed n) is = either w (eqb n 2) (from_turn ways) (stays TryingStun) (turn_agrees w ways.turn) is
step_agrees w ways TryingTurn (Failed n) is = either w (eqb n 3) (tells AllFailed Over) (stays TryingTurn) tt is
step_agrees w ways (AwaitingStun server client) (Failed n) is = is
step_agrees w ways Over (Failed n) is = tt
step_agrees w ways TryingDirect (StunResult side ok) is = is
step_agrees w ways TryingStun (StunResult side ok) is = is
step_agrees w ways TryingTurn (StunResult side ok) is = is
step_agrees w ways (AwaitingStun server client) (StunResult side ok) is = answer_agrees w ways server client side ok is
step_agrees w ways Over (StunResult side ok) is = tt
step_agrees w ways TryingDirect Connected is = tt
step_agrees w ways TryingStun Connected is = tt
step_agrees w ways TryingTurn Connected is = tt
step_agrees w ways (AwaitingStun server client) Connected is = tt
step_agrees w ways Over Connected is = tt
step_agrees w ways TryingDirect ServerGone is = tt
step_agrees w ways TryingStun ServerGone is = tt
step_agrees w ways TryingTurn ServerGone is = tt
step_agrees w ways (AwaitingStun server client) ServerGone is = tt
step_agrees w ways Over ServerGone is = tt

pub word_step : (w t : Told) (ts : List Told) → word_after w (t ∷ ts) ≡ word_after (word_after w (t ∷ [])) ts
word_step w Nothing ts = refl
word_step w Direct ts = refl
word_step w AskStun ts = refl
word_step w Stun ts = refl
word_step w Turn ts = refl
word_step w AllFailed ts = refl

run_agrees : (w : Told) (ways : Ways) (stage : Stage) (hs : List Heard) → Agrees stage w
    → Agrees (stage_after ways stage hs) (word_after w (answers ways stage hs))
run_agrees w ways stage [] is = is
run_agrees w ways stage (h ∷ hs) is =
    let r = stepped ways stage h in
    subst (λ (v : Told). Agrees (stage_after ways r.stage hs) v) (sym (word_step w r.told (answers ways r.stage hs)))
    (run_agrees (word_of w r) ways r.stage hs (step_agrees w ways stage h is))

-- after any events the last word says how far the attempt is
pub word_agrees : (ways : Ways) (heard : List Heard) → Agrees (stage_in ways heard) (last_word ways heard)
word_agrees ways heard =
    let r = from_direct ways in
    subst (λ (v : Told). Agrees (stage_in ways heard) v) (sym (word_step Nothing r.told (answers ways r.stage heard)))
    (run_agrees (word_of Nothing r) ways r.stage heard (direct_agrees Nothing ways.direct ways.stun ways.turn))
