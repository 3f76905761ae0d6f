-- The ways are told in the order of those that apply.
use Rattle.std.proofs.Common.{◌≡◌, ℕ, Bool, true, false, cond, eqb, ltb, List, [], ◌∷◌, ◌++◌, refl, sym, ap, ◌∙◌, append_assoc}
use Rattle.std.proofs.lemmas.List.{append-nil}
use Rattle.tt_attempts.specs.declared.attempt.Ways.{Ways}
use Rattle.tt_attempts.specs.declared.attempt.Stage.{Stage}
use Rattle.tt_attempts.specs.declared.attempt.Stage.TheVariants.{Fresh, TryingDirect, AwaitingStun, TryingStun, TryingTurn, Over}
use Rattle.tt_attempts.specs.declared.attempt.Heard.{Heard}
use Rattle.tt_attempts.specs.declared.attempt.Heard.TheVariants.{Failed, StunResult, Connected, ServerGone}
use Rattle.tt_attempts.specs.declared.attempt.Told.{Told}
use Rattle.tt_attempts.specs.declared.attempt.Told.TheVariants.{Nothing, Direct, AskStun, Stun, Turn, AllFailed}
use Rattle.tt_attempts.specs.Attempts.{Step, tells, stays, from_turn, from_stun, from_direct, agreed, stepped}
use Rattle.tt_attempts.specs.Runs.{answers, told_in, ways_in, turn_applies, stun_applies, applying}

-- the ways that are left to try
abbrev left : Ways → Stage → List Told
left ways Fresh = applying ways
left ways TryingDirect = stun_applies ways
left ways (AwaitingStun server client) = turn_applies ways
left ways TryingStun = turn_applies ways
left ways TryingTurn = []
left ways Over = []

-- a step tells the first of these ways, if any, and leaves the others or fewer
abbrev InOrder : Ways → List Told → Step → Type 0
InOrder ways before r = (later : List Told) × (before ≡ ways_in (r.told ∷ []) ++ (left ways r.stage ++ later))

keeps : (ways : Ways) (stage : Stage) → InOrder ways (left ways stage) (stays stage)
keeps ways stage = ([], sym (append-nil (left ways stage)))

either : (ways : Ways) (before : List Told) (b : Bool) (one other : Step) → InOrder ways before one → InOrder ways before other
    → InOrder ways before (cond b one other)
either ways before true one other y n = y
either ways before false one other y n = n

turn_by : (ways : Ways) (t : Bool) → InOrder ways (cond t (Turn ∷ []) []) (cond t (tells Turn TryingTurn) (tells AllFailed Over))
turn_by ways true = ([], refl)
turn_by ways false = ([], refl)

stun_by : (ways : Ways) (b : Bool) → InOrder ways (cond b (AskStun ∷ turn_applies ways) (turn_applies ways))
    (cond b (tells AskStun (AwaitingStun false false)) (from_turn ways))
stun_by ways true = ([], ap (λ (ts : List Told). AskStun ∷ ts) (sym (append-nil (turn_applies ways))))
stun_by ways false = turn_by ways ways.turn

direct_by : (ways : Ways) (b : Bool) → InOrder ways (cond b (Direct ∷ stun_applies ways) (stun_applies ways))
    (cond b (tells Direct TryingDirect) (from_stun ways))
direct_by ways true = ([], ap (λ (ts : List Told). Direct ∷ ts) (sym (append-nil (stun_applies ways))))
direct_by ways false = stun_by ways ways.stun

agreed_by : (ways : Ways) (server client : Bool) → InOrder ways (turn_applies ways) (agreed server client)
agreed_by ways true true = keeps ways TryingStun
agreed_by ways true false = keeps ways (AwaitingStun true false)
agreed_by ways false client = keeps ways (AwaitingStun false client)

answer_by : (ways : Ways) (server client : Bool) (side : ℕ) (ok : Bool)
    → InOrder ways (turn_applies ways) (stepped ways (AwaitingStun server client) (StunResult side ok))
answer_by ways server client side true =
    let here = stays (AwaitingStun server client) in
    either ways (turn_applies ways) (eqb side 0) (agreed true client) (cond (eqb side 1) (agreed server true) here)
    (agreed_by ways true client) (either ways (turn_applies ways) (eqb side 1) (agreed server true) here (agreed_by ways server true)
    (keeps ways (AwaitingStun server client)))
answer_by ways server client side false = either ways (turn_applies ways) (ltb side 2) (from_turn ways)
    (stays (AwaitingStun server client)) (turn_by ways ways.turn) (keeps ways (AwaitingStun server client))

step_by : (ways : Ways) (stage : Stage) (h : Heard) → InOrder ways (left ways stage) (stepped ways stage h)
step_by ways Fresh (Failed n) = keeps ways Fresh
step_by ways TryingDirect (Failed n) =
    either ways (stun_applies ways) (eqb n 1) (from_stun ways) (stays TryingDirect) (stun_by ways ways.stun) (keeps ways TryingDirect)
step_by ways TryingStun (Failed n) =
    either ways (turn_applies ways) (eqb n 2) (from_turn ways) (stays TryingStun) (turn_by ways ways.turn) (keeps ways TryingStun)
step_by ways TryingTurn (Failed n) = either ways [] (eqb n 3) (tells AllFailed Over) (stays TryingTurn) ([], refl) (keeps ways TryingTurn)
step_by ways (AwaitingStun server client) (Failed n) = keeps ways (AwaitingStun server client)
step_by ways Over (Failed n) = keeps ways Over
step_by ways Fresh (StunResult side ok) = keeps ways Fresh
step_by ways TryingDirect (StunResult side ok) = keeps ways TryingDirect
step_by ways TryingStun (StunResult side ok) = keeps ways TryingStun
step_by ways TryingTurn (StunResult side ok) = keeps ways TryingTurn
step_by ways (AwaitingStun server client) (StunResult side ok) = answer_by ways server client side ok
step_by ways Over (StunResult side ok) = keeps ways Over
step_by ways stage Connected = (left ways stage, refl)
step_by ways Over ServerGone = keeps ways Over
step_by ways Fresh ServerGone = (left ways Fresh, refl)
step_by ways TryingDirect ServerGone = (left ways TryingDirect, refl)
step_by ways (AwaitingStun server client) ServerGone = (turn_applies ways, refl)
step_by ways TryingStun ServerGone = (turn_applies ways, refl)
step_by ways TryingTurn ServerGone = ([], refl)

ways_step : (t : Told) (ts : List Told) → ways_in (t ∷ ts) ≡ ways_in (t ∷ []) ++ ways_in ts
ways_step Nothing ts = refl
ways_step Direct ts = refl
ways_step AskStun ts = refl
ways_step Stun ts = refl
ways_step Turn ts = refl
ways_step AllFailed ts = refl

-- a step, and then others
joined : (t : Told) (ts before between late later : List Told) → before ≡ ways_in (t ∷ []) ++ (between ++ late) → between ≡ ways_in ts
    ++ later → before ≡ ways_in (t ∷ ts) ++ (later ++ late)
joined t ts before between late later one others =
    one
    ∙ ap (λ (l : List Told). ways_in (t ∷ []) ++ (l ++ late)) others
    ∙ ap (λ (l : List Told). ways_in (t ∷ []) ++ l) (append_assoc (ways_in ts) later late)
    ∙ sym (append_assoc (ways_in (t ∷ [])) (ways_in ts) (later ++ late))
    ∙ ap (λ (l : List Told). l ++ (later ++ late)) (sym (ways_step t ts))

run_by : (ways : Ways) (stage : Stage) (hs : List Heard) → (later : List Told) × (left ways stage ≡ ways_in (answers ways stage hs)
    ++ later)
run_by ways stage [] = (left ways stage, refl)
run_by ways stage (h ∷ hs) =
    let r = stepped ways stage h in
    let one = step_by ways stage h in
    let others = run_by ways r.stage hs in
    (others.0 ++ one.0, joined r.told (answers ways r.stage hs) (left ways stage) (left ways r.stage) one.0 others.0 one.1 others.1)

pub in_order : (ways : Ways) (heard : List Heard) → (later : List Told) × (applying ways ≡ ways_in (told_in ways heard) ++ later)
in_order ways heard =
    let r = from_direct ways in
    let one = direct_by ways ways.direct in
    let others = run_by ways r.stage heard in
    (others.0 ++ one.0, joined r.told (answers ways r.stage heard) (applying ways) (left ways r.stage) one.0 others.0 one.1 others.1)
