-- The next way is told for the failure of the one before, and at once.
use Rattle.std.proofs.Common.{
  ◌≡◌,
  ℕ,
  Bool,
  true,
  false,
  cond,
  eqb,
  ltb,
  List,
  [],
  ◌∷◌,
  ◌++◌,
  refl,
  sym,
  ap,
  subst,
  ◌∙◌,
  ◌⊎◌,
  inl,
  inr,
  arith,
}
use Rattle.std.specs.List.{Contains}
use Rattle.std.proofs.lemmas.List.{append_cancel_left}
use Rattle.std.proofs.lemmas.List.Elements.{Contains-append_left, Contains-append_right}
use Rattle.tt_attempts.specs.declared.attempt.Ways.{Ways}
use Rattle.tt_attempts.specs.declared.attempt.Stage.{Stage}
use Rattle.tt_attempts.specs.declared.attempt.Stage.TheVariants.{Fresh, TryingDirect, AwaitingStun, TryingStun, TryingTurn, Over}
use Rattle.tt_attempts.specs.declared.attempt.Heard.{Heard}
use Rattle.tt_attempts.specs.declared.attempt.Heard.TheVariants.{Failed, StunResult, Connected, ServerGone}
use Rattle.tt_attempts.specs.declared.attempt.Told.{Told}
use Rattle.tt_attempts.specs.declared.attempt.Told.TheVariants.{Nothing, Direct, AskStun, Stun, Turn, AllFailed}
use Rattle.tt_attempts.specs.Attempts.{Step, tells, stays, from_turn, from_stun, from_direct, agreed, stepped}
use Rattle.tt_attempts.specs.Runs.{answers, told_in, turn_applies, word_after, last_word, fails, IsNewWay, first_of, next_way}
use Rattle.tt_attempts.proofs.RunLaws.{stage_after, stage_in, told_append, Agrees, word_step, word_agrees}

first_is : (t u : Told) → t ∷ [] ≡ u ∷ [] → t ≡ u
first_is t u e = cc

-- the answer to an event behind others
pub answer_is : (ways : Ways) (before : List Heard) (h : Heard) (word : Told) → told_in ways (before ++ h ∷ []) ≡ told_in ways before
    ++ word ∷ [] → (stepped ways (stage_in ways before) h).told ≡ word
answer_is ways before h word is =
    let t = (stepped ways (stage_in ways before) h).told in
    first_is t word (append_cancel_left (told_in ways before) (t ∷ []) (word ∷ []) (sym (told_append ways before (h ∷ [])) ∙ is))

-- a way or the end
abbrev pub IsAdvance : Told → Type 0
IsAdvance Direct = Unit {0}
IsAdvance AskStun = Unit {0}
IsAdvance Turn = Unit {0}
IsAdvance AllFailed = Unit {0}
IsAdvance Nothing = ⊥
IsAdvance Stun = ⊥

abbrev Because : Told → Heard → Told → Type 0
Because w h word = (fails w h ≡ true) ⊎ ((h ≡ ServerGone) × (word ≡ AllFailed))

no_advance : (t word : Told) → t ≡ word → IsAdvance word → (IsAdvance t → ⊥) → ⊥
no_advance t word is advance never = never (subst IsAdvance (sym is) advance)

-- a test that is passed, where the other branch is no advance
passed : (b : Bool) (one other : Step) (word : Told) → (cond b one other).told ≡ word → IsAdvance word → (IsAdvance other.told → ⊥)
    → b ≡ true
passed true one other word is advance never = refl
passed false one other word is advance never = absurd (no_advance other.told word is advance never)

agreed_never : (server client : Bool) → IsAdvance (agreed server client).told → ⊥
agreed_never true true x = x
agreed_never true false x = x
agreed_never false client x = x

-- no ok result is an advance
ok_never : (server client a b : Bool)
    → IsAdvance (cond a (agreed true client) (cond b (agreed server true) (stays (AwaitingStun server client)))).told → ⊥
ok_never server client true b x = agreed_never true client x
ok_never server client false true x = agreed_never server true x
ok_never server client false false x = x

because : (w v : Told) (h : Heard) (word : Told) → w ≡ v → fails v h ≡ true → Because w h word
because w v h word is test = inl (ap (λ (u : Told). fails u h) is ∙ test)

pub step_because : (w : Told) (ways : Ways) (stage : Stage) (h : Heard) (word : Told) → Agrees stage w → (stepped ways stage h).told ≡ word
    → IsAdvance word → Because w h word
step_because w ways Fresh h word is told advance = absurd is
step_because w ways TryingDirect (Failed n) word is told advance =
    because w Direct (Failed n) word is (passed (eqb n 1) (from_stun ways) (stays TryingDirect) word told advance (λ x. x))
step_because w ways TryingStun (Failed n) word is told advance =
    because w Stun (Failed n) word is (passed (eqb n 2) (from_turn ways) (stays TryingStun) word told advance (λ x. x))
step_because w ways TryingTurn (Failed n) word is told advance =
    because w Turn (Failed n) word is (passed (eqb n 3) (tells AllFailed Over) (stays TryingTurn) word told advance (λ x. x))
step_because w ways (AwaitingStun server client) (Failed n) word is told advance = absurd (no_advance Nothing word told advance (λ x. x))
step_because w ways Over (Failed n) word is told advance = absurd (no_advance Nothing word told advance (λ x. x))
step_because w ways TryingDirect (StunResult side ok) word is told advance = absurd (no_advance Nothing word told advance (λ x. x))
step_because w ways TryingStun (StunResult side ok) word is told advance = absurd (no_advance Nothing word told advance (λ x. x))
step_because w ways TryingTurn (StunResult side ok) word is told advance = absurd (no_advance Nothing word told advance (λ x. x))
step_because w ways Over (StunResult side ok) word is told advance = absurd (no_advance Nothing word told advance (λ x. x))
step_because w ways (AwaitingStun server client) (StunResult side true) word is told advance =
    absurd (no_advance _ word told advance (ok_never server client (eqb side 0) (eqb side 1)))
step_because w ways (AwaitingStun server client) (StunResult side false) word is told advance = because w AskStun (StunResult side false)
    word is (passed (ltb side 2) (from_turn ways) (stays (AwaitingStun server client)) word told advance (λ x. x))
step_because w ways TryingDirect Connected word is told advance = absurd (no_advance Nothing word told advance (λ x. x))
step_because w ways TryingStun Connected word is told advance = absurd (no_advance Nothing word told advance (λ x. x))
step_because w ways TryingTurn Connected word is told advance = absurd (no_advance Nothing word told advance (λ x. x))
step_because w ways (AwaitingStun server client) Connected word is told advance = absurd (no_advance Nothing word told advance (λ x. x))
step_because w ways Over Connected word is told advance = absurd (no_advance Nothing word told advance (λ x. x))
step_because w ways TryingDirect ServerGone word is told advance = inr (refl, sym told)
step_because w ways TryingStun ServerGone word is told advance = inr (refl, sym told)
step_because w ways TryingTurn ServerGone word is told advance = inr (refl, sym told)
step_because w ways (AwaitingStun server client) ServerGone word is told advance = inr (refl, sym told)
step_because w ways Over ServerGone word is told advance = absurd (no_advance Nothing word told advance (λ x. x))

new_advances : (word : Told) → IsNewWay word → IsAdvance word
new_advances Direct new = tt
new_advances AskStun new = tt
new_advances Turn new = tt
new_advances Nothing new = absurd new
new_advances Stun new = absurd new
new_advances AllFailed new = absurd new

new_is_no_end : (word : Told) → IsNewWay word → word ≡ AllFailed → ⊥
new_is_no_end word new is = subst IsNewWay is new

pub way_because : (ways : Ways) (before : List Heard) (h : Heard) (word : Told) → IsNewWay word → told_in ways (before
    ++ h ∷ []) ≡ told_in ways before ++ word ∷ [] → fails (last_word ways before) h ≡ true
way_because ways before h word new is =
    elim (step_because (last_word ways before) ways (stage_in ways before) h word (word_agrees ways before) (answer_is ways before h word
    is) (new_advances word new)) [
      | inl test ↦ test
      | inr gone ↦ absurd (new_is_no_end word new gone.1)
    ]

pub end_because : (ways : Ways) (before : List Heard) (h : Heard) → told_in ways (before ++ h ∷ []) ≡ told_in ways before ++ AllFailed ∷ []
    → (fails (last_word ways before) h ≡ true) ⊎ (h ≡ ServerGone)
end_because ways before h is =
    elim (step_because (last_word ways before) ways (stage_in ways before) h AllFailed (word_agrees ways before) (answer_is ways before h
    AllFailed is) tt) [
      | inl test ↦ inl test
      | inr gone ↦ inr gone.0
    ]

-- while the client isn't connected, it is over only by its word
abbrev Ended : Stage → Told → Type 0
Ended Over w = w ≡ AllFailed
Ended Fresh w = Unit {0}
Ended TryingDirect w = Unit {0}
Ended (AwaitingStun server client) w = Unit {0}
Ended TryingStun w = Unit {0}
Ended TryingTurn w = Unit {0}

abbrev StepEnds : Told → Step → Type 0
StepEnds w r = Ended r.stage (word_after w (r.told ∷ []))

either : (w : Told) (b : Bool) (one other : Step) → StepEnds w one → StepEnds w other → StepEnds w (cond b one other)
either w true one other y n = y
either w false one other y n = n

turn_ends : (w : Told) (t : Bool) → StepEnds w (cond t (tells Turn TryingTurn) (tells AllFailed Over))
turn_ends w true = tt
turn_ends w false = refl

stun_ends : (w : Told) (b t : Bool) → StepEnds w (cond b (tells AskStun (AwaitingStun false false)) (cond t (tells Turn TryingTurn)
    (tells AllFailed Over)))
stun_ends w true t = tt
stun_ends w false t = turn_ends w t

direct_ends : (w : Told) (d b t : Bool) → StepEnds w (cond d (tells Direct TryingDirect) (cond b (tells AskStun (AwaitingStun false false))
    (cond t (tells Turn TryingTurn) (tells AllFailed Over))))
direct_ends w true b t = tt
direct_ends w false b t = stun_ends w b t

agreed_ends : (w : Told) (server client : Bool) → StepEnds w (agreed server client)
agreed_ends w true true = tt
agreed_ends w true false = tt
agreed_ends w false client = tt

answer_ends : (w : Told) (ways : Ways) (server client : Bool) (side : ℕ) (ok : Bool)
    → StepEnds w (stepped ways (AwaitingStun server client) (StunResult side ok))
answer_ends w ways server client side true =
    let here = stays (AwaitingStun server client) in
    either w (eqb side 0) (agreed true client) (cond (eqb side 1) (agreed server true) here) (agreed_ends w true client)
    (either w (eqb side 1) (agreed server true) here (agreed_ends w server true) tt)
answer_ends w ways server client side false =
    either w (ltb side 2) (from_turn ways) (stays (AwaitingStun server client)) (turn_ends w ways.turn) tt

step_ends : (w : Told) (ways : Ways) (stage : Stage) (h : Heard) → (h ≡ Connected → ⊥) → Ended stage w → StepEnds w (stepped ways stage h)
step_ends w ways Fresh (Failed n) live is = tt
step_ends w ways TryingDirect (Failed n) live is =
    either w (eqb n 1) (from_stun ways) (stays TryingDirect) (stun_ends w ways.stun ways.turn) tt
step_ends w ways TryingStun (Failed n) live is = either w (eqb n 2) (from_turn ways) (stays TryingStun) (turn_ends w ways.turn) tt
step_ends w ways TryingTurn (Failed n) live is = either w (eqb n 3) (tells AllFailed Over) (stays TryingTurn) refl tt
step_ends w ways (AwaitingStun server client) (Failed n) live is = tt
step_ends w ways Over (Failed n) live is = is
step_ends w ways Fresh (StunResult side ok) live is = tt
step_ends w ways TryingDirect (StunResult side ok) live is = tt
step_ends w ways TryingStun (StunResult side ok) live is = tt
step_ends w ways TryingTurn (StunResult side ok) live is = tt
step_ends w ways (AwaitingStun server client) (StunResult side ok) live is = answer_ends w ways server client side ok
step_ends w ways Over (StunResult side ok) live is = is
step_ends w ways stage Connected live is = absurd (live refl)
step_ends w ways Fresh ServerGone live is = refl
step_ends w ways TryingDirect ServerGone live is = refl
step_ends w ways TryingStun ServerGone live is = refl
step_ends w ways TryingTurn ServerGone live is = refl
step_ends w ways (AwaitingStun server client) ServerGone live is = refl
step_ends w ways Over ServerGone live is = is

run_ends : (w : Told) (ways : Ways) (stage : Stage) (hs : List Heard) → (Contains hs Connected → ⊥) → Ended stage w
    → Ended (stage_after ways stage hs) (word_after w (answers ways stage hs))
run_ends w ways stage [] live is = is
run_ends w ways stage (h ∷ hs) live is =
    let r = stepped ways stage h in
    let here : h ≡ Connected → ⊥ = λ e. live (Contains-append_left (h ∷ []) hs Connected (0, omega arith, e)) in
    subst (λ (v : Told). Ended (stage_after ways r.stage hs) v) (sym (word_step w r.told (answers ways r.stage hs)))
    (run_ends (word_after w (r.told ∷ [])) ways r.stage hs (λ there. live (Contains-append_right (h ∷ []) hs Connected there))
    (step_ends w ways stage h here is))

word_ends : (ways : Ways) (heard : List Heard) → (Contains heard Connected → ⊥) → Ended (stage_in ways heard) (last_word ways heard)
word_ends ways heard live =
    let r = from_direct ways in
    subst (λ (v : Told). Ended (stage_in ways heard) v) (sym (word_step Nothing r.told (answers ways r.stage heard)))
    (run_ends (word_after Nothing (r.told ∷ [])) ways r.stage heard live (direct_ends Nothing ways.direct ways.stun ways.turn))

turn_next : (t : Bool) → (cond t (tells Turn TryingTurn) (tells AllFailed Over)).told ≡ first_of (cond t (Turn ∷ []) [])
turn_next true = refl
turn_next false = refl

stun_next : (ways : Ways) (b : Bool) → (cond b (tells AskStun (AwaitingStun false false)) (from_turn ways)).told ≡ first_of
    (cond b (AskStun ∷ turn_applies ways) (turn_applies ways))
stun_next ways true = refl
stun_next ways false = turn_next ways.turn

when : (b : Bool) (one other : Step) (t : Told) → b ≡ true → one.told ≡ t → (cond b one other).told ≡ t
when true one other t is told = told
when false one other t is told = absurd cc

end_fails : (h : Heard) → fails AllFailed h ≡ true → ⊥
end_fails (Failed n) is = absurd cc
end_fails (StunResult side ok) is = absurd cc
end_fails Connected is = absurd cc
end_fails ServerGone is = absurd cc

-- the test, where the word is this one
at_word : (v w : Told) (h : Heard) → v ≡ w → fails v h ≡ true → fails w h ≡ true
at_word v w h is test = ap (λ (u : Told). fails u h) (sym is) ∙ test

contradiction : false ≡ true → ⊥
contradiction e = absurd cc

step_next : (v : Told) (ways : Ways) (stage : Stage) (h : Heard) → Agrees stage v → Ended stage v → fails v h ≡ true
    → (stepped ways stage h).told ≡ next_way ways v
step_next v ways Fresh h is end test = absurd is
step_next v ways Over h is end test = absurd (end_fails h (at_word v AllFailed h end test))
step_next v ways TryingDirect (Failed n) is end test = when (eqb n 1) (from_stun ways) (stays TryingDirect) (next_way ways Direct)
    (at_word v Direct (Failed n) is test) (stun_next ways ways.stun) ∙ ap (λ (u : Told). next_way ways u) (sym is)
step_next v ways TryingDirect (StunResult side true) is end test = absurd (contradiction (at_word v Direct (StunResult side true) is test))
step_next v ways TryingDirect (StunResult side false) is end test =
    absurd (contradiction (at_word v Direct (StunResult side false) is test))
step_next v ways TryingDirect Connected is end test = absurd (contradiction (at_word v Direct Connected is test))
step_next v ways TryingDirect ServerGone is end test = absurd (contradiction (at_word v Direct ServerGone is test))
step_next v ways TryingStun (Failed n) is end test = when (eqb n 2) (from_turn ways) (stays TryingStun) (next_way ways Stun)
    (at_word v Stun (Failed n) is test) (turn_next ways.turn) ∙ ap (λ (u : Told). next_way ways u) (sym is)
step_next v ways TryingStun (StunResult side true) is end test = absurd (contradiction (at_word v Stun (StunResult side true) is test))
step_next v ways TryingStun (StunResult side false) is end test = absurd (contradiction (at_word v Stun (StunResult side false) is test))
step_next v ways TryingStun Connected is end test = absurd (contradiction (at_word v Stun Connected is test))
step_next v ways TryingStun ServerGone is end test = absurd (contradiction (at_word v Stun ServerGone is test))
step_next v ways TryingTurn (Failed n) is end test = when (eqb n 3) (tells AllFailed Over) (stays TryingTurn) (next_way ways Turn)
    (at_word v Turn (Failed n) is test) refl ∙ ap (λ (u : Told). next_way ways u) (sym is)
step_next v ways TryingTurn (StunResult side true) is end test = absurd (contradiction (at_word v Turn (StunResult side true) is test))
step_next v ways TryingTurn (StunResult side false) is end test = absurd (contradiction (at_word v Turn (StunResult side false) is test))
step_next v ways TryingTurn Connected is end test = absurd (contradiction (at_word v Turn Connected is test))
step_next v ways TryingTurn ServerGone is end test = absurd (contradiction (at_word v Turn ServerGone is test))
step_next v ways (AwaitingStun server client) (Failed n) is end test = absurd (contradiction (at_word v AskStun (Failed n) is test))
step_next v ways (AwaitingStun server client) (StunResult side true) is end test =
    absurd (contradiction (at_word v AskStun (StunResult side true) is test))
step_next v ways (AwaitingStun server client) (StunResult side false) is end test = when (ltb side 2) (from_turn ways)
    (stays (AwaitingStun server client)) (next_way ways AskStun) (at_word v AskStun (StunResult side false) is test) (turn_next ways.turn)
    ∙ ap (λ (u : Told). next_way ways u) (sym is)
step_next v ways (AwaitingStun server client) Connected is end test = absurd (contradiction (at_word v AskStun Connected is test))
step_next v ways (AwaitingStun server client) ServerGone is end test = absurd (contradiction (at_word v AskStun ServerGone is test))

pub next_at_once : (ways : Ways) (before : List Heard) (h : Heard) → (Contains before Connected → ⊥)
    → fails (last_word ways before) h ≡ true → told_in ways (before ++ h ∷ []) ≡ told_in ways before
    ++ next_way ways (last_word ways before) ∷ []
next_at_once ways before h live test =
    told_append ways before (h ∷ [])
    ∙ ap (λ (t : Told). told_in ways before ++ t ∷ []) (step_next (last_word ways before) ways (stage_in ways before) h
    (word_agrees ways before) (word_ends ways before live) test)

-- where the server has gone, while the attempt is open
step_gone : (v : Told) (ways : Ways) (stage : Stage) → Agrees stage v → Ended stage v → (v ≡ AllFailed → ⊥)
    → (stepped ways stage ServerGone).told ≡ AllFailed
step_gone v ways Fresh is end still = absurd is
step_gone v ways Over is end still = absurd (still end)
step_gone v ways TryingDirect is end still = refl
step_gone v ways TryingStun is end still = refl
step_gone v ways TryingTurn is end still = refl
step_gone v ways (AwaitingStun server client) is end still = refl

pub gone_at_once : (ways : Ways) (before : List Heard) → (Contains before Connected → ⊥) → (last_word ways before ≡ AllFailed → ⊥)
    → told_in ways (before ++ ServerGone ∷ []) ≡ told_in ways before ++ AllFailed ∷ []
gone_at_once ways before live still =
    told_append ways before (ServerGone ∷ [])
    ∙ ap (λ (t : Told). told_in ways before ++ t ∷ []) (step_gone (last_word ways before) ways (stage_in ways before)
    (word_agrees ways before) (word_ends ways before live) still)
