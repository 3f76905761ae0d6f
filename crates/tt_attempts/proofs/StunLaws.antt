-- The addresses are told once both sides have said ok.
use Rattle.std.proofs.Common.{
  ◌≡◌,
  ℕ,
  Bool,
  true,
  false,
  cond,
  eqb,
  ltb,
  List,
  [],
  ◌∷◌,
  ◌++◌,
  refl,
  sym,
  ap,
  subst,
  ◌∙◌,
  append_assoc,
  ◌⊎◌,
  inl,
  inr,
  arith,
}
use Rattle.std.specs.List.{Contains}
use Rattle.std.proofs.lemmas.Bool.{eqb-true}
use Rattle.std.proofs.lemmas.List.{append-nil}
use Rattle.std.proofs.lemmas.List.Elements.{Contains-append_left, Contains-append_right}
use Rattle.tt_attempts.specs.declared.attempt.Ways.{Ways}
use Rattle.tt_attempts.specs.declared.attempt.Stage.{Stage}
use Rattle.tt_attempts.specs.declared.attempt.Stage.TheVariants.{Fresh, TryingDirect, AwaitingStun, TryingStun, TryingTurn, Over}
use Rattle.tt_attempts.specs.declared.attempt.Heard.{Heard}
use Rattle.tt_attempts.specs.declared.attempt.Heard.TheVariants.{Failed, StunResult, Connected, ServerGone}
use Rattle.tt_attempts.specs.declared.attempt.Told.TheVariants.{Nothing, Direct, AskStun, Stun, Turn, AllFailed}
use Rattle.tt_attempts.specs.Attempts.{Step, tells, stays, from_turn, from_stun, from_direct, agreed, stepped}
use Rattle.tt_attempts.specs.Runs.{told_in, last_word, BothOk}
use Rattle.tt_attempts.proofs.RunLaws.{stage_in, stage_append, Agrees, word_agrees}
use Rattle.tt_attempts.proofs.AdvanceLaws.{answer_is}

contradiction : false ≡ true → ⊥
contradiction e = absurd cc

-- Both sides are told where to connect: at a side's ok, where the other one's was taken.
pub record IsAgreement (stage : Stage) (h : Heard) : Type 0 where
  pub server : Bool
  pub client : Bool
  pub awaiting : stage ≡ AwaitingStun server client
  pub server_ok : (server ≡ true) ⊎ (h ≡ StunResult 0 true)
  pub client_ok : (client ≡ true) ⊎ (h ≡ StunResult 1 true)

silent : Nothing ≡ Stun → ⊥
silent e = absurd cc

turn_silent : (t : Bool) → (cond t (tells Turn TryingTurn) (tells AllFailed Over)).told ≡ Stun → ⊥
turn_silent true e = absurd cc
turn_silent false e = absurd cc

stun_silent : (ways : Ways) (b : Bool) → (cond b (tells AskStun (AwaitingStun false false)) (from_turn ways)).told ≡ Stun → ⊥
stun_silent ways true e = absurd cc
stun_silent ways false e = turn_silent ways.turn e

none_of : (b : Bool) (one other : Step) → (one.told ≡ Stun → ⊥) → (other.told ≡ Stun → ⊥) → (cond b one other).told ≡ Stun → ⊥
none_of true one other y n e = y e
none_of false one other y n e = n e

both_said : (server client : Bool) → (agreed server client).told ≡ Stun → (server ≡ true) × (client ≡ true)
both_said true true e = (refl, refl)
both_said true false e = absurd (silent e)
both_said false client e = absurd (silent e)

answer_agrees : (server client : Bool) (side : ℕ) (a b : Bool) → eqb side 0 ≡ a → eqb side 1 ≡ b
    → (cond a (agreed true client) (cond b (agreed server true) (stays (AwaitingStun server client)))).told ≡ Stun
    → IsAgreement (AwaitingStun server client) (StunResult side true)
answer_agrees server client side true b ea eb e = record {
  server = server;
  client = client;
  awaiting = refl;
  server_ok = inr (ap (λ (n : ℕ). StunResult n true) (eqb-true side 0 ea));
  client_ok = inl (both_said true client e).1;
}
answer_agrees server client side false true ea eb e = record {
  server = server;
  client = client;
  awaiting = refl;
  server_ok = inl (both_said server true e).0;
  client_ok = inr (ap (λ (n : ℕ). StunResult n true) (eqb-true side 1 eb));
}
answer_agrees server client side false false ea eb e = absurd (silent e)

step_agreement : (ways : Ways) (stage : Stage) (h : Heard) → (stepped ways stage h).told ≡ Stun → IsAgreement stage h
step_agreement ways Fresh (Failed n) e = absurd (silent e)
step_agreement ways TryingDirect (Failed n) e =
    absurd (none_of (eqb n 1) (from_stun ways) (stays TryingDirect) (stun_silent ways ways.stun) silent e)
step_agreement ways TryingStun (Failed n) e =
    absurd (none_of (eqb n 2) (from_turn ways) (stays TryingStun) (turn_silent ways.turn) silent e)
step_agreement ways TryingTurn (Failed n) e =
    absurd (none_of (eqb n 3) (tells AllFailed Over) (stays TryingTurn) (turn_silent false) silent e)
step_agreement ways (AwaitingStun server client) (Failed n) e = absurd (silent e)
step_agreement ways Over (Failed n) e = absurd (silent e)
step_agreement ways Fresh (StunResult side ok) e = absurd (silent e)
step_agreement ways TryingDirect (StunResult side ok) e = absurd (silent e)
step_agreement ways TryingStun (StunResult side ok) e = absurd (silent e)
step_agreement ways TryingTurn (StunResult side ok) e = absurd (silent e)
step_agreement ways Over (StunResult side ok) e = absurd (silent e)
step_agreement ways (AwaitingStun server client) (StunResult side true) e =
    answer_agrees server client side (eqb side 0) (eqb side 1) refl refl e
step_agreement ways (AwaitingStun server client) (StunResult side false) e =
    absurd (none_of (ltb side 2) (from_turn ways) (stays (AwaitingStun server client)) (turn_silent ways.turn) silent e)
step_agreement ways stage Connected e = absurd (silent e)
step_agreement ways Over ServerGone e = absurd (silent e)
step_agreement ways Fresh ServerGone e = absurd (turn_silent false e)
step_agreement ways TryingDirect ServerGone e = absurd (turn_silent false e)
step_agreement ways TryingStun ServerGone e = absurd (turn_silent false e)
step_agreement ways TryingTurn ServerGone e = absurd (turn_silent false e)
step_agreement ways (AwaitingStun server client) ServerGone e = absurd (turn_silent false e)

-- the sides of which an ok was taken have said it behind the question
record Said (ways : Ways) (heard : List Heard) (server client : Bool) : Type 0 where
  early : List Heard
  late : List Heard
  parts : heard ≡ early ++ late
  asked : last_word ways early ≡ AskStun
  server_ok : server ≡ true → Contains late (StunResult 0 true)
  client_ok : client ≡ true → Contains late (StunResult 1 true)

abbrev Holds : Ways → List Heard → Stage → Type 0
Holds ways heard (AwaitingStun server client) = Said ways heard server client
Holds ways heard Fresh = Unit {0}
Holds ways heard TryingDirect = Unit {0}
Holds ways heard TryingStun = Unit {0}
Holds ways heard TryingTurn = Unit {0}
Holds ways heard Over = Unit {0}

-- right behind the question
just_asked : (ways : Ways) (heard : List Heard) → last_word ways heard ≡ AskStun → Said ways heard false false
just_asked ways heard asked = record {
  early = heard;
  late = [];
  parts = sym (append-nil heard);
  asked = asked;
  server_ok = λ e. absurd (contradiction e);
  client_ok = λ e. absurd (contradiction e);
}

-- it was said before, or now
now_or_before : (late : List Heard) (h said : Heard) (P : Type 0) → (P → Contains late said) → P ⊎ (h ≡ said)
    → Contains (late ++ h ∷ []) said
now_or_before late h said P before which = elim which [
  | inl p ↦ Contains-append_left late (h ∷ []) said (before p)
  | inr e ↦ Contains-append_right late (h ∷ []) said (0, omega arith, e)
]

-- one event more
said_more : (ways : Ways) (heard : List Heard) (server client s c : Bool) (h : Heard) → Said ways heard server client
    → (s ≡ true → (server ≡ true) ⊎ (h ≡ StunResult 0 true)) → (c ≡ true → (client ≡ true) ⊎ (h ≡ StunResult 1 true))
    → Said ways (heard ++ h ∷ []) s c
said_more ways heard server client s c h is more also = record {
  early = is.early;
  late = is.late ++ h ∷ [];
  parts = ap (λ (xs : List Heard). xs ++ h ∷ []) is.parts ∙ append_assoc is.early is.late (h ∷ []);
  asked = is.asked;
  server_ok = λ e. now_or_before is.late h (StunResult 0 true) (server ≡ true) is.server_ok (more e);
  client_ok = λ e. now_or_before is.late h (StunResult 1 true) (client ≡ true) is.client_ok (also e);
}

-- a step on, where the last word behind it is known
abbrev StepHolds : Ways → List Heard → Step → Type 0
StepHolds ways heard r = Agrees r.stage (last_word ways heard) → Holds ways heard r.stage

either : (ways : Ways) (heard : List Heard) (b : Bool) (one other : Step) → StepHolds ways heard one → StepHolds ways heard other
    → StepHolds ways heard (cond b one other)
either ways heard true one other y n = y
either ways heard false one other y n = n

turn_holds : (ways : Ways) (heard : List Heard) (t : Bool) → StepHolds ways heard (cond t (tells Turn TryingTurn) (tells AllFailed Over))
turn_holds ways heard true is = tt
turn_holds ways heard false is = tt

stun_holds : (ways : Ways) (heard : List Heard) (b : Bool) → StepHolds ways heard (cond b (tells AskStun (AwaitingStun false false))
    (from_turn ways))
stun_holds ways heard true is = just_asked ways heard is
stun_holds ways heard false is = turn_holds ways heard ways.turn is

direct_holds : (ways : Ways) (heard : List Heard) (d : Bool) → StepHolds ways heard (cond d (tells Direct TryingDirect) (from_stun ways))
direct_holds ways heard true is = tt
direct_holds ways heard false is = stun_holds ways heard ways.stun is

agreed_holds : (ways : Ways) (heard : List Heard) (server client : Bool) → Said ways heard server client
    → StepHolds ways heard (agreed server client)
agreed_holds ways heard true true said is = tt
agreed_holds ways heard true false said is = said
agreed_holds ways heard false client said is = said

answer_holds : (ways : Ways) (heard : List Heard) (server client : Bool) (side : ℕ) (a b : Bool) → eqb side 0 ≡ a → eqb side 1 ≡ b
    → Said ways heard server client
    → StepHolds ways (heard ++ StunResult side true ∷ []) (cond a (agreed true client) (cond b (agreed server true)
    (stays (AwaitingStun server client))))
answer_holds ways heard server client side true b ea eb said is =
    let h = StunResult side true in
    agreed_holds ways (heard ++ h ∷ []) true client (said_more ways heard server client true client h said
    (λ e. inr (ap (λ (n : ℕ). StunResult n true) (eqb-true side 0 ea))) (λ e. inl e)) is
answer_holds ways heard server client side false true ea eb said is =
    let h = StunResult side true in
    agreed_holds ways (heard ++ h ∷ []) server true (said_more ways heard server client server true h said (λ e. inl e)
    (λ e. inr (ap (λ (n : ℕ). StunResult n true) (eqb-true side 1 eb)))) is
answer_holds ways heard server client side false false ea eb said is =
    said_more ways heard server client server client (StunResult side true) said (λ e. inl e) (λ e. inl e)

step_holds : (ways : Ways) (heard : List Heard) (stage : Stage) (h : Heard) → Holds ways heard stage → StepHolds ways (heard
    ++ h ∷ []) (stepped ways stage h)
step_holds ways heard Fresh (Failed n) said is = tt
step_holds ways heard TryingDirect (Failed n) said is = either ways (heard ++ Failed n ∷ []) (eqb n 1) (from_stun ways)
    (stays TryingDirect) (stun_holds ways (heard ++ Failed n ∷ []) ways.stun) (λ is. tt) is
step_holds ways heard TryingStun (Failed n) said is = either ways (heard ++ Failed n ∷ []) (eqb n 2) (from_turn ways) (stays TryingStun)
    (turn_holds ways (heard ++ Failed n ∷ []) ways.turn) (λ is. tt) is
step_holds ways heard TryingTurn (Failed n) said is =
    either ways (heard ++ Failed n ∷ []) (eqb n 3) (tells AllFailed Over) (stays TryingTurn) (λ is. tt) (λ is. tt) is
step_holds ways heard (AwaitingStun server client) (Failed n) said is =
    said_more ways heard server client server client (Failed n) said (λ e. inl e) (λ e. inl e)
step_holds ways heard Over (Failed n) said is = tt
step_holds ways heard Fresh (StunResult side ok) said is = tt
step_holds ways heard TryingDirect (StunResult side ok) said is = tt
step_holds ways heard TryingStun (StunResult side ok) said is = tt
step_holds ways heard TryingTurn (StunResult side ok) said is = tt
step_holds ways heard Over (StunResult side ok) said is = tt
step_holds ways heard (AwaitingStun server client) (StunResult side true) said is =
    answer_holds ways heard server client side (eqb side 0) (eqb side 1) refl refl said is
step_holds ways heard (AwaitingStun server client) (StunResult side false) said is =
    let h = StunResult side false in
    either ways (heard ++ h ∷ []) (ltb side 2) (from_turn ways) (stays (AwaitingStun server client)) (turn_holds ways (heard
    ++ h ∷ []) ways.turn) (λ is. said_more ways heard server client server client h said (λ e. inl e) (λ e. inl e)) is
step_holds ways heard stage Connected said is = tt
step_holds ways heard Over ServerGone said is = tt
step_holds ways heard Fresh ServerGone said is = tt
step_holds ways heard TryingDirect ServerGone said is = tt
step_holds ways heard TryingStun ServerGone said is = tt
step_holds ways heard TryingTurn ServerGone said is = tt
step_holds ways heard (AwaitingStun server client) ServerGone said is = tt

-- from what was heard on to what is heard behind it
goes_on : (ways : Ways) (heard hs : List Heard) → Holds ways heard (stage_in ways heard) → Holds ways (heard ++ hs) (stage_in ways (heard
    ++ hs))
goes_on ways heard [] is = subst (λ (xs : List Heard). Holds ways xs (stage_in ways xs)) (sym (append-nil heard)) is
goes_on ways heard (h ∷ hs) is =
    let more = heard ++ h ∷ [] in
    let there : stage_in ways more ≡ (stepped ways (stage_in ways heard) h).stage =
    stage_append ways (from_direct ways).stage heard (h ∷ []) in
    let word = subst (λ (s : Stage). Agrees s (last_word ways more)) there (word_agrees ways more) in
    let here = subst (λ (s : Stage). Holds ways more s) (sym there) (step_holds ways heard (stage_in ways heard) h is word) in
    subst (λ (xs : List Heard). Holds ways xs (stage_in ways xs)) (append_assoc heard (h ∷ []) hs) (goes_on ways more hs here)

holds : (ways : Ways) (heard : List Heard) → Holds ways heard (stage_in ways heard)
holds ways heard = goes_on ways [] heard (direct_holds ways [] ways.direct (word_agrees ways []))

pub both_ok : (ways : Ways) (before : List Heard) (h : Heard) → told_in ways (before ++ h ∷ []) ≡ told_in ways before ++ Stun ∷ []
    → (last_word ways before ≡ AskStun) × BothOk ways (before ++ h ∷ [])
both_ok ways before h is =
    let agreement = step_agreement ways (stage_in ways before) h (answer_is ways before h Stun is) in
    let said : Said ways before agreement.server agreement.client =
    subst (λ (s : Stage). Holds ways before s) agreement.awaiting (holds ways before) in (
      subst (λ (s : Stage). Agrees s (last_word ways before)) agreement.awaiting (word_agrees ways before),
      record {
        early = said.early;
        late = said.late ++ h ∷ [];
        parts = ap (λ (xs : List Heard). xs ++ h ∷ []) said.parts ∙ append_assoc said.early said.late (h ∷ []);
        asked = said.asked;
        server = now_or_before said.late h (StunResult 0 true) (agreement.server ≡ true) said.server_ok agreement.server_ok;
        client = now_or_before said.late h (StunResult 1 true) (agreement.client ≡ true) said.client_ok agreement.client_ok;
      },
    )
