-- Events that change nothing.
use Rattle.std.proofs.Common.{◌≡◌, ℕ, Bool, true, false, cond, eqb, ltb, List, [], ◌∷◌, ◌++◌, refl, sym, ap, subst, ◌∙◌}
use Rattle.std.specs.Prelude.{not, ◌&&◌}
use Rattle.std.proofs.lemmas.Bool.{eqb-true}
use Rattle.std.proofs.lemmas.List.{append_cancel_left}
use Rattle.tt_attempts.specs.declared.attempt.Ways.{Ways}
use Rattle.tt_attempts.specs.declared.attempt.Stage.{Stage}
use Rattle.tt_attempts.specs.declared.attempt.Stage.TheVariants.{Fresh, TryingDirect, AwaitingStun, TryingStun, TryingTurn, Over}
use Rattle.tt_attempts.specs.declared.attempt.Heard.{Heard}
use Rattle.tt_attempts.specs.declared.attempt.Heard.TheVariants.{Failed, StunResult, Connected, ServerGone}
use Rattle.tt_attempts.specs.declared.attempt.Told.{Told}
use Rattle.tt_attempts.specs.declared.attempt.Told.TheVariants.{Nothing, Direct, AskStun, Stun, Turn, AllFailed}
use Rattle.tt_attempts.specs.Attempts.{Step, tells, stays, from_turn, from_stun, from_direct, agreed, stepped}
use Rattle.tt_attempts.specs.Runs.{answers, told_in, last_word, is_foreign, ChangesNothing}
use Rattle.tt_attempts.proofs.RunLaws.{stage_after, stage_in, stage_append, told_append, Agrees, word_agrees}

contradiction : false ≡ true → ⊥
contradiction e = absurd cc

unless : (b : Bool) (one : Step) (stage : Stage) → not b ≡ true → cond b one (stays stage) ≡ stays stage
unless true one stage test = absurd (contradiction test)
unless false one stage test = refl

-- a side from 2 on is neither 0 nor 1
not_first : (side : ℕ) (b : Bool) → eqb side 0 ≡ b → not (ltb side 2) ≡ true → b ≡ false
not_first side true e test = absurd (contradiction (ap (λ (s : ℕ). not (ltb s 2)) (sym (eqb-true side 0 e)) ∙ test))
not_first side false e test = refl

not_second : (side : ℕ) (b : Bool) → eqb side 1 ≡ b → not (ltb side 2) ≡ true → b ≡ false
not_second side true e test = absurd (contradiction (ap (λ (s : ℕ). not (ltb s 2)) (sym (eqb-true side 1 e)) ∙ test))
not_second side false e test = refl

neither : (ways : Ways) (server client : Bool) (side : ℕ) (a b : Bool) → eqb side 0 ≡ a → eqb side 1 ≡ b → a ≡ false → b ≡ false
    → stepped ways (AwaitingStun server client) (StunResult side true) ≡ stays (AwaitingStun server client)
neither ways server client side a b ea eb fa fb = rw (ea, fa, eb, fb) refl

foreign_side : (ways : Ways) (server client : Bool) (side : ℕ) (ok : Bool) → not (ltb side 2) ≡ true
    → stepped ways (AwaitingStun server client) (StunResult side ok) ≡ stays (AwaitingStun server client)
foreign_side ways server client side true test = neither ways server client side (eqb side 0) (eqb side 1) refl refl
    (not_first side (eqb side 0) refl test) (not_second side (eqb side 1) refl test)
foreign_side ways server client side false test = unless (ltb side 2) (from_turn ways) (AwaitingStun server client) test

at_word : (v w : Told) (h : Heard) → v ≡ w → is_foreign v h ≡ true → is_foreign w h ≡ true
at_word v w h is test = ap (λ (u : Told). is_foreign u h) (sym is) ∙ test

connected_counts : (w : Told) → is_foreign w Connected ≡ true → ⊥
connected_counts Nothing e = contradiction e
connected_counts Direct e = contradiction e
connected_counts AskStun e = contradiction e
connected_counts Stun e = contradiction e
connected_counts Turn e = contradiction e
connected_counts AllFailed e = contradiction e

gone_counts : (w : Told) → is_foreign w ServerGone ≡ true → ⊥
gone_counts Nothing e = contradiction e
gone_counts Direct e = contradiction e
gone_counts AskStun e = contradiction e
gone_counts Stun e = contradiction e
gone_counts Turn e = contradiction e
gone_counts AllFailed e = contradiction e

step_foreign : (w : Told) (ways : Ways) (stage : Stage) (h : Heard) → Agrees stage w → is_foreign w h ≡ true
    → stepped ways stage h ≡ stays stage
step_foreign w ways Fresh h is test = absurd is
step_foreign w ways stage Connected is test = absurd (connected_counts w test)
step_foreign w ways stage ServerGone is test = absurd (gone_counts w test)
step_foreign w ways TryingDirect (Failed n) is test = unless (eqb n 1) (from_stun ways) TryingDirect (at_word w Direct (Failed n) is test)
step_foreign w ways TryingStun (Failed n) is test = unless (eqb n 2) (from_turn ways) TryingStun (at_word w Stun (Failed n) is test)
step_foreign w ways TryingTurn (Failed n) is test = unless (eqb n 3) (tells AllFailed Over) TryingTurn (at_word w Turn (Failed n) is test)
step_foreign w ways (AwaitingStun server client) (Failed n) is test = refl
step_foreign w ways Over (Failed n) is test = refl
step_foreign w ways TryingDirect (StunResult side ok) is test = refl
step_foreign w ways TryingStun (StunResult side ok) is test = refl
step_foreign w ways TryingTurn (StunResult side ok) is test = refl
step_foreign w ways (AwaitingStun server client) (StunResult side ok) is test =
    foreign_side ways server client side ok (at_word w AskStun (StunResult side ok) is test)
step_foreign w ways Over (StunResult side ok) is test = refl

-- an event at which nothing is told and nothing changes can be left out
left_out : (ways : Ways) (before after : List Heard) (h : Heard) → stepped ways (stage_in ways before) h ≡ stays (stage_in ways before)
    → ChangesNothing ways before h after
left_out ways before after h same later is =
    let stage = stage_in ways before in
    let rest : answers ways stage after ≡ later =
    append_cancel_left (told_in ways before) (answers ways stage after) later (sym (told_append ways before after) ∙ is) in
    told_append ways before (h ∷ after)
    ∙ ap (λ (r : Step). told_in ways before ++ r.told ∷ answers ways r.stage after) same
    ∙ ap (λ (ts : List Told). told_in ways before ++ Nothing ∷ ts) rest

pub foreign_left_out : (ways : Ways) (before after : List Heard) (h : Heard) → is_foreign (last_word ways before) h ≡ true
    → ChangesNothing ways before h after
foreign_left_out ways before after h test =
    left_out ways before after h (step_foreign (last_word ways before) ways (stage_in ways before) h (word_agrees ways before) test)

-- while results are awaited, not both sides have said ok
abbrev NotBoth : Stage → Type 0
NotBoth (AwaitingStun server client) = (server && client) ≡ false
NotBoth Fresh = Unit {0}
NotBoth TryingDirect = Unit {0}
NotBoth TryingStun = Unit {0}
NotBoth TryingTurn = Unit {0}
NotBoth Over = Unit {0}

not_both : (b : Bool) (one other : Step) → NotBoth one.stage → NotBoth other.stage → NotBoth (cond b one other).stage
not_both true one other y n = y
not_both false one other y n = n

turn_not_both : (t : Bool) → NotBoth (cond t (tells Turn TryingTurn) (tells AllFailed Over)).stage
turn_not_both true = tt
turn_not_both false = tt

stun_not_both : (ways : Ways) (b : Bool) → NotBoth (cond b (tells AskStun (AwaitingStun false false)) (from_turn ways)).stage
stun_not_both ways true = refl
stun_not_both ways false = turn_not_both ways.turn

direct_not_both : (ways : Ways) (d : Bool) → NotBoth (cond d (tells Direct TryingDirect) (from_stun ways)).stage
direct_not_both ways true = tt
direct_not_both ways false = stun_not_both ways ways.stun

agreed_not_both : (server client : Bool) → NotBoth (agreed server client).stage
agreed_not_both true true = tt
agreed_not_both true false = refl
agreed_not_both false client = refl

step_not_both : (ways : Ways) (stage : Stage) (h : Heard) → NotBoth stage → NotBoth (stepped ways stage h).stage
step_not_both ways Fresh (Failed n) is = tt
step_not_both ways TryingDirect (Failed n) is = not_both (eqb n 1) (from_stun ways) (stays TryingDirect) (stun_not_both ways ways.stun) tt
step_not_both ways TryingStun (Failed n) is = not_both (eqb n 2) (from_turn ways) (stays TryingStun) (turn_not_both ways.turn) tt
step_not_both ways TryingTurn (Failed n) is = not_both (eqb n 3) (tells AllFailed Over) (stays TryingTurn) tt tt
step_not_both ways (AwaitingStun server client) (Failed n) is = is
step_not_both ways Over (Failed n) is = tt
step_not_both ways Fresh (StunResult side ok) is = tt
step_not_both ways TryingDirect (StunResult side ok) is = tt
step_not_both ways TryingStun (StunResult side ok) is = tt
step_not_both ways TryingTurn (StunResult side ok) is = tt
step_not_both ways Over (StunResult side ok) is = tt
step_not_both ways (AwaitingStun server client) (StunResult side true) is =
    let here = stays (AwaitingStun server client) in
    not_both (eqb side 0) (agreed true client) (cond (eqb side 1) (agreed server true) here) (agreed_not_both true client)
    (not_both (eqb side 1) (agreed server true) here (agreed_not_both server true) is)
step_not_both ways (AwaitingStun server client) (StunResult side false) is =
    not_both (ltb side 2) (from_turn ways) (stays (AwaitingStun server client)) (turn_not_both ways.turn) is
step_not_both ways stage Connected is = tt
step_not_both ways Over ServerGone is = tt
step_not_both ways Fresh ServerGone is = tt
step_not_both ways TryingDirect ServerGone is = tt
step_not_both ways TryingStun ServerGone is = tt
step_not_both ways TryingTurn ServerGone is = tt
step_not_both ways (AwaitingStun server client) ServerGone is = tt

run_not_both : (ways : Ways) (stage : Stage) (hs : List Heard) → NotBoth stage → NotBoth (stage_after ways stage hs)
run_not_both ways stage [] is = is
run_not_both ways stage (h ∷ hs) is = run_not_both ways (stepped ways stage h).stage hs (step_not_both ways stage h is)

-- this side's ok was taken, or results are no longer awaited
abbrev Taken : ℕ → Stage → Type 0
Taken side (AwaitingStun server client) =
    (eqb side 0 ≡ true → server ≡ true) × (eqb side 1 ≡ true → client ≡ true) × ((server && client) ≡ false)
Taken side Fresh = ⊥
Taken side TryingDirect = ⊥
Taken side TryingStun = Unit {0}
Taken side TryingTurn = Unit {0}
Taken side Over = Unit {0}

taken_by : (side : ℕ) (b : Bool) (one other : Step) → Taken side one.stage → Taken side other.stage → Taken side (cond b one other).stage
taken_by side true one other y n = y
taken_by side false one other y n = n

turn_taken : (side : ℕ) (t : Bool) → Taken side (cond t (tells Turn TryingTurn) (tells AllFailed Over)).stage
turn_taken side true = tt
turn_taken side false = tt

server_taken : (side : ℕ) (client : Bool) → (eqb side 1 ≡ true → client ≡ true) → Taken side (agreed true client).stage
server_taken side true said = tt
server_taken side false said = ((λ e. refl), said, refl)

client_taken : (side : ℕ) (server : Bool) → (eqb side 0 ≡ true → server ≡ true) → Taken side (agreed server true).stage
client_taken side true said = tt
client_taken side false said = (said, (λ e. refl), refl)

step_taken : (side : ℕ) (ways : Ways) (stage : Stage) (h : Heard) → Taken side stage → Taken side (stepped ways stage h).stage
step_taken side ways Fresh h is = absurd is
step_taken side ways TryingDirect h is = absurd is
step_taken side ways TryingStun (Failed n) is = taken_by side (eqb n 2) (from_turn ways) (stays TryingStun) (turn_taken side ways.turn) tt
step_taken side ways TryingTurn (Failed n) is = taken_by side (eqb n 3) (tells AllFailed Over) (stays TryingTurn) tt tt
step_taken side ways (AwaitingStun server client) (Failed n) is = is
step_taken side ways Over (Failed n) is = tt
step_taken side ways TryingStun (StunResult other ok) is = tt
step_taken side ways TryingTurn (StunResult other ok) is = tt
step_taken side ways Over (StunResult other ok) is = tt
step_taken side ways (AwaitingStun server client) (StunResult other true) is =
    let here = stays (AwaitingStun server client) in
    taken_by side (eqb other 0) (agreed true client) (cond (eqb other 1) (agreed server true) here) (server_taken side client is.1)
    (taken_by side (eqb other 1) (agreed server true) here (client_taken side server is.0) is)
step_taken side ways (AwaitingStun server client) (StunResult other false) is =
    taken_by side (ltb other 2) (from_turn ways) (stays (AwaitingStun server client)) (turn_taken side ways.turn) is
step_taken side ways TryingStun Connected is = tt
step_taken side ways TryingTurn Connected is = tt
step_taken side ways (AwaitingStun server client) Connected is = tt
step_taken side ways Over Connected is = tt
step_taken side ways TryingStun ServerGone is = tt
step_taken side ways TryingTurn ServerGone is = tt
step_taken side ways (AwaitingStun server client) ServerGone is = tt
step_taken side ways Over ServerGone is = tt

run_taken : (side : ℕ) (ways : Ways) (stage : Stage) (hs : List Heard) → Taken side stage → Taken side (stage_after ways stage hs)
run_taken side ways stage [] is = is
run_taken side ways stage (h ∷ hs) is = run_taken side ways (stepped ways stage h).stage hs (step_taken side ways stage h is)

-- the ok itself is taken
ok_taken : (ways : Ways) (server client : Bool) (side : ℕ) (a b : Bool) → eqb side 0 ≡ a → eqb side 1 ≡ b → (server && client) ≡ false
    → Taken side (cond a (agreed true client) (cond b (agreed server true) (stays (AwaitingStun server client)))).stage
ok_taken ways server client side true b ea eb few =
    server_taken side client (λ e. absurd (contradiction (sym (ap (λ (s : ℕ). eqb s 1) (eqb-true side 0 ea)) ∙ e)))
ok_taken ways server client side false true ea eb few = client_taken side server (λ e. absurd (contradiction (sym ea ∙ e)))
ok_taken ways server client side false false ea eb few =
    ((λ e. absurd (contradiction (sym ea ∙ e))), (λ e. absurd (contradiction (sym eb ∙ e))), few)

asked_taken : (w : Told) (ways : Ways) (stage : Stage) (side : ℕ) → Agrees stage w → w ≡ AskStun → NotBoth stage
    → Taken side (stepped ways stage (StunResult side true)).stage
asked_taken w ways Fresh side is asked few = absurd is
asked_taken w ways TryingDirect side is asked few = absurd (let e : Direct ≡ AskStun = sym is ∙ asked in cc)
asked_taken w ways (AwaitingStun server client) side is asked few = ok_taken ways server client side (eqb side 0) (eqb side 1) refl refl few
asked_taken w ways TryingStun side is asked few = tt
asked_taken w ways TryingTurn side is asked few = tt
asked_taken w ways Over side is asked few = tt

agreed_again : (server client : Bool) → (server && client) ≡ false → agreed server client ≡ stays (AwaitingStun server client)
agreed_again true true few = absurd (contradiction (sym few))
agreed_again true false few = refl
agreed_again false client few = refl

-- said again, it changes nothing
again : (ways : Ways) (server client : Bool) (side : ℕ) (a b : Bool) → (a ≡ true → server ≡ true) → (b ≡ true → client ≡ true)
    → (server && client) ≡ false
    → cond a (agreed true client) (cond b (agreed server true) (stays (AwaitingStun server client))) ≡ stays (AwaitingStun server client)
again ways server client side true b said also few = ap (λ (s : Bool). agreed s client) (sym (said refl)) ∙ agreed_again server client few
again ways server client side false true said also few =
    ap (λ (s : Bool). agreed server s) (sym (also refl)) ∙ agreed_again server client few
again ways server client side false false said also few = refl

taken_again : (ways : Ways) (stage : Stage) (side : ℕ) → Taken side stage → stepped ways stage (StunResult side true) ≡ stays stage
taken_again ways Fresh side is = absurd is
taken_again ways TryingDirect side is = absurd is
taken_again ways (AwaitingStun server client) side is = again ways server client side (eqb side 0) (eqb side 1) is.0 is.1 is.2
taken_again ways TryingStun side is = refl
taken_again ways TryingTurn side is = refl
taken_again ways Over side is = refl

pub repeated_left_out : (ways : Ways) (early late after : List Heard) (side : ℕ) → last_word ways early ≡ AskStun
    → ChangesNothing ways (early ++ StunResult side true ∷ late) (StunResult side true) after
repeated_left_out ways early late after side asked =
    let stage = stage_in ways early in
    let said = StunResult side true in
    let few = run_not_both ways (from_direct ways).stage early (direct_not_both ways ways.direct) in
    let here = run_taken side ways (stepped ways stage said).stage late (asked_taken (last_word ways early) ways stage side
    (word_agrees ways early) asked few) in
    let there : stage_in ways (early ++ said ∷ late) ≡ stage_after ways (stepped ways stage said).stage late =
    stage_append ways (from_direct ways).stage early (said ∷ late) in
    left_out ways (early ++ said ∷ late) after said (taken_again ways (stage_in ways (early ++ said ∷ late)) side
    (subst (λ (s : Stage). Taken side s) (sym there) here))
