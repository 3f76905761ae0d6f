-- What holds of every client, over its calls.
use Rattle.std.proofs.Common.{◌≡◌, ℕ, zero, suc, Bool, true, false, cond, List, [], ◌∷◌, ◌++◌, drop, Option, Some, None, refl, sym, ap}
use Rattle.std.proofs.Common.{◌∙◌, subst}
use Rattle.std.specs.Prelude.{◌==◌, ◌&&◌, not, nat_lt, Result, Ok, Err, OnOk, OnErr}
use Rattle.tt_lockstep.specs.Runner.{Kept, Runner, RunnerJoining, RunnerRunning, RunnerEndedJoining, RunnerEnded, RunnerWrongJoining}
use Rattle.tt_lockstep.specs.Runner.{RunnerWrong, RunnerDesync, kept_on, next_world, runner_checked, runner_frame, runner_advanced}
use Rattle.tt_lockstep.specs.Shown.{SyncPoint}
use Rattle.tt_game.specs.declared.message.GameMsg.{GameMsg}
use Rattle.tt_game.specs.declared.message.GameMsg.TheVariants.{ServerFull, ServerBanned, ServerError}
use Rattle.tt_world.specs.declared.command.Command.{Command}
use Rattle.tt_world.specs.declared.command.Entry.{Entry}
use Rattle.tt_world.specs.World.{WorldState}
use Rattle.tt_log.specs.Shown.{Phase, Joining, Loaded, EndedWith, ShutDown, WrongAt, Item, item_told, goes_on, end_by}
use Rattle.tt_client.specs.Known.{known}
use Rattle.tt_client.specs.declared.login.Login.{Login}
use Rattle.tt_client.specs.declared.waiting.Ack.{Ack}
use Rattle.tt_client.specs.Answers.{answer, command_bytes}
use Rattle.tt_client.specs.Calls.{Call, Feed, Advance, Submit, Take, Run, Say}
use Rattle.tt_client.specs.Cutting.{cut_at}
use Rattle.tt_client.specs.Held.{Held, held_first, with_call}
use Rattle.tt_client.specs.Player.{Player, phase_by, is_off, said_behind, token_in, heard_as, run_as, acks, plays, is_on, heard, heard_all}
use Rattle.tt_client.specs.Player.{is_due, stepped}
use Rattle.tt_client.specs.Runs.{running, runner_mark}
use Rattle.tt_client.specs.Saying.{Saying, IsSaying, with_bytes, with_ack, with_token, made_before, less_one}
use Rattle.tt_client.specs.Saying.{taken, bytes_of}
use Rattle.tt_client.proofs.Less.{less_one_is}
use Rattle.tt_session.specs.Running.{Agrees, IsSound}

-- ---- what waits to be said

bytes_by : (bytes begun before : List ℕ) (ack : Option Ack) (behind : List ℕ) (owed : ℕ) → (ack ≡ None → behind ≡ [])
    → (let s : Saying = record { begun = begun; before = before; ack = ack; behind = behind; owed = owed } in IsSaying (with_bytes bytes s))
bytes_by bytes begun before None behind owed is = is
bytes_by bytes begun before (Some a) behind owed is = λ none. absurd cc

bytes_say : (bytes : List ℕ) (s : Saying) → IsSaying s → IsSaying (with_bytes bytes s)
bytes_say bytes s is = bytes_by bytes s.begun s.before s.ack s.behind s.owed is

made_none : (ack : Option Ack) → made_before ack ≡ None → ack ≡ None
made_none None is = refl
made_none (Some a) is = absurd cc

token_by : (t : ℕ) (b : Bool) (s : Saying) → IsSaying s → IsSaying (cond b s (record s { owed = t; ack = made_before s.ack }))
token_by t true s is = is
token_by t false s is = λ none. is (made_none s.ack none)

token_say : (t : ℕ) (s : Saying) → IsSaying s → IsSaying (with_token t s)
token_say t s is = token_by t (t == 0) s is

ack_say : (frame : ℕ) (s : Saying) → IsSaying (with_ack frame s)
ack_say frame s = λ none. absurd cc

less_by : (begun before : List ℕ) (ack : Option Ack) (behind : List ℕ) (owed : ℕ) → (ack ≡ None → behind ≡ [])
    → (let s : Saying = record { begun = begun; before = before; ack = ack; behind = behind; owed = owed } in IsSaying (less_one s))
less_by (b ∷ begun) before ack behind owed is = is
less_by [] (b ∷ before) ack behind owed is = is
less_by [] [] None behind owed is = is
less_by [] [] (Some a) behind owed is = λ none. refl

less_say : (s : Saying) → IsSaying s → IsSaying (less_one s)
less_say s is = less_by s.begun s.before s.ack s.behind s.owed is

taken_say : (n : ℕ) (s : Saying) → IsSaying s → IsSaying (taken n s)
taken_say zero s is = is
taken_say (suc n) s is = taken_say n (less_one s) (less_say s is)

drop_suc : (n : ℕ) (xs : List ℕ) → drop n (drop 1 xs) ≡ drop (suc n) xs
drop_suc zero [] = refl
drop_suc (suc n) [] = refl
drop_suc n (x ∷ xs) = refl

-- what is left to be said behind so many bytes
pub left_to_say : (n : ℕ) (s : Saying) → IsSaying s → bytes_of (taken n s) ≡ drop n (bytes_of s)
left_to_say zero s is = refl
left_to_say (suc n) s is = left_to_say n (less_one s) (less_say s is) ∙ ap (λ (xs : List ℕ). drop n xs) (less_one_is s is)
    ∙ drop_suc n (bytes_of s)

-- ---- what runs

abbrev R : Type 0
R = Runner WorldState Entry

-- it runs, or is out of step
abbrev Playing : R → Type 0
Playing (RunnerRunning k) = Unit {0}
Playing (RunnerDesync k f mine theirs) = Unit {0}
Playing other = ⊥

checked_plays : (k : Kept WorldState Entry) (f mine : ℕ) (ss : List SyncPoint) → Playing (runner_checked known k f mine ss)
checked_plays k f mine [] = tt
checked_plays k f mine (s ∷ ss) = elim (s.frame == f && not (mine == s.word)) as (λ b. Playing (cond b (RunnerDesync k f mine s.word)
    (runner_checked known k f mine ss))) [
      | true ↦ tt
      | false ↦ checked_plays k f mine ss
    ]

frame_plays : (r : R) → Playing r → Playing (runner_frame known r)
frame_plays RunnerJoining is = is
frame_plays (RunnerRunning k) is =
    elim (nat_lt k.frame k.permitted) as (λ b. Playing (cond b (runner_checked known (kept_on known k (next_world known k)) (suc k.frame)
    (next_world known k).words.0 k.syncs) (RunnerRunning k))) [
      | true ↦ checked_plays (kept_on known k (next_world known k)) (suc k.frame) (next_world known k).words.0 k.syncs
      | false ↦ tt
    ]
frame_plays RunnerEndedJoining is = is
frame_plays (RunnerEnded k) is = is
frame_plays RunnerWrongJoining is = is
frame_plays (RunnerWrong k) is = is
frame_plays (RunnerDesync k f mine theirs) is = is

advanced_plays : (n : ℕ) (r : R) → Playing r → Playing (runner_advanced known n r)
advanced_plays zero r is = is
advanced_plays (suc n) r is = advanced_plays n (runner_frame known r) (frame_plays r is)

joins_on : (n : ℕ) → runner_advanced known n RunnerJoining ≡ RunnerJoining
joins_on zero = refl
joins_on (suc n) = joins_on n

plays_then : (r : R) → Playing r → Agrees Loaded r
plays_then RunnerJoining is = is
plays_then (RunnerRunning k) is = tt
plays_then RunnerEndedJoining is = is
plays_then (RunnerEnded k) is = is
plays_then RunnerWrongJoining is = is
plays_then (RunnerWrong k) is = is
plays_then (RunnerDesync k f mine theirs) is = tt

then_plays : (r : R) → Agrees Loaded r → Playing r
then_plays RunnerJoining is = is
then_plays (RunnerRunning k) is = tt
then_plays RunnerEndedJoining is = is
then_plays (RunnerEnded k) is = is
then_plays RunnerWrongJoining is = is
then_plays (RunnerWrong k) is = is
then_plays (RunnerDesync k f mine theirs) is = tt

joined_only : (r : R) → Agrees Joining r → r ≡ RunnerJoining
joined_only RunnerJoining is = refl
joined_only (RunnerRunning k) is = absurd is
joined_only RunnerEndedJoining is = absurd is
joined_only (RunnerEnded k) is = absurd is
joined_only RunnerWrongJoining is = absurd is
joined_only (RunnerWrong k) is = absurd is
joined_only (RunnerDesync k f mine theirs) is = absurd is

advanced_agrees : (n : ℕ) (phase : Phase) (r : R) → Agrees phase r → Agrees phase (runner_advanced known n r)
advanced_agrees n Joining r is = subst (Agrees Joining) (sym (ap (λ (x : R). runner_advanced known n x) (joined_only r is) ∙ joins_on n)) tt
advanced_agrees n Loaded r is = plays_then (runner_advanced known n r) (advanced_plays n r (then_plays r is))
advanced_agrees n (EndedWith code) r is = tt
advanced_agrees n ShutDown r is = tt
advanced_agrees n (WrongAt at) r is = tt

end_agrees : (m : Option GameMsg) (r : R) → Agrees (end_by m) r
end_agrees None r = tt
end_agrees (Some ServerFull) r = tt
end_agrees (Some ServerBanned) r = tt
end_agrees (Some (ServerError code)) r = tt
end_agrees (Some other) r = tt

heard_agrees : (i : Item) (r : R) → Agrees (phase_by (runner_mark r) i) r
heard_agrees i RunnerJoining = tt
heard_agrees i (RunnerRunning k) = tt
heard_agrees i RunnerEndedJoining = end_agrees i.msg RunnerEndedJoining
heard_agrees i (RunnerEnded k) = end_agrees i.msg (RunnerEnded k)
heard_agrees i RunnerWrongJoining = tt
heard_agrees i (RunnerWrong k) = tt
heard_agrees i (RunnerDesync k f mine theirs) = tt

-- ---- the client

abbrev P : Type 0
P = Player R

heard_says : (b : Bool) (s t : Saying) → IsSaying s → IsSaying t → IsSaying (cond b s t)
heard_says true s t is other = is
heard_says false s t is other = other

heard_sound : (login : Login) (i : Item) (p : P) → IsSound p → IsSound (heard running login i p)
heard_sound login i p is =
    let r = running.hears p.runs (item_told p.place i.msg) in
    elim (is_on running login p) as (λ b. IsSound (cond b (heard_as login i (runner_mark r) r p) p)) [
      | true ↦ (
        heard_says (goes_on (phase_by (runner_mark r) i) && not (is_off (runner_mark r)))
            (said_behind login p.place i.msg p.saying) p.saying
            (token_say (token_in i.msg) (with_bytes (answer login p.place i.msg) p.saying)
            (bytes_say (answer login p.place i.msg) p.saying is.0)) is.0,
        heard_agrees i r,
      )
      | false ↦ is
    ]

all_sound : (login : Login) (items : List Item) (p : P) → IsSound p → IsSound (heard_all running login items p)
all_sound login [] p is = is
all_sound login (i ∷ items) p is = all_sound login items (heard running login i p) (heard_sound login i p is)

acks_sound : (b : Bool) (frame : ℕ) (p : P) → IsSound p → IsSound (acks b frame p)
acks_sound true frame p is = (ack_say frame p.saying, is.1)
acks_sound false frame p is = is

ran_sound : (login : Login) (n : ℕ) (p : P) → IsSound p → IsSound (stepped running login p (Run n))
ran_sound login n p is =
    let r = runner_advanced known n p.runs in
    elim (is_on running login p) as (λ b. IsSound (cond b (run_as (running.frame p.runs) (running.frame r) (running.permitted r) r p) p)) [
      | true ↦ acks_sound (nat_lt (running.frame p.runs) (running.frame r) && is_due p.acked (running.permitted r) (running.frame r))
          (running.frame r) (record p { runs = r }) (is.0, advanced_agrees n p.phase p.runs is.1)
      | false ↦ is
    ]

say_sound : (login : Login) (company : ℕ) (command : Command) (p : P) → IsSound p → IsSound (stepped running login p (Say company command))
say_sound login company command p is =
    elim (is_on running login p && plays (runner_mark p.runs)) as (λ b. IsSound (cond b (record p {
      saying = with_bytes (command_bytes company
          command) p.saying;
    }) p)) [
      | true ↦ (bytes_say (command_bytes company command) p.saying is.0, is.1)
      | false ↦ is
    ]

pub call_sound : (h : Held) (c : Call) → IsSound h.player → IsSound (with_call h c).player
call_sound h (Feed piece) is =
    let cut = cut_at h.at (h.rest ++ piece) in
    elim (is_on running h.login h.player) as (λ b. let n : Held =
    cond b (record h { player = heard_all running h.login cut.items h.player; rest = cut.rest; at = cut.at }) h in IsSound n.player) [
      | true ↦ all_sound h.login cut.items h.player is
      | false ↦ is
    ]
call_sound h (Advance n) is = ran_sound h.login n h.player is
call_sound h (Submit company command) is = say_sound h.login company command h.player is
call_sound h (Take room) is = (taken_say room h.player.saying is.0, is.1)

pub first_sound : (login : Login) → IsSound (held_first login).player
first_sound login = ((λ none. refl), tt)

-- a call that may be refused
pub either_sound : {A B : Type 0} (r : Result A B) (old new : Held) (c : Call) → OnOk r (new ≡ with_call old c) → OnErr r (new ≡ old)
    → IsSound old.player → IsSound new.player
either_sound (Ok a) old new c done same is = subst (λ (h : Held). IsSound h.player) (sym done) (call_sound old c is)
either_sound (Err b) old new c done same is = subst (λ (h : Held). IsSound h.player) (sym same) is
