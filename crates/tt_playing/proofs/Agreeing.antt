-- A client that has its map has a frame and a world: how it stands and what it runs agree, over all its calls.
use Rattle.std.proofs.Common.{◌≡◌, ℕ, zero, suc, Bool, true, false, cond, List, [], ◌∷◌, ◌++◌, Option, Some, None, refl, sym, ap}
use Rattle.std.proofs.Common.{◌∙◌, subst}
use Rattle.std.specs.Prelude.{◌==◌, ◌&&◌, not, nat_lt}
use Rattle.tt_lockstep.specs.Runner.{Kept, Runner, RunnerJoining, RunnerRunning, RunnerEndedJoining, RunnerEnded, RunnerWrongJoining}
use Rattle.tt_lockstep.specs.Runner.{RunnerWrong, RunnerDesync, kept_on, next_world, runner_checked, runner_frame, runner_advanced}
use Rattle.tt_lockstep.specs.Shown.{SyncPoint}
use Rattle.tt_game.specs.declared.message.GameMsg.{GameMsg}
use Rattle.tt_game.specs.declared.message.GameMsg.TheVariants.{ServerFull, ServerBanned, ServerError}
use Rattle.tt_world.specs.declared.command.Entry.{Entry}
use Rattle.tt_world.specs.World.{WorldState}
use Rattle.tt_log.specs.Shown.{Phase, Joining, Loaded, EndedWith, ShutDown, WrongAt, Item, item_told, end_by}
use Rattle.tt_client.specs.Known.{known}
use Rattle.tt_client.specs.declared.login.Login.{Login}
use Rattle.tt_client.specs.declared.state.State.TheVariants as state
use Rattle.tt_client.specs.Answers.{command_bytes}
use Rattle.tt_client.specs.Calls.{Call, Feed, Advance, Submit, Take, Run}
use Rattle.tt_client.specs.Cutting.{cut_at}
use Rattle.tt_client.specs.Held.{Held, frame_of, held, held_after, held_first, with_call, world_of}
use Rattle.tt_client.specs.Player.{Player, phase_by, heard_as, run_as, acks, plays, is_on, heard, heard_all, is_due, stepped}
use Rattle.tt_client.specs.Runs.{running, runner_mark}
use Rattle.tt_client.specs.Saying.{with_bytes}
use Rattle.tt_client.specs.State.{state_by, state_of}

abbrev R : Type 0
R = Runner WorldState Entry

abbrev P : Type 0
P = Player R

-- who joins has no world, and who has loaded its map runs, or is out of step
abbrev Agrees : Phase → R → Type 0
Agrees Joining RunnerJoining = Unit {0}
Agrees Joining other = ⊥
Agrees Loaded (RunnerRunning k) = Unit {0}
Agrees Loaded (RunnerDesync k frame mine theirs) = Unit {0}
Agrees Loaded other = ⊥
Agrees other runs = Unit {0}

-- ---- frames

checked : (k : Kept WorldState Entry) (f mine : ℕ) (ss : List SyncPoint) → Agrees Loaded (runner_checked known k f mine ss)
checked k f mine [] = tt
checked k f mine (s ∷ ss) =
    elim (s.frame == f && not (mine == s.word)) as (λ b. Agrees Loaded (cond b (RunnerDesync k f mine s.word)
    (runner_checked known k f mine ss))) [
      | true ↦ tt
      | false ↦ checked k f mine ss
    ]

one-frame : (r : R) → Agrees Loaded r → Agrees Loaded (runner_frame known r)
one-frame RunnerJoining is = is
one-frame (RunnerRunning k) is =
    elim (nat_lt k.frame k.permitted) as (λ b. Agrees Loaded (cond b (runner_checked known (kept_on known k (next_world known k))
    (suc k.frame) (next_world known k).words.0 k.syncs) (RunnerRunning k))) [
      | true ↦ checked (kept_on known k (next_world known k)) (suc k.frame) (next_world known k).words.0 k.syncs
      | false ↦ tt
    ]
one-frame RunnerEndedJoining is = is
one-frame (RunnerEnded k) is = is
one-frame RunnerWrongJoining is = is
one-frame (RunnerWrong k) is = is
one-frame (RunnerDesync k f mine theirs) is = is

frames : (n : ℕ) (r : R) → Agrees Loaded r → Agrees Loaded (runner_advanced known n r)
frames zero r is = is
frames (suc n) r is = frames n (runner_frame known r) (one-frame r is)

joins-on : (n : ℕ) → runner_advanced known n RunnerJoining ≡ RunnerJoining
joins-on zero = refl
joins-on (suc n) = joins-on n

joined-only : (r : R) → Agrees Joining r → r ≡ RunnerJoining
joined-only RunnerJoining is = refl
joined-only (RunnerRunning k) is = absurd is
joined-only RunnerEndedJoining is = absurd is
joined-only (RunnerEnded k) is = absurd is
joined-only RunnerWrongJoining is = absurd is
joined-only (RunnerWrong k) is = absurd is
joined-only (RunnerDesync k f mine theirs) is = absurd is

advanced-agrees : (n : ℕ) (phase : Phase) (r : R) → Agrees phase r → Agrees phase (runner_advanced known n r)
advanced-agrees n Joining r is = subst (Agrees Joining) (sym (ap (λ (x : R). runner_advanced known n x) (joined-only r is) ∙ joins-on n)) tt
advanced-agrees n Loaded r is = frames n r is
advanced-agrees n (EndedWith code) r is = tt
advanced-agrees n ShutDown r is = tt
advanced-agrees n (WrongAt at) r is = tt

-- ---- messages

end-agrees : (m : Option GameMsg) (r : R) → Agrees (end_by m) r
end-agrees None r = tt
end-agrees (Some ServerFull) r = tt
end-agrees (Some ServerBanned) r = tt
end-agrees (Some (ServerError code)) r = tt
end-agrees (Some other) r = tt

heard-agrees : (i : Item) (r : R) → Agrees (phase_by (runner_mark r) i) r
heard-agrees i RunnerJoining = tt
heard-agrees i (RunnerRunning k) = tt
heard-agrees i RunnerEndedJoining = end-agrees i.msg RunnerEndedJoining
heard-agrees i (RunnerEnded k) = end-agrees i.msg (RunnerEnded k)
heard-agrees i RunnerWrongJoining = tt
heard-agrees i (RunnerWrong k) = tt
heard-agrees i (RunnerDesync k f mine theirs) = tt

-- ---- the client

abbrev Fits : P → Type 0
Fits p = Agrees p.phase p.runs

by-choice : (b : Bool) (p q : P) → Fits p → Fits q → Fits (cond b p q)
by-choice true p q one other = one
by-choice false p q one other = other

one-heard : (login : Login) (i : Item) (p : P) → Fits p → Fits (heard running login i p)
one-heard login i p is =
    let r = running.hears p.runs (item_told p.place i.msg) in
    by-choice (is_on running login p) (heard_as login i (runner_mark r) r p) p (heard-agrees i r) is

all-heard : (login : Login) (items : List Item) (p : P) → Fits p → Fits (heard_all running login items p)
all-heard login [] p is = is
all-heard login (i ∷ items) p is = all-heard login items (heard running login i p) (one-heard login i p is)

acks-agree : (b : Bool) (frame : ℕ) (p : P) → Fits p → Fits (acks b frame p)
acks-agree true frame p is = is
acks-agree false frame p is = is

ran-agrees : (login : Login) (n : ℕ) (p : P) → Fits p → Fits (stepped running login p (Run n))
ran-agrees login n p is =
    let r = runner_advanced known n p.runs in
    by-choice (is_on running login p) (run_as (running.frame p.runs) (running.frame r) (running.permitted r) r p) p
    (acks-agree (nat_lt (running.frame p.runs) (running.frame r) && is_due p.acked (running.permitted r) (running.frame r))
    (running.frame r) (record p { runs = r }) (advanced-agrees n p.phase p.runs is)) is

call-agrees : (h : Held) (c : Call) → Fits h.player → Fits (with_call h c).player
call-agrees h (Feed piece) is =
    let cut = cut_at h.at (h.rest ++ piece) in
    elim (is_on running h.login h.player) as (λ b. let n : Held =
    cond b (record h { player = heard_all running h.login cut.items h.player; rest = cut.rest; at = cut.at }) h in Fits n.player) [
      | true ↦ all-heard h.login cut.items h.player is
      | false ↦ is
    ]
call-agrees h (Advance n) is = ran-agrees h.login n h.player is
call-agrees h (Submit company command) is =
    let p = h.player in
    by-choice (is_on running h.login p && plays (runner_mark p.runs)) (record p {
      saying = with_bytes (command_bytes company command) p.saying;
    }) p is is
call-agrees h (Take room) is = is

after-agrees : (h : Held) (calls : List Call) → Fits h.player → Fits (held_after h calls).player
after-agrees h [] is = is
after-agrees h (c ∷ calls) is = after-agrees (with_call h c) calls (call-agrees h c is)

-- ---- one that runs

-- it has run a frame, and has a world
abbrev pub HasWorld : P → Type 0
HasWorld p = (frame : ℕ) × (world : WorldState) × (frame_of p ≡ Some frame) × (world_of p ≡ Some world)

runs-by : (phase : Phase) (r : R) → Agrees phase r → state_by (runner_mark r) phase ≡ state.Running → (k : Kept WorldState Entry)
    × (r ≡ RunnerRunning k)
runs-by Loaded (RunnerRunning k) is so = (k, refl)
runs-by Loaded (RunnerDesync k frame mine theirs) is so = absurd cc
runs-by Loaded RunnerJoining is so = absurd is
runs-by Loaded RunnerEndedJoining is so = absurd is
runs-by Loaded (RunnerEnded k) is so = absurd is
runs-by Loaded RunnerWrongJoining is so = absurd is
runs-by Loaded (RunnerWrong k) is so = absurd is
runs-by Joining RunnerJoining is so = absurd cc
runs-by Joining (RunnerRunning k) is so = absurd is
runs-by Joining RunnerEndedJoining is so = absurd is
runs-by Joining (RunnerEnded k) is so = absurd is
runs-by Joining RunnerWrongJoining is so = absurd is
runs-by Joining (RunnerWrong k) is so = absurd is
runs-by Joining (RunnerDesync k frame mine theirs) is so = absurd is
runs-by (EndedWith code) RunnerJoining is so = absurd cc
runs-by (EndedWith code) (RunnerRunning k) is so = absurd cc
runs-by (EndedWith code) RunnerEndedJoining is so = absurd cc
runs-by (EndedWith code) (RunnerEnded k) is so = absurd cc
runs-by (EndedWith code) RunnerWrongJoining is so = absurd cc
runs-by (EndedWith code) (RunnerWrong k) is so = absurd cc
runs-by (EndedWith code) (RunnerDesync k frame mine theirs) is so = absurd cc
runs-by ShutDown RunnerJoining is so = absurd cc
runs-by ShutDown (RunnerRunning k) is so = absurd cc
runs-by ShutDown RunnerEndedJoining is so = absurd cc
runs-by ShutDown (RunnerEnded k) is so = absurd cc
runs-by ShutDown RunnerWrongJoining is so = absurd cc
runs-by ShutDown (RunnerWrong k) is so = absurd cc
runs-by ShutDown (RunnerDesync k frame mine theirs) is so = absurd cc
runs-by (WrongAt at) RunnerJoining is so = absurd cc
runs-by (WrongAt at) (RunnerRunning k) is so = absurd cc
runs-by (WrongAt at) RunnerEndedJoining is so = absurd cc
runs-by (WrongAt at) (RunnerEnded k) is so = absurd cc
runs-by (WrongAt at) RunnerWrongJoining is so = absurd cc
runs-by (WrongAt at) (RunnerWrong k) is so = absurd cc
runs-by (WrongAt at) (RunnerDesync k frame mine theirs) is so = absurd cc

pub has-world : (login : Login) (calls : List Call) → state_of (held login calls).player ≡ state.Running
    → HasWorld (held login calls).player
has-world login calls so =
    let p : P = (held login calls).player in
    let runs = runs-by p.phase p.runs (after-agrees (held_first login) calls tt) so in
    subst (λ (r : R). HasWorld (record p { runs = r })) (sym runs.1) (runs.0.frame, runs.0.world, refl, refl)
