-- Frames that a client runs.
use Rattle.std.proofs.Common.{◌≡◌, ℕ, zero, suc, ◌+◌, ◌-◌, ◌<◌, ◌≤◌, List, Bool, true, false}
use Rattle.std.proofs.Common.{cond, Option, Some, None, refl, sym, ap, ap₂, ◌∙◌, subst, arith}
use Rattle.std.specs.Prelude.{◌&&◌, not, nat_lt, IfSome}
use Rattle.tt_lockstep.specs.Runner.{Kept, Runner, RunnerJoining, RunnerRunning, RunnerEndedJoining, RunnerEnded, RunnerWrongJoining}
use Rattle.tt_lockstep.specs.Runner.{RunnerWrong, RunnerDesync, next_world, runner_advanced}
use Rattle.tt_world.specs.declared.command.Entry.{Entry}
use Rattle.tt_world.specs.World.{WorldState}
use Rattle.tt_log.specs.Shown.{Phase, Joining, Loaded, EndedWith, ShutDown, WrongAt, goes_on}
use Rattle.tt_client.specs.Known.{known}
use Rattle.tt_client.specs.Frames.{framed_on, first_other}
use Rattle.tt_client.specs.Calls.{Advance}
use Rattle.tt_client.specs.Answers.{command_bytes}
use Rattle.tt_client.specs.Held.{Held, with_call, frame_of, permitted_of, kept_in, frame_by, permitted_by}
use Rattle.tt_client.specs.Player.{Player, Mark, Joins, Plays, Ends, Strays, Off, is_on, is_off, plays, run_as, acks, is_due}
use Rattle.tt_client.specs.Saying.{with_bytes}
use Rattle.tt_client.specs.Runs.{running, runner_mark}
use Rattle.tt_client.specs.State.{state_of, state_in, state_by}
use Rattle.tt_client.specs.declared.state.State.TheVariants as state
use Rattle.tt_client.proofs.Ahead.{run_one, run_off}
use Rattle.tt_play_file.specs.declared.line.Act.{Act}
use Rattle.tt_play_file.specs.declared.line.Act.TheVariants.{Print, Quit, Do}
use Rattle.tt_session.specs.Acting.{client_by}
use Rattle.tt_session.specs.Running.{Agrees, IsSound, RunsAt}

abbrev R : Type 0
R = Runner WorldState Entry

abbrev K : Type 0
K = Kept WorldState Entry

-- so many frames were run, or it came out of step on the way
abbrev HasRun : ℕ → K → R → Type 0
HasRun n k (RunnerRunning j) = (j.frame ≡ k.frame + n) × (j.permitted ≡ k.permitted)
HasRun n k (RunnerDesync j f mine theirs) = j.frame ≤ k.frame + n
HasRun n k other = ⊥

shift : (n : ℕ) (k : K) (r : R) → HasRun n (framed_on k) r → HasRun (suc n) k r
shift n k RunnerJoining has = has
shift n k (RunnerRunning j) has = (omega (arith, has.0), has.1)
shift n k RunnerEndedJoining has = has
shift n k (RunnerEnded j) has = has
shift n k RunnerWrongJoining has = has
shift n k (RunnerWrong j) has = has
shift n k (RunnerDesync j f mine theirs) has = omega (arith, has)

run_by : (n : ℕ) (k : K) (o : Option ℕ) → k.frame < k.permitted
    → first_other (suc k.frame) (next_world known k).words.0 k.syncs ≡ o
    → HasRun n (framed_on k) (runner_advanced known n (RunnerRunning (framed_on k)))
    → HasRun (suc n) k (runner_advanced known (suc n) (RunnerRunning k))
run_by n k None low is rec = subst (HasRun (suc n) k) (sym (run_one n k low is)) (shift n k (runner_advanced known n (RunnerRunning
    (framed_on k))) rec)
run_by n k (Some theirs) low is rec = subst (HasRun (suc n) k) (sym (run_off n theirs k low is)) (omega arith)

runs : (n : ℕ) (k : K) → k.frame + n ≤ k.permitted → HasRun n k (runner_advanced known n (RunnerRunning k))
runs zero k fits = (omega arith, refl)
runs (suc n) k fits = run_by n k (first_other (suc k.frame) (next_world known k).words.0 k.syncs) (omega (arith, fits)) refl
    (runs n (framed_on k) (omega (arith, fits)))

-- ---- a client that runs

in_loaded : (phase : Phase) → state_in phase ≡ state.Running → phase ≡ Loaded
in_loaded Joining is = absurd cc
in_loaded Loaded is = refl
in_loaded (EndedWith code) is = absurd cc
in_loaded ShutDown is = absurd cc
in_loaded (WrongAt at) is = absurd cc

by_mark : (m : Mark) (phase : Phase) → state_by m phase ≡ state.Running → (phase ≡ Loaded) × (is_off m ≡ false)
by_mark Joins phase is = (in_loaded phase is, refl)
by_mark Plays phase is = (in_loaded phase is, refl)
by_mark Ends phase is = (in_loaded phase is, refl)
by_mark Strays phase is = (in_loaded phase is, refl)
by_mark (Off frame mine theirs) phase is = absurd cc

runs_only : (r : R) → Agrees Loaded r → is_off (runner_mark r) ≡ false → (k : K) × (r ≡ RunnerRunning k)
runs_only RunnerJoining is on = absurd is
runs_only (RunnerRunning k) is on = (k, refl)
runs_only RunnerEndedJoining is on = absurd is
runs_only (RunnerEnded k) is on = absurd is
runs_only RunnerWrongJoining is on = absurd is
runs_only (RunnerWrong k) is on = absurd is
runs_only (RunnerDesync k f mine theirs) is on = absurd cc

-- it has its map and is not out of step
pub plays_kept : (p : Player R) → IsSound p → state_of p ≡ state.Running → (k : K) × (p.runs ≡ RunnerRunning k) × (p.phase ≡ Loaded)
plays_kept p is stands =
    let parts = by_mark (runner_mark p.runs) p.phase stands in
    let only = runs_only p.runs (subst (λ (ph : Phase). Agrees ph p.runs) parts.0 is.1) parts.1 in
    (only.0, only.1, parts.0)

-- and so it has a frame and a permitted one
pub frame_some : (p : Player R) → IsSound p → state_of p ≡ state.Running → (k : K) × (frame_of p ≡ Some k.frame) × (permitted_of p ≡ Some
    k.permitted)
frame_some p is stands =
    let kept = plays_kept p is stands in (
      kept.0,
      ap (λ (r : R). frame_by (kept_in r)) kept.1,
      ap (λ (r : R). permitted_by (kept_in r)) kept.1,
    )

-- how much is left to be run
abbrev pub owed : Phase → R → ℕ
owed Loaded (RunnerRunning k) = 1 + (k.permitted - k.frame)
owed phase r = 0

-- what a client is that ran so many frames
pub record AfterRun (old new : Held) (frame permitted : ℕ) : Type 0 where
  pub not_past : IfSome (frame_of new.player) (λ g. g ≤ frame)
  pub fewer : owed new.player.phase new.player.runs < owed old.player.phase old.player.runs

acked : (b : Bool) (frame : ℕ) (p : Player R) → ((acks b frame p).runs ≡ p.runs) × ((acks b frame p).phase ≡ p.phase)
acked true frame p = (refl, refl)
acked false frame p = (refl, refl)

after_by : (n frame permitted : ℕ) (k : K) (p : Player R) (r : R) → p.runs ≡ r → p.phase ≡ Loaded → k.frame ≡ frame
    → k.permitted ≡ permitted → 0 < n → frame + n ≤ permitted → HasRun n k r
    → IfSome (frame_of p) (λ g. g ≤ frame + n) × (owed p.phase p.runs < 1 + (permitted - frame))
after_by n frame permitted k p RunnerJoining is phase a b some fits has = absurd has
after_by n frame permitted k p (RunnerRunning j) is phase a b some fits has = (
  subst (λ (o : Option ℕ). IfSome o (λ g. g ≤ frame + n)) (sym (ap (λ (r : R). frame_by (kept_in r)) is)) (omega (arith, has.0, a)),
  subst (λ (m : ℕ). m < 1 + (permitted - frame)) (sym (ap₂ owed phase is)) (omega (arith, has.0, has.1, a, b, some, fits)),
)
after_by n frame permitted k p RunnerEndedJoining is phase a b some fits has = absurd has
after_by n frame permitted k p (RunnerEnded j) is phase a b some fits has = absurd has
after_by n frame permitted k p RunnerWrongJoining is phase a b some fits has = absurd has
after_by n frame permitted k p (RunnerWrong j) is phase a b some fits has = absurd has
after_by n frame permitted k p (RunnerDesync j f mine theirs) is phase a b some fits has = (
  subst (λ (o : Option ℕ). IfSome o (λ g. g ≤ frame + n)) (sym (ap (λ (r : R). frame_by (kept_in r)) is)) (omega (arith, has, a)),
  subst (λ (m : ℕ). m < 1 + (permitted - frame)) (sym (ap₂ owed phase is)) (omega arith),
)

some_same : (a b : ℕ) → Some a ≡ Some b → a ≡ b
some_same a b is = cc

pub advance_runs : (h : Held) (n frame permitted : ℕ) → IsSound h.player → RunsAt h frame permitted → 0 < n → frame + n ≤ permitted
    → AfterRun h (with_call h (Advance n)) (frame + n) permitted
advance_runs h n frame permitted is at some fits =
    let p = h.player in
    let kept = plays_kept p is at.running in
    let k = kept.0 in
    let frame_same : k.frame ≡ frame = some_same k.frame frame (sym (ap (λ (r : R). frame_by (kept_in r)) kept.1) ∙ at.frame_is) in
    let permitted_same : k.permitted ≡ permitted = some_same k.permitted permitted
    (sym (ap (λ (r : R). permitted_by (kept_in r)) kept.1) ∙ at.permitted_is) in
    let r = runner_advanced known n p.runs in
    let r_is : r ≡ runner_advanced known n (RunnerRunning k) = ap (λ (x : R). runner_advanced known n x) kept.1 in
    let has : HasRun n k (runner_advanced known n (RunnerRunning k)) = runs n k (omega (arith, fits, frame_same, permitted_same)) in
    let ran = run_as (running.frame p.runs) (running.frame r) (running.permitted r) r p in
    let on : is_on running h.login p ≡ true = ap₂ (λ (ph : Phase) (x : R). goes_on ph && not (is_off (runner_mark x))) kept.2 kept.1 in
    let player_is : (with_call h (Advance n)).player ≡ ran = ap (λ (b : Bool). cond b ran p) on in
    let same = acked (nat_lt (running.frame p.runs) (running.frame r) && is_due p.acked (running.permitted r) (running.frame r))
    (running.frame r) (record p { runs = r }) in
    let new = (with_call h (Advance n)).player in
    let parts = after_by n frame permitted k new (runner_advanced known n (RunnerRunning k))
    (ap (λ (q : Player R). q.runs) player_is ∙ same.0 ∙ r_is) (ap (λ (q : Player R). q.phase) player_is ∙ same.1 ∙ kept.2) frame_same
    permitted_same some fits has in
    let before : owed p.phase p.runs ≡ 1 + (k.permitted - k.frame) = ap₂ owed kept.2 kept.1 in
    record { not_past = parts.0; fewer = omega (arith, parts.1, before, frame_same, permitted_same) }

-- a command changes nothing of what runs
said_same : (b : Bool) (bytes : List ℕ) (p : Player R)
    → (let q : Player R = cond b (record p { saying = with_bytes bytes p.saying }) p in (q.phase ≡ p.phase) × (q.runs ≡ p.runs))
said_same true bytes p = (refl, refl)
said_same false bytes p = (refl, refl)

pub act_same : (act : Act) (h : Held) → ((client_by act h).player.phase ≡ h.player.phase) × ((client_by act h).player.runs ≡ h.player.runs)
act_same Print h = (refl, refl)
act_same Quit h = (refl, refl)
act_same (Do command) h = said_same (is_on running h.login h.player && plays (runner_mark h.player.runs)) (command_bytes h.player.company
    command) h.player

-- and so a client that runs still does
pub running_then : (act : Act) (h h' : Held) → h' ≡ client_by act h → state_of h.player ≡ state.Running
    → state_of h'.player ≡ state.Running
running_then act h h' is running =
    let same = act_same act h in
    ap (λ (v : Held). state_of v.player) is ∙ ap₂ (λ (ph : Phase) (r : R). state_by (runner_mark r) ph) same.0 same.1 ∙ running
