-- A client that was fed what a server of the game sent is in step.
use Rattle.std.proofs.Common.{◌≡◌, ℕ, false, cond, List, [], ◌∷◌, ◌++◌, Some, refl, sym, ap, ◌∙◌}
use Rattle.std.proofs.Common.{subst}
use Rattle.tt_frame.specs.Packet.{IsBytes}
use Rattle.tt_frame.specs.StreamReading.{reading_within}
use Rattle.tt_edge.specs.declared.event.Event.{Event}
use Rattle.tt_lockstep.specs.Shown.{SyncPoint}
use Rattle.tt_lockstep.specs.Wire.{PieceCall, fed_bytes}
use Rattle.tt_lockstep.specs.Runner.{IsRunnerInStep, Runner, RunnerJoining, RunnerRunning, RunnerEndedJoining, RunnerEnded}
use Rattle.tt_lockstep.specs.Runner.{RunnerWrongJoining, RunnerWrong, RunnerDesync}
use Rattle.tt_lockstep.specs.Runner.{runner_run}
use Rattle.tt_world.specs.declared.command.Entry.{Entry}
use Rattle.tt_world.specs.World.{WorldState}
use Rattle.tt_log.specs.History.{AreEvents, journal_of}
use Rattle.tt_log.specs.Origin.{IsOrigin, Origin, game_of, world_at}
use Rattle.tt_lockstep.specs.Shown as lockstep
use Rattle.tt_lockstep.specs.Told as told
use Rattle.tt_lockstep.specs.Told.{Told}
use Rattle.tt_log.specs.Shown.{Asking, Item, Phase, Joining, Loaded, EndedWith, ShutDown, WrongAt, Shown, goes_on, item_told, items_in}
use Rattle.tt_log.specs.Shown.{learns}
use Rattle.tt_log.specs.Shown.{nothing_shown, phase_by, place_then, shown, unless_over}
use Rattle.tt_in_step.specs.Ends.{IsRightPhase}
use Rattle.std.proofs.Common.{inl, inr}
use Rattle.std.specs.Prelude.{fold}
use Rattle.std.proofs.lemmas.Bool.{false≢true}
use Rattle.tt_client.specs.declared.state.State.{State}
use Rattle.tt_client.specs.Showing.{told_phase}
use Rattle.tt_client.proofs.Same.{mark_same, same_run}
use Rattle.tt_client.proofs.Shows.{Shows, client_shows}
use Rattle.tt_log.specs.Told.{sent}
use Rattle.tt_in_step.specs.Fed.{IsPlayer, calls_of}
use Rattle.tt_client.specs.declared.login.Login.{Login}
use Rattle.tt_client.specs.Calls.{Advance, Call, Feed, Submit, Take, fed, steps_behind}
use Rattle.tt_client.specs.Held.{Held, frame_by, held, held_after, held_first, kept_in, world_by, with_call}
use Rattle.tt_client.specs.InStep.{AdvancesInStep, FeedsInStep, IsInStep, IsRight, IsSent, pieces}
use Rattle.tt_client.specs.Known.{anywhere, known}
use Rattle.tt_client.specs.Player.{Mark, Joins, Plays, Ends, Strays, Off, is_off, joined}
use Rattle.tt_client.specs.Runs.{client, client_run, runner_mark, running}
use Rattle.tt_client.specs.State.{state_by, state_in}
use Rattle.tt_client.proofs.Anywhere.{run-same}
use Rattle.tt_client.proofs.Following.{Going, all_fed, follows, place_on}
use Rattle.tt_client.proofs.InSteps.{in_steps}
use Rattle.tt_client.proofs.Seated.{P}

abbrev R : Type 0
R = Runner WorldState Entry

-- ---- what a stream shows, for every game

seen_same : (o : Origin) (h : lockstep.Shown WorldState Entry) (t : Told WorldState Entry) → lockstep.seen (game_of o) h t ≡ lockstep.seen
    known h t
seen_same o lockstep.Joining (told.Map s w) = refl
seen_same o lockstep.Joining (told.Command e) = refl
seen_same o lockstep.Joining (told.Frame f max) = refl
seen_same o lockstep.Joining (told.Sync f w) = refl
seen_same o lockstep.Joining told.Other = refl
seen_same o lockstep.Joining told.Stray = refl
seen_same o lockstep.Joining told.End = refl
seen_same o (lockstep.Running v) (told.Map s w) = refl
seen_same o (lockstep.Running v) (told.Command e) = refl
seen_same o (lockstep.Running v) (told.Frame f max) = refl
seen_same o (lockstep.Running v) (told.Sync f w) = refl
seen_same o (lockstep.Running v) told.Other = refl
seen_same o (lockstep.Running v) told.Stray = refl
seen_same o (lockstep.Running v) told.End = refl
seen_same o lockstep.EndedJoining t = refl
seen_same o (lockstep.Ended v) t = refl
seen_same o lockstep.WrongJoining t = refl
seen_same o (lockstep.Wrong v) t = refl

item_same : (o : Origin) (s : Shown) (i : Item) → unless_over o s i ≡ unless_over anywhere s i
item_same o s i =
    ap (λ (h : lockstep.Shown WorldState Entry). let w : Shown = record s {
      phase = phase_by h i;
      place = place_then s.place i.msg;
      seen =
          h;
    } in
    cond (goes_on s.phase) (cond (goes_on w.phase) (learns i.msg w) w) s) (seen_same o s.seen (item_told s.place i.msg))

items_same : (o : Origin) (s : Shown) (items : List Item) → fold (unless_over o) s items ≡ fold (unless_over anywhere) s items
items_same o s [] = refl
items_same o s (i ∷ items) = ap (λ (x : Shown). fold (unless_over o) x items) (item_same o s i) ∙ items_same o (unless_over anywhere s i)
    items

-- ---- in step

world_by_runs : (o : Origin) (journal : List Entry) (r : R) (w : WorldState) (f : ℕ) → IsRunnerInStep (game_of o) journal r
    → world_by (kept_in r) ≡ Some w → frame_by (kept_in r) ≡ Some f → w ≡ world_at o journal f
world_by_runs o journal RunnerJoining w f is one two = absurd cc
world_by_runs o journal (RunnerRunning k) w f is one two =
    let world : k.world ≡ w = cc in let frame : k.frame ≡ f = cc in sym world ∙ is ∙ ap (λ (f : ℕ). world_at o journal f) frame
world_by_runs o journal RunnerEndedJoining w f is one two = absurd cc
world_by_runs o journal (RunnerEnded k) w f is one two =
    let world : k.world ≡ w = cc in let frame : k.frame ≡ f = cc in sym world ∙ is ∙ ap (λ (f : ℕ). world_at o journal f) frame
world_by_runs o journal RunnerWrongJoining w f is one two = absurd is
world_by_runs o journal (RunnerWrong k) w f is one two = absurd is
world_by_runs o journal (RunnerDesync k g mine theirs) w f is one two = absurd is

steady_by : (o : Origin) (journal : List Entry) (r : R) → IsRunnerInStep (game_of o) journal r → is_off (runner_mark r) ≡ false
steady_by o journal RunnerJoining is = refl
steady_by o journal (RunnerRunning k) is = refl
steady_by o journal RunnerEndedJoining is = refl
steady_by o journal (RunnerEnded k) is = refl
steady_by o journal RunnerWrongJoining is = absurd is
steady_by o journal (RunnerWrong k) is = absurd is
steady_by o journal (RunnerDesync k g mine theirs) is = absurd is

state_is : (m : Mark) (phase : Phase) → is_off m ≡ false → state_by m phase ≡ state_in phase
state_is Joins phase is = refl
state_is Plays phase is = refl
state_is Ends phase is = refl
state_is Strays phase is = refl
state_is (Off frame mine theirs) phase is = absurd (false≢true (sym is))

right_phase : (phase : Phase) (items : List Item) → IsRightPhase phase items → IsRight (state_in (told_phase phase)) items
right_phase Joining items is = tt
right_phase Loaded items is = tt
right_phase (EndedWith code) items is = is
right_phase ShutDown items is = is
right_phase (WrongAt at) items is = absurd is

-- unless it is out of step, its phase is that of what its stream shows
phase_by_shows : (login : Login) (calls : List Call) → Shows (client login calls) (shown anywhere (fed calls))
    → is_off (runner_mark (client_run login calls).runs) ≡ false → (client_run login calls).phase ≡ told_phase (shown anywhere (fed
    calls)).phase
phase_by_shows login calls (inl is) steady = sym (ap (λ (p : P). p.phase) (same_run login (steps_behind [] calls))) ∙ is.phase
phase_by_shows login calls (inr off) steady =
    absurd (false≢true (sym steady ∙ ap (λ (p : P). is_off (runner_mark p.runs)) (sym (same_run login (steps_behind [] calls)))
    ∙ ap is_off (mark_same (client login calls).runs) ∙ off))

no_items : [] ≡ items_in []
unfolding reading_within
no_items = refl

begins : (login : Login) → Going login [] (joined running login)
begins login = record { fits = refl; place = λ on. ap (λ (is : List Item). place_on Asking is) no_items }

-- what is known of clients that are fed and run: they are in step
abbrev pub However : Type 0
However = (o : Origin) (events : List Event) (conn : ℕ) (calls : List PieceCall) (later : List ℕ) → IsOrigin o → AreEvents events
    → IsPlayer events conn → IsBytes (fed_bytes calls) → sent o events conn ≡ fed_bytes calls ++ later
    → IsRunnerInStep (game_of o) (journal_of o events) (runner_run (game_of o) RunnerJoining (calls_of calls))

-- and of what their streams show
abbrev pub Shown_ends : Type 0
Shown_ends = (o : Origin) (events : List Event) (conn : ℕ) (bytes later : List ℕ) → IsOrigin o → AreEvents events → IsPlayer events conn
    → IsBytes bytes → sent o events conn ≡ bytes ++ later → IsRightPhase (shown o bytes).phase (items_in bytes)

run_in_step : However → Shown_ends → (o : Origin) (events : List Event) (conn : ℕ) (login : Login) (calls : List Call) → IsSent o events
    conn (fed calls)
    → IsInStep o events (items_in (fed calls)) (client_run login calls)
run_in_step however ends o events conn login calls sent_so =
    let p = client_run login calls in
    let journal = journal_of o events in
    let same = all_fed calls in
    let ran = however o events conn (pieces calls) sent_so.later sent_so.origin sent_so.are_events sent_so.player
    (subst (λ (xs : List ℕ). IsBytes xs) (sym same) sent_so.are_bytes) (sent_so.front ∙ ap (λ (xs : List ℕ). xs ++ sent_so.later) (sym
    same)) in
    let runs_as : p.runs ≡ runner_run (game_of o) RunnerJoining (calls_of (pieces calls)) =
    follows login [] calls (joined running login) sent_so.are_bytes (begins login) ∙ sym (run-same o RunnerJoining (calls_of (pieces
    calls))) in
    let steps_in : IsRunnerInStep (game_of o) journal p.runs = subst (λ (r : R). IsRunnerInStep (game_of o) journal r) (sym runs_as) ran in
    let steady = steady_by o journal p.runs steps_in in
    let phase = phase_by_shows login calls (client_shows login calls sent_so.are_bytes) steady in
    let ended = ends o events conn (fed calls) sent_so.later sent_so.origin sent_so.are_events sent_so.player sent_so.are_bytes
    sent_so.front in
    record {
      world = λ w f one two. world_by_runs o journal p.runs w f steps_in one two;
      right = subst (λ (x : State). IsRight x (items_in (fed calls))) (sym (state_is (runner_mark p.runs) p.phase steady))
          (subst (λ (f : Phase). IsRight (state_in f) (items_in (fed calls))) (sym phase)
          (right_phase (shown anywhere (fed calls)).phase (items_in (fed calls))
          (subst (λ (s : Shown). IsRightPhase s.phase (items_in (fed calls))) (items_same o nothing_shown (items_in (fed calls))) ended)));
    }

pub client_in_step : However → Shown_ends → (o : Origin) (events : List Event) (conn : ℕ) (login : Login) (calls : List Call) → IsSent o
    events conn (fed calls)
    → IsInStep o events (items_in (fed calls)) (held login calls).player
client_in_step however ends o events conn login calls sent_so =
    subst (λ (p : P). IsInStep o events (items_in (fed calls)) p) (sym (in_steps login calls sent_so.are_bytes)) (run_in_step however ends
    o events conn login calls sent_so)

-- one call more
pub held_push : (h : Held) (calls : List Call) (c : Call) → held_after h (calls ++ c ∷ []) ≡ with_call (held_after h calls) c
held_push h [] c = refl
held_push h (x ∷ calls) c = held_push (with_call h x) calls c

pub fed_advance : (calls : List Call) (n : ℕ) → fed (calls ++ Advance n ∷ []) ≡ fed calls
fed_advance [] n = refl
fed_advance (Feed piece ∷ calls) n = ap (λ (xs : List ℕ). piece ++ xs) (fed_advance calls n)
fed_advance (Advance m ∷ calls) n = fed_advance calls n
fed_advance (Submit company command ∷ calls) n = fed_advance calls n
fed_advance (Take room ∷ calls) n = fed_advance calls n

-- what is known of clients over all their calls
abbrev pub InStep : Type 0
InStep = (o : Origin) (events : List Event) (conn : ℕ) (login : Login) (calls : List Call) → IsSent o events conn (fed calls)
    → IsInStep o events (items_in (fed calls)) (held login calls).player

pub feeds : InStep → (old new : Held) (piece : List ℕ) → new ≡ with_call old (Feed piece) → FeedsInStep old piece new
feeds known_so old new piece is o events conn login calls from sent_so =
    let same : new ≡ held login (calls ++ Feed piece ∷ []) =
    is ∙ ap (λ (h : Held). with_call h (Feed piece)) from ∙ sym (held_push (held_first login) calls (Feed piece)) in
    subst (λ (h : Held). IsInStep o events (items_in (fed (calls ++ Feed piece ∷ []))) h.player) (sym same) (known_so o events conn login
    (calls ++ Feed piece ∷ []) sent_so)

pub advances : InStep → (old new : Held) (n : ℕ) → new ≡ with_call old (Advance n) → AdvancesInStep old new
advances known_so old new n is o events conn login calls from sent_so =
    let same : new ≡ held login (calls ++ Advance n ∷ []) =
    is ∙ ap (λ (h : Held). with_call h (Advance n)) from ∙ sym (held_push (held_first login) calls (Advance n)) in
    subst (λ (h : Held). IsInStep o events (items_in (fed calls)) h.player) (sym same)
    (subst (λ (xs : List ℕ). IsInStep o events (items_in xs) (held login (calls ++ Advance n ∷ [])).player) (fed_advance calls n)
    (known_so o events conn login (calls ++ Advance n ∷ []) (subst (λ (xs : List ℕ). IsSent o events conn xs) (sym (fed_advance calls n))
    sent_so)))
