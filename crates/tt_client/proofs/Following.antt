-- What runs in a client is what lockstep makes of its calls, as long as nothing has ended it, and stays as it is behind its end.
use Rattle.std.proofs.Common.{◌≡◌, ℕ, zero, suc, Bool, true, false, cond, List, [], ◌∷◌, ◌++◌, length, map, drop, Option, Some, refl}
use Rattle.std.proofs.Common.{sym, ap, ◌∙◌, subst, append_assoc}
use Rattle.std.specs.Prelude.{◌&&◌, not, ◌==◌, nat_lt}
use Rattle.std.proofs.lemmas.Bool.{false≢true}
use Rattle.std.proofs.lemmas.List.{drop_at}
use Rattle.tt_frame.specs.Packet.{IsBytes}
use Rattle.tt_lockstep.specs.Told.{Told}
use Rattle.tt_lockstep.specs.Client as abstracted
use Rattle.tt_lockstep.specs.Shown.{SyncPoint}
use Rattle.tt_lockstep.specs.Wire.{fed_bytes}
use Rattle.tt_lockstep.specs.Runner.{Kept, Runner, RunnerJoining, RunnerRunning, RunnerEndedJoining, RunnerEnded, RunnerWrongJoining}
use Rattle.tt_lockstep.specs.Runner.{RunnerWrong, RunnerDesync}
use Rattle.tt_lockstep.specs.Runner.{kept_on, next_world, runner_advanced, runner_checked, runner_frame, runner_hears, runner_run}
use Rattle.tt_game.specs.declared.message.GameMsg.{GameMsg}
use Rattle.tt_game.specs.declared.message.GameMsg.TheVariants.{ServerFull, ServerBanned, ServerError}
use Rattle.tt_world.specs.declared.command.Entry.{Entry}
use Rattle.tt_world.specs.World.{WorldState}
use Rattle.tt_log.specs.Shown.{Item, Place, Asking, Parted, end_by, goes_on, item_told, items_in, place_then, things_in, things_of}
use Rattle.tt_in_step.specs.Fed.{calls_behind}
use Rattle.tt_client.specs.declared.login.Login.{Login}
use Rattle.tt_client.specs.Answers.{command_bytes}
use Rattle.tt_client.specs.Calls.{Call, Feed, Advance, Submit, Take, Say, Give, Run, fed, new_items, steps_behind}
use Rattle.tt_client.specs.InStep.{pieces}
use Rattle.tt_client.specs.Known.{known}
use Rattle.tt_client.specs.Player.{after, acks, heard, heard_all, heard_as, is_due, is_off, is_on, phase_by, plays, run_as, stepped}
use Rattle.tt_client.specs.Runs.{running, runner_mark}
use Rattle.tt_client.specs.Runs as runs
use Rattle.tt_client.specs.Saying.{Saying, with_bytes}
use Rattle.tt_client.proofs.Growing.{items_grow}
use Rattle.tt_client.proofs.InSteps.{bytes_front, hears_behind}
use Rattle.tt_client.proofs.Same.{runner_run-behind}
use Rattle.tt_client.proofs.Seated.{P, over_hears}

abbrev R : Type 0
R = Runner WorldState Entry

abbrev T : Type 0
T = Told WorldState Entry

abbrev C : Type 0
C = abstracted.Call WorldState Entry

-- it has ended, or is out of step
abbrev pub rests : R → Bool
rests RunnerJoining = false
rests (RunnerRunning k) = false
rests other = true

hears_rest : (r : R) (t : T) → rests r ≡ true → runner_hears known r t ≡ r
hears_rest RunnerJoining t is = absurd (false≢true is)
hears_rest (RunnerRunning k) t is = absurd (false≢true is)
hears_rest RunnerEndedJoining t is = refl
hears_rest (RunnerEnded k) t is = refl
hears_rest RunnerWrongJoining t is = refl
hears_rest (RunnerWrong k) t is = refl
hears_rest (RunnerDesync k f mine theirs) t is = refl

frame_rests : (r : R) → rests r ≡ true → runner_frame known r ≡ r
frame_rests RunnerJoining is = absurd (false≢true is)
frame_rests (RunnerRunning k) is = absurd (false≢true is)
frame_rests RunnerEndedJoining is = refl
frame_rests (RunnerEnded k) is = refl
frame_rests RunnerWrongJoining is = refl
frame_rests (RunnerWrong k) is = refl
frame_rests (RunnerDesync k f mine theirs) is = refl

advanced_rests : (n : ℕ) (r : R) → rests r ≡ true → runner_advanced known n r ≡ r
advanced_rests zero r is = refl
advanced_rests (suc n) r is = ap (λ (r : R). runner_advanced known n r) (frame_rests r is) ∙ advanced_rests n r is

run_rests : (calls : List C) (r : R) → rests r ≡ true → runner_run known r calls ≡ r
run_rests [] r is = refl
run_rests (abstracted.Feed t ∷ calls) r is = ap (λ (r : R). runner_run known r calls) (hears_rest r t is) ∙ run_rests calls r is
run_rests (abstracted.Advance n ∷ calls) r is = ap (λ (r : R). runner_run known r calls) (advanced_rests n r is) ∙ run_rests calls r is

-- ---- frames

-- it joins, runs, or is out of step
abbrev Steady : R → Type 0
Steady r = not (is_off (runner_mark r)) ≡ not (rests r)

checked_steady : (k : Kept WorldState Entry) (f mine : ℕ) (ss : List SyncPoint) → Steady (runner_checked known k f mine ss)
checked_steady k f mine [] = refl
checked_steady k f mine (s ∷ ss) = elim (s.frame == f && not (mine == s.word)) as (λ b. Steady (cond b (RunnerDesync k f mine s.word)
    (runner_checked known k f mine ss))) [
      | true ↦ refl
      | false ↦ checked_steady k f mine ss
    ]

frame_steady : (r : R) → Steady r → Steady (runner_frame known r)
frame_steady RunnerJoining is = refl
frame_steady (RunnerRunning k) is =
    elim (nat_lt k.frame k.permitted) as (λ b. Steady (cond b (runner_checked known (kept_on known k (next_world known k)) (suc k.frame)
    (next_world known k).words.0 k.syncs) (RunnerRunning k))) [
      | true ↦ checked_steady (kept_on known k (next_world known k)) (suc k.frame) (next_world known k).words.0 k.syncs
      | false ↦ refl
    ]
frame_steady RunnerEndedJoining is = is
frame_steady (RunnerEnded k) is = is
frame_steady RunnerWrongJoining is = is
frame_steady (RunnerWrong k) is = is
frame_steady (RunnerDesync k f mine theirs) is = is

advanced_steady : (n : ℕ) (r : R) → Steady r → Steady (runner_advanced known n r)
advanced_steady zero r is = is
advanced_steady (suc n) r is = advanced_steady n (runner_frame known r) (frame_steady r is)

steady : (r : R) → rests r ≡ false → Steady r
steady RunnerJoining is = refl
steady (RunnerRunning k) is = refl
steady RunnerEndedJoining is = absurd (false≢true (sym is))
steady (RunnerEnded k) is = absurd (false≢true (sym is))
steady RunnerWrongJoining is = absurd (false≢true (sym is))
steady (RunnerWrong k) is = absurd (false≢true (sym is))
steady (RunnerDesync k f mine theirs) is = absurd (false≢true (sym is))

-- ---- what is heard

-- nothing has ended it exactly where what runs goes on
abbrev pub Fits : Login → P → Type 0
Fits login p = is_on running login p ≡ not (rests p.runs)

end_off : (m : Option GameMsg) → goes_on (end_by m) ≡ false
end_off (Some ServerFull) = refl
end_off (Some ServerBanned) = refl
end_off (Some (ServerError code)) = refl
end_off other = refl

heard_fits : (r : R) (i : Item) → (goes_on (phase_by (runner_mark r) i) && not (is_off (runner_mark r))) ≡ not (rests r)
heard_fits RunnerJoining i = refl
heard_fits (RunnerRunning k) i = refl
heard_fits RunnerEndedJoining i = ap (λ (b : Bool). b && true) (end_off i.msg)
heard_fits (RunnerEnded k) i = ap (λ (b : Bool). b && true) (end_off i.msg)
heard_fits RunnerWrongJoining i = refl
heard_fits (RunnerWrong k) i = refl
heard_fits (RunnerDesync k f mine theirs) i = refl

heard_place : (r : R) (i : Item) (place : Place) → rests r ≡ false → cond (goes_on (phase_by (runner_mark r) i)) place Parted ≡ place
heard_place RunnerJoining i place is = refl
heard_place (RunnerRunning k) i place is = refl
heard_place RunnerEndedJoining i place is = absurd (false≢true (sym is))
heard_place (RunnerEnded k) i place is = absurd (false≢true (sym is))
heard_place RunnerWrongJoining i place is = absurd (false≢true (sym is))
heard_place (RunnerWrong k) i place is = absurd (false≢true (sym is))
heard_place (RunnerDesync k f mine theirs) i place is = absurd (false≢true (sym is))

abbrev pub place_on : Place → List Item → Place
place_on place [] = place
place_on place (i ∷ items) = place_on (place_then place i.msg) items

abbrev feeds : Place → List Item → List C
feeds place items = map (λ t. abstracted.Feed t) (things_of place items)

-- what an item leaves of a client that goes on
record One (login : Login) (i : Item) (p q : P) : Type 0 where
  runs : q.runs ≡ runner_hears known p.runs (item_told p.place i.msg)
  fits : Fits login q
  place : rests q.runs ≡ false → q.place ≡ place_then p.place i.msg

one_item : (login : Login) (i : Item) (p : P) → is_on running login p ≡ true → One login i p (heard running login i p)
one_item login i p on =
    let r = runner_hears known p.runs (item_told p.place i.msg) in
    let q : P = heard_as login i (runner_mark r) r p in
    let here : One login i p q = record { runs = refl; fits = heard_fits r i; place = λ is. heard_place r i (place_then p.place i.msg) is }
    in
    subst (λ (b : Bool). One login i p (cond b q p)) (sym on) here

-- and items
record Many (login : Login) (items : List Item) (p q : P) : Type 0 where
  runs : q.runs ≡ runner_run known p.runs (feeds p.place items)
  fits : Fits login q
  place : rests q.runs ≡ false → q.place ≡ place_on p.place items

many_rest : (login : Login) (items : List Item) (p : P) → Fits login p → rests p.runs ≡ true → Many login items p (heard_all running login
    items p)
many_rest login items p fits is =
    let stays = over_hears login items p (fits ∙ ap not is) in
    let here : Many login items p p = record {
      runs = sym (run_rests (feeds p.place items) p.runs is);
      fits = fits;
      place = λ no. absurd (false≢true (sym no ∙ is));
    } in
    subst (λ (q : P). Many login items p q) (sym stays) here

feeds_same : (r : R) (b : Bool) (x y : Place) (items : List Item) → rests r ≡ b → (rests r ≡ false → x ≡ y)
    → runner_run known r (feeds x items) ≡ runner_run known r (feeds y items)
feeds_same r true x y items is same = run_rests (feeds x items) r is ∙ sym (run_rests (feeds y items) r is)
feeds_same r false x y items is same = ap (λ (place : Place). runner_run known r (feeds place items)) (same is)

rests_on : (login : Login) (items : List Item) (p : P) (b : Bool) → Fits login p → rests p.runs ≡ b → rests (heard_all running login items
    p).runs ≡ false → rests p.runs ≡ false
rests_on login items p false fits is on = is
rests_on login items p true fits is on = sym (ap (λ (q : P). rests q.runs) (over_hears login items p (fits ∙ ap not is))) ∙ on

many_by : (login : Login) (items : List Item) (p : P) (b : Bool) → Fits login p → rests p.runs ≡ b → Many login items p (heard_all running
    login items p)
many_by login items p true fits is = many_rest login items p fits is
many_by login [] p false fits is = record { runs = refl; fits = fits; place = λ on. refl }
many_by login (i ∷ items) p false fits is =
    let q = heard running login i p in
    let one = one_item login i p (fits ∙ ap not is) in
    let later = many_by login items q (rests q.runs) one.fits refl in
    record {
      runs = later.runs ∙ feeds_same q.runs (rests q.runs) q.place (place_then p.place i.msg) items refl one.place
          ∙ ap (λ (r : R). runner_run known r (feeds (place_then p.place i.msg) items)) one.runs;
      fits = later.fits;
      place = λ on. later.place on ∙ ap (λ (place : Place). place_on place items) (one.place (rests_on login items q (rests q.runs)
          one.fits refl on));
    }

-- ---- streams

things_both : (place : Place) (xs ys : List Item) → things_of place (xs ++ ys) ≡ things_of place xs ++ things_of (place_on place xs) ys
things_both place [] ys = refl
things_both place (x ∷ xs) ys = ap (λ (ts : List T). item_told place x.msg ∷ ts) (things_both (place_then place x.msg) xs ys)

place_both : (place : Place) (xs ys : List Item) → place_on place (xs ++ ys) ≡ place_on (place_on place xs) ys
place_both place [] ys = refl
place_both place (x ∷ xs) ys = place_both (place_then place x.msg) xs ys

new_things : (before piece : List ℕ) → IsBytes (before ++ piece)
    → drop (length (things_in before)) (things_in (before ++ piece)) ≡ things_of (place_on Asking (items_in before)) (new_items before
    piece)
new_things before piece fits =
    let old = things_in before in
    let new = things_of (place_on Asking (items_in before)) (new_items before piece) in
    ap (λ (ts : List T). drop (length old) ts) (ap (λ (is : List Item). things_of Asking is) (items_grow before piece fits) ∙ things_both
    Asking (items_in before) (new_items before piece))
    ∙ drop_at old new (length old) refl

-- a client that was fed so much
pub record Going (login : Login) (before : List ℕ) (p : P) : Type 0 where
  pub fits : Fits login p
  pub place : rests p.runs ≡ false → p.place ≡ place_on Asking (items_in before)

going_by : (login : Login) (before piece : List ℕ) (p : P) → IsBytes (before ++ piece) → Going login before p
    → Going login (before ++ piece) (heard_all running login (new_items before piece) p)
going_by login before piece p fits going =
    let new = new_items before piece in
    let many = many_by login new p (rests p.runs) going.fits refl in
    record {
      fits = many.fits;
      place = λ on. many.place on
          ∙ ap (λ (place : Place). place_on place new) (going.place (rests_on login new p (rests p.runs) going.fits refl on))
          ∙ sym (place_both Asking (items_in before) new) ∙ ap (λ (is : List Item). place_on Asking is) (sym (items_grow before piece
          fits));
    }

and_left : (a b : Bool) → (a && b) ≡ true → a ≡ true
and_left true b is = refl
and_left false b is = is

on_goes : (login : Login) (p : P) → is_on running login p ≡ true → goes_on p.phase ≡ true
on_goes login p on = and_left (goes_on p.phase) (not (is_off (runner_mark p.runs))) on

acked_by : (b : Bool) (f : ℕ) (login : Login) (before : List ℕ) (q : P) → Going login before q → ((acks b f q).runs ≡ q.runs) × Going login
    before (acks b f q)
acked_by true f login before q going = (refl, record { fits = going.fits; place = going.place })
acked_by false f login before q going = (refl, going)

said_by : (b : Bool) (login : Login) (before : List ℕ) (saying : Saying) (p : P) → Going login before p
    → ((cond b (record p { saying = saying }) p).runs ≡ p.runs) × Going login before (cond b (record p { saying = saying }) p)
said_by true login before saying p going = (refl, record { fits = going.fits; place = going.place })
said_by false login before saying p going = (refl, going)

ran_by : (b : Bool) (login : Login) (n : ℕ) (before : List ℕ) (p : P) → rests p.runs ≡ b → Going login before p
    → ((stepped running login p (Run n)).runs ≡ runner_advanced known n p.runs) × Going login before (stepped running login p (Run n))
ran_by true login n before p is going =
    let off : is_on running login p ≡ false = going.fits ∙ ap not is in
    let r = runner_advanced known n p.runs in
    let x : P = run_as (runs.runner_frame p.runs) (runs.runner_frame r) (runs.runner_permitted r) r p in
    let stays : stepped running login p (Run n) ≡ p = ap (λ (b : Bool). cond b x p) off in
    (ap (λ (q : P). q.runs) stays ∙ sym (advanced_rests n p.runs is), subst (λ (q : P). Going login before q) (sym stays) going)
ran_by false login n before p is going =
    let on : is_on running login p ≡ true = going.fits ∙ ap not is in
    let r = runner_advanced known n p.runs in
    let due = nat_lt (runs.runner_frame p.runs) (runs.runner_frame r) && is_due p.acked (runs.runner_permitted r) (runs.runner_frame r) in
    let x : P = run_as (runs.runner_frame p.runs) (runs.runner_frame r) (runs.runner_permitted r) r p in
    let goes : stepped running login p (Run n) ≡ x = ap (λ (b : Bool). cond b x p) on in
    let q : P = record p { runs = r } in
    let here : (x.runs ≡ r) × Going login before x = acked_by due (runs.runner_frame r) login before q (record {
      fits = ap (λ (b : Bool). b && not (is_off (runner_mark r))) (on_goes login p on) ∙ advanced_steady n p.runs (steady p.runs is);
      place = λ ok. going.place is;
    }) in
    (ap (λ (q : P). q.runs) goes ∙ here.0, subst (λ (q : P). Going login before q) (sym goes) here.1)

-- ---- all calls

pub follows : (login : Login) (before : List ℕ) (calls : List Call) (p : P) → IsBytes (before ++ fed calls) → Going login before p
    → (after running login p (steps_behind before calls)).runs ≡ runner_run known p.runs (calls_behind before (pieces calls))
follows login before [] p fits going = refl
follows login before (Feed piece ∷ calls) p fits going =
    let whole : IsBytes ((before ++ piece) ++ fed calls) = subst (λ (xs : List ℕ). IsBytes xs) (sym (append_assoc before piece (fed
    calls))) fits in
    let front = bytes_front (before ++ piece) (fed calls) whole in
    let new = new_items before piece in
    let q = heard_all running login new p in
    let later = calls_behind (before ++ piece) (pieces calls) in
    let here = place_on Asking (items_in before) in
    let many = many_by login new p (rests p.runs) going.fits refl in
    ap (λ (x : P). x.runs) (hears_behind login new (steps_behind (before ++ piece) calls) p)
    ∙ follows login (before ++ piece) calls q whole (going_by login before piece p front going)
    ∙ ap (λ (r : R). runner_run known r later) (many.runs ∙ feeds_same p.runs (rests p.runs) p.place here new refl going.place)
    ∙ sym (runner_run-behind p.runs (feeds here new) later)
    ∙ ap (λ (ts : List T). runner_run known p.runs (map (λ t. abstracted.Feed t) ts ++ later)) (sym (new_things before piece front))
follows login before (Advance n ∷ calls) p fits going =
    let ran = ran_by (rests p.runs) login n before p refl going in
    follows login before calls (stepped running login p (Run n)) fits ran.1
    ∙ ap (λ (r : R). runner_run known r (calls_behind before (pieces calls))) ran.0
follows login before (Submit company command ∷ calls) p fits going =
    let said = said_by (is_on running login p && plays (runner_mark p.runs)) login before (with_bytes (command_bytes company command)
    p.saying) p going in
    follows login before calls (stepped running login p (Say company command)) fits said.1
    ∙ ap (λ (r : R). runner_run known r (calls_behind before (pieces calls))) said.0
follows login before (Take room ∷ calls) p fits going =
    follows login before calls (stepped running login p (Give room)) fits (record { fits = going.fits; place = going.place })

pub all_fed : (calls : List Call) → fed_bytes (pieces calls) ≡ fed calls
all_fed [] = refl
all_fed (Feed piece ∷ calls) = ap (λ (xs : List ℕ). piece ++ xs) (all_fed calls)
all_fed (Advance n ∷ calls) = all_fed calls
all_fed (Submit company command ∷ calls) = all_fed calls
all_fed (Take room ∷ calls) = all_fed calls
