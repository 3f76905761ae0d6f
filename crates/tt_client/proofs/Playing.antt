-- What a client in the game makes of an item, by its verdict.
use Rattle.std.proofs.Common.{◌≡◌, ℕ, suc, ◌+◌, ◌<◌, arith, drop, drop-cons, get_or, length, Bool, true, false, cond, List}
use Rattle.std.proofs.Common.{Option, Some, None, refl, sym, ap, ap₂, ◌∙◌}
use Rattle.std.specs.Prelude.{◌&&◌, ◌||◌, not, is_some}
use Rattle.tt_lockstep.specs.Told as told
use Rattle.tt_lockstep.specs.Told.{Told}
use Rattle.tt_lockstep.specs.Runner.{Kept, Runner, RunnerRunning, RunnerEnded}
use Rattle.tt_lockstep.specs.Runner.{RunnerWrong, RunnerDesync}
use Rattle.tt_lockstep.specs.Runner.{runner_hears}
use Rattle.tt_game.specs.declared.message.GameMsg.{GameMsg}
use Rattle.tt_world.specs.declared.command.Entry.{Entry}
use Rattle.tt_world.specs.World.{WorldState}
use Rattle.tt_log.specs.Shown.{Item, Place, InPlay, Parted, told_in_play, unless_parted}
use Rattle.tt_log.specs.Shown as book
use Rattle.tt_client.specs.declared.login.Login.{Login}
use Rattle.tt_client.specs.declared.running.Mismatch.{Mismatch}
use Rattle.tt_client.specs.declared.play.Play.{Play}
use Rattle.tt_client.specs.declared.stage.Phase.{Phase}
use Rattle.tt_client.specs.declared.stage.Phase.TheVariants.{Joining, Loaded, Ended, Shutdown, Wrong}
use Rattle.tt_client.specs.Hearing.{Heard, with_news}
use Rattle.tt_client.specs.Held.{off_or, phase_of}
use Rattle.tt_client.specs.Known.{known}
use Rattle.tt_client.specs.Player.{Player, Rules, heard, heard_all, heard_as, learnt, token_in, told_place, said_behind}
use Rattle.tt_client.specs.Runs.{running, runner_mark}
use Rattle.tt_client.specs.Planned.{PlayStands, in_play, later_token, place_on, played}
use Rattle.tt_client.specs.Saying.{Saying, with_token}
use Rattle.tt_client.proofs.Sayings.{say_nothing, token_twice}

abbrev K : Type 0
K = Kept WorldState Entry

abbrev P : Type 0
P = Player (Runner WorldState Entry)

-- what runs goes on by what it was told only where that is not its end, nor what is not permitted
place_by : (k l : K) (t : Told WorldState Entry) → runner_hears known (RunnerRunning k) t ≡ RunnerRunning l → unless_parted t InPlay ≡
    InPlay
place_by k l (told.Map s w) is = refl
place_by k l (told.Command e) is = refl
place_by k l (told.Frame f max) is = refl
place_by k l (told.Sync f w) is = refl
place_by k l told.Other is = refl
place_by k l told.Stray is = absurd cc
place_by k l told.End is = absurd cc

place_off : (k l : K) (f mine theirs : ℕ) (t : Told WorldState Entry) → runner_hears known (RunnerRunning k) t ≡ RunnerDesync l f mine
    theirs
    → unless_parted t InPlay ≡ InPlay
place_off k l f mine theirs (told.Map s w) is = refl
place_off k l f mine theirs (told.Command e) is = refl
place_off k l f mine theirs (told.Frame g max) is = refl
place_off k l f mine theirs (told.Sync g w) is = refl
place_off k l f mine theirs told.Other is = refl
place_off k l f mine theirs told.Stray is = absurd cc
place_off k l f mine theirs told.End is = absurd cc

abbrev with : Place → book.Phase → ℕ → ℕ → Runner WorldState Entry → Saying → Option ℕ → P
with place phase number company runs saying acked = record {
  place = place;
  phase = phase;
  number = number;
  company = company;
  runs = runs;
  saying = saying;
  acked = acked;
}

-- it goes on
pub play_goes : (login : Login) (k l : K) (number company at t : ℕ) (msg : GameMsg) (saying : Saying) (acked : Option ℕ)
    → runner_hears known (RunnerRunning k) (told_in_play msg) ≡ RunnerRunning l
    → in_play l (learnt (Some msg) number company).client (learnt (Some msg) number company).company
    (with_token (later_token t (token_in (Some msg))) saying) acked
    ≡ heard running login (record { at = at; msg = Some msg }) (in_play k number company (with_token t saying) acked)
play_goes login k l number company at t msg saying acked is =
    let i : Item = record { at = at; msg = Some msg } in
    let new = learnt (Some msg) number company in
    let p = in_play k number company (with_token t saying) acked in
    sym (ap (λ (r : Runner WorldState Entry). heard_as login i (runner_mark r) r p) is
    ∙ ap₂ (λ (place : Place) (s : Saying). with place book.Loaded new.client new.company (RunnerRunning l) s acked)
    (place_by k l (told_in_play msg) is)
    (ap (λ (s : Saying). with_token (token_in (Some msg)) s) (say_nothing (with_token t saying)) ∙ token_twice t (token_in (Some msg))
    saying))

-- it was told its end
pub play_ends : (login : Login) (k l : K) (number company at : ℕ) (msg : GameMsg) (saying : Saying) (acked : Option ℕ) (phase : book.Phase)
    → runner_hears known (RunnerRunning k) (told_in_play msg) ≡ RunnerEnded l
    → phase ≡ book.end_by (Some msg) → book.goes_on phase ≡ false
    → with Parted phase number company (RunnerEnded l) saying acked
    ≡ heard running login (record { at = at; msg = Some msg }) (in_play k number company saying acked)
play_ends login k l number company at msg saying acked phase is end over =
    let i : Item = record { at = at; msg = Some msg } in
    let p = in_play k number company saying acked in
    let new = learnt (Some msg) number company in
    let behind = λ (b : Bool) (f : book.Phase). with (cond b (book.place_then InPlay (Some msg)) Parted) f
    (cond (b && true) new.client number) (cond (b && true) new.company company) (RunnerEnded l)
    (cond (b && true) (said_behind login InPlay (Some msg) saying) saying) acked in
    sym (ap (λ (r : Runner WorldState Entry). heard_as login i (runner_mark r) r p) is
    ∙ ap (λ (f : book.Phase). behind (book.goes_on f) f) (sym end) ∙ ap (λ (b : Bool). behind b phase) over)

-- it was told what is not permitted
pub play_strays : (login : Login) (k l : K) (number company at : ℕ) (msg : Option GameMsg) (saying : Saying) (acked : Option ℕ)
    → runner_hears known (RunnerRunning k) (book.item_told InPlay msg) ≡ RunnerWrong l → told_place at ≡ at
    → with Parted (book.WrongAt at) number company (RunnerWrong l) saying acked
    ≡ heard running login (record { at = at; msg = msg }) (in_play k number company saying acked)
play_strays login k l number company at msg saying acked is place =
    let i : Item = record { at = at; msg = msg } in
    let p = in_play k number company saying acked in
    sym (ap (λ (r : Runner WorldState Entry). heard_as login i (runner_mark r) r p) is
    ∙ ap (λ (n : ℕ). with Parted (book.WrongAt n) number company (RunnerWrong l) saying acked) place)

-- it found itself out of step
pub play_off : (login : Login) (k l : K) (number company at f mine theirs : ℕ) (msg : GameMsg) (saying : Saying) (acked : Option ℕ)
    → runner_hears known (RunnerRunning k) (told_in_play msg) ≡ RunnerDesync l f mine theirs
    → with InPlay book.Loaded number company (RunnerDesync l f mine theirs) saying acked
    ≡ heard running login (record { at = at; msg = Some msg }) (in_play k number company saying acked)
play_off login k l number company at f mine theirs msg saying acked is =
    let i : Item = record { at = at; msg = Some msg } in
    let p = in_play k number company saying acked in
    sym (ap (λ (r : Runner WorldState Entry). heard_as login i (runner_mark r) r p) is
    ∙ ap (λ (place : Place). with place book.Loaded number company (RunnerDesync l f mine theirs) saying acked)
    (place_off k l f mine theirs (told_in_play msg) is))

-- ---- by what was gathered

pub not_over : (b : Bool) (off : Option Mismatch) → (not b || is_some off) ≡ false → (b ≡ true) × (off ≡ None)
not_over true None is = (refl, refl)
not_over true (Some m) is = absurd cc
not_over false off is = absurd cc

pub played_is : (k : K) (play : Play) (saying : Saying) (acked : Option ℕ) → play.phase ≡ Loaded → play.off ≡ None
    → played k play saying acked ≡ in_play (with_news k play.news) play.number play.company (with_token play.token saying) acked
played_is k play saying acked loaded none =
    ap₂ (λ (phase : Phase) (off : Option Mismatch). with (place_on (book.goes_on (phase_of phase))) (phase_of phase) play.number
    play.company
    (off_or off phase (with_news k play.news)) (with_token play.token saying) acked) loaded none

-- what is not permitted was told
pub stray_play : (login : Login) (k : K) (old : Play) (news : Heard) (at : ℕ) (msg : Option GameMsg) (saying : Saying) (acked : Option ℕ)
    → old.phase ≡ Loaded → old.off ≡ None
    → runner_hears known (RunnerRunning (with_news k old.news)) (book.item_told InPlay msg) ≡ RunnerWrong (with_news k news) → told_place
    at ≡ at
    → played k (record old { news = news; phase = Wrong at }) saying acked
    ≡ heard running login (record { at = at; msg = msg }) (played k old saying acked)
stray_play login k old news at msg saying acked loaded none is place =
    let i : Item = record { at = at; msg = msg } in
    let s = with_token old.token saying in
    ap (λ (off : Option Mismatch). with Parted (book.WrongAt at) old.number old.company (off_or off (Wrong at) (with_news k news)) s acked)
    none
    ∙ play_strays login (with_news k old.news) (with_news k news) old.number old.company at msg s acked is place
    ∙ ap (λ (p : P). heard running login i p) (sym (played_is k old saying acked loaded none))

pub plays_on : (phase : Phase) (off : Option Mismatch) → PlayStands phase off → book.goes_on (phase_of phase) ≡ true → phase ≡ Loaded
plays_on Joining off stands is = absurd stands
plays_on Loaded off stands is = refl
plays_on (Ended code) off stands is = absurd cc
plays_on Shutdown off stands is = absurd cc
plays_on (Wrong at) off stands is = absurd cc

-- an item more of those that are left
pub heard_next : {R : Type 0} (rules : Rules R) (login : Login) (items : List Item) (i : ℕ) (item : Item) (p q : Player R)
    → i < length items → item ≡ get_or items i item → q ≡ heard rules login item p
    → heard_all rules login (drop (i + 1) items) q ≡ heard_all rules login (drop i items) p
heard_next {R = R} rules login items i item p q within is heard_is =
    let rest = drop (suc i) items in
    let one : i + 1 ≡ suc i = omega arith in
    ap₂ (λ (n : ℕ) (r : Player R). heard_all rules login (drop n items) r) one heard_is
    ∙ ap (λ (x : Item). heard_all rules login rest (heard rules login x p)) is
    ∙ ap (λ (xs : List Item). heard_all rules login xs p) (sym (drop-cons items i item within))
