-- What a client that joins makes of an item, by its verdict.
use Rattle.std.proofs.Common.{◌≡◌, ℕ, Bool, true, false, cond, List, ◌++◌, Option, Some, None, refl, sym, ap, ap₂, ◌∙◌}
use Rattle.std.specs.Prelude.{◌&&◌, ◌==◌, length}
use Rattle.std.specs.Result.{result_ok}
use Rattle.tt_map.specs.Reading.{map_in}
use Rattle.std.proofs.lemmas.Bool.{eq-eqb}
use Rattle.tt_lockstep.specs.Told as told
use Rattle.tt_lockstep.specs.Told.{Told}
use Rattle.tt_lockstep.specs.Runner.{Kept, Runner, RunnerJoining, RunnerRunning, RunnerEndedJoining, RunnerWrongJoining}
use Rattle.tt_lockstep.specs.Runner.{runner_hears}
use Rattle.tt_game.specs.declared.message.GameMsg.{GameMsg}
use Rattle.tt_game.specs.declared.message.GameMsg.TheVariants.{ServerFrame, ServerMapDone, ClientMapOk}
use Rattle.tt_world.specs.declared.command.Entry.{Entry}
use Rattle.tt_world.specs.World.{WorldState}
use Rattle.tt_log.specs.Shown.{Item, Place, Asking, Greeted, Begun, Fetching, InPlay, Parted, moves_on, told_at, unless_parted, whole_map}
use Rattle.tt_log.specs.Shown as book
use Rattle.tt_client.specs.declared.login.Login.{Login}
use Rattle.tt_client.specs.Answers.{answer}
use Rattle.tt_client.specs.Known.{known}
use Rattle.tt_client.specs.Player.{Player, heard, heard_as, learnt, token_in, told_place, said_behind}
use Rattle.tt_client.specs.Runs.{running, runner_mark}
use Rattle.tt_client.specs.declared.join.Join.{Join}
use Rattle.tt_client.specs.declared.stage.Stage.{Stage}
use Rattle.tt_client.specs.declared.stage.Stage.TheVariants as s
use Rattle.tt_client.specs.Held.{IsBeforeMap, phase_of, place_of}
use Rattle.tt_client.specs.declared.stage.Phase.{Phase}
use Rattle.tt_client.specs.declared.stage.Phase.TheVariants.{Joining, Loaded, Ended, Shutdown, Wrong}
use Rattle.tt_client.specs.Planned.{IsJoining, JoinStands, JoinStandsBy, at_door, joined_by, joining_still, joins_still, runs_in}
use Rattle.tt_client.specs.Saying.{Saying, spelling, with_bytes, with_token}
use Rattle.tt_client.proofs.Sayings.{say_more}

abbrev P : Type 0
P = Player (Runner WorldState Entry)

abbrev pub gone_by : book.Phase → Runner WorldState Entry → ℕ → ℕ → Saying → Option ℕ → P
gone_by phase runs number company saying acked = record {
  place = Parted;
  phase = phase;
  number = number;
  company = company;
  runs = runs;
  saying = saying;
  acked = acked;
}

-- a token comes in the game alone
token_none : (place : Place) (msg : GameMsg) → (place ≡ InPlay → ⊥) → told_at place msg ≡ told.Other → token_in (Some msg) ≡ 0
token_none Asking (ServerFrame f max t) out is = absurd cc
token_none Asking other out is = refl
token_none Greeted (ServerFrame f max t) out is = absurd cc
token_none Greeted other out is = refl
token_none (Begun s) (ServerFrame f max t) out is = absurd cc
token_none (Begun s) other out is = refl
token_none (Fetching s n come) (ServerFrame f max t) out is = absurd cc
token_none (Fetching s n come) other out is = refl
token_none InPlay msg out is = absurd (out refl)
token_none Parted (ServerFrame f max t) out is = absurd cc
token_none Parted other out is = refl

heard_by : (login : Login) (place : Place) (number company at : ℕ) (msg : Option GameMsg) (saying : Saying) (acked : Option ℕ)
    (t : Told WorldState Entry) → book.item_told place msg ≡ t
    → (let r = runner_hears known RunnerJoining t in
    heard running login (record { at = at; msg = msg }) (at_door place number company saying acked)
    ≡ heard_as login (record { at = at; msg = msg }) (runner_mark r) r (at_door place number company saying acked))
heard_by login place number company at msg saying acked t is =
    let i : Item = record { at = at; msg = msg } in
    let p = at_door place number company saying acked in
    ap (λ (t : Told WorldState Entry). let r = runner_hears known RunnerJoining t in heard_as login i (runner_mark r) r p) is

-- it goes on
pub join_goes : (login : Login) (place next : Place) (number company at : ℕ) (msg : GameMsg) (answers said : List ℕ) (saying : Saying)
    (acked : Option ℕ) → (place ≡ InPlay → ⊥) → told_at place msg ≡ told.Other → next ≡ moves_on place msg
    → said ≡ answer login place (Some msg)
    → at_door next (learnt (Some msg) number company).client (learnt (Some msg) number company).company (with_bytes (answers ++ said)
    saying) acked
    ≡ heard running login (record { at = at; msg = Some msg }) (at_door place number company (with_bytes answers saying) acked)
join_goes login place next number company at msg answers said saying acked out is moved answered =
    let new = learnt (Some msg) number company in
    let old = with_bytes answers saying in
    sym (heard_by login place number company at (Some msg) old acked told.Other is
    ∙ ap₂ (λ (t : Told WorldState Entry) (n : ℕ). at_door (unless_parted t (moves_on place msg)) new.client new.company
    (with_token n (with_bytes (answer login place (Some msg)) old)) acked) is (token_none place msg out is)
    ∙ ap₂ (λ (p : Place) (xs : List ℕ). at_door p new.client new.company (with_bytes xs old) acked) (sym moved) (sym answered)
    ∙ ap (λ (s : Saying). at_door next new.client new.company s acked) (say_more answers said saying))

-- it was told its end
pub join_ends : (login : Login) (place : Place) (number company at : ℕ) (msg : GameMsg) (saying : Saying) (acked : Option ℕ)
    (phase : book.Phase) → told_at place msg ≡ told.End → phase ≡ book.end_by (Some msg) → book.goes_on phase ≡ false
    → gone_by phase RunnerEndedJoining number company saying acked
    ≡ heard running login (record { at = at; msg = Some msg }) (at_door place number company saying acked)
join_ends login place number company at msg saying acked phase is end over =
    let new = learnt (Some msg) number company in
    let behind : Bool → book.Phase → P = λ b f. record {
      place = cond b (book.place_then place (Some msg)) Parted;
      phase = f;
      number = cond (b && true) new.client number;
      company = cond (b && true) new.company company;
      runs = RunnerEndedJoining;
      saying = cond (b && true) (said_behind login place (Some msg) saying) saying;
      acked = acked;
    } in
    sym (heard_by login place number company at (Some msg) saying acked told.End is
    ∙ ap (λ (f : book.Phase). behind (book.goes_on f) f) (sym end) ∙ ap (λ (b : Bool). behind b phase) over)

-- it was told what is not permitted
pub join_strays : (login : Login) (place : Place) (number company at : ℕ) (msg : Option GameMsg) (saying : Saying) (acked : Option ℕ)
    → book.item_told place msg ≡ told.Stray → told_place at ≡ at
    → gone_by (book.WrongAt at) RunnerWrongJoining number company saying acked
    ≡ heard running login (record { at = at; msg = msg }) (at_door place number company saying acked)
join_strays login place number company at msg saying acked is place_is =
    sym (heard_by login place number company at msg saying acked told.Stray is
    ∙ ap (λ (n : ℕ). gone_by (book.WrongAt n) RunnerWrongJoining number company saying acked) place_is)

-- its map has come whole
pub join_loads : (login : Login) (frame size number company at : ℕ) (come answers : List ℕ) (w : WorldState) (k : Kept WorldState Entry)
    (saying : Saying) (acked : Option ℕ) → told_at (Fetching frame size come) ServerMapDone ≡ told.Map frame w
    → RunnerRunning k ≡ runner_hears known RunnerJoining (told.Map frame w)
    → (let p : P = record {
      place = InPlay;
      phase = book.Loaded;
      number = number;
      company = company;
      runs = RunnerRunning k;
      saying = with_bytes (answers ++ spelling ClientMapOk) saying;
      acked = acked;
    } in p)
    ≡ heard running login (record { at = at; msg = Some ServerMapDone }) (at_door (Fetching frame size come) number company (with_bytes
    answers saying) acked)
join_loads login frame size number company at come answers w k saying acked is runs =
    let old = with_bytes answers saying in
    let loaded : Place → Runner WorldState Entry → Saying → P = λ place r s. record {
      place = place;
      phase = book.Loaded;
      number = number;
      company = company;
      runs = r;
      saying = s;
      acked = acked;
    } in
    sym (heard_by login (Fetching frame size come) number company at (Some ServerMapDone) old acked (told.Map frame w) is
    ∙ ap (λ (t : Told WorldState Entry). loaded (unless_parted t InPlay) (runner_hears known RunnerJoining (told.Map frame w)) (with_bytes
    (spelling ClientMapOk) old)) is
    ∙ ap₂ (λ (r : Runner WorldState Entry) (s : Saying). loaded InPlay r s) (sym runs) (say_more answers (spelling ClientMapOk) saying))

-- the end of a map is its map, or not permitted
whole_tells : (b : Bool) (frame : ℕ) (come : List ℕ) (w : Option WorldState) → w ≡ result_ok (map_in come) → whole_map b frame come ≡
    told.Other → ⊥
whole_tells false frame come w is other = let no : (let t : Told WorldState Entry = told.Stray in t) ≡ told.Other = other in cc
whole_tells true frame come None is other =
    let no : (let t : Told WorldState Entry = told.Stray in t) ≡ told.Other = ap (λ (w : Option WorldState). book.map_told frame w) is ∙
    other in cc
whole_tells true frame come (Some v) is other =
    let no : (let t : Told WorldState Entry = told.Map frame v in t) ≡ told.Other = ap (λ (w : Option WorldState). book.map_told frame w)
    is ∙ other in cc

done_tells : (place : Place) → told_at place ServerMapDone ≡ told.Other → ⊥
done_tells Asking other = absurd cc
done_tells Greeted other = absurd cc
done_tells (Begun frame) other = absurd cc
done_tells (Fetching frame size come) other = whole_tells (length come == size) frame come (result_ok (map_in come)) refl other
done_tells InPlay other = absurd cc
done_tells Parted other = absurd cc

pub not_done : (place : Place) (msg : GameMsg) → told_at place msg ≡ told.Other → msg ≡ ServerMapDone → ⊥
not_done place msg other is = done_tells place (sym (ap (λ (m : GameMsg). told_at place m) is) ∙ other)

pub whole_is : (frame size : ℕ) (come : List ℕ) (w : WorldState) → length come ≡ size → Some w ≡ result_ok (map_in come)
    → told_at (Fetching frame size come) ServerMapDone ≡ told.Map frame w
whole_is frame size come w fits is =
    ap (λ (b : Bool). whole_map b frame come) (eq-eqb (length come) size fits) ∙ ap (λ (w : Option WorldState). book.map_told frame w) (sym
    is)

stands_by : (phase : Phase) (join : Join) (come : List ℕ) → JoinStandsBy phase join come → joining_still phase ≡ true → IsJoining join come
stands_by Joining join come stands is = stands
stands_by Loaded join come stands is = absurd cc
stands_by (Ended code) join come stands is = absurd cc
stands_by Shutdown join come stands is = absurd cc
stands_by (Wrong at) join come stands is = absurd cc

-- it joins still
pub still_joins : (join : Join) (come : List ℕ) → JoinStands join come → joins_still join ≡ true → IsJoining join come
still_joins join come stands is = stands_by join.phase join come stands is

-- ---- by what was gathered

pub joined_is : (come : List ℕ) (join : Join) (saying : Saying) (acked : Option ℕ) → join.phase ≡ Joining → join.runs ≡ None
    → joined_by come join saying acked
    ≡ at_door (place_of join.stage (come ++ join.more.items)) join.number join.company (with_bytes join.answers.items saying) acked
joined_is come join saying acked joins none =
    ap₂ (λ (phase : Phase) (runs : Option (Kept WorldState Entry)). let p : P = record {
      place = place_of join.stage (come ++ join.more.items);
      phase = phase_of phase;
      number = join.number;
      company = join.company;
      runs = runs_in phase runs;
      saying = with_bytes join.answers.items saying;
      acked = acked;
    } in p) joins none

before_play : (stage : Stage) (bytes : List ℕ) → IsBeforeMap stage → place_of stage bytes ≡ InPlay → ⊥
before_play s.Asking bytes before is = absurd cc
before_play s.Greeted bytes before is = absurd cc
before_play (s.Begun frame) bytes before is = absurd cc
before_play (s.Fetching frame size) bytes before is = absurd cc
before_play s.InPlay bytes before is = before
before_play s.Parted bytes before is = before

-- it goes on by a message
pub gone_on : (login : Login) (come said : List ℕ) (old new : Join) (msg : GameMsg) (at : ℕ) (saying : Saying) (acked : Option ℕ)
    → IsJoining old come → new.phase ≡ old.phase → new.runs ≡ old.runs
    → new.number ≡ (learnt (Some msg) old.number old.company).client → new.company ≡ (learnt (Some msg) old.number old.company).company
    → place_of new.stage (come ++ new.more.items) ≡ moves_on (place_of old.stage (come ++ old.more.items)) msg
    → new.answers.items ≡ old.answers.items ++ said → said ≡ answer login (place_of old.stage (come ++ old.more.items)) (Some msg)
    → told_at (place_of old.stage (come ++ old.more.items)) msg ≡ told.Other
    → joined_by come new saying acked ≡ heard running login (record { at = at; msg = Some msg }) (joined_by come old saying acked)
gone_on login come said old new msg at saying acked is phase runs number company moved answers answered other =
    let place = place_of old.stage (come ++ old.more.items) in
    joined_is come new saying acked (phase ∙ is.joins) (runs ∙ is.none)
    ∙ ap₂ (λ (n m : ℕ). at_door (place_of new.stage (come ++ new.more.items)) n m (with_bytes new.answers.items saying) acked) number
    company
    ∙ ap (λ (xs : List ℕ). at_door (place_of new.stage (come ++ new.more.items)) (learnt (Some msg) old.number old.company).client
    (learnt (Some msg) old.number old.company).company (with_bytes xs saying) acked) answers
    ∙ join_goes login place (place_of new.stage (come ++ new.more.items)) old.number old.company at msg old.answers.items said saying acked
    (before_play old.stage (come ++ old.more.items) is.before) other moved answered
    ∙ ap (λ (p : P). heard running login (record { at = at; msg = Some msg }) p) (sym (joined_is come old saying acked is.joins is.none))

-- it was told what is not permitted
pub strayed : (login : Login) (come : List ℕ) (old : Join) (msg : Option GameMsg) (at : ℕ) (saying : Saying) (acked : Option ℕ)
    → IsJoining old come → book.item_told (place_of old.stage (come ++ old.more.items)) msg ≡ told.Stray → told_place at ≡ at
    → joined_by come (record old { phase = Wrong at; stage = s.Parted }) saying acked
    ≡ heard running login (record { at = at; msg = msg }) (joined_by come old saying acked)
strayed login come old msg at saying acked is stray place =
    let said = with_bytes old.answers.items saying in
    ap (λ (runs : Option (Kept WorldState Entry)). gone_by (book.WrongAt at) (runs_in (Wrong at) runs) old.number old.company said acked)
    is.none
    ∙ join_strays login (place_of old.stage (come ++ old.more.items)) old.number old.company at msg said acked stray place
    ∙ ap (λ (p : P). heard running login (record { at = at; msg = msg }) p) (sym (joined_is come old saying acked is.joins is.none))

-- its map has come whole
pub finished : (login : Login) (come : List ℕ) (old : Join) (frame size at : ℕ) (w : WorldState) (k : Kept WorldState Entry) (answers :
    List ℕ)
    (saying : Saying) (acked : Option ℕ) → IsJoining old come → old.stage ≡ s.Fetching frame size
    → length (come ++ old.more.items) ≡ size → Some w ≡ result_ok (map_in (come ++ old.more.items))
    → RunnerRunning k ≡ runner_hears known RunnerJoining (told.Map frame w) → answers ≡ old.answers.items ++ spelling ClientMapOk
    → (let p : P = record {
      place = InPlay;
      phase = book.Loaded;
      number = old.number;
      company = old.company;
      runs = RunnerRunning k;
      saying = with_bytes answers saying;
      acked = acked;
    } in p)
    ≡ heard running login (record { at = at; msg = Some ServerMapDone }) (joined_by come old saying acked)
finished login come old frame size at w k answers saying acked is fetching fits world runs said =
    let bytes = come ++ old.more.items in
    ap (λ (xs : List ℕ). let p : P = record {
      place = InPlay;
      phase = book.Loaded;
      number = old.number;
      company = old.company;
      runs = RunnerRunning k;
      saying = with_bytes xs saying;
      acked = acked;
    } in p) said
    ∙ join_loads login frame size old.number old.company at bytes old.answers.items w k saying acked (whole_is frame size bytes w fits
    world) runs
    ∙ ap (λ (p : P). heard running login (record { at = at; msg = Some ServerMapDone }) p)
    (sym (joined_is come old saying acked is.joins is.none
    ∙ ap (λ (stage : Stage). at_door (place_of stage bytes) old.number old.company (with_bytes old.answers.items saying) acked) fetching))
