-- A client as its parts make it.
use Rattle.std.proofs.Common.{◌≡◌, ℕ, Bool, true, false, cond, List, [], ◌∷◌, ◌++◌, length, drop, Option, Some, None, refl, sym, ap, ap₂}
use Rattle.std.proofs.Common.{◌∙◌, subst, arith}
use Rattle.std.specs.Prelude.{◌&&◌, not, IsSome}
use Rattle.std.proofs.lemmas.Bool.{false≢true}
use Rattle.std.proofs.lemmas.List.{drop_all}
use Rattle.tt_lockstep.specs.Runner.{Kept, Runner, runner_hears}
use Rattle.tt_world.specs.declared.command.Entry.{Entry}
use Rattle.tt_world.specs.World.{WorldState}
use Rattle.tt_log.specs.Shown.{Item, goes_on, item_told}
use Rattle.tt_log.specs.Shown as book
use Rattle.tt_client.specs.declared.login.Login.{Login}
use Rattle.tt_client.specs.declared.running.Mismatch.{Mismatch}
use Rattle.tt_client.specs.declared.join.Join.{Join}
use Rattle.tt_client.specs.declared.stage.Stage.{Stage}
use Rattle.tt_client.specs.declared.stage.Stage.TheVariants as s
use Rattle.tt_client.specs.declared.stage.Phase.{Phase}
use Rattle.tt_client.specs.declared.stage.Phase.TheVariants.{Joining, Loaded, Ended, Shutdown, Wrong}
use Rattle.tt_client.specs.Held.{IsBeforeMap, Stands, phase_of, place_of, runner_in}
use Rattle.tt_client.specs.Planned.{IsClear, JoinStands, JoinStandsBy, PlayStands, at_door, in_play, joined_by, joins_still}
use Rattle.tt_client.specs.Planned.{joining_still, runs_in}
use Rattle.tt_client.specs.Known.{known}
use Rattle.tt_client.specs.Player.{Player, heard, heard_all, heard_as, is_off, is_on}
use Rattle.tt_client.specs.Runs.{is_playing, runner_mark, running}
use Rattle.tt_client.specs.Saying.{Saying, with_bytes}

abbrev pub K : Type 0
K = Kept WorldState Entry

abbrev pub P : Type 0
P = Player (Runner WorldState Entry)

abbrev pub seat : Stage → List ℕ → Phase → Option Mismatch → ℕ → ℕ → Option K → Saying → Option ℕ → P
seat stage come phase off number company runs saying acked = record {
  place = place_of stage come;
  phase = phase_of phase;
  number = number;
  company = company;
  runs = runner_in phase off runs;
  saying = saying;
  acked = acked;
}

-- ---- in the game

playing_by : (stage : Stage) (come : List ℕ) (phase : Phase) (off : Option Mismatch) (number company : ℕ) (k : K) (saying : Saying) (acked
    : Option ℕ)
    → Stands stage phase off (Some k) → is_playing (seat stage come phase off number company (Some k) saying acked) ≡ true
    → seat stage come phase off number company (Some k) saying acked ≡ in_play k number company saying acked
playing_by stage come Joining off number company k saying acked stands on = absurd (let no : (let o : Option K = Some k in o) ≡ None =
    stands.2 in cc)
playing_by stage come Loaded None number company k saying acked stands on =
    ap (λ (x : Stage). seat x come Loaded None number company (Some k) saying acked) stands.0
playing_by stage come Loaded (Some m) number company k saying acked stands on = absurd (false≢true on)
playing_by stage come (Ended code) off number company k saying acked stands on = absurd (false≢true on)
playing_by stage come Shutdown off number company k saying acked stands on = absurd (false≢true on)
playing_by stage come (Wrong at) off number company k saying acked stands on = absurd (false≢true on)

pub playing_is : (stage : Stage) (come : List ℕ) (phase : Phase) (off : Option Mismatch) (number company : ℕ) (runs : Option K) (k : K)
    (saying : Saying) (acked : Option ℕ) → Stands stage phase off runs → runs ≡ Some k
    → is_playing (seat stage come phase off number company runs saying acked) ≡ true
    → seat stage come phase off number company runs saying acked ≡ in_play k number company saying acked
playing_is stage come phase off number company runs k saying acked stands is on =
    ap (λ (r : Option K). seat stage come phase off number company r saying acked) is
    ∙ playing_by stage come phase off number company k saying acked (subst (λ (r : Option K). Stands stage phase off r) is stands)
    (sym (ap (λ (r : Option K). is_playing (seat stage come phase off number company r saying acked)) is) ∙ on)

-- a client that goes on with its map plays
pub on_plays : (login : Login) (stage : Stage) (come : List ℕ) (phase : Phase) (off : Option Mismatch) (number company : ℕ) (runs : Option
    K)
    (saying : Saying) (acked : Option ℕ) → Stands stage phase off runs → phase ≡ Loaded
    → is_on running login (seat stage come phase off number company runs saying acked) ≡ true
    → is_playing (seat stage come phase off number company runs saying acked) ≡ true
on_plays login stage come Loaded None number company (Some k) saying acked stands is on = refl
on_plays login stage come Loaded (Some m) number company (Some k) saying acked stands is on = absurd (false≢true on)
on_plays login stage come Loaded off number company None saying acked stands is on = absurd (false≢true stands.1)
on_plays login stage come Joining off number company runs saying acked stands is on = absurd cc
on_plays login stage come (Ended code) off number company runs saying acked stands is on = absurd cc
on_plays login stage come Shutdown off number company runs saying acked stands is on = absurd cc
on_plays login stage come (Wrong at) off number company runs saying acked stands is on = absurd cc

pub stands_played : (stage : Stage) (phase : Phase) (off : Option Mismatch) (k : K) → PlayStands phase off
    → (goes_on (phase_of phase) ≡ true → stage ≡ s.InPlay) → Stands stage phase off (Some k)
stands_played stage Joining off k stands at = absurd stands
stands_played stage Loaded off k stands at = (at refl, refl)
stands_played stage (Ended code) off k stands at = stands
stands_played stage Shutdown off k stands at = stands
stands_played stage (Wrong at) off k stands on = stands

-- ---- before the map

-- who joins stands before its map, has none, and is not out of step
pub joins_by : (stage : Stage) (phase : Phase) (off : Option Mismatch) (runs : Option K) → Stands stage phase off runs
    → phase_of phase ≡ book.Joining → (phase ≡ Joining) × IsBeforeMap stage × (off ≡ None) × (runs ≡ None)
joins_by stage Joining off runs stands is = (refl, stands.0, stands.1, stands.2)
joins_by stage Loaded off runs stands is = absurd cc
joins_by stage (Ended code) off runs stands is = absurd cc
joins_by stage Shutdown off runs stands is = absurd cc
joins_by stage (Wrong at) off runs stands is = absurd cc

-- a client that goes on without a map joins
pub on_joins : (login : Login) (stage : Stage) (come : List ℕ) (phase : Phase) (off : Option Mismatch) (number company : ℕ) (runs : Option
    K)
    (saying : Saying) (acked : Option ℕ) → (phase ≡ Loaded → ⊥)
    → is_on running login (seat stage come phase off number company runs saying acked) ≡ true → phase_of phase ≡ book.Joining
on_joins login stage come Joining off number company runs saying acked other on = refl
on_joins login stage come Loaded off number company runs saying acked other on = absurd (other refl)
on_joins login stage come (Ended code) off number company runs saying acked other on = absurd (false≢true on)
on_joins login stage come Shutdown off number company runs saying acked other on = absurd (false≢true on)
on_joins login stage come (Wrong at) off number company runs saying acked other on = absurd (false≢true on)

loaded_by : (phase : Phase) (join : Join) (come : List ℕ) (k : K) → JoinStandsBy phase join come → join.runs ≡ Some k
    → (phase ≡ Loaded) × (join.stage ≡ s.InPlay)
loaded_by Joining join come k stands is = absurd (let no : None ≡ (let o : Option K = Some k in o) = sym stands.none ∙ is in cc)
loaded_by Loaded join come k stands is = (refl, stands.0)
loaded_by (Ended code) join come k stands is = absurd (let no : None ≡ (let o : Option K = Some k in o) = sym stands.0 ∙ is in cc)
loaded_by Shutdown join come k stands is = absurd (let no : None ≡ (let o : Option K = Some k in o) = sym stands.0 ∙ is in cc)
loaded_by (Wrong at) join come k stands is = absurd (let no : None ≡ (let o : Option K = Some k in o) = sym stands.0 ∙ is in cc)

abbrev door : List ℕ → Join → Stage → Phase → Option K → Saying → Option ℕ → P
door come join stage phase runs saying acked = record {
  place = place_of stage (come ++ join.more.items);
  phase = phase_of phase;
  number = join.number;
  company = join.company;
  runs = runs_in phase runs;
  saying = with_bytes join.answers.items saying;
  acked = acked;
}

-- its map has come: it plays
pub loaded_is : (come : List ℕ) (join : Join) (k : K) (saying : Saying) (acked : Option ℕ) → JoinStands join come → join.runs ≡ Some k
    → joined_by come join saying acked ≡ in_play k join.number join.company (with_bytes join.answers.items saying) acked
loaded_is come join k saying acked stands is =
    let at = loaded_by join.phase join come k stands is in
    ap₂ (λ (stage : Stage) (phase : Phase). door come join stage phase join.runs saying acked) at.1 at.0
    ∙ ap (λ (runs : Option K). door come join s.InPlay Loaded runs saying acked) is

-- an ended client hears nothing
pub over_hears : (login : Login) (items : List Item) (p : P) → is_on running login p ≡ false → heard_all running login items p ≡ p
over_hears login [] p over = refl
over_hears login (i ∷ items) p over =
    let r = runner_hears known p.runs (item_told p.place i.msg) in
    let one : heard running login i p ≡ p = ap (λ (b : Bool). cond b (heard_as login i (runner_mark r) r p) p) over in
    ap (λ (q : P). heard_all running login items q) one ∙ over_hears login items p over

no_map : (runs : Option K) → runs ≡ None → IsSome runs → ⊥
no_map None is some = absurd (false≢true some)
no_map (Some k) is some = absurd cc

settled_by : (login : Login) (items : List Item) (heard : ℕ) (phase : Phase) (join : Join) (come : List ℕ) (saying : Saying) (acked :
    Option ℕ)
    → join.phase ≡ phase → JoinStandsBy phase join come → join.runs ≡ None → (joining_still phase ≡ true → heard ≡ length items)
    → heard_all running login (drop heard items) (joined_by come join saying acked) ≡ joined_by come join saying acked
settled_by login items heard Joining join come saying acked is stands none all =
    ap (λ (xs : List Item). heard_all running login xs (joined_by come join saying acked)) (drop_all heard items (omega (arith, all refl)))
settled_by login items heard Loaded join come saying acked is stands none all = absurd (no_map join.runs none stands.1)
settled_by login items heard (Ended code) join come saying acked is stands none all =
    over_hears login (drop heard items) (joined_by come join saying acked) (ap (λ (f : Phase). goes_on (phase_of f) && not (is_off
    (runner_mark (runs_in f join.runs)))) is)
settled_by login items heard Shutdown join come saying acked is stands none all =
    over_hears login (drop heard items) (joined_by come join saying acked) (ap (λ (f : Phase). goes_on (phase_of f) && not (is_off
    (runner_mark (runs_in f join.runs)))) is)
settled_by login items heard (Wrong at) join come saying acked is stands none all =
    over_hears login (drop heard items) (joined_by come join saying acked) (ap (λ (f : Phase). goes_on (phase_of f) && not (is_off
    (runner_mark (runs_in f join.runs)))) is)

-- all was heard that counts, where its map has not come
pub settled : (login : Login) (items : List Item) (heard : ℕ) (join : Join) (come : List ℕ) (saying : Saying) (acked : Option ℕ)
    → JoinStands join come → join.runs ≡ None → (joins_still join ≡ true → heard ≡ length items)
    → heard_all running login (drop heard items) (joined_by come join saying acked) ≡ joined_by come join saying acked
settled login items heard join come saying acked stands none all = settled_by login items heard join.phase join come saying acked refl
    stands none all

pub stands_joined : (phase : Phase) (join : Join) (come : List ℕ) (off : Option Mismatch) (runs : Option K) → off ≡ None → runs ≡ None
    → JoinStandsBy phase join come → join.runs ≡ None → Stands join.stage phase off runs × IsClear join.stage (come ++ join.more.items)
stands_joined Joining join come off runs steady none stands empty = ((stands.before, steady, none), stands.clear)
stands_joined Loaded join come off runs steady none stands empty = absurd (no_map join.runs empty stands.1)
stands_joined (Ended code) join come off runs steady none stands empty = (
  steady,
  subst (λ (x : Stage). IsClear x (come ++
      join.more.items)) (sym stands.1) tt,
)
stands_joined Shutdown join come off runs steady none stands empty = (
  steady,
  subst (λ (x : Stage). IsClear x (come ++ join.more.items))
      (sym stands.1) tt,
)
stands_joined (Wrong at) join come off runs steady none stands empty = (
  steady,
  subst (λ (x : Stage). IsClear x (come ++ join.more.items))
      (sym stands.1) tt,
)

pub door_is : (stage : Stage) (come : List ℕ) (phase : Phase) (off : Option Mismatch) (number company : ℕ) (runs : Option K) (saying :
    Saying)
    (acked : Option ℕ) → phase ≡ Joining → off ≡ None → runs ≡ None
    → seat stage come phase off number company runs saying acked ≡ at_door (place_of stage come) number company saying acked
door_is stage come phase off number company runs saying acked joins steady none =
    ap₂ (λ (f : Phase) (o : Option Mismatch). seat stage come f o number company runs saying acked) joins steady
    ∙ ap (λ (r : Option K). seat stage come Joining None number company r saying acked) none
