-- What a client makes of items, worked out beside it.
use Rattle.std.specs.Prelude.{◌≡◌, ℕ, Bool, true, false, if◌then◌else◌, ◌==◌, List, [], ◌++◌, Option, Some, None, IsSome}
use Rattle.tt_lockstep.specs.Runner.{Kept, Runner, RunnerJoining, RunnerRunning}
use Rattle.tt_game.specs.declared.message.GameMsg.{GameMsg}
use Rattle.tt_game.specs.declared.message.GameMsg.TheVariants.{ServerMapData}
use Rattle.tt_world.specs.declared.command.Entry.{Entry}
use Rattle.tt_world.specs.World.{WorldState}
use Rattle.tt_log.specs.Shown.{Item, goes_on}
use Rattle.tt_log.specs.Shown as book
use Rattle.tt_client.specs.declared.stage.Stage.{Stage}
use Rattle.tt_client.specs.declared.stage.Stage.TheVariants.{Asking, Greeted, Begun, Fetching, InPlay, Parted}
use Rattle.tt_client.specs.declared.stage.Phase.{Phase}
use Rattle.tt_client.specs.declared.stage.Phase.TheVariants.{Joining, Loaded}
use Rattle.tt_client.specs.declared.running.Mismatch.{Mismatch}
use Rattle.tt_client.specs.declared.play.Play.{Play}
use Rattle.tt_client.specs.declared.join.Join.{Join}
use Rattle.tt_client.specs.Hearing.{with_news}
use Rattle.tt_client.specs.Held.{IsBeforeMap, off_or, phase_of, place_of, unmapped}
use Rattle.tt_client.specs.Player.{Player}
use Rattle.tt_client.specs.Saying.{Saying, spelling, with_bytes, with_token}

-- the bytes of a message that is said, if one is
abbrev pub bytes_said : Option GameMsg → List ℕ
bytes_said None = []
bytes_said (Some msg) = spelling msg

-- ---- in the game

-- the later of two tokens, where 0 is none
abbrev pub later_token : ℕ → ℕ → ℕ
later_token old new = if new == 0 then old else new

-- the place of who plays, or played to its end
abbrev pub place_on : Bool → book.Place
place_on true = book.InPlay
place_on false = book.Parted

-- a client in the game
abbrev pub in_play : Kept WorldState Entry → ℕ → ℕ → Saying → Option ℕ → Player (Runner WorldState Entry)
in_play k number company saying acked = record {
  place = book.InPlay;
  phase = book.Loaded;
  number = number;
  company = company;
  runs = RunnerRunning k;
  saying = saying;
  acked = acked;
}

-- a client that was so when it began to hear, and then made this of what it heard
abbrev pub played : Kept WorldState Entry → Play → Saying → Option ℕ → Player (Runner WorldState Entry)
played k play saying acked = record {
  place = place_on (goes_on (phase_of play.phase));
  phase = phase_of play.phase;
  number = play.number;
  company = play.company;
  runs = off_or play.off play.phase (with_news k play.news);
  saying = with_token play.token saying;
  acked = acked;
}

-- it plays, or has ended and isn't out of step
abbrev pub PlayStands : Phase → Option Mismatch → Type 0
PlayStands Joining off = ⊥
PlayStands Loaded off = Unit
PlayStands other off = off ≡ None

-- ---- before the map

-- what runs, where the map came whole
abbrev pub runs_in : Phase → Option (Kept WorldState Entry) → Runner WorldState Entry
runs_in phase None = unmapped phase
runs_in phase (Some k) = RunnerRunning k

-- a client that joins
abbrev pub at_door : book.Place → ℕ → ℕ → Saying → Option ℕ → Player (Runner WorldState Entry)
at_door place number company saying acked = record {
  place = place;
  phase = book.Joining;
  number = number;
  company = company;
  runs = RunnerJoining;
  saying = saying;
  acked = acked;
}

-- a client to which these bytes of its map had come when it began to hear, and what it made of what it heard
abbrev pub joined_by : List ℕ → Join → Saying → Option ℕ → Player (Runner WorldState Entry)
joined_by come join saying acked = record {
  place = place_of join.stage (come ++ join.more.items);
  phase = phase_of join.phase;
  number = join.number;
  company = join.company;
  runs = runs_in join.phase join.runs;
  saying = with_bytes join.answers.items saying;
  acked = acked;
}

-- before the map comes, none of its bytes has come
abbrev pub IsClear : Stage → List ℕ → Type 0
IsClear Asking come = come ≡ []
IsClear Greeted come = come ≡ []
IsClear (Begun frame) come = come ≡ []
IsClear other come = Unit

-- the bytes of the map that come with a message
abbrev pub map_bytes : Stage → GameMsg → List ℕ
map_bytes (Fetching frame size) (ServerMapData rest) = rest
map_bytes stage other = []

-- it has no map yet, and goes on
pub record IsJoining (join : Join) (come : List ℕ) : Type 0 where
  pub joins : join.phase ≡ Joining
  pub none : join.runs ≡ None
  pub before : IsBeforeMap join.stage
  pub clear : IsClear join.stage (come ++ join.more.items)

-- it joins still
abbrev pub joining_still : Phase → Bool
joining_still Joining = true
joining_still other = false

abbrev pub joins_still : Join → Bool
joins_still join = joining_still join.phase

-- it joins, has its map, or has ended
abbrev pub JoinStandsBy : Phase → Join → List ℕ → Type 0
JoinStandsBy Joining join come = IsJoining join come
JoinStandsBy Loaded join come = (join.stage ≡ InPlay) × IsSome join.runs
JoinStandsBy other join come = (join.runs ≡ None) × (join.stage ≡ Parted)

abbrev pub JoinStands : Join → List ℕ → Type 0
JoinStands join come = JoinStandsBy join.phase join come
