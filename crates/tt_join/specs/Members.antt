-- What the members of a game are seen as, and which plans they can put in force.
use Rattle.std.specs.Prelude.{ℕ, ◌<◌, ◌≤◌, ◌^◌, ◌==◌, Bool, length, is_some, List, find}
use Rattle.tt_world.specs.declared.setup.Setup.{Setup}
use Rattle.tt_members.specs.Crew.{Crew, founders_in}
use Rattle.tt_members.specs.Steps.{stamped_in}
use Rattle.tt_members.specs.Planned.{Planned}
use Rattle.tt_members.specs.Done.{counted, members_behind, renamed}
use Rattle.tt_members.specs.Rules.{Rise, HasRoom}

-- for how many more of each list there is room
pub record Room : Type 0 where
  pub members : ℕ
  pub queue : ℕ
  pub digests : ℕ
  pub own : ℕ
  pub founders : ℕ

pub record Kept : Type 0 where
  pub setup : Setup
  pub crew : Crew
  pub room : Room

-- whether a company has a digest
abbrev pub is_locked : List (ℕ × List ℕ) → ℕ → Bool
is_locked digests company = is_some (find (λ (d : ℕ × List ℕ). d.0 == company) digests)

-- the members and the numbers of clients are in order behind a plan, and the command that waits has room
pub record IsOrdered (crew : Crew) (p : Planned) : Type 0 where
  pub rise : Rise (members_behind p crew.members)
  pub few : counted p.counts crew.clients < 2 ^ 32
  pub waits : HasRoom p.offers (renamed p.names crew.members)

-- a plan that these members can put in force: each list has room, and all is in order behind it
pub record IsNext (k : Kept) (p : Planned) : Type 0 where
  pub ordered : IsOrdered k.crew p
  pub members : 1 ≤ k.room.members
  pub queue : 1 ≤ k.room.queue
  pub digests : 1 ≤ k.room.digests
  pub own : 1 ≤ k.room.own
  pub founders : length (founders_in (stamped_in p.steps)) ≤ k.room.founders
