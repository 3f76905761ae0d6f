-- What comes to the members, and the rule of each.
use Rattle.std.specs.Prelude.{◌≡◌, ℕ, ◌+◌, ◌<◌, ◌≤◌, List, length, Some, None}
use Rattle.std.specs.List.{AllByRecursion}
use Rattle.tt_world.specs.declared.setup.Setup.{Setup}
use Rattle.tt_world.specs.World.{WorldState}
use Rattle.tt_rules.specs.Codes.{connection_lost}
use Rattle.tt_rules.specs.Companies.{living}
use Rattle.tt_log.specs.Origin.{Origin, above}
use Rattle.tt_log.specs.Member.{Member}
use Rattle.tt_log.specs.Table.{Table, member_of, member_with, living_in, world_of}
use Rattle.tt_log.specs.Deed.{Deed, ◌▹◌, where_some}
use Rattle.tt_log.specs.Ending.{ends_untold}
use Rattle.tt_log.specs.PacketRules.{chats}
use Rattle.tt_log.specs.Console.{orders, kicks_out}
use Rattle.tt_log.specs.Watching.{sees_frame}
use Rattle.tt_log.specs.Downloads.{IsQueue}
use Rattle.tt_log.specs.Tick.{stamped, frame_runs, founders_moved, synced, mapped, timed, left_of}
use Rattle.tt_log.specs.Events.{opened, heard}
use Rattle.tt_members.specs.Crew.{Crew, Rest, origin_at, table_at, founders_in}
use Rattle.tt_members.specs.Planned.{Planned}
use Rattle.tt_members.specs.Done.{Does}
use Rattle.tt_join.specs.declared.input.Input.{Input}
use Rattle.tt_join.specs.declared.input.Input.TheVariants.{Open, Msg, Bad, Shut, Own, Kick, Say, Tick}
use Rattle.tt_join.specs.declared.input.Now.{Now}

-- of a tick all that concerns members: its steps but for the limits of admins and what they are told of periods
abbrev pub members_follow : WorldState → List ℕ → Origin → Table → Deed
members_follow before left o t = founders_moved o (living before) t ▹ synced o ▹ mapped left ▹ timed o

abbrev pub members_ticked : Origin → Table → Deed
members_ticked o t = stamped t ▹ frame_runs o ▹ sees_frame ▹ members_follow (world_of o t) (left_of o t) o

abbrev pub by_input : Input → Origin → Table → Deed
by_input (Open conn) o t = opened o t
by_input (Msg conn msg) o t = where_some (member_of t conn) (heard o (Some msg)) t
by_input (Bad conn) o t = where_some (member_of t conn) (heard o None) t
by_input (Shut conn) o t = where_some (member_of t conn) (λ m. ends_untold m connection_lost) t
by_input (Own command) o t = orders command t
by_input (Kick client) o t = where_some (member_with client t) kicks_out t
by_input (Say scope to text) o t = chats 1 scope to text t
by_input Tick o t = members_ticked o t

-- ---- where something comes

-- an opening has a number above all that are there
abbrev pub IsAbove : List Member → Input → Type 0
IsAbove ms (Open conn) = (0 < conn) × AllByRecursion (λ m. m.conn < conn) ms
IsAbove ms other = Unit {0}

-- what can be planned: an opening above all that are there, words in one of the three scopes, and a frame more up to the last one
-- that a game permits
abbrev pub IsTaken : List Member → Now → Input → Type 0
IsTaken ms now (Open conn) = IsAbove ms (Open conn)
IsTaken ms now (Say scope to text) = scope ≤ 2
IsTaken ms now Tick = (now.frame ≤ now.top) × (now.top ≤ 4_000_000_064)
IsTaken ms now other = Unit {0}

-- an opening is the next one
abbrev pub IsNextOpening : ℕ → Input → Type 0
IsNextOpening openings (Open conn) = conn ≡ openings + 1
IsNextOpening openings other = Unit {0}

-- a table of which these are the members' part, at a time, where something comes; its queue stands as it does in every game
pub record IsAt (setup : Setup) (crew : Crew) (now : Now) (input : Input) (r : Rest) : Type 0 where
  pub live : living_in (origin_at setup r) (table_at crew now.frame now.top r) ≡ now.live
  -- it is known of each of the fifteen companies whether it lives
  pub many : length now.live ≡ 15
  pub left : length (left_of (origin_at setup r) (table_at crew now.frame now.top r)) ≡ now.left
  pub founders : crew.founders ≡ founders_in (above (origin_at setup r) now.frame r.journal)
  pub queued : IsQueue (table_at crew now.frame now.top r) crew.queue
  pub next : IsNextOpening r.openings input

-- a plan tells what the rule of an input tells, and does what it does, whatever the rest of the table is
abbrev pub Plans : Setup → Crew → Now → Input → Planned → Type 0
Plans setup crew now input p = (r : Rest) → IsAt setup crew now input r → Does setup crew now.frame now.top r (by_input input) p
