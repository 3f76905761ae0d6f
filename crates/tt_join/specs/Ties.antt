-- How the members' part of a game is tied to the whole of it.
use Rattle.std.specs.Prelude.{◌≡◌, ℕ, ◌+◌, Bool, true, false, cond, nat_lt, [], ◌++◌, length, Option, Some, None}
use Rattle.tt_game.specs.declared.message.GameMsg.{GameMsg}
use Rattle.tt_log.specs.Downloads.{IsQueue}
use Rattle.tt_log.specs.Origin.{Origin}
use Rattle.tt_log.specs.Table.{Table, living_in}
use Rattle.tt_log.specs.Tick.{left_of, stamps}
use Rattle.tt_members.specs.Crew.{crew_of}
use Rattle.tt_members.specs.Done.{committed, done}
use Rattle.tt_members.specs.Planned.{Planned}
use Rattle.tt_members.specs.Steps.{steps_in}
use Rattle.tt_join.specs.declared.input.Input.{Input}
use Rattle.tt_join.specs.declared.input.Input.TheVariants.{Open, Msg, Bad, Tick}
use Rattle.tt_join.specs.declared.input.Now.{Now}
use Rattle.tt_join.specs.Inputs.{by_input, IsNextOpening}

-- ---- a plan and the whole game

-- the time of a table at which something comes: the table's own clock, which of its fifteen companies live, and how much of its
-- running download is left. Its queue stands as it does in every game, and an opening is the next one
pub record IsTimeOf (o : Origin) (t : Table) (now : Now) (input : Input) : Type 0 where
  pub frame : now.frame ≡ t.frame
  pub top : now.top ≡ t.top
  pub live : living_in o t ≡ now.live
  pub many : length now.live ≡ 15
  pub left : length (left_of o t) ≡ now.left
  pub queued : IsQueue t t.queue
  pub next : IsNextOpening t.openings input

-- a plan tells what the rule tells. It makes of the whole table what the rule makes of it, and put in force it makes of the
-- members what they are behind the rule
pub record IsTied (o : Origin) (t : Table) (input : Input) (p : Planned) : Type 0 where
  pub told : steps_in t.admins p.steps ≡ (by_input input o t).told
  pub table : done p t ≡ (by_input input o t).table
  pub crew : committed p (crew_of o t) ≡ crew_of o (by_input input o t).table

-- ---- what the rules of members leave

-- what of a table isn't the members'
abbrev pub outside : Table → Table
outside t = record t { members = []; queue = []; digests = []; own = []; tokens = (0, 0); clients = 0 }

-- a frame runs: what waited is in the journal, and where the frame passes the greatest permitted one this is raised
abbrev pub run : Origin → Table → Table
run o t = record t {
  journal = t.journal ++ stamps t;
  frame = t.frame + 1;
  top = cond (nat_lt t.top (t.frame + 1)) (t.frame + 1 + o.setup.frame_freq) t.top;
}

-- an opening is counted, a tick runs a frame, and nothing else changes what isn't the members'
abbrev pub outside_by : Input → Origin → Table → Table
outside_by (Open conn) o t = outside (record t { openings = t.openings + 1 })
outside_by Tick o t = outside (run o t)
outside_by other o t = outside t

-- ---- packets

-- what a packet on a connection is to the members, by the message that it spells
abbrev pub packet_input : ℕ → Option GameMsg → Input
packet_input conn None = Bad conn
packet_input conn (Some msg) = Msg conn msg
