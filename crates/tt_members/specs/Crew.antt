-- The members' part of a game's table, and the table that it stands in.
use Rattle.std.specs.Prelude.{ℕ, Bool, List, [], ◌∷◌, ◌++◌}
use Rattle.tt_world.specs.declared.setup.Setup.{Setup}
use Rattle.tt_world.specs.declared.command.Code.{Code}
use Rattle.tt_world.specs.declared.command.Code.TheVariants.{NewCompany}
use Rattle.tt_world.specs.declared.command.Command.{Command}
use Rattle.tt_world.specs.declared.command.Entry.{Entry}
use Rattle.tt_world.specs.World.{WorldState}
use Rattle.tt_log.specs.Origin.{Origin, above}
use Rattle.tt_log.specs.Member.{Member}
use Rattle.tt_log.specs.Admin.{Admin}
use Rattle.tt_log.specs.Table.{Table}

-- what of a table the members keep
pub record Crew : Type 0 where
  -- in order of arrival
  pub members : List Member
  -- the connections that asked for the map, in order
  pub queue : List ℕ
  -- the companies with a password, each with its digest
  pub digests : List (ℕ × List ℕ)
  -- the server's own list of commands that wait
  pub own : List Command
  -- the random words of the tokens
  pub tokens : ℕ × ℕ
  -- the last client number given
  pub clients : ℕ
  -- those who ordered a company that is stamped and not founded yet: the frame, and the client
  pub founders : List (ℕ × ℕ)

-- ---- the founders that a journal holds

abbrev pub founder_by : Code → Entry → List (ℕ × ℕ)
founder_by NewCompany e = (e.frame, e.command.number) ∷ []
founder_by code e = []

-- the frame and the client of each company that entries order
abbrev pub founders_in : List Entry → List (ℕ × ℕ)
founders_in [] = []
founders_in (e ∷ es) = founder_by e.command.code e ++ founders_in es

-- ---- the whole table

-- what of a game the rules of members only pass on: its start, and of its table all else but the frame and the greatest
-- permitted one
pub record Rest : Type 0 where
  pub start : WorldState
  pub admins : List Admin
  pub journal : List Entry
  pub openings : ℕ
  pub cost : ℕ
  pub over : Bool

abbrev pub origin_at : Setup → Rest → Origin
origin_at setup rest = record { setup = setup; start = rest.start }

abbrev pub table_at : Crew → ℕ → ℕ → Rest → Table
table_at crew frame top rest = record {
  members = crew.members;
  admins = rest.admins;
  queue = crew.queue;
  digests = crew.digests;
  own = crew.own;
  tokens = crew.tokens;
  journal = rest.journal;
  frame = frame;
  top = top;
  openings = rest.openings;
  clients = crew.clients;
  cost = rest.cost;
  over = rest.over;
}

-- the members' part of a table
abbrev pub crew_of : Origin → Table → Crew
crew_of o t = record {
  members = t.members;
  queue = t.queue;
  digests = t.digests;
  own = t.own;
  tokens = t.tokens;
  clients = t.clients;
  founders = founders_in (above o t.frame t.journal);
}

-- and the rest of it
abbrev pub rest_of : Origin → Table → Rest
rest_of o t = record { start = o.start; admins = t.admins; journal = t.journal; openings = t.openings; cost = t.cost; over = t.over }
