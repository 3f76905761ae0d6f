-- The server's table: all that the rules speak of, but for the world and bytes.
use Rattle.std.specs.Prelude.{ℕ, Bool, false, not, ◌==◌, ◌||◌, cond, List, [], ◌∷◌, ◌++◌, map, filter, find, length, Option, Some, None}
use Rattle.std.specs.Prelude.{is_some, option_map}
use Rattle.tt_world.specs.declared.command.Command.{Command}
use Rattle.tt_world.specs.declared.command.Entry.{Entry}
use Rattle.tt_world.specs.World.{WorldState}
use Rattle.tt_rules.specs.Companies.{living}
use Rattle.tt_log.specs.Origin.{Origin, world_at}
use Rattle.tt_rules.specs.declared.status.Status.{Status}
use Rattle.tt_rules.specs.declared.status.Status.TheVariants.{Map}
use Rattle.tt_log.specs.Member.{Member, is_in, is_playing, is_welcomed}
use Rattle.tt_log.specs.Admin.{Admin}

pub record Table : Type 0 where
  -- in order of arrival
  pub members : List Member
  -- the admins, in order of arrival
  pub admins : List Admin
  -- the connections that asked for the map, in order; the first one downloads
  pub queue : List ℕ
  -- the companies with a password, each with its digest
  pub digests : List (ℕ × List ℕ)
  -- the server's own list of commands that wait
  pub own : List Command
  -- the random words of the tokens
  pub tokens : ℕ × ℕ
  pub journal : List Entry
  pub frame : ℕ
  -- the greatest permitted frame
  pub top : ℕ
  -- connections opened so far, and the last client number given
  pub openings : ℕ
  pub clients : ℕ
  -- what the events so far cost
  pub cost : ℕ
  pub over : Bool

-- nobody is there; the server itself is client 1, and the words of the tokens are the seed
abbrev pub first : Origin → Table
first o = record {
  members = [];
  admins = [];
  queue = [];
  digests = [];
  own = [];
  tokens = (o.setup.seed, o.setup.seed);
  journal = [];
  frame = 0;
  top = 0;
  openings = 0;
  clients = 1;
  cost = 0;
  over = false;
}

-- the world: that of the journal at the table's frame
abbrev pub world_of : Origin → Table → WorldState
world_of o t = world_at o t.journal t.frame

-- its live companies
abbrev pub living_in : Origin → Table → List Bool
living_in o t = living (world_of o t)

-- how many companies live
abbrev pub count_living : List Bool → ℕ
count_living live = length (filter (λ (lives : Bool). lives) live)

-- ---- members and admins

abbrev pub is_on : ℕ → Member → Bool
is_on conn m = m.conn == conn

abbrev pub member_of : Table → ℕ → Option Member
member_of t conn = find (is_on conn) t.members

abbrev pub is_admin_on : ℕ → Admin → Bool
is_admin_on conn a = a.conn == conn

abbrev pub admin_of : Table → ℕ → Option Admin
admin_of t conn = find (is_admin_on conn) t.admins

-- the member that has a client number
abbrev pub member_with : ℕ → Table → Option Member
member_with client t = find (λ m. m.client == client) t.members

-- a connection is live while a member or an admin is on it
abbrev pub is_live : Table → ℕ → Bool
is_live t conn = is_some (member_of t conn) || is_some (admin_of t conn)

-- S: the connections of the members that play, in order of arrival
abbrev pub playing : Table → List ℕ
playing t = map (λ m. m.conn) (filter is_playing t.members)

-- the welcomed members, in order of arrival
abbrev pub welcomed : Table → List Member
welcomed t = filter is_welcomed t.members

-- the table with a member in the place of the one on its connection
abbrev pub with_member : Member → Table → Table
with_member m t = record t { members = map (λ n. cond (n.conn == m.conn) m n) t.members }

abbrev pub without_member : ℕ → Table → Table
without_member conn t = record t { members = filter (λ m. not (is_on conn m)) t.members }

-- the table with an admin in the place of the one on its connection
abbrev pub with_admin : Admin → Table → Table
with_admin a t = record t { admins = map (λ b. cond (b.conn == a.conn) a b) t.admins }

abbrev pub without_admin : ℕ → Table → Table
without_admin conn t = record t { admins = filter (λ a. not (is_admin_on conn a)) t.admins }

-- a member with a status that begins now
abbrev pub now_in : Status → Table → Member → Member
now_in status t m = record m { status = status; since = t.frame }

-- ---- the download

abbrev pub if_loading : Option Member → Option Member
if_loading None = None
if_loading (Some m) = cond (is_in Map m) (Some m) None

abbrev pub first_loading : List ℕ → Table → Option Member
first_loading [] t = None
first_loading (conn ∷ conns) t = if_loading (member_of t conn)

-- the member that downloads: the first of the queue, until it was told its map whole
abbrev pub downloader : Table → Option Member
downloader t = first_loading t.queue t

-- ---- company passwords

abbrev pub digest_of : Table → ℕ → Option (List ℕ)
digest_of t company = option_map (λ (d : ℕ × List ℕ). d.1) (find (λ (d : ℕ × List ℕ). d.0 == company) t.digests)

abbrev pub option_list : {A : Type 0} → Option A → List A
option_list Option.None = []
option_list (Option.Some x) = x ∷ []

-- the table in which the company has this digest, or none
abbrev pub with_digest : ℕ → Option (List ℕ) → Table → Table
with_digest company digest t = record t {
  digests = filter (λ (d : ℕ × List ℕ). not (d.0 == company)) t.digests
      ++ option_list (option_map (λ (d : List ℕ). (company, d)) digest);
}
