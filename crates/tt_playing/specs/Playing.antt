-- What a play is behind some lines.
use Rattle.std.specs.Prelude.{◌≡◌, ◌+◌, ◌<◌, ◌≤◌, ℕ, zero, suc, Bool, true, Option, Some, None, List, [], length, take, slice_get}
use Rattle.std.specs.Prelude.{slice_index_or}
use Rattle.tt_frame.specs.Packet.{IsBytes}
use Rattle.tt_frame.specs.Stream.{rest_of}
use Rattle.tt_frame.specs.StreamReading.{reading}
use Rattle.tt_edge.specs.Event.{opens}
use Rattle.tt_client.specs.Held.{Held}
use Rattle.tt_hub.specs.Hub.{origin, taken}
use Rattle.tt_log.specs.Contents.{Contents}
use Rattle.tt_log.specs.Doors.{door_of}
use Rattle.tt_log.specs.Origin.{Origin}
use Rattle.tt_log.specs.Script.{Spells}
use Rattle.tt_log.specs.Told.{sent}
use Rattle.tt_log.specs.declared.script.line.Line1.{Line1}
use Rattle.tt_playing.specs.declared.play.Play.{Play}
use Rattle.tt_playing.specs.declared.play.Connection.{Connection}
use Rattle.tt_playing.specs.Attached.{client_in, given_in}
use Rattle.tt_playing.specs.Begun.{origin_in}
use Rattle.tt_playing.specs.Played.{Played, reader_limit, is_gone, is_live, is_over, played, refuses}

-- What is kept of the connection with this number: its door; while it is live, the rest of its stream; and its client, if one is
-- attached. No more was handed to the client than was sent; and where it is asked for, that is kept too.
pub record IsKept (o : Origin) (keeps : Bool) (p : Played) (conn : ℕ) (c : Connection) : Type 0 where
  pub door : door_of p.events conn ≡ Some c.door
  pub bytes : IsBytes (p.fed conn)
  pub held : IsBytes c.rest.items
  pub rest : is_live o p.events conn ≡ true → (reading reader_limit (p.fed conn)).1 ≡ rest_of c.rest.items
  pub client : c.client ≡ client_in (p.clients conn)
  pub within : given_in (p.clients conn) ≤ length (sent o p.events conn)
  pub told : keeps ≡ true → c.told.items ≡ take (given_in (p.clients conn)) (sent o p.events conn)

-- The hub of a game that is made from this has taken these events, and of what it tells that was taken which was handed to clients.
-- Each connection that was opened is kept; nothing was fed to another one, and no client is attached to it.
pub record IsAt (o : Origin) (play : Play) (p : Played) : Type 0 where
  pub made : origin play.hub ≡ o
  pub revision : play.revision ≡ o.setup.revision
  pub events : play.hub.events ≡ p.events
  pub given : (conn : ℕ) → taken play.hub conn ≡ given_in (p.clients conn)
  pub refused : play.refused ≡ p.refused
  pub count : length play.connections.items ≡ opens p.events
  pub each : (place : ℕ) (other : Connection) → place < length play.connections.items
      → IsKept o play.keeps p (place + 1) (slice_index_or play.connections.items place other)
  pub unfed : (conn : ℕ) → opens p.events < conn → p.fed conn ≡ []
  pub bare : (conn : ℕ) → opens p.events < conn → p.clients conn ≡ None
  pub none : p.clients 0 ≡ None

-- the client of a connection, as the code has it
abbrev pub client_on : Option Connection → Option Held
client_on None = None
client_on (Some c) = c.client

abbrev pub client_at : Play → ℕ → Option Held
client_at play zero = None
client_at play (suc place) = client_on (slice_get play.connections.items place)

-- whether a line is refused, as the code has it
abbrev pub refused_by : Play → Line1 → Bool
refused_by play line =
    let o = origin play.hub in
    refuses (is_over o play.hub.events) (is_gone o play.hub.events) (client_at play) line

-- it is behind some lines of some game
abbrev pub Stands : Play → Type 0
Stands play = (o : Origin) × (p : Played) × IsAt o play p

-- the lines of an input spell a script, and all of it was done, from its start on
pub record PlayedTo (texts : List (List ℕ)) (play : Play) : Type 0 where
  pub script : Contents
  pub spelled : Spells script texts
  pub at : IsAt (origin_in script) play (played (origin_in script) script.lines)
