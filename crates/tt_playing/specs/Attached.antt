-- Clients that a script attaches to its connections.
use Rattle.std.specs.Prelude.{ℕ, ◌+◌, Bool, true, false, ◌==◌, List, [], ◌∷◌, ◌++◌, take, drop, length, Option, Some, None}
use Rattle.std.specs.Prelude.{if◌then◌else◌}
use Rattle.tt_client.specs.Calls.{Call, Feed, Submit}
use Rattle.tt_client.specs.Held.{Held, held, with_call}
use Rattle.tt_client.specs.Saying.{IsSaying, bytes_of}
use Rattle.tt_client.specs.State.{state_of, is_running}
use Rattle.tt_client.specs.declared.login.Login.{Login}
use Rattle.tt_world.specs.declared.command.Command.{Command}
use Rattle.tt_world.specs.declared.setup.Setup.{Setup}

-- what an attached client joined with, all calls of it in order, how many bytes of what its connection is sent were handed to it,
-- and whether bytes came to it that are not of its stream
pub record Attached : Type 0 where
  pub login : Login
  pub calls : List Call
  pub given : ℕ
  pub forged : Bool

-- the client, from scratch over its calls
abbrev pub client_of : Attached → Held
client_of a = held a.login a.calls

-- the version of its NewGRF files that every client of a script joins with
abbrev pub script_grf : ℕ
script_grf = 13

-- what a `join` line says, in a game with this setup
abbrev pub login_of : Setup → List ℕ → ℕ → List ℕ → List ℕ → Login
login_of setup name company password own = record {
  revision = setup.revision;
  grf = script_grf;
  name = name;
  company = company;
  password = password;
  company_password = own;
}

abbrev pub fresh : Login → Attached
fresh login = record { login = login; calls = []; given = 0; forged = false }

-- one call more
abbrev pub called : Call → Attached → Attached
called c a = record a { calls = a.calls ++ c ∷ [] }

-- the next bytes, at most so many, of all that its connection is sent
abbrev pub next_of : ℕ → List ℕ → Attached → List ℕ
next_of n told a = take n (drop a.given told)

-- they are handed to it, as one piece
abbrev pub handed : ℕ → List ℕ → Attached → Attached
handed n told a = record (called (Feed (next_of n told a)) a) { given = a.given + length (next_of n told a) }

-- bytes that are not of its stream
abbrev pub misled : List ℕ → Attached → Attached
misled bytes a = record (called (Feed bytes) a) { forged = true }

-- a command for its own company
abbrev pub ordered : Command → Attached → Attached
ordered command a = called (Submit (client_of a).player.company command) a

-- ---- a connection, where one may be attached

abbrev pub given_in : Option Attached → ℕ
given_in None = 0
given_in (Some a) = a.given

abbrev pub client_in : Option Attached → Option Held
client_in None = None
client_in (Some a) = Some (client_of a)

abbrev pub changed : (Attached → Attached) → Option Attached → Option Attached
changed change None = None
changed change (Some a) = Some (change a)

-- another one on a connection
abbrev pub with_client : ℕ → Option Attached → (ℕ → Option Attached) → ℕ → Option Attached
with_client conn client clients other = if other == conn then client else clients other

-- ---- a client, where there may be one

-- behind a call
abbrev pub after_call : Call → Option Held → Option Held
after_call c None = None
after_call c (Some h) = Some (with_call h c)

-- and behind a command for its own company
abbrev pub after_order : Command → Option Held → Option Held
after_order command None = None
after_order command (Some h) = Some (with_call h (Submit h.player.company command))

abbrev pub runs_with : Option Held → Bool
runs_with None = false
runs_with (Some h) = is_running (state_of h.player)

-- at most so many of the bytes that it has to say
abbrev pub waiting_in : ℕ → Option Held → List ℕ
waiting_in n None = []
waiting_in n (Some h) = take n (bytes_of h.player.saying)

-- what waits there is laid out as what any client has to say is
abbrev pub AreSayings : Option Held → Type 0
AreSayings None = Unit {0}
AreSayings (Some h) = IsSaying h.player.saying
