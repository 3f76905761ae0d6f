-- What a script means: its lines, done in order.
use Rattle.std.specs.Prelude.{ℕ, ◌+◌, Bool, false, not, ◌||◌, ◌==◌, List, [], ◌∷◌, ◌++◌, length, map, drop, replicate, fold}
use Rattle.std.specs.Prelude.{if◌then◌else◌, Option, Some, None, is_some}
use Rattle.tt_client.specs.Calls.{Advance, Take}
use Rattle.tt_client.specs.Held.{Held}
use Rattle.tt_client.specs.declared.login.Login.{Login}
use Rattle.tt_frame.specs.Packet.{Packet}
use Rattle.tt_frame.specs.Stream.{End, rest_of, bad_size}
use Rattle.tt_frame.specs.StreamReading.{reading}
use Rattle.tt_edge.specs.declared.event.Door.{Door}
use Rattle.tt_edge.specs.declared.event.Door.TheVariants as door
use Rattle.tt_edge.specs.declared.event.Peer.{Peer}
use Rattle.tt_edge.specs.declared.event.Event.{Event}
use Rattle.tt_edge.specs.declared.event.Event.TheVariants as event
use Rattle.tt_edge.specs.Event.{opens}
use Rattle.tt_log.specs.Origin.{Origin}
use Rattle.tt_log.specs.History.{table_of}
use Rattle.tt_log.specs.Table as table
use Rattle.tt_log.specs.Told.{sent}
use Rattle.tt_log.specs.declared.script.line.Line1.{Line1}
use Rattle.tt_log.specs.declared.script.line.Line1.TheVariants.{Open, Side, Bytes, Shut, Tick, Stop, Join, Up, Down, Run, Pump, Do, Forge}
use Rattle.tt_log.specs.declared.script.line.Line1.TheVariants.{Expect}
use Rattle.tt_playing.specs.Attached.{Attached, called, changed, client_in, fresh, handed, login_of, misled, ordered, runs_with}
use Rattle.tt_playing.specs.Attached.{waiting_in, with_client}

-- the events so far, all bytes that were fed to each connection, the client that is attached to it, if one is, and how many lines
-- were refused
pub record Played : Type 0 where
  pub events : List Event
  pub fed : ℕ → List ℕ
  pub clients : ℕ → Option Attached
  pub refused : ℕ

-- nothing was done yet
abbrev pub nothing : Played
nothing = record { events = []; fed = λ conn. []; clients = λ conn. None; refused = 0 }

-- ---- how the game stands behind some events

abbrev pub is_live : Origin → List Event → ℕ → Bool
is_live o events conn = table.is_live (table_of o events) conn

abbrev pub is_over : Origin → List Event → Bool
is_over o events = (table_of o events).over

-- more events, in order, each as long as this holds before it
abbrev pub as_long_as : (List Event → Bool) → List Event → List Event → List Event
as_long_as goes_on events [] = events
as_long_as goes_on events (e ∷ more) = if goes_on events then as_long_as goes_on (events ++ e ∷ []) more else events

-- more events of a connection, until it has ended
abbrev pub until_ended : Origin → ℕ → List Event → List Event → List Event
until_ended o conn events more = as_long_as (λ es. is_live o es conn) events more

-- more events, until the game is over
abbrev pub until_over : Origin → List Event → List Event → List Event
until_over o events more = as_long_as (λ es. not (is_over o es)) events more

-- ---- the stream of a connection

-- the largest packet that is read
abbrev pub reader_limit : ℕ
reader_limit = 32767

-- what a packet is for the server
abbrev pub packet_event : ℕ → Packet → Event
packet_event conn p = event.Packet conn p.kind p.body

-- what stands behind the packets of a stream: a bad size breaks it
abbrev pub end_events : ℕ → End → List Event
end_events conn (rest_of rest) = []
end_events conn (bad_size n) = event.Broken conn ∷ []

-- the events of a connection's whole stream
abbrev pub stream_events : ℕ → List ℕ → List Event
stream_events conn bytes = let read = reading reader_limit bytes in map (packet_event conn) read.0 ++ end_events conn read.1

-- the events that a piece adds to those of the bytes before it
abbrev pub added : ℕ → List ℕ → List ℕ → List Event
added conn fed piece = drop (length (stream_events conn fed)) (stream_events conn (fed ++ piece))

-- ---- which lines are refused

-- a connection is not live, or the game is over
abbrev pub is_gone : Origin → List Event → ℕ → Bool
is_gone o events conn = is_over o events || not (is_live o events conn)

-- A line is refused where its opening, its event or its piece finds the game over; where it feeds or closes a connection that is not
-- live; where it asks for a client, and none is attached; and where it has a command, and the client does not run. No other line is
-- refused. That is said by whether the game is over, by which connections are gone, and by the client that each has.
abbrev pub refuses : Bool → (ℕ → Bool) → (ℕ → Option Held) → Line1 → Bool
refuses over gone client Open = over
refuses over gone client Side = over
refuses over gone client (Bytes conn piece) = gone conn
refuses over gone client (Shut conn) = gone conn
refuses over gone client (Tick n) = over
refuses over gone client Stop = over
refuses over gone client (Join name company password own) = over
refuses over gone client (Up conn n) = gone conn || not (is_some (client conn))
refuses over gone client (Down conn n) = not (is_some (client conn))
refuses over gone client (Run conn n) = not (is_some (client conn))
refuses over gone client (Pump conn) = not (is_some (client conn))
refuses over gone client (Do conn command) = not (runs_with (client conn))
refuses over gone client (Forge conn bytes) = not (is_some (client conn))
refuses over gone client (Expect line) = false

abbrev pub is_refused : Origin → Played → Line1 → Bool
is_refused o p line = refuses (is_over o p.events) (is_gone o p.events) (λ conn. client_in (p.clients conn)) line

-- ---- what the other lines do: events

abbrev pub with_event : Event → Played → Played
with_event e p = record p { events = p.events ++ e ∷ [] }

-- every opening of a script comes from nowhere
abbrev pub nobody : Peer
nobody = record { host = 0 ∷ 0 ∷ 0 ∷ 0 ∷ []; port = 0 }

abbrev pub opened : Door → Played → Played
opened at p = with_event (event.Open at nobody) p

-- a piece more was fed to a connection
abbrev pub fed_more : ℕ → List ℕ → (ℕ → List ℕ) → ℕ → List ℕ
fed_more conn piece fed other = if other == conn then fed other ++ piece else fed other

-- the piece's packets, joined with what came before it; what stands behind the connection's end is lost
abbrev pub with_piece : Origin → ℕ → List ℕ → Played → Played
with_piece o conn piece p =
    record p { events = until_ended o conn p.events (added conn (p.fed conn) piece); fed = fed_more conn piece p.fed }

-- a game that is over runs no tick more
abbrev pub with_ticks : Origin → ℕ → Played → Played
with_ticks o n p = record p { events = until_over o p.events (replicate n event.Tick) }

-- ---- what they do: attached clients

-- the client of a connection is changed, where one is attached
abbrev pub on_client : ℕ → (Attached → Attached) → Played → Played
on_client conn change p = record p { clients = with_client conn (changed change (p.clients conn)) p.clients }

-- a connection at the main door, with a client
abbrev pub joined : Login → Played → Played
joined login p = let q = opened door.Main p in record q { clients = with_client (opens q.events) (Some (fresh login)) q.clients }

-- at most so many of the client's bytes, to its connection as one piece
abbrev pub brought_up : Origin → ℕ → ℕ → Played → Played
brought_up o conn n p =
    let piece = waiting_in n (client_in (p.clients conn)) in
    with_piece o conn piece (on_client conn (called (Take (length piece))) p)

-- at most so many of the connection's bytes, to its client as one piece
abbrev pub brought_down : Origin → ℕ → ℕ → Played → Played
brought_down o conn n p = on_client conn (handed n (sent o p.events conn)) p

-- as many as there are
abbrev pub most : ℕ
most = 4294967295

-- down and run, as far as they go; and up, where the connection is live
abbrev pub pumped : Origin → ℕ → Played → Played
pumped o conn p =
    let run = on_client conn (called (Advance most)) (brought_down o conn most p) in
    if is_gone o p.events conn then run else brought_up o conn most run

-- ---- what each does, and the lines

-- An expected line does nothing.
abbrev pub did : Origin → Played → Line1 → Played
did o p Open = opened door.Main p
did o p Side = opened door.Side p
did o p (Bytes conn piece) = with_piece o conn piece p
did o p (Shut conn) = with_event (event.Shut conn) p
did o p (Tick n) = with_ticks o n p
did o p Stop = with_event event.Stop p
did o p (Join name company password own) = joined (login_of o.setup name company password own) p
did o p (Up conn n) = brought_up o conn n p
did o p (Down conn n) = brought_down o conn n p
did o p (Run conn n) = on_client conn (called (Advance n)) p
did o p (Pump conn) = pumped o conn p
did o p (Do conn command) = on_client conn (ordered command) p
did o p (Forge conn bytes) = on_client conn (misled bytes) p
did o p (Expect line) = p

abbrev pub one_refused : Played → Played
one_refused p = record p { refused = p.refused + 1 }

-- a line of a game that is made from this; one that is refused is counted, and changes nothing else
abbrev pub done : Origin → Played → Line1 → Played
done o p line = if is_refused o p line then one_refused p else did o p line

abbrev pub played : Origin → List Line1 → Played
played o lines = fold (done o) nothing lines
