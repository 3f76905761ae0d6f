-- Ends of connections and of all: lists of events.
use Rattle.std.specs.Prelude.{List, [], ◌∷◌, codes}
use Rattle.tt_edge.specs.declared.event.Event.{Event}
use Rattle.tt_edge.specs.declared.event.Event.TheVariants.{Broken, Shut, Tick, Stop}
use Rattle.tt_gc_rows.specs.Words.{opens, shows, says, registers, updates, lists, connects, fails, results}

-- The server of three open attempts ends: its clients are told so, in the order of the attempts' numbers.
abbrev pub server_with_three : List Event
server_with_three =
    opens 1 ∷ registers 1 1 3979 [] [] ∷ opens 2 ∷ connects 2 (codes "+9ZDDVF") ∷ opens 3
    ∷ connects 3 (codes "+9ZDDVF") ∷ opens 4 ∷ connects 4 (codes "+9ZDDVF") ∷ fails 3 (codes "LDRWP49P2") 1 ∷ Shut 1
    ∷ fails 2 (codes "YPXYD99R1") 1 ∷ []

-- One client asks three times: it is told of the end of each attempt in the order of their numbers.
abbrev pub server_with_one_client : List Event
server_with_one_client =
    opens 1 ∷ registers 1 1 3979 [] [] ∷ opens 2 ∷ connects 2 (codes "+9ZDDVF") ∷ connects 2 (codes "+9ZDDVF")
    ∷ connects 2 (codes "+9ZDDVF") ∷ Broken 1 ∷ []

-- Its client's end ends an attempt untold, and the server is told nothing.
abbrev pub client_ends : List Event
client_ends =
    opens 1 ∷ registers 1 1 3979 [] [] ∷ opens 2 ∷ connects 2 (codes "+9ZDDVF") ∷ fails 2 (codes "YPXYD99R1") 1
    ∷ Shut 2 ∷ results 1 (codes "YPXYD99R1") 0 0 ∷ []

-- A server that says what spells nothing is told so, and its client is told of its end; nobody else is.
abbrev pub server_errs : List Event
server_errs =
    opens 1 ∷ registers 1 1 3979 [] [] ∷ opens 2 ∷ connects 2 (codes "+9ZDDVF") ∷ opens 3 ∷ says 1 (codes "0400c800")
    ∷ Tick ∷ lists 3 (codes "13.4") ∷ []

-- Another version of the protocol spells nothing; so does a number that no message has.
abbrev pub another_version : List Event
another_version =
    opens 1 ∷ says 1 (codes "0a00060241414100") ∷ opens 2 ∷ says 2 (codes "030011") ∷ opens 3 ∷ lists 3 (codes "13.4")
    ∷ []

-- A packet of the coordinator's ends its connection, and so does a broken stream; a connection that breaks at the desk
-- ends untold.
abbrev pub coordinators_packet : List Event
coordinators_packet =
    opens 1 ∷ opens 2 ∷ shows 3 ∷ says 1 (codes "0c0000022b41414141414100") ∷ Broken 2 ∷ Broken 3 ∷ []

-- What an ended connection says is nothing, and what one says that was never opened; a tick changes nothing.
abbrev pub ended_speaks : List Event
ended_speaks =
    opens 1 ∷ registers 1 1 3979 [] [] ∷ Shut 1 ∷ updates 1 (codes "13.4") ∷ lists 7 (codes "13.4") ∷ Shut 1 ∷ Tick
    ∷ opens 2 ∷ lists 2 (codes "13.4") ∷ []

-- At a Stop all end untold, attempts too; what comes then is nothing.
abbrev pub stopped : List Event
stopped =
    opens 1 ∷ registers 1 1 3979 [] [] ∷ opens 2 ∷ connects 2 (codes "+9ZDDVF") ∷ Stop ∷ opens 3
    ∷ connects 2 (codes "+9ZDDVF") ∷ fails 2 (codes "YPXYD99R1") 1 ∷ []

-- So they do after the event that brings the cost to the limit, which is still told what it asked for.
abbrev pub cost_reached : List Event
cost_reached =
    opens 1 ∷ opens 2 ∷ says 1 (codes "0c0006012b41414141414100") ∷ []

-- A tick costs nothing, and neither does an event that isn't taken.
abbrev pub cost_not_reached : List Event
cost_not_reached =
    opens 1 ∷ opens 2 ∷ Tick ∷ Broken 9 ∷ Tick ∷ Shut 8 ∷ []
