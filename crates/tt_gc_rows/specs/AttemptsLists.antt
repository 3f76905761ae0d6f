-- Attempts, way by way: lists of events.
use Rattle.std.specs.Prelude.{List, [], ◌∷◌, codes}
use Rattle.tt_edge.specs.declared.event.Event.{Event}
use Rattle.tt_edge.specs.declared.event.Event.TheVariants.{Shut}
use Rattle.tt_gc_rows.specs.Words.{opens, shows, says, registers, connects, fails, connected, results, says_stun}

-- The code that is asked for names no server.
abbrev pub no_such_server : List Event
no_such_server =
    opens 1 ∷ says 1 (codes "0c0006012b41414141414100") ∷ []

-- So is a text that is no code, and the code of a server that has ended; both are told again.
abbrev pub no_such_code : List Event
no_such_code =
    opens 1 ∷ registers 1 1 3979 [] [] ∷ Shut 1 ∷ opens 2 ∷ connects 2 (codes "hello") ∷ opens 3
    ∷ connects 3 (codes "+9ZDDVF") ∷ []

-- By its code a client is brought to a server of every kind.
abbrev pub every_kind : List Event
every_kind =
    opens 1 ∷ registers 1 0 4001 [] [] ∷ opens 2 ∷ registers 2 2 4002 [] [] ∷ opens 3 ∷ connects 3 (codes "+9ZDDVF")
    ∷ connects 3 (codes "+YPXYD9") ∷ []

-- All ways, each after the failure of the one before.
abbrev pub all_ways_fail : List Event
all_ways_fail =
    opens 1 ∷ registers 1 1 3979 [] [] ∷ opens 2 ∷ connects 2 (codes "+9ZDDVF") ∷ fails 2 (codes "YPXYD99R1") 1
    ∷ results 1 (codes "YPXYD99R1") 0 1 ∷ results 2 (codes "YPXYD99R1") 1 0 ∷ results 2 (codes "YPXYD99R1") 1 1
    ∷ fails 1 (codes "YPXYD99R1") 1 ∷ fails 1 (codes "YPXYD99R1") 3 ∷ []

-- Once both are told where to connect the server, too, may say that STUN failed.
abbrev pub addresses_fail : List Event
addresses_fail =
    opens 1 ∷ registers 1 1 3979 [] [] ∷ opens 2 ∷ connects 2 (codes "+9ZDDVF") ∷ fails 2 (codes "YPXYD99R1") 1
    ∷ fails 1 (codes "YPXYD99R1") 2 ∷ results 2 (codes "YPXYD99R1") 1 1 ∷ results 1 (codes "YPXYD99R1") 0 1
    ∷ fails 1 (codes "YPXYD99R1") 2 ∷ fails 2 (codes "YPXYD99R1") 3 ∷ []

-- And so may the client.
abbrev pub addresses_fail_the_client : List Event
addresses_fail_the_client =
    opens 1 ∷ registers 1 1 3979 [] [] ∷ opens 2 ∷ connects 2 (codes "+9ZDDVF") ∷ fails 2 (codes "YPXYD99R1") 1
    ∷ results 1 (codes "YPXYD99R1") 0 1 ∷ results 2 (codes "YPXYD99R1") 1 1 ∷ results 2 (codes "YPXYD99R1") 1 0
    ∷ fails 2 (codes "YPXYD99R1") 2 ∷ []

-- A result of the server that isn't ok leads to TURN at once.
abbrev pub refused_by_the_server : List Event
refused_by_the_server =
    opens 1 ∷ registers 1 1 3979 [] [] ∷ opens 2 ∷ connects 2 (codes "+9ZDDVF") ∷ fails 2 (codes "YPXYD99R1") 1
    ∷ results 1 (codes "YPXYD99R1") 0 0 ∷ results 2 (codes "YPXYD99R1") 1 1 ∷ []

-- A way that doesn't apply is passed over: TURN comes after the direct way.
abbrev pub without_the_second : List Event
without_the_second =
    opens 1 ∷ registers 1 1 3979 [] [] ∷ opens 2 ∷ connects 2 (codes "+9ZDDVF") ∷ fails 2 (codes "YPXYD99R1") 1
    ∷ fails 2 (codes "YPXYD99R1") 2 ∷ fails 2 (codes "YPXYD99R1") 3 ∷ []

-- Where STUN applies alone its failure ends the attempt.
abbrev pub second_alone : List Event
second_alone =
    opens 1 ∷ registers 1 1 3979 [] [] ∷ opens 2 ∷ connects 2 (codes "+9ZDDVF") ∷ results 2 (codes "YPXYD99R1") 1 0
    ∷ []

-- Ways that don't apply are passed over.
abbrev pub turn_alone : List Event
turn_alone =
    opens 1 ∷ registers 1 1 3979 [] [] ∷ opens 2 ∷ connects 2 (codes "+9ZDDVF") ∷ fails 1 (codes "YPXYD99R1") 3 ∷ []

-- Where no way applies the attempt fails at once.
abbrev pub no_way : List Event
no_way =
    opens 1 ∷ registers 1 1 3979 [] [] ∷ opens 2 ∷ connects 2 (codes "+9ZDDVF") ∷ []

-- The TURN server that peers are told is the one that the coordinator was made with.
abbrev pub another_turn_server : List Event
another_turn_server =
    opens 1 ∷ registers 1 1 3979 [] [] ∷ opens 2 ∷ connects 2 (codes "+D5MHZK") ∷ fails 2 (codes "N3MBZSCS1") 1
    ∷ results 2 (codes "N3MBZSCS1") 1 0 ∷ []

-- After CLIENT_CONNECTED nothing more is told.
abbrev pub connected_in_time : List Event
connected_in_time =
    opens 1 ∷ registers 1 1 3979 [] [] ∷ opens 2 ∷ connects 2 (codes "+9ZDDVF") ∷ fails 2 (codes "YPXYD99R1") 1
    ∷ connected 2 (codes "YPXYD99R1") ∷ fails 2 (codes "YPXYD99R1") 1 ∷ results 1 (codes "YPXYD99R1") 0 1
    ∷ fails 2 (codes "YPXYD99R1") 3 ∷ []

-- What a stranger says about a token changes nothing; neither does another tracking number, nor a result from the wrong
-- side, nor the server's failure of the direct way.
abbrev pub strangers : List Event
strangers =
    opens 1 ∷ registers 1 1 3979 [] [] ∷ opens 2 ∷ connects 2 (codes "+9ZDDVF") ∷ opens 3
    ∷ fails 3 (codes "YPXYD99R1") 1 ∷ connected 3 (codes "YPXYD99R1") ∷ fails 1 (codes "YPXYD99R1") 1
    ∷ fails 2 (codes "YPXYD99R1") 2 ∷ fails 2 (codes "YPXYD99R1") 1 ∷ results 3 (codes "YPXYD99R1") 0 0
    ∷ results 1 (codes "YPXYD99R1") 1 0 ∷ results 2 (codes "YPXYD99R1") 0 0 ∷ []

-- That it is connected counts from the client alone.
abbrev pub server_says_connected : List Event
server_says_connected =
    opens 1 ∷ registers 1 1 3979 [] [] ∷ opens 2 ∷ connects 2 (codes "+9ZDDVF") ∷ connected 1 (codes "YPXYD99R1")
    ∷ fails 2 (codes "YPXYD99R1") 1 ∷ []

-- A server connects to itself, and ends: all of it is silent.
abbrev pub of_itself : List Event
of_itself =
    opens 1 ∷ registers 1 1 3979 [] [] ∷ connects 1 (codes "+9ZDDVF") ∷ fails 1 (codes "YPXYD99R1") 1 ∷ Shut 1 ∷ []

-- A server that connects to itself is told as both, as the server first.
abbrev pub of_itself_by_stun : List Event
of_itself_by_stun =
    opens 1 ∷ registers 1 1 3979 [] [] ∷ connects 1 (codes "+9ZDDVF") ∷ fails 1 (codes "YPXYD99R1") 1
    ∷ results 1 (codes "YPXYD99R1") 0 1 ∷ results 1 (codes "YPXYD99R1") 1 1 ∷ []

-- A client may try again; the next attempt has a token of its own, and the number is not used up by a refusal.
abbrev pub another_attempt : List Event
another_attempt =
    opens 1 ∷ registers 1 1 3979 [] [] ∷ opens 2 ∷ connects 2 (codes "+9ZDDVF") ∷ fails 2 (codes "YPXYD99R1") 9
    ∷ opens 3 ∷ connects 3 (codes "+AAAAAA") ∷ connects 2 (codes "+9ZDDVF") ∷ fails 2 (codes "LDRWP49P2") 1 ∷ []

-- A client is brought to a server directly.
abbrev pub connected_directly : List Event
connected_directly =
    opens 1 ∷ registers 1 1 3979 [] [] ∷ opens 2 ∷ connects 2 (codes "+9ZDDVF") ∷ connected 2 (codes "YPXYD99R1") ∷ []

-- By STUN, where both show themselves to the desk.
abbrev pub connected_by_stun : List Event
connected_by_stun =
    opens 1 ∷ registers 1 1 3979 [] [] ∷ opens 2 ∷ connects 2 (codes "+9ZDDVF") ∷ fails 2 (codes "YPXYD99R1") 1
    ∷ shows 1 ∷ says_stun 3 (codes "YPXYD99R1") 0 ∷ results 1 (codes "YPXYD99R1") 0 1 ∷ shows 2
    ∷ says_stun 4 (codes "YPXYD99R1") 1 ∷ results 2 (codes "YPXYD99R1") 1 1 ∷ connected 2 (codes "YPXYD99R1") ∷ []

-- And by TURN, where the server doesn't reach the desk.
abbrev pub connected_by_turn : List Event
connected_by_turn =
    opens 1 ∷ registers 1 1 3979 [] [] ∷ opens 2 ∷ connects 2 (codes "+9ZDDVF") ∷ fails 2 (codes "YPXYD99R1") 1
    ∷ results 1 (codes "YPXYD99R1") 0 0 ∷ connected 2 (codes "YPXYD99R1") ∷ []
