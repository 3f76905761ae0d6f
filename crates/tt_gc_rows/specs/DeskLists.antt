-- The STUN desk: lists of events.
use Rattle.std.specs.Prelude.{List, [], ◌∷◌, codes}
use Rattle.tt_edge.specs.declared.event.Event.{Event}
use Rattle.tt_edge.specs.declared.event.Event.TheVariants.{Broken, Shut, Tick}
use Rattle.tt_gc_rows.specs.Words.{opens, shows, says, registers, connects, fails, results, says_stun}

-- What the desk noted of the server is told to the client; the client itself is named as it was seen. A connection at the
-- desk ends untold.
abbrev pub shown_at_the_desk : List Event
shown_at_the_desk =
    opens 1 ∷ registers 1 1 3979 [] [] ∷ opens 2 ∷ connects 2 (codes "+9ZDDVF") ∷ fails 2 (codes "YPXYD99R1") 1
    ∷ shows 1 ∷ says_stun 3 (codes "YPXYD99R1") 0 ∷ results 1 (codes "YPXYD99R1") 0 1
    ∷ results 2 (codes "YPXYD99R1") 1 1 ∷ []

-- Both are named as they showed themselves, also where somebody else showed for them.
abbrev pub both_shown : List Event
both_shown =
    opens 1 ∷ registers 1 1 3979 [] [] ∷ opens 2 ∷ connects 2 (codes "+9ZDDVF") ∷ fails 2 (codes "YPXYD99R1") 1
    ∷ shows 8 ∷ says_stun 3 (codes "YPXYD99R1") 1 ∷ shows 9 ∷ says_stun 4 (codes "YPXYD99R1") 0
    ∷ results 1 (codes "YPXYD99R1") 0 1 ∷ results 2 (codes "YPXYD99R1") 1 1 ∷ []

-- Before the attempt stands at STUN the desk notes nothing; a later note takes the place of an earlier one.
abbrev pub desk_too_early : List Event
desk_too_early =
    opens 1 ∷ registers 1 1 3979 [] [] ∷ opens 2 ∷ connects 2 (codes "+9ZDDVF") ∷ shows 8
    ∷ says_stun 3 (codes "YPXYD99R1") 1 ∷ fails 2 (codes "YPXYD99R1") 1 ∷ shows 5 ∷ says_stun 4 (codes "YPXYD99R1") 0
    ∷ shows 6 ∷ says_stun 5 (codes "YPXYD99R1") 0 ∷ shows 7 ∷ says 6 (codes "030009")
    ∷ results 1 (codes "YPXYD99R1") 0 1 ∷ results 2 (codes "YPXYD99R1") 1 1 ∷ []

-- A third side, a token of no attempt, another number and a packet to the coordinator note nothing; each ends its
-- connection untold.
abbrev pub nothing_noted : List Event
nothing_noted =
    opens 1 ∷ registers 1 1 3979 [] [] ∷ opens 2 ∷ connects 2 (codes "+9ZDDVF") ∷ fails 2 (codes "YPXYD99R1") 1
    ∷ shows 3 ∷ says_stun 3 (codes "YPXYD99R1") 2 ∷ shows 4 ∷ says_stun 4 (codes "LDRWP49P2") 0 ∷ shows 5
    ∷ says 5 (codes "030001") ∷ shows 6 ∷ registers 6 1 3979 [] [] ∷ results 1 (codes "YPXYD99R1") 0 1
    ∷ results 2 (codes "YPXYD99R1") 1 1 ∷ []

-- A connection at the desk that breaks or is shut ends untold; what it says afterwards is nothing.
abbrev pub desk_broken : List Event
desk_broken =
    opens 1 ∷ registers 1 1 3979 [] [] ∷ opens 2 ∷ connects 2 (codes "+9ZDDVF") ∷ fails 2 (codes "YPXYD99R1") 1
    ∷ shows 1 ∷ Broken 3 ∷ says_stun 3 (codes "YPXYD99R1") 0 ∷ shows 2 ∷ Shut 4 ∷ results 1 (codes "YPXYD99R1") 0 1
    ∷ results 2 (codes "YPXYD99R1") 1 1 ∷ []

-- A connection at the desk stays as long as it says nothing.
abbrev pub desk_waits : List Event
desk_waits =
    shows 1 ∷ Tick ∷ opens 2 ∷ []

-- At the main door SERCLI_STUN is no packet of the coordinator's protocol.
abbrev pub shown_at_the_main_door : List Event
shown_at_the_main_door =
    opens 1 ∷ registers 1 1 3979 [] [] ∷ opens 2 ∷ connects 2 (codes "+9ZDDVF") ∷ fails 2 (codes "YPXYD99R1") 1
    ∷ says_stun 2 (codes "YPXYD99R1") 1 ∷ []
