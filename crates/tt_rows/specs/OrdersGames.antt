-- What was accepted of a connection, what the server ordered itself, and which lists of events are a history.
use Rattle.std.specs.Prelude.{ℕ, List, [], ◌∷◌, ◌++◌, codes}
use Rattle.tt_edge.specs.declared.event.Event.{Event}
use Rattle.tt_edge.specs.declared.event.Event.TheVariants.{Broken, Shut, Stop, Tick}
use Rattle.tt_world.specs.declared.command.Code.{Code}
use Rattle.tt_world.specs.declared.command.Command.{Command}
use Rattle.tt_rows.specs.Words.{ann, bob, borrows, founds, joins, opens, places_sign, quits}
use Rattle.tt_rows.specs.AdminWords.{comes_aside, enters, gives_line}

-- a command with a code, a number and a text
abbrev pub command : Code → ℕ → List ℕ → Command
command code number text = record { code = code; number = number; to = 0; text = text }

-- Of two members in company 0 one borrows, places a sign and orders for a company that it does not have; the other borrows
-- before it is in the game, and then again once the game is over.
abbrev pub orders_of_two : List Event
orders_of_two = (opens ∷ opens ∷ joins 1 ann 0 ∷ joins 2 bob 0 ∷ []) ++ enters 1 1
    ++ (borrows 1 0 10000 ∷ places_sign 1 0 7 (codes "a") ∷ borrows 1 0 1 ∷ []) ++ enters 2 2
    ++ borrows 2 0 20000 ∷ borrows 1 1 10000 ∷ Stop ∷ borrows 2 0 10000 ∷ []

-- A founder enters, the console pauses, lets go on and says something, and ticks draw what was ordered.
abbrev pub orders_of_the_server : List Event
orders_of_the_server = (opens ∷ founds 1 ann ∷ []) ++ comes_aside 2 ++ enters 1 1
    ++ gives_line 2 (codes "pause") ∷ Tick ∷ gives_line 2 (codes "say a") ∷ gives_line 2 (codes "unpause") ∷ Tick ∷ []

-- Each of these can be taken: openings, ticks and a stop always, and what names a connection while it is live.
abbrev pub a_history : List Event
a_history = opens ∷ Tick ∷ founds 1 ann ∷ opens ∷ Shut 1 ∷ Broken 2 ∷ Stop ∷ []

-- The first connection was not opened yet.
abbrev pub named_too_early : List Event
named_too_early = quits 1 ∷ opens ∷ []

-- It ended before.
abbrev pub named_too_late : List Event
named_too_late = opens ∷ quits 1 ∷ Shut 1 ∷ []

-- After the end of the game nothing can be taken, be it a tick.
abbrev pub after_the_end : List Event
after_the_end = opens ∷ Stop ∷ Tick ∷ []
