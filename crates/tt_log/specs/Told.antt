-- What a connection is told, and the bytes sent to it.
use Rattle.std.specs.Prelude.{ℕ, Bool, true, false, ◌==◌, List, [], ◌∷◌, ◌++◌, flat_map}
use Rattle.std.specs.List.{list_any}
use Rattle.tt_game.specs.declared.message.GameMsg.TheVariants.{ServerCommand}
use Rattle.tt_edge.specs.declared.event.Event.{Event}
use Rattle.tt_log.specs.Origin.{Origin}
use Rattle.tt_log.specs.Table.{Table, first}
use Rattle.tt_log.specs.Deed.{Said, game, spelled}
use Rattle.tt_log.specs.Tellings.{Telling, tellings}
use Rattle.tt_log.specs.Events.{deed, stepped}
use Rattle.tt_log.specs.History.{table_of}

-- a command of the journal is told
abbrev pub is_entry : Said → Bool
is_entry (game (ServerCommand company code number to text frame sender)) = true
is_entry other = false

abbrev pub kept_if : Bool → Said → List Said → List Said
kept_if true s rest = s ∷ rest
kept_if false s rest = rest

-- what of some tellings is for a connection
abbrev pub told_to : ℕ → List Telling → List Said
told_to conn [] = []
told_to conn (d ∷ ds) = kept_if (list_any (λ c. c == conn) d.to) d.said (told_to conn ds)

-- what an event tells a connection, from a table
abbrev pub told_by : Origin → Table → Event → ℕ → List Said
told_by o t e conn = told_to conn (tellings o t (deed o e t))

-- what an event behind others tells a connection
abbrev pub told : Origin → List Event → Event → ℕ → List Said
told o events e conn = told_by o (table_of o events) e conn

-- what a connection is told by events, from a table
abbrev pub heard_from : Origin → Table → List Event → ℕ → List Said
heard_from o t [] conn = []
heard_from o t (e ∷ events) conn = told_by o t e conn ++ heard_from o (stepped o t e) events conn

-- all that a connection is told
abbrev pub heard : Origin → List Event → ℕ → List Said
heard o events conn = heard_from o (first o) events conn

-- the bytes sent to a connection: the spellings of all that it is told
abbrev pub sent : Origin → List Event → ℕ → List ℕ
sent o events conn = flat_map spelled (heard o events conn)
