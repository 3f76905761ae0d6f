-- A client that is fed bytes in pieces, as the theorem sees it: with each piece the things that are new by it.
use Rattle.std.specs.Prelude.{◌≡◌, ℕ, Some, drop, length, List, [], ◌∷◌, ◌++◌, map}
use Rattle.std.specs.List.{AllByRecursion}
use Rattle.tt_edge.specs.declared.event.Event.{Event}
use Rattle.tt_lockstep.specs.Client.{Call, Feed, Advance}
use Rattle.tt_lockstep.specs.Wire.{PieceCall, FeedPiece, AdvanceBy}
use Rattle.tt_game.specs.declared.message.GameMsg.{GameMsg}
use Rattle.tt_game.specs.Messages.{Spells}
use Rattle.tt_game.specs.Apart.{kind_of, body_bytes}
use Rattle.tt_world.specs.declared.command.Entry.{Entry}
use Rattle.tt_world.specs.World.{WorldState}
use Rattle.tt_log.specs.Shown.{things_in}
use Rattle.tt_log.specs.Doors.{door_of}
use Rattle.tt_edge.specs.declared.event.Door.TheVariants.{Side}

-- the calls of a client that was fed these bytes before
abbrev pub calls_behind : List ℕ → List PieceCall → List (Call WorldState Entry)
calls_behind before [] = []
calls_behind before (FeedPiece bytes ∷ calls) = map (λ t. Feed t) (drop (length (things_in before)) (things_in (before ++ bytes)))
    ++ calls_behind (before ++ bytes) calls
calls_behind before (AdvanceBy n ∷ calls) = Advance n ∷ calls_behind before calls

-- of a client that was fed nothing before
abbrev pub calls_of : List PieceCall → List (Call WorldState Entry)
calls_of calls = calls_behind [] calls

-- a message whose fields are in their ranges has the spelling that is sent
abbrev pub IsSpelled : GameMsg → Type 0
IsSpelled m = Spells m (kind_of m) (body_bytes m)

abbrev pub AreSpelled : List GameMsg → Type 0
AreSpelled ms = AllByRecursion IsSpelled ms

-- a connection that was not opened at the side door
abbrev pub IsPlayer : List Event → ℕ → Type 0
IsPlayer events conn = door_of events conn ≡ Some Side → ⊥
