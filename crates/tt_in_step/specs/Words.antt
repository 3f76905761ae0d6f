-- The words of the statements that name what stands in crates below the book of the game.
use Rattle.std.specs.Prelude.{◌≡◌, ◌<◌, ◌^◌, ℕ, List, Ok}
use Rattle.tt_edge.specs.declared.event.Event as edge
use Rattle.tt_edge.specs.declared.event.Event.TheVariants.{Tick}
use Rattle.tt_frame.specs.Packet.{IsBytes}
use Rattle.tt_frame.specs.Text.{IsName}
use Rattle.tt_game.specs.declared.message.GameMsg.TheVariants.{ServerBanned, ServerSync}
use Rattle.tt_map.specs.Layout.{map_of}
use Rattle.tt_map.specs.Maps.{IsTold}
use Rattle.tt_map.specs.Reading.{map_in}
use Rattle.tt_world.specs.declared.command.Command as commands
use Rattle.tt_world.specs.declared.command.Entry as entries
use Rattle.tt_world.specs.declared.setup.Setup as setups
use Rattle.tt_world.specs.Setup.{Fits}
use Rattle.tt_world.specs.World.{WorldState}
use Rattle.tt_log.specs.Deed.{Said, game}

-- what reaches the server: a connection opens, a packet comes, a connection ends, the game ticks, or is stopped
abbrev pub Event : Type 0
Event = edge.Event

-- it ticks
abbrev pub tick : Event
tick = Tick

-- the world of a game: its day, its companies and its two words
abbrev pub World : Type 0
World = WorldState

-- what a player may order
abbrev pub Command : Type 0
Command = commands.Command

-- a command of the journal: its frame, its sender, the company for which it is, and the command
abbrev pub Entry : Type 0
Entry = entries.Entry

-- what a game is set up with
abbrev pub Setup : Type 0
Setup = setups.Setup

-- a game may begin with it: its numbers are in their ranges, the seed has 32 bits, and its name, revision and id are names
abbrev pub MayBegin : Setup → Type 0
MayBegin setup = Fits setup × (setup.seed < 2 ^ 32) × IsName setup.name × IsName setup.revision × IsName setup.id

-- each is a number below 256
abbrev pub AreBytes : List ℕ → Type 0
AreBytes numbers = IsBytes numbers

-- the bytes of a map can tell this world
abbrev pub CanBeTold : World → Type 0
CanBeTold world = IsTold world

-- from the bytes of its map this world is read back
abbrev pub IsReadBack : World → Type 0
IsReadBack world = map_in (map_of world) ≡ Ok world

-- SYNC is said: the world at this frame has this word
abbrev pub sync : ℕ → ℕ → Said
sync frame word = game (ServerSync frame word)

-- it is said that the client is banned
abbrev pub ban : Said
ban = game ServerBanned
