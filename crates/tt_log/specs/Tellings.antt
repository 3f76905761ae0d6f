-- What steps tell: messages as they are, and what is filled in from the world, the map and the journal.
use Rattle.std.specs.Prelude.{ℕ, ◌*◌, nat_lt, List, [], ◌∷◌, ◌++◌, map, flat_map, length, if◌then◌else◌}
use Rattle.tt_game.specs.declared.message.GameMsg.{GameMsg}
use Rattle.tt_game.specs.declared.message.GameMsg.TheVariants.{ServerMapBegin, ServerMapSize, ServerMapData, ServerMapDone, ServerSync}
use Rattle.tt_map.specs.Layout.{map_of}
use Rattle.tt_log.specs.declared.deed.Step.{Step}
use Rattle.tt_log.specs.declared.deed.What.{What}
use Rattle.tt_log.specs.declared.deed.What.TheVariants.{Msg, ToAdmin, MapBegin, MapPieces, Sync, Entries, Stamp, End}
use Rattle.tt_log.specs.Deed.{Said, game, admin, Deed}
pub use Rattle.tt_log.specs.Filling.{Filling}
use Rattle.tt_log.specs.Reports.{reported}
use Rattle.tt_log.specs.Origin.{Origin, above}
use Rattle.tt_log.specs.Table.{Table, world_of}
use Rattle.tt_log.specs.Tick.{left_of, pieces_of}
use Rattle.tt_log.specs.PacketRules.{told_command}

-- up to four pieces, and behind the last one that the map is done
abbrev pub piece_messages : List ℕ → List GameMsg
piece_messages left = map ServerMapData (pieces_of 4 left) ++ (if nat_lt (4 * 1400) (length left) then [] else ServerMapDone ∷ [])

-- what a step says; a connection that ends is told nothing by this
abbrev pub said_by : Origin → Filling → What → List Said
said_by o f (Msg m) = game m ∷ []
said_by o f (ToAdmin r) = map admin (reported o f r)
said_by o f MapBegin = game (ServerMapBegin f.frame) ∷ game (ServerMapSize (length (map_of f.world))) ∷ []
said_by o f MapPieces = map game (piece_messages f.left)
said_by o f Sync = game (ServerSync f.frame f.world.words.0) ∷ []
said_by o f (Entries frame) = map (λ e. game (told_command e)) (above o frame f.journal)
said_by o f (Stamp e) = game (told_command e) ∷ []
said_by o f End = []

-- one message, and the connections that are told it
pub record Telling : Type 0 where
  pub to : List ℕ
  pub said : Said

abbrev pub telling : List ℕ → Said → Telling
telling to said = record { to = to; said = said }

-- what steps tell, in order
abbrev pub filled : Origin → Filling → List Step → List Telling
filled o f steps = flat_map (λ (s : Step). map (telling s.to) (said_by o f s.what)) steps

-- the frame, world, journal and digests behind a deed, and the world and the map bytes that were left before it
abbrev pub filling : Origin → Table → Table → Filling
filling o before behind = record {
  frame = behind.frame;
  world = world_of o behind;
  before = world_of o before;
  journal = behind.journal;
  digests = behind.digests;
  left = left_of o before;
}

-- what a deed tells
abbrev pub tellings : Origin → Table → Deed → List Telling
tellings o before d = filled o (filling o before d.table) d.told
