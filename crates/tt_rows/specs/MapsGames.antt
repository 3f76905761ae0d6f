-- Maps in pieces. What is told is the map of the frame at which the download began, 1,400 bytes a piece, four a tick.
use Rattle.std.specs.Prelude.{ℕ, zero, suc, ◌+◌, ◌*◌, ◌/◌, ◌%◌, true, false, pos, List, [], ◌∷◌, ◌++◌, codes, drop, length, replicate, take}
use Rattle.std.specs.Int.{w16, to_le_bytes}
use Rattle.tt_edge.specs.declared.event.Event.TheVariants.{Tick}
use Rattle.tt_world.specs.Setup.{plain}
use Rattle.tt_world.specs.declared.command.Code.TheVariants.{RenameSign}
use Rattle.tt_world.specs.declared.setup.Setup.{Setup}
use Rattle.tt_world.specs.declared.sign.Sign.{Sign}
use Rattle.tt_log.specs.Origin.{Origin}
use Rattle.tt_rows.specs.Words.{ann, bob, acknowledges, asks_for_map, company, entry, has_loaded, hex, joins, opens, renames_sign, sign}
use Rattle.tt_rows.specs.Words.{spectates, world}
use Rattle.tt_rows.specs.Games.{Game}

-- so many signs of company 0 from an id on, each with a text of so many bytes
abbrev pub signs_of : ℕ → ℕ → ℕ → List Sign
signs_of size id zero = []
signs_of size id (suc n) = sign id 0 0 (replicate size 97) ∷ signs_of size (id + 1) n

-- a game with this setup that begins with a company of this name and so many signs
abbrev pub begins_as : List ℕ → Setup → ℕ → ℕ → Origin
begins_as name setup n size = record {
  setup = setup;
  start = world (0, 0) 0 0 false ((0, company (pos 100000) 100000 name (codes "President")) ∷ []) (signs_of size 0 n);
}

abbrev pub signs_begin : Setup → ℕ → ℕ → Origin
signs_begin setup n size = begins_as (codes "Company 1") setup n size

-- the bytes of those signs in a map
abbrev pub signs_in_bytes : ℕ → ℕ → ℕ → List ℕ
signs_in_bytes size id zero = []
signs_in_bytes size id (suc n) = id / 256 ∷ id % 256 ∷ 0 ∷ 0 ∷ 0 ∷ 0 ∷ 0 ∷ size ∷ replicate size 97 ++ signs_in_bytes size (id + 1) n

-- the last chunk of a map
abbrev pub last_chunk : List ℕ
last_chunk = hex (codes "454e444300000000")

-- MAP_DATA with the piece of that number, from 0 on
abbrev pub piece : List ℕ → ℕ → List ℕ
piece bytes k = let part = take 1400 (drop (k * 1400) bytes) in to_le_bytes w16 (length part + 3) ++ 17 ∷ part

-- the map of the start with 200 signs of 31 bytes
abbrev pub map_of_200 : List ℕ
map_of_200 =
    hex (codes "4f54544e0002000047414d450000000600000000000052414e44000000080000000000000000434d5059000000")
    ++ hex (codes "26010000000000000186a0000186a0000493e009436f6d70616e79203109507265736964656e745349474e0000")
    ++ hex (codes "1e7a00c8")
    ++ signs_in_bytes 31 0 200 ++ last_chunk

-- A map of six pieces is told in two ticks, and is done behind the last piece.
abbrev pub six_pieces : Game
six_pieces = record {
  origin = signs_begin plain 200 31;
  events = opens ∷ joins 1 ann 0 ∷ asks_for_map 1 ∷ Tick ∷ Tick ∷ [];
  conns = (
    hex (codes "0e000c020000000000000074740007000f00000000070010de1e0000") ++ piece map_of_200 0 ++ piece map_of_200 1
        ++ piece map_of_200 2 ++ piece map_of_200 3 ++ piece map_of_200 4 ++ piece map_of_200 5 ++ hex (codes "030012"),
    true,
  ) ∷ [];
  journal = [];
  frames = (2, 2);
}

-- the map of the start with 262 signs of 13 bytes
abbrev pub map_of_four_whole_pieces : List ℕ
map_of_four_whole_pieces =
    hex (codes "4f54544e0002000047414d450000000600000000000052414e44000000080000000000000000434d5059000000")
    ++ hex (codes "22010000000000000186a0000186a0000493e005416c70686109507265736964656e745349474e000015800106")
    ++ signs_in_bytes 13 0 262 ++ last_chunk

-- A map of 5,600 bytes is told in one tick, and is done in it.
abbrev pub four_whole_pieces : Game
four_whole_pieces = record {
  origin = begins_as (codes "Alpha") plain 262 13;
  events = opens ∷ joins 1 ann 0 ∷ asks_for_map 1 ∷ Tick ∷ has_loaded 1 ∷ [];
  conns = (
    hex (codes "0e000c020000000000000074740007000f00000000070010e0150000") ++ piece map_of_four_whole_pieces 0
        ++ piece map_of_four_whole_pieces 1 ++ piece map_of_four_whole_pieces 2 ++ piece map_of_four_whole_pieces 3
        ++ hex (codes "0300120c001d0200000000416e6e000c00150100000001000000ff"),
    true,
  ) ∷ [];
  journal = [];
  frames = (1, 1);
}

-- the map of the start with 62 signs of 13 bytes
abbrev pub map_of_one_whole_piece : List ℕ
map_of_one_whole_piece =
    hex (codes "4f54544e0002000047414d450000000600000000000052414e44000000080000000000000000434d5059000000")
    ++ hex (codes "22010000000000000186a0000186a0000493e005416c70686109507265736964656e745349474e00000518003e")
    ++ signs_in_bytes 13 0 62 ++ last_chunk

-- So is one of 1,400 bytes.
abbrev pub one_whole_piece : Game
one_whole_piece = record {
  origin = begins_as (codes "Alpha") plain 62 13;
  events = opens ∷ joins 1 ann 0 ∷ asks_for_map 1 ∷ Tick ∷ has_loaded 1 ∷ [];
  conns = (
    hex (codes "0e000c020000000000000074740007000f0000000007001078050000") ++ piece map_of_one_whole_piece 0
        ++ hex (codes "0300120c001d0200000000416e6e000c00150100000001000000ff"),
    true,
  ) ∷ [];
  journal = [];
  frames = (1, 1);
}

-- the map of the start with 400 signs of 31 bytes
abbrev pub map_of_400 : List ℕ
map_of_400 =
    hex (codes "4f54544e0002000047414d450000000600000000000052414e44000000080000000000000000434d5059000000")
    ++ hex (codes "26010000000000000186a0000186a0000493e009436f6d70616e79203109507265736964656e745349474e0000")
    ++ hex (codes "3cf20190")
    ++ signs_in_bytes 31 0 400 ++ last_chunk

-- A download that takes too long ends its member, in the midst of its map.
abbrev pub too_long_a_map : Game
too_long_a_map = record {
  origin = signs_begin (record plain { download = 1 }) 400 31;
  events = opens ∷ joins 1 ann 0 ∷ asks_for_map 1 ∷ Tick ∷ Tick ∷ [];
  conns = (
    hex (codes "0e000c020000000000000074740007000f00000000070010563d0000") ++ piece map_of_400 0 ++ piece map_of_400 1
        ++ piece map_of_400 2 ++ piece map_of_400 3 ++ piece map_of_400 4 ++ piece map_of_400 5 ++ piece map_of_400 6 ++ piece map_of_400 7
        ++ hex (codes "04000312"),
    false,
  ) ∷ [];
  journal = [];
  frames = (2, 2);
}

-- the map of frame 2, where no sign was renamed yet
abbrev pub map_of_frame_2 : List ℕ
map_of_frame_2 =
    hex (codes "4f54544e0002000047414d450000000600000000020052414e440000000800000001bfc48d14434d5059000000")
    ++ hex (codes "26010000000000000186a0000186a0000493e009436f6d70616e79203109507265736964656e745349474e0000")
    ++ hex (codes "1e7a00c8")
    ++ signs_in_bytes 31 0 200 ++ last_chunk

-- A map is that of the frame at which its download began, whatever the frames of its pieces change.
abbrev pub map_of_its_frame : Game
map_of_its_frame = record {
  origin = signs_begin plain 200 31;
  events =
      opens ∷ opens ∷ joins 1 ann 0 ∷ spectates 2 bob ∷ asks_for_map 1 ∷ Tick ∷ Tick ∷ has_loaded 1 ∷ acknowledges 1 2
      ∷ asks_for_map 2 ∷ renames_sign 1 0 199 (codes "new") ∷ Tick ∷ Tick ∷ Tick ∷ [];
  conns = (
    hex (codes "0e000c020000000000000074740007000f00000000070010de1e0000") ++ piece map_of_200 0 ++ piece map_of_200 1
        ++ piece map_of_200 2 ++ piece map_of_200 3 ++ piece map_of_200 4 ++ piece map_of_200 5
        ++ hex (codes "0300120c001d0200000000416e6e000c001d03000000ff426f62000c00150200000002000000ff170019000400")
        ++ hex (codes "c7000000006e65770003000000020000000c00150300000003000000000c00150400000004000000000c001505")
        ++ hex (codes "0000000500000000"),
    true,
  )
      ∷ (
        hex (codes "0e000c030000000000000074740007000f02000000070010de1e0000") ++ piece map_of_frame_2 0 ++ piece map_of_frame_2 1
            ++ piece map_of_frame_2 2 ++ piece map_of_frame_2 3 ++ piece map_of_frame_2 4 ++ piece map_of_frame_2 5
            ++ hex (codes "030012"),
        true,
      )
      ∷ [];
  journal = entry 3 2 0 RenameSign 199 0 (codes "new") ∷ [];
  frames = (5, 5);
}
