-- Streams that no server sends, and some that it may: what each shows a client.
use Rattle.std.specs.Prelude.{◌≡◌, ℕ, List, [], ◌++◌, codes}
use Rattle.tt_world.specs.World.{WorldState}
use Rattle.tt_world.specs.declared.command.Entry.{Entry}
use Rattle.tt_lockstep.specs.Shown as lockstep
use Rattle.tt_lockstep.specs.Shown.{SyncPoint}
use Rattle.tt_log.specs.Shown.{Phase, Joining, Loaded, WrongAt}
use Rattle.tt_rows.specs.Words.{hex}
use Rattle.tt_rows.specs.TokensGames.{told_so_far}
use Rattle.tt_rows.specs.ShownGames.{seen_in}

-- a stream, and the phase that it shows
pub record Stream : Type 0 where
  pub bytes : List ℕ
  pub phase : Phase

abbrev pub Shows : Stream → Type 0
Shows s = (seen_in s.bytes).phase ≡ s.phase

-- the words that a client was told to compare
abbrev pub syncs_in : lockstep.Shown WorldState Entry → List SyncPoint
syncs_in (lockstep.Running view) = view.syncs
syncs_in (lockstep.Ended view) = view.syncs
syncs_in (lockstep.Wrong view) = view.syncs
syncs_in _ = []

-- NEED_GAME_PASSWORD with an empty id.
abbrev pub game_password_without_id : Stream
game_password_without_id = record {
  bytes =
      hex (codes "0800080000000000");
  phase = WrongAt 0;
}

-- NEED_COMPANY_PASSWORD with an empty id.
abbrev pub company_password_without_id : Stream
company_password_without_id = record {
  bytes =
      hex (codes "08000a0000000000");
  phase = WrongAt 0;
}

-- CHECK_NEWGRFS without a file.
abbrev pub no_files : Stream
no_files = record {
  bytes =
      hex (codes "04000600");
  phase = Joining;
}

-- CHECK_NEWGRFS with a file.
abbrev pub a_file : Stream
a_file = record {
  bytes =
      hex (codes "180006010000000000000000000000000000000000000000");
  phase = WrongAt 0;
}

-- A map of 65,536 bytes.
abbrev pub greatest_map : Stream
greatest_map = record {
  bytes =
      hex (codes "0e000c020000000000000074740007000f0000000007001000000100");
  phase = Joining;
}

-- A map of 65,537 bytes.
abbrev pub too_great_a_map : Stream
too_great_a_map = record {
  bytes =
      hex (codes "0e000c020000000000000074740007000f0000000007001001000100");
  phase = WrongAt 21;
}

-- More bytes than the map has.
abbrev pub data_past_the_size : Stream
data_past_the_size = record {
  bytes =
      hex (codes "0e000c020000000000000074740007000f000000000700100300000007001178787878");
  phase = WrongAt 28;
}

-- The end of the map before its last byte.
abbrev pub done_before_the_size : Stream
done_before_the_size = record {
  bytes =
      hex (codes "0e000c020000000000000074740007000f00000000070010030000000500117878030012");
  phase = WrongAt 33;
}

-- As many bytes as were said, which are no map.
abbrev pub no_map : Stream
no_map = record {
  bytes =
      hex (codes "0e000c020000000000000074740007000f0000000007001003000000060011787878030012");
  phase = WrongAt 34;
}

-- FULL in the game.
abbrev pub full_in_the_game : Stream
full_in_the_game = record {
  bytes =
      told_so_far ++ hex (codes "030000");
  phase = WrongAt 135;
}

-- WAIT in the game.
abbrev pub wait_in_the_game : Stream
wait_in_the_game = record {
  bytes =
      told_so_far ++ hex (codes "04000e01");
  phase = WrongAt 135;
}

-- A command of an unknown code.
abbrev pub unknown_code : Stream
unknown_code = record {
  bytes =
      told_so_far ++ hex (codes "1400190009001027000000000300000002000000");
  phase = WrongAt 135;
}

-- A frame above the greatest permitted one.
abbrev pub frame_above_the_permitted : Stream
frame_above_the_permitted = record {
  bytes =
      told_so_far ++ hex (codes "0c0015040000000300000000");
  phase = WrongAt 135;
}

-- A command for a frame that may be run already.
abbrev pub command_at_the_permitted_frame : Stream
command_at_the_permitted_frame = record {
  bytes =
      told_so_far ++ hex (codes "1400190000001027000000000200000002000000");
  phase = WrongAt 135;
}

-- A command for a frame below that of the last one.
abbrev pub command_below_the_last : Stream
command_below_the_last = record {
  bytes =
      told_so_far ++ hex (codes "14001900000010270000000005000000020000001400190000001027000000000400000002000000");
  phase = WrongAt 155;
}

-- A command for the frame of the last one.
abbrev pub command_at_the_last : Stream
command_at_the_last = record {
  bytes =
      told_so_far ++ hex (codes "14001900000010270000000005000000020000001400190000001027000000000500000002000000");
  phase = Loaded;
}

-- CLIENT_INFO of another client.
abbrev pub anothers_name : Stream
anothers_name = record {
  bytes =
      told_so_far ++ hex (codes "0c001d0300000004426f6200");
  phase = Loaded;
}

-- a stream with two words to compare
abbrev pub two_words : List ℕ
two_words = told_so_far ++ hex (codes "0b001601000000070000000b00160200000009000000")
