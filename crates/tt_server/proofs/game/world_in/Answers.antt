use Rattle.std.proofs.Common.{arith}
use Rattle.tt_server.proofs.SavedWorlds.{no_map, too_late}
use Rattle.tt_server.proofs.game.world_in.Goals as goal

pub returns-then-day-gt-LAST_DAY-clause-bad : goal.returns-then-day-gt-LAST_DAY-clause-bad
returns-then-day-gt-LAST_DAY-clause-bad c = λ e. too_late c.args.bytes.now c.decode_map.result c.in-Ok.world c.requires.few c.in-Ok.is
    (omega (arith, c.if-day-gt-LAST_DAY.true, c.day.ensures.day)) c.decode_map.ensures.map

pub returns-in-Err-Tag-clause-bad : goal.returns-in-Err-Tag-clause-bad
returns-in-Err-Tag-clause-bad c = λ e. no_map c.args.bytes.now c.decode_map.result c.in-Err-Tag.field-0 c.requires.few c.in-Err-Tag.is
    (λ m. let is = c.in-Err-Tag.field-0-is in absurd cc) c.decode_map.ensures.map

pub returns-in-Err-Version-clause-bad : goal.returns-in-Err-Version-clause-bad
returns-in-Err-Version-clause-bad c = λ e. no_map c.args.bytes.now c.decode_map.result c.in-Err-Version.field-0 c.requires.few
    c.in-Err-Version.is (λ m. let is = c.in-Err-Version.field-0-is in absurd cc) c.decode_map.ensures.map

pub returns-in-Err-Chunk-clause-bad : goal.returns-in-Err-Chunk-clause-bad
returns-in-Err-Chunk-clause-bad c = λ e. no_map c.args.bytes.now c.decode_map.result c.in-Err-Chunk.field-0 c.requires.few
    c.in-Err-Chunk.is (λ m. let is = c.in-Err-Chunk.field-0-is in absurd cc) c.decode_map.ensures.map
