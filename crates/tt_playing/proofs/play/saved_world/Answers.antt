use Rattle.std.proofs.Common.{refl}
use Rattle.tt_playing.proofs.Steps.{saved_is, never_bad}
use Rattle.tt_playing.proofs.play.saved_world.Goals as goal

pub returns-in-Ok : goal.returns-in-Ok
returns-in-Ok c =
    let is = saved_is c.args.saved.now c.in-Ok.world c.requires ((c.in-Ok.ensures.map (λ e. cc) c.in-Ok.world).0 refl) in
    record { world = is.0; day = is.1 }

pub unreachable-requires : goal.unreachable-requires
unreachable-requires c = never_bad c.args.saved.now c.decode_map.result c.in-Err-Tag.field-0 c.requires c.in-Err-Tag.is (λ e. let is =
    c.in-Err-Tag.field-0-is in absurd cc) c.decode_map.ensures.map

pub unreachable-requires-in-Err-Version : goal.unreachable-requires-in-Err-Version
unreachable-requires-in-Err-Version c = never_bad c.args.saved.now c.decode_map.result c.in-Err-Version.field-0 c.requires
    c.in-Err-Version.is (λ e. let is = c.in-Err-Version.field-0-is in absurd cc) c.decode_map.ensures.map

pub unreachable-requires-in-Err-Chunk : goal.unreachable-requires-in-Err-Chunk
unreachable-requires-in-Err-Chunk c = never_bad c.args.saved.now c.decode_map.result c.in-Err-Chunk.field-0 c.requires c.in-Err-Chunk.is
    (λ e. let is = c.in-Err-Chunk.field-0-is in absurd cc) c.decode_map.ensures.map
