use Rattle.std.proofs.Common.{ℕ, ◌∙◌, ap, refl, arith}
use Rattle.std.specs.Prelude.{nat_le}
use Rattle.tt_log.proofs.SavedLaws.{starts, bad_starts_not}
use Rattle.tt_log.proofs.script.values.may_start.Goals as goal

pub returns-in-Ok : goal.returns-in-Ok
returns-in-Ok c = ap (λ (d : ℕ). nat_le d 900000000) c.day.ensures.day
    ∙ starts c.args.map.now c.in-Ok.world ((c.in-Ok.ensures.map (λ e. cc) c.in-Ok.world).0 refl)

pub returns-in-Err-Tag : goal.returns-in-Err-Tag
returns-in-Err-Tag c =
    bad_starts_not c.args.map.now c.decode_map.result c.in-Err-Tag.field-0 (λ i. omega (arith, c.type_inv.map i)) c.in-Err-Tag.is
    (λ e. let is = c.in-Err-Tag.field-0-is in absurd cc) c.decode_map.ensures.map

pub returns-in-Err-Version : goal.returns-in-Err-Version
returns-in-Err-Version c =
    bad_starts_not c.args.map.now c.decode_map.result c.in-Err-Version.field-0 (λ i. omega (arith, c.type_inv.map i)) c.in-Err-Version.is
    (λ e. let is = c.in-Err-Version.field-0-is in absurd cc) c.decode_map.ensures.map

pub returns-in-Err-Chunk : goal.returns-in-Err-Chunk
returns-in-Err-Chunk c =
    bad_starts_not c.args.map.now c.decode_map.result c.in-Err-Chunk.field-0 (λ i. omega (arith, c.type_inv.map i)) c.in-Err-Chunk.is
    (λ e. let is = c.in-Err-Chunk.field-0-is in absurd cc) c.decode_map.ensures.map
