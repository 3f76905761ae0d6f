use Rattle.std.proofs.Common.{arith, ◌≤◌, ◌<◌, slice_index_or}
use Rattle.std.proofs.lemmas.Grind.{get_or_default_zero}
use Rattle.tt_outgoing.specs.Waiting.{opened}
use Rattle.tt_bench_parts.proofs.outgoing.shared.Goals as goal

pub share-requires-clause-opened : goal.share-requires-clause-opened
share-requires-clause-opened c k d within =
    let conns = c.as_slice.result.now in
    let any = get_or_default_zero conns k d within in
    let few : k < 255 = grind (arith, within, c.as_slice.ensures.value, c.in_ok-outs.ensures.count) in
    let number = c.in_ok-outs.ensures.numbers k few in
    let low : 1 ≤ slice_index_or conns k d = grind (arith, any, number, c.as_slice.ensures.value) in
    let high : slice_index_or conns k d ≤ opened c.reserve.new.self = grind (
      arith,
      any,
      number,
      few,
      c.as_slice.ensures.value,
      c.reserve.ensures.opened,
      c.loop.invariant,
    ) in
    (low, high)
