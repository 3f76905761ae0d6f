use Rattle.std.proofs.Common.{refl, arith}
use Rattle.std.specs.Prelude.{[]}
use Rattle.tt_client.specs.Cutting.{cut_at}
use Rattle.tt_client.proofs.Cutting.{partial_cut}
use Rattle.tt_client.proofs.items.is_partial.Goals as goal

pub returns-in-Partial : goal.returns-in-Partial
returns-in-Partial c =
    let bytes = c.args.bytes.now in record {
      none = λ is at. partial_cut (cut_at at bytes) bytes [] 0 at (λ i. omega (arith, c.type_inv.bytes i)) c.in-Partial.ensures refl;
    }
