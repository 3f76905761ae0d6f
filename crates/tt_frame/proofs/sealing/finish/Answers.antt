use Rattle.std.proofs.Common.{sym, ap, ◌∙◌}
use Rattle.tt_frame.specs.Parts.{sealed}
use Rattle.tt_frame.proofs.PartLaws.{sealed_is}
use Rattle.tt_frame.proofs.sealing.finish.Goals as goal

pub returns-in-Ok-clause-ok : goal.returns-in-Ok-clause-ok
returns-in-Ok-clause-ok c before body kind here is =
    c.seal.ensures ∙ ap (λ n. sealed n c.args.out.now.items) (sym here) ∙ sealed_is before kind body c.args.out.now.items is
