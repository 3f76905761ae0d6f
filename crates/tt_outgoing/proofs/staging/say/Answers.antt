use Rattle.std.proofs.Common.{◌∙◌, ◌++◌, List, ap, sym, length}
use Rattle.std.proofs.lemmas.Bool.{eqb-true}
use Rattle.std.proofs.lemmas.List.{append-nil}
use Rattle.tt_log.specs.Tellings.{said_by}
use Rattle.tt_outgoing.specs.Staging.{Packet}
use Rattle.tt_outgoing.proofs.Packets.{packets_nobody}
use Rattle.tt_outgoing.proofs.staging.say.Goals as goal

pub returns-then-is_empty-clause-said : goal.returns-then-is_empty-clause-said
returns-then-is_empty-clause-said c = λ o f at.
    sym (ap (λ (l : List Packet). c.args.staged.now ++ l)
    (packets_nobody c.args.to.now (said_by o f c.args.what.now)
    (eqb-true (length c.args.to.now) 0 (sym c.is_empty.ensures ∙ c.if-is_empty.true)))
    ∙ append-nil c.args.staged.now)
