use Rattle.std.proofs.Common.{sym, subst, ◌∙◌, IfOk}
use Rattle.tt_gc_table.specs.Deed.{Deed}
use Rattle.tt_gc.specs.Changes.{IsPlanned}
use Rattle.tt_gc.proofs.ChangesLaws.{asked_new}
use Rattle.tt_gc.proofs.servers.plan_asked.Goals as goal

pub returns-then-is_empty : goal.returns-then-is_empty
returns-then-is_empty c =
    subst (λ (d : Deed). IfOk c.plan_new.result (λ change. IsPlanned c.args.rules.now d c.args.parts.now c.args.out.now c.plan_new.new.out
    change)) (asked_new c.args.rules.now c.args.parts.now c.args.conn c.args.kind c.args.port c.args.code.now c.args.secret.now
    (sym c.is_server.ensures ∙ c.if-is_server.false) c.if-kind-gt2.false (sym c.is_empty.ensures ∙ c.if-is_empty.true)) c.plan_new.ensures
