use Rattle.tt_edge.specs.declared.event.Event.TheVariants.{Shut}
use Rattle.tt_table.specs.Held.{table}
use Rattle.tt_table.proofs.Inputs.{shut_heard}
use Rattle.tt_table.proofs.Oks.{ok_then}
use Rattle.tt_table.proofs.game.Game.plan_admin_shut.Goals as goal

pub returns-clause-change : goal.returns-clause-change
returns-clause-change c =
    let g = c.args.self.now in
    ok_then c.plan_heard.result _ _ c.plan_heard.ensures.change (λ x change.
    change (Shut c.args.conn) (shut_heard g.origin (table g) c.args.conn c.requires.aside))
