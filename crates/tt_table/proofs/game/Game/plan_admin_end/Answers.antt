use Rattle.tt_edge.specs.declared.event.Event.TheVariants.{Broken}
use Rattle.tt_table.specs.Held.{table}
use Rattle.tt_table.proofs.Inputs.{broken_heard}
use Rattle.tt_table.proofs.Oks.{ok_then}
use Rattle.tt_table.proofs.game.Game.plan_admin_end.Goals as goal

pub returns-clause-change : goal.returns-clause-change
returns-clause-change c =
    let g = c.args.self.now in
    ok_then c.plan_heard.result _ _ c.plan_heard.ensures.change (λ x change.
    change (Broken c.args.conn) (broken_heard g.origin (table g) c.args.conn c.requires.aside))
