use Rattle.std.proofs.Common.{sym, ◌∙◌}
use Rattle.tt_edge.specs.declared.event.Event.TheVariants.{Broken}
use Rattle.tt_join.specs.declared.input.Input.TheVariants as inputs
use Rattle.tt_table.specs.Held.{table}
use Rattle.tt_table.proofs.Coming.{input_change}
use Rattle.tt_table.proofs.Inputs.{broken_is}
use Rattle.tt_table.proofs.Oks.{ok_then}
use Rattle.tt_table.proofs.game.Game.plan_broken.Goals as goal

pub returns-then-has_member-clause-change : goal.returns-then-has_member-clause-change
returns-then-has_member-clause-change c =
    let g = c.args.self.now in
    let conn = c.args.conn in
    ok_then c.plan_input.result _ _ c.plan_input.ensures.planned (λ x plan.
    input_change g.origin (Broken conn) (table g) (inputs.Bad conn) x
    (broken_is g.origin (table g) conn (sym c.has_member.ensures.has ∙ c.if-has_member.true)
    (c.an_event_is_its_input.ensures.broken g.origin (table g) conn)) plan)
