use Rattle.std.proofs.Common.{ap, sym, ◌∙◌}
use Rattle.tt_members.specs.Crew.{Crew}
use Rattle.tt_table.specs.Coming.{by_order}
use Rattle.tt_table.specs.Held.{table}
use Rattle.tt_table.proofs.Admins.{console_change}
use Rattle.tt_table.proofs.Inputs.{some_admin}
use Rattle.tt_table.proofs.Playing.{seen}
use Rattle.tt_table.proofs.game.Game.plan_console.Goals as goal

pub plan_order-requires-clause-comes : goal.plan_order-requires-clause-comes
plan_order-requires-clause-comes c = c.order_of.ensures.comes (table c.args.self.now)

pub returns-clause-change : goal.returns-clause-change
returns-clause-change c = λ e heard.
    let g = c.args.self.now in
    let s = (seen _ _ _ _ _ _ c.self.invariant.0 c.self.view_is) in
    let a = some_admin _ c.requires.there in
    let members = sym (c.all.ensures.all ∙ ap (λ (x : Crew). x.members) (s.game.held.alive c.requires.going).crew) in
    console_change g.origin e (table g) c.args.conn c.args.text c.args.command c.in_ok-change.change a.0
    (by_order c.order_of.result g.origin (table g)) c.in_ok-first.first c.is_quit-quits.result a.1 heard c.in_ok-change.ensures.planned
    (c.order_of.ensures.order g.origin (table g)) (c.in_ok-first.ensures.told (table g) members) c.is_quit-quits.ensures.quits
