use Rattle.tt_table.proofs.Beaten.{same_tie}
use Rattle.tt_table.proofs.game.Game.plan_tick.Goals as goal

pub beaten-requires-clause-tied : goal.beaten-requires-clause-tied
beaten-requires-clause-tied c =
    same_tie c.args.self.now c.plan_members.new.self c.in_ok-plan.plan c.in_ok-plan.ensures.origin c.in_ok-plan.ensures.events
    c.in_ok-plan.ensures.tied
