use Rattle.std.proofs.Common.{ℕ, ap, ◌∙◌}
use Rattle.tt_hour.proofs.RoundLaws.{order_drawn}
use Rattle.tt_world.specs.declared.command.Command.{Command}
use Rattle.tt_hour.proofs.turn.Turn.draw.Goals as goal

pub returns-clause-order : goal.returns-clause-order
returns-clause-order c =
    let is = order_drawn c.args.random.now c.draw_below-client.new.random c.draw_below-kind.new.random c.draw_below-kind.result
    c.draw_below-client.ensures.words c.draw_below-kind.ensures.words c.draw_below-kind.ensures.drawn in
    c.draw_order-order.ensures.order ∙ ap (λ (p : Command × (ℕ × ℕ)). p.0) is

pub returns-clause-words : goal.returns-clause-words
returns-clause-words c =
    let is = order_drawn c.args.random.now c.draw_below-client.new.random c.draw_below-kind.new.random c.draw_below-kind.result
    c.draw_below-client.ensures.words c.draw_below-kind.ensures.words c.draw_below-kind.ensures.drawn in
    c.draw_order-order.ensures.words ∙ ap (λ (p : Command × (ℕ × ℕ)). p.1) is
