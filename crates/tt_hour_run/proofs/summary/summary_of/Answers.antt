use Rattle.std.proofs.Common.{ℕ, ap₂, ◌∙◌}
use Rattle.tt_playing.specs.Playing.{client_at}
use Rattle.tt_hour_run.specs.Summed.{running_upto}
use Rattle.tt_hour_run.proofs.Sums.{summary_is}
use Rattle.tt_hour_run.proofs.summary.summary_of.Goals as goal

pub returns : goal.returns
returns c = λ o p at. (
    let play = c.args.play.now in
    let running = c.in_ok-running.ensures
    ∙ ap₂ (λ (f n : ℕ). running_upto f (client_at play) n) c.frame.ensures.frame c.connections.ensures.connections in
    summary_is o play p c.new-text.result.items c.put_game.new.text.items c.put_refused.new.text.items c.put_running.new.text.items
    c.in_ok-running.running at c.new-text.ensures.items c.in_ok-put_game.ensures c.in_ok-put_refused.ensures.text running
    c.in_ok-put_running.ensures.text
    )
